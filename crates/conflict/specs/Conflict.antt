-- The passes that leave a conflict, and its properties (request 110; the field: a minimal unschedulable set of tasks).
use Rattle.std.specs.Prelude.{Bool, true, false, ◌&&◌, cond, List, [], ◌∷◌, ◌≡◌, ℕ, zero, suc, ◌-◌, ◌^◌, ◌<◌, eqb, length}
use Rattle.model.specs.Lists.{Missed, NeverMissed}
use Rattle.model.specs.Search.{bit}
use Rattle.model.specs.Task.{Table, Task}
use Rattle.model.specs.Verdict.{Firm, Full, Miss, Verdict, verdict}
use Rattle.conflict.specs.SubTable.{sub_table, without_place}

-- the verdict is a miss
abbrev pub is_miss : Verdict → Bool
is_miss (Firm a b) = false
is_miss (Full a b) = false
is_miss (Miss t p) = true

-- some task is left
abbrev pub some_left : List Task → Bool
some_left [] = false
some_left (τ ∷ τs) = true

-- what is left is not empty and still misses: the verdict on it, as a table of its own, is a miss (`conflicts-some`, `conflicts-never`: over all ticks)
unfoldable pub conflicts : Table → ℕ → Bool
conflicts s x = some_left (sub_table s x).tasks && is_miss (verdict (sub_table s x))

-- a place that is kept is dropped if what then remains still misses and is not empty
unfoldable pub dropped : Table → ℕ → ℕ → ℕ
dropped s p x = cond (bit x p && conflicts s (without_place x p)) (without_place x p) x

-- one pass over the first n places, from the lowest priority upward; a dropped place counts at once
unfoldable pub pass : Table → ℕ → ℕ → ℕ
pass s zero x = x
pass s (suc p) x = pass s p (dropped s p x)

-- whole passes until one drops nothing, m of them at most
unfoldable pub passes : Table → ℕ → ℕ → ℕ
passes s zero x = x
passes s (suc m) x = cond (eqb (pass s (length s.tasks) x) x) x (passes s m (pass s (length s.tasks) x))

-- every place of the table
abbrev pub all_places : Table → ℕ
all_places s = 2 ^ length s.tasks - 1

-- THE ANSWER: what the passes leave of the whole table. As many passes as tasks are enough (`passes-stable`)
unfoldable pub conflict_set : Table → ℕ
conflict_set s = passes s (length s.tasks) (all_places s)

-- no task of the conflict can be dropped: the claims about a set of places, over all ticks (`conflict-minimal` shows them of the answer)
pub record Minimal (s : Table) (x : ℕ) : Type 0 where
  -- it is not empty
  pub some : (p : ℕ) × (p < length s.tasks) × (bit x p ≡ true)
  -- its tasks, as a table of their own, miss a deadline at some tick
  pub misses : (p t : ℕ) × Missed (sub_table s x) p t
  -- and without any one of them no deadline is missed at any tick; this holds too where nothing is left
  pub needed : (p : ℕ) → bit x p ≡ true → NeverMissed (sub_table s (without_place x p))
