-- Some of a table's tasks as a table of their own (request 110). A set of places is one number, whose digit of weight 2^p is that of place p, position p + 1.
use Rattle.std.specs.Prelude.{Bool, cond, List, [], ◌∷◌, ℕ, suc, ◌-◌, ◌^◌, ◌≤◌, length}
use Rattle.std.specs.Int.{◌∣◌}
use Rattle.model.specs.Horizon.{horizon, hyperperiod, last_s}
use Rattle.model.specs.Search.{bit}
use Rattle.model.specs.Task.{AllValid, Table}

-- the elements of a list at the places that pass a test, in its order
unfoldable pub chosen : {A : Type 0} → (ℕ → Bool) → List A → List A
chosen k [] = []
chosen k (x ∷ xs) = cond (k 0) (x ∷ chosen (λ q. k (suc q)) xs) (chosen (λ q. k (suc q)) xs)

-- the tasks of a set, in their order of priority, on the same cores with the same fence and rule: a table of its own, with its own S and P
abbrev pub sub_table : Table → ℕ → Table
sub_table s x = record { tasks = chosen (bit x) s.tasks; cores = s.cores; fence = s.fence; rule = s.rule }

-- the set without place p
abbrev pub without_place : ℕ → ℕ → ℕ
without_place x p = cond (bit x p) (x - 2 ^ p) x

-- a part has no longer horizon than the whole: its last S is no later, its P divides the whole's, and so the horizon is no later (`part-fewer`)
pub record SubTableBounds (s : Table) (x : ℕ) : Type 0 where
  pub valid : AllValid (sub_table s x)
  pub start : last_s (sub_table s x).tasks ≤ last_s s.tasks
  pub period : hyperperiod (sub_table s x).tasks ∣ hyperperiod s.tasks
  pub sooner : horizon (sub_table s x) ≤ horizon s
  pub most : length (sub_table s x).tasks ≤ length s.tasks
