-- The test whether what is left still misses, both ways and over all ticks.
use mathlib.Core.Bool.{Bool, false, false≢true, true, true≢false, ◌&&◌}
use mathlib.Core.List.{List, [], ◌∷◌}
use mathlib.Core.Logic.{inl, inr}
use mathlib.Core.Path.{refl, ◌≡◌}
use Prim.Native.Nat.{ℕ, ◌<◌}
use native.Mathlib.Nat.{not-suc-le-zero}
use native.Mathlib.Omega.{arith}
use lib.ListN.{length}
use Rattle.model.proofs.Bools.{and_left, and_right}
use Rattle.model.proofs.Verdict.{verdict-exact}
use Rattle.model.specs.Lists.{Missed, NeverMissed}
use Rattle.model.specs.Task.{AllValid, Table, Task}
use Rattle.model.specs.Verdict.{Exact, Firm, Full, Miss, Verdict, verdict}
use Rattle.conflict.specs.Conflict.{conflicts, is_miss, some_left}
use Rattle.conflict.specs.SubTable.{sub_table}
use Rattle.conflict.proofs.Parts.{part-fewer}

some_left_lem : (τs : List Task) → some_left τs ≡ true → 0 < length τs
some_left_lem [] e = absurd (false≢true e)
some_left_lem (τ ∷ τs) e = omega arith

left-some : (τs : List Task) → 0 < length τs → some_left τs ≡ true
left-some [] l = absurd (not-suc-le-zero l)
left-some (τ ∷ τs) l = refl

module _ (s : Table) (ok : AllValid s) (x : ℕ) where
  exact : Exact (sub_table s x) (verdict (sub_table s x))
  exact = verdict-exact (sub_table s x) (part-fewer s ok x).valid

  missed : (v : Verdict) → verdict (sub_table s x) ≡ v → is_miss v ≡ true → (p t : ℕ) × Missed (sub_table s x) p t
  missed (Firm a b) e i = absurd (false≢true i)
  missed (Full a b) e i = absurd (false≢true i)
  missed (Miss t p) e i = let f = (exact.miss t p).0 e in (f.place.0, t, f.missed)

  never : (v : Verdict) → verdict (sub_table s x) ≡ v → is_miss v ≡ false → NeverMissed (sub_table s x)
  never (Firm a b) e i = exact.accepted.0 (a, b, inl e)
  never (Full a b) e i = exact.accepted.0 (a, b, inr e)
  never (Miss t p) e i = absurd (true≢false i)

  -- the test holds: a deadline is missed at some tick, and there is a task
  pub conflicts-some : conflicts s x ≡ true → (p t : ℕ) × Missed (sub_table s x) p t
  unfolding conflicts
  conflicts-some e = missed (verdict (sub_table s x)) refl (and_right (some_left (sub_table s x).tasks) (is_miss (verdict (sub_table s x))) e)

  pub conflicts-left : conflicts s x ≡ true → 0 < length (sub_table s x).tasks
  unfolding conflicts
  conflicts-left e = some_left_lem (sub_table s x).tasks (and_left (some_left (sub_table s x).tasks) (is_miss (verdict (sub_table s x))) e)

  -- it fails: none is at any tick
  pub conflicts-never : conflicts s x ≡ false → NeverMissed (sub_table s x)
  unfolding conflicts
  conflicts-never e p t m = go (some_left (sub_table s x).tasks) (left-some (sub_table s x).tasks (omega (arith, m.0))) e
    where
      go : (b : Bool) → b ≡ true → b && is_miss (verdict (sub_table s x)) ≡ false → ⊥
      go true i f = never (verdict (sub_table s x)) refl f p t m
      go false i f = false≢true i

  -- and where one is, it holds
  pub missed-conflicts : (p t : ℕ) → Missed (sub_table s x) p t → conflicts s x ≡ true
  missed-conflicts p t m = go (conflicts s x) refl
    where
      go : (b : Bool) → conflicts s x ≡ b → b ≡ true
      go true e = refl
      go false e = absurd (conflicts-never e p t m)
