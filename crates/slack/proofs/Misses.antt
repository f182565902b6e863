-- The test for a miss, both ways and over all ticks; and a task of an accepted table has its length within its deadline.
use mathlib.Core.Bool.{false, true, true≢false}
use mathlib.Core.Logic.{◌↔◌}
use mathlib.Core.Path.{sym, ◌∙◌, ◌≡◌}
use Prim.Native.Nat.{◌<◌, suc, suc-le-suc, ℕ, ◌≤◌}
use native.Mathlib.Omega.{arith}
use lib.ListN.{length}
use Rattle.std.proofs.lemmas.Bool.{false_from_ne_true, true_from_ne_false}
use Rattle.model.proofs.Faithful.{missed-in-exact}
use Rattle.model.proofs.FullLength.{long-misses}
use Rattle.model.proofs.Horizon.{horizon-enough}
use Rattle.model.proofs.Search.{any_of, any_some}
use Rattle.model.specs.Lists.{Missed, NeverMissed}
use Rattle.model.specs.Horizon.{horizon}
use Rattle.model.specs.Task.{AllValid, Table, due, task}
use Rattle.model.specs.Verdict.{missed_in}
use Rattle.slack.specs.Slack.{misses}

module _ (s : Table) (ok : AllValid s) where
  -- no miss up to the horizon: none ever
  pub misses-never : misses s ≡ false → NeverMissed s
  unfolding misses
  misses-never e =
      horizon-enough s ok (λ p t h m.
      true≢false (sym (any_of (suc (horizon s)) (missed_in s) t (suc-le-suc h) ((missed-in-exact s ok t).1 (p, m))) ∙ e))

  pub misses-some : misses s ≡ true → (p t : ℕ) × Missed s p t
  unfolding misses
  misses-some e =
      let x = any_some (suc (horizon s)) (missed_in s) e in
      let y = (missed-in-exact s ok x.0).0 x.2 in
      (y.0, x.0, y.1)

  pub never-misses : NeverMissed s → misses s ≡ false
  never-misses nm = false_from_ne_true (misses s) (λ e. let x = misses-some e in nm x.0 x.1 x.2)

  -- THEOREM: the test is true exactly if some deadline is ever missed
  pub misses-exact : (misses s ≡ true) ↔ ((p t : ℕ) × Missed s p t)
  misses-exact = (misses-some, λ x. true_from_ne_false (misses s) (λ e. misses-never e x.0 x.1 x.2))

-- a table that never misses has each length within its deadline
pub within-deadline : (s : Table) → NeverMissed s → (p : ℕ) → p < length s.tasks → (task s p).length ≤ (task s p).deadline
within-deadline s nm p l =
    let no : ¬ ((task s p).deadline < (task s p).length) = λ h. nm p (due (task s p) 0) (long-misses s p l h 0) in
    omega arith
