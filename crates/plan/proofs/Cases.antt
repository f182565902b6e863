-- The answer on a table that passed, by the results of the tests.
use mathlib.Core.Path.{◌≡◌, refl, sym, ap, ◌∙◌}
use mathlib.Core.Bool.{Bool, true, false, ◌||◌, cond}
use Prim.Native.Nat.{ℕ, ◌-◌, ◌*◌, ◌≤◌, ◌<◌}
use lib.Dec.{ltb}
use borrow.Author.Tests.{lt-ltb, le-ltb}
use Rattle.model.specs.Search.{any}
use Rattle.model.specs.Task.{Table}
use Rattle.model.specs.Horizon.{horizon}
use Rattle.model.specs.Verdict.{missed_in}
use Rattle.plan.specs.Plan.{Written, Refused}
use Rattle.plan.specs.Plan.{by_plan}

module _ (s : Table) (a b bytes : ℕ) where
  by_tests :
      (t u v w : Bool) → ltb b a ≡ t → ltb (horizon s) b ≡ u → ltb bytes ((b - a) * s.cores) ≡ v → any b (missed_in s) ≡ w
      → by_plan s a b bytes ≡ cond (t || u) (Refused 10 0) (cond v (Refused 11 0) (cond w (Refused 12 0) Written))
  unfolding by_plan
  by_tests t u v w e f g h =
      ap (λ (x : Bool). cond (x || ltb (horizon s) b) (Refused 10 0) (cond (ltb bytes ((b - a) * s.cores)) (Refused 11 0) (cond (any b (missed_in s)) (Refused 12 0) Written))) e
      ∙ (ap (λ (x : Bool). cond (t || x) (Refused 10 0) (cond (ltb bytes ((b - a) * s.cores)) (Refused 11 0) (cond (any b (missed_in s)) (Refused 12 0) Written))) f
      ∙ (ap (λ (x : Bool). cond (t || u) (Refused 10 0) (cond x (Refused 11 0) (cond (any b (missed_in s)) (Refused 12 0) Written))) g
      ∙ ap (λ (x : Bool). cond (t || u) (Refused 10 0) (cond v (Refused 11 0) (cond x (Refused 12 0) Written))) h))

  -- a is above b
  pub above : b < a → Refused 10 0 ≡ by_plan s a b bytes
  above l = sym (by_tests true (ltb (horizon s) b) (ltb bytes ((b - a) * s.cores)) (any b (missed_in s)) (lt-ltb b a l) refl refl refl)

  module _ (upward : a ≤ b) where
    -- b is above the horizon
    pub beyond : horizon s < b → Refused 10 0 ≡ by_plan s a b bytes
    beyond l = sym (by_tests false true (ltb bytes ((b - a) * s.cores)) (any b (missed_in s)) (le-ltb b a upward) (lt-ltb (horizon s) b l) refl refl)

    module _ (within : b ≤ horizon s) where
      -- the buffer is too short
      pub too_short : bytes < (b - a) * s.cores → Refused 11 0 ≡ by_plan s a b bytes
      too_short l =
          sym (by_tests false false true (any b (missed_in s)) (le-ltb b a upward) (le-ltb (horizon s) b within) (lt-ltb bytes ((b - a) * s.cores) l) refl)

      -- it is long enough: a deadline is missed before b, or none is
      pub long-enough :
          (b - a) * s.cores ≤ bytes → (w : Bool) → any b (missed_in s) ≡ w → cond w (Refused 12 0) Written ≡ by_plan s a b bytes
      long-enough l w e =
          sym (by_tests false false false w (le-ltb b a upward) (le-ltb (horizon s) b within) (le-ltb bytes ((b - a) * s.cores) l) e)
