-- THE ANSWER OF THE PLAN is the first number that applies, and written where none does.
use native.Mathlib.Omega.{arith}
use mathlib.Core.Path.{◌≡◌, refl}
use mathlib.Core.Bool.{Bool, true, false, ◌||◌, cond}
use mathlib.Core.List.{List}
use mathlib.Core.Logic.{◌↔◌}
use Prim.Native.Nat.{ℕ, ◌-◌, ◌*◌, ◌<◌}
use lib.Dec.{ltb}
use Rattle.model.specs.Search.{any}
use Rattle.model.specs.Task.{Table}
use Rattle.model.specs.Horizon.{horizon}
use Rattle.model.specs.Verdict.{missed_in}
use Rattle.table.specs.Answer.{Answer}
use Rattle.table.specs.Answer as answer
use Rattle.table.specs.Words.{table_of}
use Rattle.table.specs.Numbers.{place, Earlier}
use Rattle.table.specs.Numbers as table
use Rattle.table.specs.Answer.{answer_of}
use Rattle.table.proofs.Decide.{Decides, fails, decides-lt, decides_or}
use Rattle.table.proofs.Order.{not-before-itself, later, number-most, first-only}
use Rattle.table.proofs.Exact.{refusal-exact, passed-exact}
use Rattle.table.proofs.Passed.{passed-valid}
use Rattle.plan.specs.Plan.{Planned}
use Rattle.plan.specs.Plan.{Written, Refused}
use Rattle.plan.specs.Numbers.{RangeOut, BufferShort, MissBefore, Applies, words, ten, eleven, twelve, First, NoneApplies}
use Rattle.plan.specs.Plan.{by_plan, planned_by, planned_of}
use Rattle.plan.proofs.Late.{miss-decides}

-- WHAT IS RIGHT OF AN ANSWER

module _ (ws : List ℕ) (a b bytes : ℕ) where
  abbrev s : Table
  s = table_of ws

  abbrev Right : Planned → Type 0
  Right Written = NoneApplies ws a b bytes
  Right (Refused n p) = First ws a b bytes n p

  -- a number of the table
  by-words : (n p : ℕ) → table.First ws n p → First ws a b bytes n p
  unfolding place
  by-words n p f = (words n p f.0, none)
    where
      most : place n < 10
      most = number-most ws n p f.0

      none : (m q : ℕ) → Earlier m q n p → ¬ Applies ws a b bytes m q
      none m q e (words _ _ x) = f.1 m q e x
      none _ _ e (ten x) = later 10 0 n p (omega (arith, most)) e
      none _ _ e (eleven x) = later 11 0 n p (omega (arith, most)) e
      none _ _ e (twelve x) = later 12 0 n p (omega (arith, most)) e

  module _ (passed : table.NoneApplies ws) where
    is-ten : RangeOut s a b → First ws a b bytes 10 0
    unfolding place
    is-ten y = (ten y, none)
      where
        none : (m q : ℕ) → Earlier m q 10 0 → ¬ Applies ws a b bytes m q
        none m q e (words _ _ x) = passed m q x
        none _ _ e (ten x) = not-before-itself 10 0 e
        none _ _ e (eleven x) = later 11 0 10 0 (omega arith) e
        none _ _ e (twelve x) = later 12 0 10 0 (omega arith) e

    is-eleven : (¬ RangeOut s a b) → BufferShort s a b bytes → First ws a b bytes 11 0
    unfolding place
    is-eleven h y = (eleven y, none)
      where
        none : (m q : ℕ) → Earlier m q 11 0 → ¬ Applies ws a b bytes m q
        none m q e (words _ _ x) = passed m q x
        none _ _ e (ten x) = h x
        none _ _ e (eleven x) = not-before-itself 11 0 e
        none _ _ e (twelve x) = later 12 0 11 0 (omega arith) e

    is-twelve : (¬ RangeOut s a b) → (¬ BufferShort s a b bytes) → MissBefore s b → First ws a b bytes 12 0
    is-twelve h k y = (twelve y, none)
      where
        none : (m q : ℕ) → Earlier m q 12 0 → ¬ Applies ws a b bytes m q
        none m q e (words _ _ x) = passed m q x
        none _ _ e (ten x) = h x
        none _ _ e (eleven x) = k x
        none _ _ e (twelve x) = not-before-itself 12 0 e

    is_none : (¬ RangeOut s a b) → (¬ BufferShort s a b bytes) → (¬ MissBefore s b) → NoneApplies ws a b bytes
    is_none h k l m q (words _ _ x) = passed m q x
    is_none h k l _ _ (ten x) = h x
    is_none h k l _ _ (eleven x) = k x
    is_none h k l _ _ (twelve x) = l x

    range-decides : Decides (ltb b a || ltb (horizon s) b) (RangeOut s a b)
    range-decides = decides_or (ltb b a) (ltb (horizon s) b) (b < a) (horizon s < b) (decides-lt b a) (decides-lt (horizon s) b)

    buffer-decides : Decides (ltb bytes ((b - a) * s.cores)) (BufferShort s a b bytes)
    buffer-decides = decides-lt bytes ((b - a) * s.cores)

    late-decides : Decides (any b (missed_in s)) (MissBefore s b)
    late-decides = miss-decides s (passed-valid ws passed) b

    -- 10, 11 and 12 by their tests
    right-plan : Right (by_plan s a b bytes)
    unfolding by_plan
    right-plan = go (ltb b a || ltb (horizon s) b) refl (ltb bytes ((b - a) * s.cores)) refl (any b (missed_in s)) refl
      where
        go : (t : Bool) → (ltb b a || ltb (horizon s) b) ≡ t → (u : Bool) → ltb bytes ((b - a) * s.cores) ≡ u → (v : Bool) → any b (missed_in s) ≡ v
            → Right (cond t (Refused 10 0) (cond u (Refused 11 0) (cond v (Refused 12 0) Written)))
        go true e u f v g = is-ten (range-decides.0 e)
        go false e true f v g = is-eleven (fails (ltb b a || ltb (horizon s) b) (RangeOut s a b) range-decides e) (buffer-decides.0 f)
        go false e false f true g =
            is-twelve (fails (ltb b a || ltb (horizon s) b) (RangeOut s a b) range-decides e)
            (fails (ltb bytes ((b - a) * s.cores)) (BufferShort s a b bytes) buffer-decides f) (late-decides.0 g)
        go false e false f false g =
            is_none (fails (ltb b a || ltb (horizon s) b) (RangeOut s a b) range-decides e)
            (fails (ltb bytes ((b - a) * s.cores)) (BufferShort s a b bytes) buffer-decides f)
            (fails (any b (missed_in s)) (MissBefore s b) late-decides g)

  right : Right (planned_of ws a b bytes)
  unfolding planned_of
  right = go (answer_of ws) refl
    where
      go : (x : Answer) → answer_of ws ≡ x → Right (planned_by x (by_plan s a b bytes))
      go answer.Passed e = right-plan ((passed-exact ws).0 e)
      go (answer.Refused n p) e = by-words n p ((refusal-exact ws n p).0 e)

  -- what is right of an answer determines it
  determined : (v : Planned) → Right v → ((n p : ℕ) → (v ≡ Refused n p) ↔ First ws a b bytes n p) × ((v ≡ Written) ↔ NoneApplies ws a b bytes)
  determined Written r = (λ n p. (λ e. absurd (written-not-refused e), λ f. absurd (r n p f.0)), (λ e. r, λ n. refl))
    where
      written-not-refused : {n p : ℕ} → Written ≡ Refused n p → ⊥
      written-not-refused e = let z : ◌≡◌ {A = ℕ} 0 1 = cc in omega arith
  determined (Refused m q) r = (λ n p. (λ e. to n p e, λ f. from n p f), (λ e. absurd (refused-not-written e), λ none. absurd (none m q r.0)))
    where
      refused-not-written : Refused m q ≡ Written → ⊥
      refused-not-written e = let z : ◌≡◌ {A = ℕ} 0 1 = cc in omega arith

      to : (n p : ℕ) → Refused m q ≡ Refused n p → First ws a b bytes n p
      to n p e = let i : m ≡ n = cc in let j : q ≡ p = cc in rw (i, j) at r

      from : (n p : ℕ) → First ws a b bytes n p → Refused m q ≡ Refused n p
      from n p f = let x = first-only (Applies ws a b bytes) m q n p r f in rw (x.0, x.1)

  -- the plan refuses with n and p exactly if number n applies with position p and no earlier one does
  pub refused-exact : (n p : ℕ) → (planned_of ws a b bytes ≡ Refused n p) ↔ First ws a b bytes n p
  refused-exact n p = (determined (planned_of ws a b bytes) right).0 n p

  -- and the rows are written exactly if no number applies
  pub written-exact : (planned_of ws a b bytes ≡ Written) ↔ NoneApplies ws a b bytes
  written-exact = (determined (planned_of ws a b bytes) right).1
