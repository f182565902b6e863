-- What is taken from crate plan_check: no words are refused by 1, and a row that is longer than any core count is refused.
use mathlib.Core.Bool.{Bool, cond, false, not, true}
use mathlib.Core.List.{List, []}
use mathlib.Core.Logic.{inl, inr}
use mathlib.Core.Path.{◌≡◌, refl}
use Prim.Native.Nat.{◌<◌, ℕ}
use native.Mathlib.Omega.{arith}
use lib.Dec.{eqb, leb}
use lib.ListN.{length}
use borrow.Author.Tests.{ne_eqb}
use Rattle.std.proofs.Common.{Err}
use Rattle.model.specs.declared.refusal.Refusal.TheVariants.{NotATable}
use Rattle.model.specs.Sizes.{most_cores}
use Rattle.table.specs.Answer.{answer_of, header_number}
use Rattle.table.specs.Limits.{horizon_out}
use Rattle.table.specs.Answer as table
use Rattle.table.proofs.Decide.{fails}
use Rattle.plan_check.specs.Begin.{begin_of, beginning}
use Rattle.plan_check.specs.Numbers.{StateOut, after_row, missed, state_out}
use Rattle.plan_check.specs.Row.{faulty}
use Rattle.plan_check.specs.State.{horizon_in}
use Rattle.plan_check.specs.CheckRow.{answer_at, check_row_answer, check_row_of}
use Rattle.plan_check.specs.RowAnswer.{Answer}
use Rattle.plan_check.specs.RowAnswer as answer
use Rattle.plan_check.specs.declared.SuppliedPlan.{SuppliedPlan}
use Rattle.plan_check.proofs.Deciding.{state-decides}

-- of no words
pub begin-none : (begin_of []).answer ≡ table.Refused 1 0
unfolding begin_of answer_of header_number
begin-none = refl

pub none-begun : beginning (Err NotATable) ≡ begin_of []
unfolding begin_of answer_of header_number
none-begun = refl

-- of 65 bytes or more: 14, 9 or 10, and else 11, since a run that passes 14 has at most 64 cores
pub take_long : (w : SuppliedPlan) (row : List ℕ) → most_cores < length row → (n : ℕ) × (t : ℕ) × ((check_row_of w row).answer ≡ answer.Refused n t)
unfolding check_row_of check_row_answer
take_long w row h = go (state_out w.run) refl (horizon_out (horizon_in w.run)) (leb (horizon_in w.run) w.tick)
  where
    shown : Answer
    shown = cond (missed w.run) (answer.Refused 25 w.tick) (cond (faulty w.run row) (answer.Refused 24 w.tick) (answer_at (after_row w row)))

    other : state_out w.run ≡ false → length row ≡ w.run.cores → ⊥
    other q e = fails (state_out w.run) (StateOut w.run) (state-decides w.run) q (inl (inr (inl (λ f. omega (arith, h, e, f.1)))))

    go :
        (a : Bool) → state_out w.run ≡ a → (b c : Bool)
        → (n : ℕ) × (t : ℕ)
        × (cond a (answer.Refused 14 0) (cond b (answer.Refused 9 0) (cond c (answer.Refused 10 0) (cond (not (eqb (length row) w.run.cores)) (answer.Refused 11 0) shown)))
        ≡ answer.Refused n t)
    go true q b c = (14, 0, refl)
    go false q true c = (9, 0, refl)
    go false q false true = (10, 0, refl)
    go false q false false = (11, 0, rw (ne_eqb (length row) w.run.cores (other q)))
