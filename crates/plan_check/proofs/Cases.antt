-- The cases of a row taken, in the order in which code tests.
use mathlib.Core.Bool.{Bool, false, true}
use mathlib.Core.List.{List}
use mathlib.Core.Path.{refl, ◌≡◌}
use Prim.Native.Nat.{◌<◌, ℕ, ◌≤◌}
use lib.ListN.{length}
use borrow.Author.Tests.{eq-eqb, le-leb, le-ltb, lt-leb, ne_eqb}
use Rattle.table.specs.Limits.{horizon_out, most_horizon}
use Rattle.plan_check.specs.Extent.{first_number}
use Rattle.plan_check.specs.Numbers.{after_row, missed, state_out}
use Rattle.plan_check.specs.Row.{faulty}
use Rattle.plan_check.specs.RowAnswer.{state_by_answer}
use Rattle.plan_check.specs.State.{horizon_in}
use Rattle.plan_check.specs.CheckRow.{answer_at, check_row_answer, check_row_of}
use Rattle.plan_check.specs.RowAnswer.{Refused}
use Rattle.plan_check.specs.RowAnswer.{Entered}
use Rattle.plan_check.specs.declared.SuppliedPlan.{SuppliedPlan}

-- turned down, the state as given
abbrev pub refusal : SuppliedPlan → ℕ → ℕ → Entered
refusal w n t = record { answer = Refused n t; plan = w }

module _ (w : SuppliedPlan) (row : List ℕ) where
  -- 14 and 9, whatever the row is
  pub take-refused : ¬ (first_number w.run ≡ 0) → check_row_of w row ≡ refusal w (first_number w.run) 0
  unfolding check_row_of check_row_answer first_number
  take-refused n = go (state_out w.run) refl (horizon_out (horizon_in w.run)) refl
    where
      go : (a : Bool) → state_out w.run ≡ a → (b : Bool) → horizon_out (horizon_in w.run) ≡ b → check_row_of w row ≡ refusal w (first_number w.run) 0
      go true e b f = rw e refl
      go false e true f = rw (e, f) refl
      go false e false f = absurd (n (rw (e, f)))

  module _ (e : state_out w.run ≡ false) where
    module _ (near : horizon_in w.run ≤ most_horizon) where
      pub take_past : horizon_in w.run ≤ w.tick → check_row_of w row ≡ refusal w 10 0
      unfolding check_row_of check_row_answer
      take_past h = rw (e, le-ltb most_horizon (horizon_in w.run) near, le-leb (horizon_in w.run) w.tick h) refl

      module _ (before : w.tick < horizon_in w.run) where
        pub take-size : ¬ (length row ≡ w.run.cores) → check_row_of w row ≡ refusal w 11 0
        unfolding check_row_of check_row_answer
        take-size n =
            rw (e, le-ltb most_horizon (horizon_in w.run) near, lt-leb (horizon_in w.run) w.tick before, ne_eqb (length row) w.run.cores n) refl

        module _ (size : length row ≡ w.run.cores) where
          pub take-late : missed w.run ≡ true → check_row_of w row ≡ refusal w 25 w.tick
          unfolding check_row_of check_row_answer
          take-late l =
              rw (e, le-ltb most_horizon (horizon_in w.run) near, lt-leb (horizon_in w.run) w.tick before, eq-eqb (length row) w.run.cores size, l) refl

          module _ (timely : missed w.run ≡ false) where
            pub take-faulty : faulty w.run row ≡ true → check_row_of w row ≡ refusal w 24 w.tick
            unfolding check_row_of check_row_answer
            take-faulty f =
                rw (e, le-ltb most_horizon (horizon_in w.run) near, lt-leb (horizon_in w.run) w.tick before, eq-eqb (length row) w.run.cores size, timely, f) refl

            pub take_on :
                faulty w.run row ≡ false
                → check_row_of w row ≡ record { answer = answer_at (after_row w row); plan = state_by_answer (answer_at (after_row w row)) (after_row w row) w }
            unfolding check_row_of check_row_answer
            take_on f =
                rw (e, le-ltb most_horizon (horizon_in w.run) near, lt-leb (horizon_in w.run) w.tick before, eq-eqb (length row) w.run.cores size, timely, f) refl
