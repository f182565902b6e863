-- Places past the count (scope, 'The run in the cab'): later calls neither read nor change them, nor the phases recorded of them (request 112). They are not
-- read (`past-unread`), and not changed (`past` and `past-notes` of `CheckRowOf`).
use Rattle.std.specs.Prelude.{List, ◌≡◌, ℕ, take}
use Rattle.run.specs.UnusedPlaces.{SameBelow}
use Rattle.plan_check.specs.declared.SuppliedPlan.{SuppliedPlan}
use Rattle.plan_check.specs.Extent.{extent_of}
use Rattle.plan_check.specs.Checked.{row_answers_from}
use Rattle.plan_check.specs.CheckRow.{check_row_of}

-- two states that are equal up to the count: their runs, their ticks, and the recorded phases
pub record SamePlan (w v : SuppliedPlan) : Type 0 where
  pub run : SameBelow w.run v.run
  pub tick : w.tick ≡ v.tick
  pub noted : take w.run.count w.noted ≡ take v.run.count v.noted

-- they have equal extents; to any row they give equal answers, and the states after it are equal up to the count; so all rows get equal answers
pub record PlanTailUnread (w v : SuppliedPlan) : Type 0 where
  pub extent : extent_of w.run ≡ extent_of v.run
  pub answer : (row : List ℕ) → (check_row_of w row).answer ≡ (check_row_of v row).answer
  pub plan : (row : List ℕ) → SamePlan (check_row_of w row).plan (check_row_of v row).plan
  pub answers : (rows : List (List ℕ)) → row_answers_from w rows ≡ row_answers_from v rows
