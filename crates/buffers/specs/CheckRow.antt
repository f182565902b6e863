-- A row taken by the plan that a buffer holds.
use Rattle.std.specs.Prelude.{true, List, ℕ, eqb}
use Rattle.plan_check.specs.RowAnswer.{Answer}
use Rattle.plan_check.specs.RowAnswer.{Taken, Accepted, Refused}
use Rattle.plan_check.specs.declared.SuppliedPlan.{SuppliedPlan}
use Rattle.plan_check.specs.Begin.{begin_of}
use Rattle.plan_check.specs.State.{start_in}
use Rattle.plan_check.specs.CheckRow.{check_row_of}
use Rattle.buffers.specs.Encoding.{places}
use Rattle.buffers.specs.Supplied.{plan_over, BufferPlan, plan, none}

-- the buffer after a beginning: the plan that it returns, begun or refused, with all its places and notes
abbrev pub begun_in : List ℕ → List ℕ → List ℕ
begun_in ws buffer = plan_over true places (begin_of ws).plan buffer

-- a row's answer, and the buffer afterwards
pub record RowChecked : Type 0 where
  pub answer : Answer
  pub buffer : List ℕ

-- of two buffers, the first where the row is taken, the second where it is refused
abbrev pub by_taken : Answer → List ℕ → List ℕ → List ℕ
by_taken Taken a b = a
by_taken Accepted a b = a
by_taken (Refused n t) a b = b

-- the plan that a row returns, with the places below its count, and those notes where it arrives at the last S; a refusal leaves the buffer as found
abbrev pub kept_plan : Answer → SuppliedPlan → List ℕ → RowChecked
kept_plan a w ws = record { answer = a; buffer = by_taken a (plan_over (eqb w.tick (start_in w.run)) w.run.count w ws) ws }

-- a row taken by the plan that a buffer holds; 14 where it holds none
abbrev pub check_row_from : BufferPlan → List ℕ → List ℕ → RowChecked
check_row_from (plan w) row ws = kept_plan (check_row_of w row).answer (check_row_of w row).plan ws
check_row_from none row ws = record { answer = Refused 14 0; buffer = ws }
