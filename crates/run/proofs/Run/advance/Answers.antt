-- `run::Run::advance`: the tick's refusal; then 16 by one test of sets, since the reports are within the set of the jobs that may be reported exactly if
-- no bit is set that may not be (`may-report`).
use Rattle.std.proofs.Common.{◌≡◌, ◌∙◌, ◌<◌, ◌^◌, ℕ, Ok, ap, not, subst, sym}
use lib.Bits.{bit_and}
use lib.Dec.{eqb}
use borrow.Author.Tests.{eq-eqb, ne_eqb}
use Rattle.model.specs.Refusal.{number_of, position_of}
use Rattle.model.specs.Search.{bit}
use Rattle.model.specs.Sizes.{most_tasks}
use Rattle.model.proofs.Exits.{err-as}
use Rattle.run.specs.declared.Run.{Run}
use Rattle.run.specs.declared.tick.Tick.{Tick}
use Rattle.run.specs.Advance.{AdvanceOf, advanced}
use Rattle.run.specs.Answer.{Taken}
use Rattle.run.specs.Numbers.{wrong_reports_in}
use Rattle.run.specs.Row.{row_answer}
use Rattle.run.specs.Tick.{Ticks}
use Rattle.run.proofs.Cases.{advance-misreported, advance-refused, advance-taken, row-passes, working-by}
use Rattle.run.proofs.Chosen.{may-report}
use Rattle.run.proofs.Exact.{advance-of}
use Rattle.run.proofs.TickRead.{tick-holds, tick-refused, tick-taken}
use Rattle.run.proofs.Working.{works_at}
use Rattle.run.proofs.Run.advance.Goals as goal

-- 16 is decided by one test of sets
within : (r : Run) (e x : ℕ) (t : Tick) → row_answer r e ≡ Taken → Ticks r e t → (k : ℕ) → x < 2 ^ k
    → wrong_reports_in r e x ≡ not (eqb (bit_and x t.working) x)
within r e x t taken holds k small =
    may-report r e t.working (λ p. ap (λ (x : ℕ). bit x p) (holds.works ∙ working-by r e taken) ∙ works_at r e taken p) x k small

pub returns-in_err-tick : goal.returns-in_err-tick
returns-in_err-tick c =
    let a = c.args in
    let x = c.in_err-tick.field-0.0 in
    let is = err-as c.from_residual.result x c.from_residual.ensures.1 in
    subst (λ w. AdvanceOf a.self a.reports a.empties (advanced a.self w)) (sym is)
    (advance-of a.self a.empties a.reports _
    (sym (advance-refused a.self a.empties a.reports (number_of x) (position_of x) (tick-refused a.self a.empties c.tick.result c.tick.ensures x c.in_err-tick.was))))

pub returns-then-ending-reports : goal.returns-then-ending-reports
returns-then-ending-reports c =
    let a = c.args in
    let t = c.in_ok-tick.tick in
    let taken = tick-taken a.self a.empties c.tick.result c.tick.ensures t c.in_ok-tick.was in
    let holds = tick-holds a.self a.empties c.tick.result c.tick.ensures t c.in_ok-tick.was in
    let wrong = within a.self a.empties a.reports t taken holds most_tasks c.ranges.reports.fits ∙ ap not (ne_eqb _ _ c.if-ending-reports.true) in
    advance-of a.self a.empties a.reports _ (sym (advance-misreported a.self a.empties a.reports taken wrong))

pub moved-requires-clause-fact_1 : goal.moved-requires-clause-fact_1
moved-requires-clause-fact_1 c =
    let a = c.args in
    row-passes a.self a.empties (tick-taken a.self a.empties c.tick.result c.tick.ensures c.in_ok-tick.tick c.in_ok-tick.was)

pub returns : goal.returns
returns c =
    let a = c.args in
    let t = c.in_ok-tick.tick in
    let taken = tick-taken a.self a.empties c.tick.result c.tick.ensures t c.in_ok-tick.was in
    let holds = tick-holds a.self a.empties c.tick.result c.tick.ensures t c.in_ok-tick.was in
    let right = within a.self a.empties a.reports t taken holds most_tasks c.ranges.reports.fits ∙ ap not (eq-eqb _ _ c.if-ending-reports.false) in
    advance-of a.self a.empties a.reports _
    (ap (λ (r : Run). advanced a.self (Ok r)) c.moved.ensures ∙ sym (advance-taken a.self a.empties a.reports taken right))
