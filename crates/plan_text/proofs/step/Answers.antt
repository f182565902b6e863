-- The line is skipped, its row is taken, or it is not read (Answers).
use Rattle.std.proofs.Common.{◌≡◌, ◌∙◌, ap, sym}
use mathlib.Core.Path.{subst⁻¹}
use Rattle.std.proofs.lemmas.Result.{err_from_is_err_and}
use Rattle.plan_check.specs.RowAnswer.{progress_answer}
use Rattle.std.specs.Result.{IfOk}
use Rattle.plan_text.specs.declared.PlanAnswer.TheVariants.{Unread}
use Rattle.plan_text.specs.Check.{ExtentKnown}
use Rattle.plan_text.specs.Line.{row_in}
use Rattle.plan_text.specs.Checked.{LineAnswer, row_entered, step_of, stepped}
use Rattle.plan_text.proofs.Answers.{enters_none, enters-other, last-answer, row-stepped, step-enters, step-passed}
use Rattle.plan_text.proofs.step.Goals as goal

pub returns-then-passes : goal.returns-then-passes
returns-then-passes c = (
  step-passed c.args.rows _ _ _ c.passes.ensures c.if-passes.true c.next_line-lines.ensures,
  c.requires,
)

pub returns-in_err-progress-in-Some : goal.returns-in_err-progress-in-Some
returns-in_err-progress-in-Some c =
    let known = err_from_is_err_and c.from_residual.result c.from_residual.ensures.1 in
    let a = known.0 in
    let all =
    row-stepped c.args.rows c.args.bytes.now c.next_line-lines.result _ c.in-Some.row _ c.passes.ensures c.if-passes.false (sym c.in-Some.is ∙ c.read.ensures)
    c.if-row-rows.true c.in_err-progress-in-Some.ensures.0 c.next_line-lines.ensures in
    subst⁻¹
    (λ r. (stepped (step_of c.args.rows c.args.bytes.now) r ≡ step_of c.args.rows c.args.bytes.now) × IfOk r (λ next. ExtentKnown c.args.extent next.plan))
    known.1 (last-answer _ a (known.2 ∙ ap (λ (u : LineAnswer). u.answer) all), tt)

pub returns-in-Accepted : goal.returns-in-Accepted
returns-in-Accepted c = (
  ap (λ p. row_entered (progress_answer p) c.in_ok-progress-in-Some.plan c.next_line-lines.result) (sym c.in-Accepted.is)
      ∙ row-stepped c.args.rows c.args.bytes.now c.next_line-lines.result _ c.in-Some.row _ c.passes.ensures c.if-passes.false (sym c.in-Some.is ∙ c.read.ensures)
      c.if-row-rows.true c.in_ok-progress-in-Some.ensures.0 c.next_line-lines.ensures,
  c.in_ok-progress-in-Some.ensures.1,
)

pub returns-in_default-matches : goal.returns-in_default-matches
returns-in_default-matches c = (
  ap (λ p. row_entered (progress_answer p) c.in_ok-progress-in-Some.plan c.next_line-lines.result) (sym c.in_default-matches.is)
      ∙ row-stepped c.args.rows c.args.bytes.now c.next_line-lines.result _ c.in-Some.row _ c.passes.ensures c.if-passes.false (sym c.in-Some.is ∙ c.read.ensures)
      c.if-row-rows.true c.in_ok-progress-in-Some.ensures.0 c.next_line-lines.ensures,
  c.in_ok-progress-in-Some.ensures.1,
)

pub returns-in_default : goal.returns-in_default
returns-in_default c =
    let all =
    enters-other c.args.rows (row_in c.args.bytes.now) c.in-Some.row _ (sym c.in-Some.is ∙ c.read.ensures) c.if-row-rows.false c.next_line-lines.ensures
    ∙ step-enters _ _ _ c.passes.ensures c.if-passes.false in
    (last-answer _ (Unread c.next_line-lines.result) (ap (λ (u : LineAnswer). u.answer) all), tt)

pub returns-in_default-2 : goal.returns-in_default-2
returns-in_default-2 c =
    let all =
    enters_none c.args.rows (row_in c.args.bytes.now) _ (sym c.in_default.is ∙ c.read.ensures) c.next_line-lines.ensures
    ∙ step-enters _ _ _ c.passes.ensures c.if-passes.false in
    (last-answer _ (Unread c.next_line-lines.result) (ap (λ (u : LineAnswer). u.answer) all), tt)
