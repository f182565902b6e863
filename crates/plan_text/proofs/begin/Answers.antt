-- What is begun of the words that `read` gives is opened (Answers); what is no table's text has none, and is refused likewise.
use Rattle.std.proofs.Common.{◌≡◌, ◌∙◌, ap, None, Ok, Err, Option, ok_or}
use Rattle.model.proofs.Exits.{err-as}
use Rattle.model.specs.declared.refusal.Refusal.TheVariants.{NotATable}
use Rattle.text.specs.declared.words.Words.{Words}
use Rattle.text.proofs.ReadOf.{none-read, some-read}
use Rattle.plan_check.specs.Begin.{begin_of, beginning}
use Rattle.plan_text.specs.Checked.{opening}
use Rattle.plan_text.proofs.Answers.{opened-begun}
use Rattle.plan_text.proofs.Taking.{none-begun}
use Rattle.plan_text.proofs.begin.Goals as goal

pub returns-in_err-words : goal.returns-in_err-words
returns-in_err-words c =
    let d = c.args.table.now in
    let none : c.read.result ≡ None = c.in_err-words.ensures.ok_part in
    let said = c.in_err-words.ensures.value ∙ ap (λ (o : Option Words). ok_or o NotATable) none in
    let same : c.in_err-words.field-0.0 ≡ NotATable = cc said in
    ap opening (err-as c.from_residual.result _ c.from_residual.ensures.1 ∙ ap Err same)
    ∙ opened-begun d (beginning (Err NotATable)) (none-begun ∙ ap begin_of (none-read c.read.result d none c.read.ensures.value))

pub returns-in_err-plan : goal.returns-in_err-plan
returns-in_err-plan c =
    let d = c.args.table.now in
    let x = c.in_err-plan.field-0.0 in
    let is = err-as c.from_residual-in_err-plan.result x c.from_residual-in_err-plan.ensures.1 in
    let words = c.as_slice.ensures ∙ some-read c.read.result c.in_ok-words.words d c.in_ok-words.ensures.ok_part c.read.ensures.value in
    ap opening is ∙ opened-begun d (beginning (Err x)) (c.in_err-plan.ensures.value ∙ ap begin_of words)

pub returns : goal.returns
returns c =
    let d = c.args.table.now in
    let words = c.as_slice.ensures ∙ some-read c.read.result c.in_ok-words.words d c.in_ok-words.ensures.ok_part c.read.ensures.value in
    opened-begun d (beginning (Ok c.in_ok-plan.plan)) (c.in_ok-plan.ensures.value ∙ ap begin_of words)
