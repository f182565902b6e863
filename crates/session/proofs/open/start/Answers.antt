-- `session::open::start`: what is no table's text has no numbers, and a start from none is refused likewise.
use Rattle.std.proofs.Common.{◌≡◌, ◌∙◌, ap, None, Err, Option, ok_or}
use Rattle.model.proofs.Exits.{err-as}
use Rattle.model.specs.declared.refusal.Refusal.TheVariants.{NotATable}
use Rattle.run.specs.Start.{start_of, started}
use Rattle.run.proofs.NoWords.{none-started}
use Rattle.text.specs.declared.words.Words.{Words}
use Rattle.text.proofs.ReadOf.{none-read}
use Rattle.session.proofs.open.start.Goals as goal

pub returns-in_err-words : goal.returns-in_err-words
returns-in_err-words c =
    let none : c.read.result ≡ None = c.in_err-words.ensures.ok_part in
    let said = c.in_err-words.ensures.value ∙ ap (λ (o : Option Words). ok_or o NotATable) none in
    let same : c.in_err-words.field-0.0 ≡ NotATable = cc said in
    ap started (err-as c.from_residual.result _ c.from_residual.ensures.1 ∙ ap Err same) ∙ none-started
    ∙ ap start_of (none-read c.read.result c.args.table.now none c.read.ensures.value)
