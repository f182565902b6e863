use Rattle.std.proofs.Common.{sym, ◌∙◌}
use Rattle.sentence.proofs.Reading.{front-begins}
use Rattle.sentence.proofs.Fields.{field-other, field-of}
use Rattle.sentence.proofs.reader.read_field.Goals as goal

pub returns-in_err-number : goal.returns-in_err-number
returns-in_err-number c =
    let a = c.args in
    rw c.from_residual.ensures (field-other a.text.now a.word.now (sym (front-begins a.word.now a.text.now) ∙ c.in_err-number.ensures.cases))

pub returns : goal.returns
returns c =
    let a = c.args in
    let h = c.in_ok-number.ensures.cases in
    field-of a.text.now a.word.now c.read_number.result (sym (front-begins a.word.now a.text.now) ∙ h.0) (rw (sym h.1) c.read_number.ensures)
