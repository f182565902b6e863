use Rattle.std.proofs.Common.{sym, ◌∙◌}
use Rattle.text.specs.Output.{letters}
use Rattle.sentence.proofs.Reading.{front-begins}
use Rattle.sentence.proofs.Heading.{head-none-1, head-none-2, head-none-3, head-none-4, head-wrong, head-other, head-there}
use Rattle.sentence.proofs.reader.read_head.Goals as goal

pub returns-in_err-position : goal.returns-in_err-position
returns-in_err-position c = rw c.from_residual.ensures (head-none-1 c.args.text.now c.in_err-position.ensures)

pub returns-in_err-tick : goal.returns-in_err-tick
returns-in_err-tick c =
    rw c.from_residual-in_err-tick.ensures
    (head-none-2 c.args.text.now (c.in_ok-position.position, c.in_ok-position.text) c.in_ok-position.ensures c.in_err-tick.ensures)

pub returns-in_err-had : goal.returns-in_err-had
returns-in_err-had c =
    rw c.from_residual-in_err-had.ensures
    (head-none-3 c.args.text.now (c.in_ok-position.position, c.in_ok-position.text) c.in_ok-position.ensures
    (c.in_ok-tick.tick, c.in_ok-tick.text) c.in_ok-tick.ensures c.in_err-had.ensures)

pub returns-in_err-length : goal.returns-in_err-length
returns-in_err-length c =
    rw c.from_residual-in_err-length.ensures
    (head-none-4 c.args.text.now (c.in_ok-position.position, c.in_ok-position.text) c.in_ok-position.ensures
    (c.in_ok-tick.tick, c.in_ok-tick.text) c.in_ok-tick.ensures (c.in_ok-had.had, c.in_ok-had.text) c.in_ok-had.ensures c.in_err-length.ensures)

pub returns-then-not-may_be_late : goal.returns-then-not-may_be_late
returns-then-not-may_be_late c =
    head-wrong c.args.text.now (c.in_ok-position.position, c.in_ok-position.text) c.in_ok-position.ensures
    (c.in_ok-tick.tick, c.in_ok-tick.text) c.in_ok-tick.ensures (c.in_ok-had.had, c.in_ok-had.text) c.in_ok-had.ensures
    (c.in_ok-length.length, c.in_ok-length.text) c.in_ok-length.ensures (sym c.may_be_late.ensures ∙ c.if-not-may_be_late.true)

pub returns-in_err-parts : goal.returns-in_err-parts
returns-in_err-parts c =
    rw c.from_residual-in_err-parts.ensures
    (head-other c.args.text.now (c.in_ok-position.position, c.in_ok-position.text) c.in_ok-position.ensures
    (c.in_ok-tick.tick, c.in_ok-tick.text) c.in_ok-tick.ensures (c.in_ok-had.had, c.in_ok-had.text) c.in_ok-had.ensures
    (c.in_ok-length.length, c.in_ok-length.text) c.in_ok-length.ensures
    (sym (front-begins (letters " ticks") c.in_ok-length.text.now) ∙ c.in_err-parts.ensures.cases))

pub returns : goal.returns
returns c =
    let h = c.in_ok-parts.ensures.cases in
    head-there c.args.text.now (c.in_ok-position.position, c.in_ok-position.text) c.in_ok-position.ensures
    (c.in_ok-tick.tick, c.in_ok-tick.text) c.in_ok-tick.ensures (c.in_ok-had.had, c.in_ok-had.text) c.in_ok-had.ensures
    (c.in_ok-length.length, c.in_ok-length.text) c.in_ok-length.ensures c.in_ok-parts.parts
    (sym c.may_be_late.ensures ∙ c.if-not-may_be_late.false) (sym (front-begins (letters " ticks") c.in_ok-length.text.now) ∙ h.0) h.1
