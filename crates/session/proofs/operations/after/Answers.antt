-- `session::operations::after`: the first space after the letter's own decides whether there is one number or two (Asking).
use Rattle.std.proofs.Common.{◌∙◌, ap, ap₂, arith}
use Rattle.session.specs.Operation.{one_of, two_of}
use Rattle.session.proofs.Asking.{behind-none, word_end, behind-first, behind-one, behind-two, behind-other}
use Rattle.session.proofs.operations.after.Goals as goal

pub returns-then-count-eq0 : goal.returns-then-count-eq0
returns-then-count-eq0 c = behind-none c.args.rest.now c.if-count-eq0.true

pub returns-then-rest-ne32 : goal.returns-then-rest-ne32
returns-then-rest-ne32 c = behind-other c.args.rest.now c.if-count-eq0.false c.if-rest-ne32.true

-- the first word ends within the bytes
pub slice_bounds-number-end : goal.slice_bounds-number-end
slice_bounds-number-end c = omega (arith, word_end c.args.rest.now _ c.if-count-eq0.false c.end_from-end.ensures)

pub returns-in_err-first : goal.returns-in_err-first
returns-in_err-first c =
    c.from_residual.ensures
    ∙ behind-first c.args.rest.now _ c.if-count-eq0.false c.if-rest-ne32.false c.end_from-end.ensures c.in_err-first.ensures

pub returns-then-end-count : goal.returns-then-end-count
returns-then-end-count c =
    ap one_of c.in_ok-first.ensures
    ∙ behind-one c.args.rest.now _ c.if-count-eq0.false c.if-rest-ne32.false c.end_from-end.ensures c.if-end-count.true

pub returns-in_err-second : goal.returns-in_err-second
returns-in_err-second c =
    c.from_residual-in_err-second.ensures ∙ ap₂ two_of c.in_ok-first.ensures c.in_err-second.ensures
    ∙ behind-two c.args.rest.now _ c.if-count-eq0.false c.if-rest-ne32.false c.end_from-end.ensures c.if-end-count.false

pub returns : goal.returns
returns c =
    ap₂ two_of c.in_ok-first.ensures c.in_ok-second.ensures
    ∙ behind-two c.args.rest.now _ c.if-count-eq0.false c.if-rest-ne32.false c.end_from-end.ensures c.if-end-count.false
