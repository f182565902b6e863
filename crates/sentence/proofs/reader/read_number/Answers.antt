use Rattle.std.proofs.Common.{◌<◌, ◌≤◌, length, take, sym, ◌∙◌, arith}
use Rattle.text.specs.Decimal.{value}
use Rattle.sentence.specs.Facts.{limit}
use Rattle.sentence.proofs.Scanning.{within, only-digits, no-digits, zero-first, too_large, is_number}
use Rattle.sentence.proofs.reader.read_number.Goals as goal
use Rattle.sentence.proofs.reader.read_number.Goals.{then-count-eq0-via-then-count-eq0, then-count-eq0-via-else-count-eq0+then-is_padded}

pub bounds-text-0 : goal.bounds-text-0
bounds-text-0 c =
    let w = within c.args.text.now _ c.digit_count-count.ensures in
    let some : 0 < length c.args.text.now = omega arith in
    some

pub returns-then-count-eq0 : goal.returns-then-count-eq0
returns-then-count-eq0 c =
    elim c.then-count-eq0.branch [
      | then-count-eq0-via-then-count-eq0 w ↦ no-digits c.args.text.now _ c.digit_count-count.ensures w.if-count-eq0.true
      | then-count-eq0-via-else-count-eq0+then-is_padded w ↦ zero-first c.args.text.now _ c.digit_count-count.ensures (sym w.is_padded.ensures ∙ w.if-is_padded.true)
    ]

pub split_at-requires : goal.split_at-requires
split_at-requires c = within c.args.text.now _ c.digit_count-count.ensures

pub value_of-requires : goal.value_of-requires
value_of-requires c = rw c.split_at.ensures.front (only-digits c.args.text.now _ c.digit_count-count.ensures)

pub returns-in_err-value : goal.returns-in_err-value
returns-in_err-value c =
    let large : limit ≤ value (take c.digit_count-count.result c.args.text.now) = rw (sym c.split_at.ensures.front) c.in_err-value.ensures in
    rw c.from_residual.ensures (too_large c.args.text.now _ c.digit_count-count.ensures large)

pub returns : goal.returns
returns c =
    let v = c.in_ok-value.ensures in
    is_number c.args.text.now _ c.digit_count-count.ensures c.in_ok-value.value c.split_at.result.1 c.if-count-eq0.false
    (sym c.is_padded.ensures ∙ c.if-is_padded.false) (rw (sym c.split_at.ensures.front) v.0) v.1 c.split_at.ensures.back
