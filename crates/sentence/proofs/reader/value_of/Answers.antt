use Rattle.std.proofs.Common.{◌≤◌, ◌+◌, ℕ, refl, ap, ◌∙◌, arith, get_or, ◌-◌}
use lib.Seq.{take_all}
use Rattle.text.specs.Decimal.{value}
use Rattle.sentence.specs.Facts.{limit}
use Rattle.sentence.proofs.Reading.{value-front}
use Rattle.sentence.proofs.Scanning.{value-next}
use Rattle.sentence.proofs.reader.value_of.Goals as goal

pub loop-byte-init : goal.loop-byte-init
unfolding value
loop-byte-init c = record { so_far = refl; small = omega arith }

pub returns-in_err-checked_mul : goal.returns-in_err-checked_mul
returns-in_err-checked_mul c =
    let l = c.loop-byte in
    let ds = c.args.digits.now in
    let e = value-next ds l.byte-index l.value c.loop-byte-test.true l.invariant.so_far in
    let f = value-front (l.byte-index + 1) ds in
    let a = c.in_err-checked_mul.ensures in
    let m : limit ≤ value ds = omega (arith, a) in
    rw c.from_residual.ensures m

pub returns-in_err-value : goal.returns-in_err-value
returns-in_err-value c =
    let l = c.loop-byte in
    let ds = c.args.digits.now in
    let e = value-next ds l.byte-index l.value c.loop-byte-test.true l.invariant.so_far in
    let f = value-front (l.byte-index + 1) ds in
    let d = c.in_ok-checked_mul.ensures in
    let a = c.in_err-value.ensures in
    let m : limit ≤ value ds = omega (arith, a, d) in
    rw c.from_residual-in_err-value.ensures m

pub loop-byte-preserved : goal.loop-byte-preserved
loop-byte-preserved c =
    let l = c.loop-byte in
    let ds = c.args.digits.now in
    let e = value-next ds l.byte-index l.value c.loop-byte-test.true l.invariant.so_far in
    let d = c.in_ok-checked_mul.ensures in
    let a = c.in_ok-value.ensures in
    record { so_far = a.1 ∙ ap (λ (v : ℕ). v + (get_or ds l.byte-index 0 - 48)) d.1 ∙ e; small = omega (arith, a, d) }

pub returns : goal.returns
returns c =
    let l = c.loop-byte in
    let ds = c.args.digits.now in
    (l.invariant.so_far ∙ ap value (take_all l.byte-index ds c.loop-byte-test.false), l.invariant.small)
