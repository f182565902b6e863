use Rattle.std.proofs.Common.{◌≡◌, ◌+◌, ◌*◌, ◌-◌, ℕ, get_or, arith, refl, ap, ◌∙◌, length, sym}
use borrow.Author.Tests.{eqb-true, eqb-false}
use lib.Seq.{take_all}
use Rattle.text.specs.Decimal.{all, value}
use Rattle.text.proofs.Values.{digits-exact}
use Rattle.text.proofs.Numbers.{number-of, found_nothing, digits_more, value_on, value-nine}
use Rattle.text.proofs.line.number.Goals as goal
use Rattle.text.proofs.line.number.Goals.{then-is_empty-via-then-is_empty, then-is_empty-via-else-is_empty+then-line-gt-DIGITS}

pub returns-then-is_empty : goal.returns-then-is_empty
returns-then-is_empty c =
    elim c.then-is_empty.branch [
      | then-is_empty-via-then-is_empty w ↦ found_nothing _ (λ n. omega (arith, n.some, eqb-true (length c.args.line.now) 0 (sym w.if-is_empty.ensures)))
      | then-is_empty-via-else-is_empty+then-line-gt-DIGITS w ↦ found_nothing _ (λ n. omega (arith, n.short, w.if-line-gt-DIGITS.true))
    ]

pub loop-byte-init : goal.loop-byte-init
unfolding value all
loop-byte-init c = (refl, refl)

pub returns-then-not-is_ascii_digit : goal.returns-then-not-is_ascii_digit
returns-then-not-is_ascii_digit c = found_nothing _ (λ n. omega (arith, n.digits c.loop-byte.byte-index (omega arith), c.if-not-is_ascii_digit.ensures.cases))

pub overflow_mul-value : goal.overflow_mul-value
overflow_mul-value c = let e = value-nine c.args.line.now c.loop-byte.byte-index (omega arith) c.loop-byte.invariant.1 in omega arith

pub overflow_add-value : goal.overflow_add-value
overflow_add-value c =
    let e = value-nine c.args.line.now c.loop-byte.byte-index (omega arith) c.loop-byte.invariant.1 in
    omega (arith, c.if-not-is_ascii_digit.ensures.cases)

pub loop-byte-preserved : goal.loop-byte-preserved
loop-byte-preserved c =
    let line = c.args.line.now in
    let l = c.loop-byte in (
      ap (λ (v : ℕ). v * 10 + (get_or line l.byte-index 0 - 48)) l.invariant.0 ∙ value_on line l.byte-index (omega arith),
      digits_more line l.byte-index (omega arith) l.invariant.1 c.if-not-is_ascii_digit.ensures.cases,
    )

pub returns : goal.returns
returns c =
    let line = c.args.line.now in
    let l = c.loop-byte in
    let e = take_all l.byte-index line (omega arith) in
    let v : l.value ≡ value line = l.invariant.0 ∙ ap value e in
    let some : length line ≡ 0 → ⊥ = eqb-false (length line) 0 (sym c.if-is_empty.ensures) in
    c.ok.ensures.value ∙ number-of line c.try_from.result l.value c.try_from.ensures v ((digits-exact line).0 (rw e at l.invariant.1)) (omega arith) (omega arith)
