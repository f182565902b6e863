-- A position has two digits at most and a number ten, so that there is space for a line of one number more.
use mathlib.Core.List.{List}
use mathlib.Core.Path.{◌≡◌, ap, ◌∙◌}
use Prim.Native.Nat.{ℕ, ◌+◌, ◌*◌, ◌≤◌, ◌<◌}
use lib.ListN.{length, take}
use lib.Seq.{take-length}
use Rattle.std.proofs.Common.{rules, arith, subst}
use Rattle.text.specs.Decimal.{decimal}
use Rattle.text.specs.Written.{Put}
use Rattle.text.proofs.Decimals.{count_most, decimal-length}
use Rattle.text.proofs.Writing.{put-none, put-length}
use Rattle.query.specs.Figures.{figure_lines}
use Rattle.query.proofs.Figures.{put-line}
use Rattle.query.proofs.put_figures.Goals as goal

two_digits : (n : ℕ) → n ≤ 32 → length (decimal n) ≤ 2
two_digits n h = omega (arith, decimal-length n, count_most 1 n (omega arith))

-- where a position ends, and how long the lines are
position-end :
    (l m : List ℕ) (at place end : ℕ) → Put l at (decimal (place + 1)) m end → place < 32 → at ≤ 14 * place → length l ≡ 701
    → (end ≤ at + 2) × (length m ≡ 701)
position-end l m at place end p short most long =
    let e : end ≤ at + 2 = omega (arith, p.ends, two_digits (place + 1) (omega (arith, short))) in
    (e, put-length p (omega (arith, e, short, most, long)) ∙ long)

-- where a number ends
number-end :
    (l m s : List ℕ) (at place middle end : ℕ) → Put l middle s m end → end ≤ middle + 11 → middle ≤ at + 2 → place < 32 → at ≤ 14 * place → length l ≡ 701
    → (end ≤ at + 13) × (length m ≡ 701)
number-end l m s at place middle end p past before short most long =
    (omega (arith, past, before), put-length p (omega (arith, past, before, short, most, long)) ∙ long)

pub loop-place-init : goal.loop-place-init
unfolding figure_lines
loop-place-init c = (put-none _ 0, omega arith)

pub put-middle-requires : goal.put-middle-requires
put-middle-requires c =
    let l = c.loop-place in
    let long : length l.lines ≡ 701 = search rules in
    let short : l.place < 32 = omega (arith, c.requires, c.loop-place-test.true) in
    omega (arith, l.invariant.1, long, short, count_most 1 (l.place + 1) (omega (arith, short)))

pub put_field-end-requires : goal.put_field-end-requires
put_field-end-requires c =
    let l = c.loop-place in
    let long : length l.lines ≡ 701 = search rules in
    let short : l.place < 32 = omega (arith, c.requires, c.loop-place-test.true) in
    let m = position-end _ _ l.at l.place _ c.put-middle.ensures short l.invariant.1 long in
    omega (arith, m.0, m.1, l.invariant.1, short)

pub bounds-lines-end : goal.bounds-lines-end
bounds-lines-end c =
    let l = c.loop-place in
    let long : length l.lines ≡ 701 = search rules in
    let short : l.place < 32 = omega (arith, c.requires, c.loop-place-test.true) in
    let m = position-end _ _ l.at l.place _ c.put-middle.ensures short l.invariant.1 long in
    let f = c.put_field-end.ensures in
    let e = number-end _ _ _ l.at l.place _ _ f.0 f.1 m.0 short l.invariant.1 m.1 in
    omega (arith, e.0, e.1, l.invariant.1, short)

pub loop-place-preserved : goal.loop-place-preserved
loop-place-preserved c =
    let l = c.loop-place in
    let a = c.args in
    let long : length l.lines ≡ 701 = search rules in
    let short : l.place < 32 = omega (arith, c.requires, c.loop-place-test.true) in
    let m = position-end _ _ l.at l.place _ c.put-middle.ensures short l.invariant.1 long in
    let f = c.put_field-end.ensures in
    let e = number-end _ _ _ l.at l.place _ _ f.0 f.1 m.0 short l.invariant.1 m.1 in
    let n = c.put_field-end.result in
    let room : n < 701 = omega (arith, e.0, l.invariant.1, short) in
    let first : length a.lines.now ≡ 701 = search rules in
    let p =
    put-line a.lines.now l.lines c.put-middle.new.line c.put_field-end.new.line l.at c.put-middle.result n l.place a.figures.now l.invariant.0
    c.loop-place-test.true c.put-middle.ensures f.0 (omega (arith, f.0.ends)) (omega (arith, room, first)) in
    (p, omega (arith, e.0, l.invariant.1))

pub returns : goal.returns
returns c =
    let l = c.loop-place in
    let a = c.args in
    let over : l.place ≡ length a.figures.now = omega (arith, c.loop-place-test.false, c.loop-place.auto.place-end) in (
      subst (λ (xs : List ℕ). Put a.lines.now 0 (figure_lines 0 xs) l.lines l.at) (ap (λ (k : ℕ). take k a.figures.now) over ∙ take-length a.figures.now)
          l.invariant.0,
      omega (arith, l.invariant.1, over, c.requires),
    )
