-- Each member is put after those before it, and then a newline.
use Rattle.std.proofs.Common.{◌≡◌, arith, length, rules}
use Rattle.text.proofs.Writing.{put_one, put_then}
use Rattle.query.proofs.Positions.{one-more, place-below, placing-all, placing-none, placing-on}
use Rattle.query.proofs.put_positions.Goals as goal

pub loop-place-init : goal.loop-place-init
loop-place-init c = placing-none c.args.set _ c.args.line.now (search rules) c.ranges.set.fits

pub overflow_cast-place : goal.overflow_cast-place
overflow_cast-place c = let l = c.loop-place in omega (arith, place-below _ _ _ _ _ _ l.at l.invariant c.in-Some.ensures.steps)

pub overflow_add-place : goal.overflow_add-place
overflow_add-place c = let l = c.loop-place in omega (arith, place-below _ _ _ _ _ _ l.at l.invariant c.in-Some.ensures.steps)

pub put_spaced-at-requires : goal.put_spaced-at-requires
put_spaced-at-requires c =
    let l = c.loop-place in
    let long : length l.line ≡ 701 = search rules in
    omega (arith, long, l.invariant.short, one-more _ _ _ _ _ _ l.at l.invariant c.in-Some.ensures.steps)

pub loop-place-preserved : goal.loop-place-preserved
loop-place-preserved c =
    let l = c.loop-place in
    let p = c.put_spaced-at.ensures in
    let long : length c.args.line.now ≡ 701 = search rules in
    let more = one-more _ _ _ _ _ _ l.at l.invariant c.in-Some.ensures.steps in
    placing-on _ _ _ _ _ _ l.at l.invariant c.in-Some.ensures.steps _ _ p.0 p.1 (omega (arith, p.1, long, l.invariant.short, more))

pub bounds-line-at : goal.bounds-line-at
bounds-line-at c =
    let l = c.loop-place in
    let all = placing-all _ _ _ _ l.at l.invariant c.in-None.ensures.steps.0 in
    omega (arith, all.1)

pub returns : goal.returns
returns c =
    let l = c.loop-place in
    let all = placing-all _ _ _ _ l.at l.invariant c.in-None.ensures.steps.0 in
    let long : length l.line ≡ 701 = search rules in
    (put_then all.0 (put_one l.line l.at 10 (omega (arith, long, all.1))) (omega (arith, long, all.1)), omega (arith, all.1))
