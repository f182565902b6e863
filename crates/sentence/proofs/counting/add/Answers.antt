use mathlib.Core.Path.{◌≡◌, sym, ◌∙◌}
use native.Mathlib.Omega.{arith}
use Rattle.simulation.proofs.SetWalk.{Off, off-turn, all-left}
use Rattle.sentence.proofs.Adding.{counted_none, count-still, counted-more, counted-all}
use Rattle.sentence.proofs.counting.add.Goals as goal
use Rattle.sentence.proofs.counting.add.Goals.{In-Some}

pub loop-place-init : goal.loop-place-init
loop-place-init c =
    let a = c.args in
    let e : c.into_iter-place-iterator.result.rest ≡ a.granted = cc in
    (all-left a.granted _ e c.ranges.granted.fits, sym (counted_none a.granted _ a.ran.now e))

at : (c : In-Some) → Off c.args.granted c.loop-place.place-iterator.rest c.in-Some.place c.next.new.self.rest
at c = off-turn c.args.granted c.loop-place.place-iterator.rest c.in-Some.place c.next.new.self.rest c.loop-place.invariant.0 c.in-Some.ensures.steps

pub offset_bounds-ran-place : goal.offset_bounds-ran-place
offset_bounds-ran-place c = omega (arith, (at (goal.at.offset_bounds-ran-place c).In-Some).below)

pub bounds-ran-place : goal.bounds-ran-place
bounds-ran-place c = (at (goal.at.bounds-ran-place c).In-Some).below

pub overflow_add-ran : goal.overflow_add-ran
overflow_add-ran c =
    let o = at (goal.at.overflow_add-ran c).In-Some in
    omega (arith, count-still _ _ _ _ _ _ o c.loop-place.invariant.1, c.requires c.in-Some.place)

pub bounds-ran-place-in-loop-place : goal.bounds-ran-place-in-loop-place
bounds-ran-place-in-loop-place c = (at (goal.at.bounds-ran-place-in-loop-place c).In-Some).below

pub loop-place-preserved : goal.loop-place-preserved
loop-place-preserved c =
    let o = at (goal.at.loop-place-preserved c).In-Some in
    (o.left, counted-more _ _ _ _ _ _ o c.loop-place.invariant.1)

pub returns : goal.returns
returns c =
    c.loop-place.invariant.1 ∙ counted-all c.args.granted c.loop-place.place-iterator.rest c.args.ran.now c.in-None.ensures.steps.0
