use mathlib.Core.Path.{◌≡◌, sym, ◌∙◌, subst}
use native.Mathlib.Omega.{arith}
use Rattle.model.specs.Search.{bit}
use Rattle.simulation.specs.Machine.{machine_of}
use Rattle.simulation.proofs.SetWalk.{taken, Off, off-turn, all-left, none-taken, all-taken}
use Rattle.simulation.proofs.Passing.{passed_none, passed-same}
use Rattle.simulation.proofs.JumpStep.{GrantStep, turn, list-owed, list-member, list_on, list-out}
use Rattle.simulation.proofs.events.elapse.Goals as goal
use Rattle.simulation.proofs.events.elapse.Goals.{In-Some}

pub loop-place-init : goal.loop-place-init
loop-place-init c =
    let a = c.args in
    let e : c.into_iter-place-iterator.result.rest ≡ a.granted = cc in (
      all-left a.granted _ e c.ranges.granted.fits,
      sym (passed_none a.ticks (taken a.granted c.into_iter-place-iterator.result.rest) (machine_of a.places.now a.claiming) c.ranges.claiming.fits (none-taken a.granted _ e)),
    )

at : (c : In-Some) → Off c.args.granted c.loop-place.place-iterator.rest c.in-Some.place c.next.new.self.rest
at c = off-turn c.args.granted c.loop-place.place-iterator.rest c.in-Some.place c.next.new.self.rest c.loop-place.invariant.0 c.in-Some.ensures.steps

-- an iteration takes the lowest place that is left
step :
    (c : In-Some)
    → GrantStep c.args.ticks c.args.granted c.in-Some.place c.next.new.self.rest
    (machine_of c.args.places.now c.args.claiming)
    (machine_of c.loop-place.places c.loop-place.set)
step c =
    let a = c.args in
    let l = c.loop-place in
    subst (GrantStep a.ticks a.granted c.in-Some.place c.next.new.self.rest (machine_of a.places.now a.claiming)) (sym l.invariant.1)
    (turn a.granted l.place-iterator.rest c.in-Some.place c.next.new.self.rest (at c) l.invariant.0 a.ticks (machine_of a.places.now a.claiming) c.requires)

pub offset_bounds-places-place : goal.offset_bounds-places-place
offset_bounds-places-place c = omega (arith, (at (goal.at.offset_bounds-places-place c).In-Some).below)

pub bounds-places-place : goal.bounds-places-place
bounds-places-place c = omega (arith, (at (goal.at.bounds-places-place c).In-Some).below)

pub overflow_sub-more : goal.overflow_sub-more
overflow_sub-more c =
    let t = (goal.at.overflow_sub-more c).In-Some in
    list-owed _ _ _ _ _ _ _ (at t).below (step t)

pub offset_bounds-places-place-in-loop-place : goal.offset_bounds-places-place-in-loop-place
offset_bounds-places-place-in-loop-place c = omega (arith, (at (goal.at.offset_bounds-places-place-in-loop-place c).In-Some).below)

pub bounds-places-place-in-loop-place : goal.bounds-places-place-in-loop-place
bounds-places-place-in-loop-place c = omega (arith, (at (goal.at.bounds-places-place-in-loop-place c).In-Some).below)

pub overflow_cast-set : goal.overflow_cast-set
overflow_cast-set c = omega (arith, (at (goal.at.overflow_cast-set c).In-Some).below)

pub overflow_shl-set : goal.overflow_shl-set
overflow_shl-set c = (at (goal.at.overflow_shl-set c).In-Some).below

pub overflow_sub-set : goal.overflow_sub-set
overflow_sub-set c =
    let t = (goal.at.overflow_sub-set c).In-Some in
    list-member _ _ _ _ _ _ _ (at t).below (step t) c.if-more-eq0.true

pub loop-place-preserved-then-more-eq0 : goal.loop-place-preserved-then-more-eq0
loop-place-preserved-then-more-eq0 c =
    let t = (goal.at.loop-place-preserved-then-more-eq0 c).In-Some in
    ((at t).left, list-out _ _ _ _ _ _ _ (at t).below (step t) c.if-more-eq0.true)

pub loop-place-preserved : goal.loop-place-preserved
loop-place-preserved c =
    let t = (goal.at.loop-place-preserved c).In-Some in
    ((at t).left, list_on _ _ _ _ _ _ _ (at t).below (step t) c.if-more-eq0.false)

-- nothing is left of the set, so all of it is taken
pub returns : goal.returns
returns c =
    let a = c.args in
    let l = c.loop-place in
    l.invariant.1
    ∙ passed-same a.ticks (taken a.granted l.place-iterator.rest) (bit a.granted) (machine_of a.places.now a.claiming)
    (all-taken a.granted l.place-iterator.rest c.in-None.ensures.steps.0)
