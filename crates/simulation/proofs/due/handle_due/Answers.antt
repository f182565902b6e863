use mathlib.Core.Path.{◌≡◌, sym, ap, ◌∙◌}
use lib.ListN.{get_or}
use Rattle.model.specs.Search.{bit}
use Rattle.simulation.specs.Places.{segment, second, third}
use Rattle.simulation.specs.Machine.{Machine, machine_of}
use Rattle.simulation.specs.Jump.{handled}
use Rattle.simulation.proofs.SetWalk.{taken, Off, off-turn, all-left, none-taken, all-taken}
use Rattle.simulation.proofs.Handled.{handled-none, handled-same, handled-more}
use Rattle.simulation.proofs.due.handle_due.Goals as goal
use Rattle.simulation.proofs.due.handle_due.Goals.{In-Some}

pub loop-place-init : goal.loop-place-init
loop-place-init c =
    let a = c.args in
    let e : c.into_iter-place-iterator.result.rest ≡ a.due = cc in (
      all-left a.due _ e c.ranges.due.fits,
      sym (handled-none a.tick _ _ _ _ (machine_of a.places.now a.claiming) c.ranges.claiming.fits (none-taken a.due _ e)),
    )

at : (c : In-Some) → Off c.args.due c.loop-place.place-iterator.rest c.in-Some.place c.next.new.self.rest
at c = off-turn c.args.due c.loop-place.place-iterator.rest c.in-Some.place c.next.new.self.rest c.loop-place.invariant.0 c.in-Some.ensures.steps

pub handle_event-set-requires : goal.handle_event-set-requires
handle_event-set-requires c =
    let o = at (goal.at.handle_event-set-requires c).In-Some in
    let small = c.requires c.in-Some.place (c.loop-place.invariant.0.within c.in-Some.place o.here) in
    (o.below, small.0, small.1)

pub loop-place-preserved : goal.loop-place-preserved
loop-place-preserved c =
    let o = at (goal.at.loop-place-preserved c).In-Some in
    let l = c.loop-place in
    let a = c.args in
    let C = segment 0 a.times.now in
    let D = segment second a.times.now in
    let T = segment third a.times.now in
    let p = c.in-Some.place in (
      o.left,
      c.handle_event-set.ensures
          ∙ (ap (λ (m : Machine). handled p a.tick (get_or C p 0) (get_or D p 0) (get_or T p 0) m) l.invariant.1
          ∙ handled-more a.tick (taken a.due l.place-iterator.rest) (taken a.due c.next.new.self.rest) C D T (machine_of a.places.now a.claiming) p o.off o.on
          o.same o.below),
    )

-- nothing is left of the set, so all of it is taken
pub returns : goal.returns
returns c =
    let a = c.args in
    c.loop-place.invariant.1
    ∙ handled-same a.tick (taken a.due c.loop-place.place-iterator.rest) (bit a.due) _ _ _ (machine_of a.places.now a.claiming)
    (all-taken a.due c.loop-place.place-iterator.rest c.in-None.ensures.steps.0)
