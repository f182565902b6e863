use Rattle.std.proofs.Common.{◌<◌, min, arith, refl, sym, ap, ap₂, ◌∙◌, add-one}
use Rattle.simulation.specs.Machine.{machine_of, released_due, earliest}
use Rattle.simulation.specs.Places.{segment}
use Rattle.simulation.proofs.Parts.{part_at}
use Rattle.simulation.proofs.Walk.{EventsHandled, due-release, due-pass, earliest-more}
use Rattle.simulation.proofs.ticks.release_due.Goals as goal
use Rattle.simulation.proofs.ticks.release_due.Goals.{then-places-i, else-places-i}

pub loop-i-init : goal.loop-i-init
unfolding released_due earliest
loop-i-init c = record { machines = refl; event = refl }

pub loop-i-preserved : goal.loop-i-preserved
loop-i-preserved c =
    let l = c.loop-i in
    let j = c.if-places-i in
    let t = c.args.tick in
    let C = segment 0 c.args.times.now in
    let D = segment 32 c.args.times.now in
    let T = segment 64 c.args.times.now in
    let start = machine_of c.args.places.now c.args.claiming in
    let before = machine_of l.places l.set in
    let after = machine_of j.places j.set in
    let inside : l.i < 32 = omega arith in
    let event = part_at 32 l.places l.i inside in
    -- the machine after the place is handled
    let handled : EventsHandled t C D T l.i start before after =
    elim j.branch [
      | then-places-i w ↦
          due-release t C D T l.i start before l.invariant.machines after (event ∙ w.if-places-i.true)
          (ap₂ machine_of w.places-is w.set-is ∙ w.release-set.ensures)
      | else-places-i w ↦
          due-pass t C D T l.i start before l.invariant.machines after (λ e. w.if-places-i.false (sym event ∙ e)) (ap₂ machine_of w.places-is w.set-is)
    ] in
    let more = earliest-more l.i (segment 32 j.places) l.event c.min-event.result (l.invariant.event ∙ sym handled.same)
    (c.min-event.ensures ∙ ap (min l.event) (sym (part_at 32 j.places l.i inside))) in
    record { machines = rw add-one handled.machines; event = rw add-one more }
