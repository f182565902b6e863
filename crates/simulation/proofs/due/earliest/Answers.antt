use Rattle.std.proofs.Common.{◌<◌, min, arith, sym, ap, ◌∙◌}
use Rattle.simulation.specs.EventState.{earliest_of}
use Rattle.simulation.specs.Places.{segment}
use Rattle.simulation.proofs.DuePlaces.{earliest-more}
use Rattle.simulation.proofs.Parts.{part_at}
use Rattle.simulation.proofs.due.earliest.Goals as goal

pub loop-i-init : goal.loop-i-init
unfolding earliest_of
loop-i-init c = sym (part_at 32 c.args.places.now 0 (omega arith))

pub loop-i-preserved : goal.loop-i-preserved
loop-i-preserved c =
    let l = c.loop-i in
    let xs = c.args.places.now in
    let inside : l.i < 32 = omega arith in
    earliest-more l.i l.event c.min-event.result (segment 32 xs) l.invariant
    (c.min-event.ensures ∙ ap (min l.event) (sym (part_at 32 xs l.i inside)))
