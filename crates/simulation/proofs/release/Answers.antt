use Rattle.std.proofs.Common.{◌+◌, set, arith, sym, ap, ◌∙◌}
use Rattle.std.specs.Int.Bits.{bit_or}
use Rattle.model.proofs.Digits.{shifted_one}
use Rattle.simulation.specs.Machine.{machine, with_release}
use Rattle.simulation.specs.Places.{segment}
use Rattle.simulation.proofs.Parts.{front_at, part_at, stored-all}
use Rattle.simulation.proofs.Sets.{set-with}
use Rattle.simulation.proofs.release.Goals as goal

pub overflow_add-places : goal.overflow_add-places
overflow_add-places c = omega (arith, c.requires.1, part_at 32 c.args.times.now c.args.place c.requires.0)

pub overflow_add-places-3 : goal.overflow_add-places-3
overflow_add-places-3 c = omega (arith, c.requires.2, part_at 64 c.args.times.now c.args.place c.requires.0)

pub returns : goal.returns
unfolding with_release
returns c =
    let a = c.args in
    let xs = a.places.now in
    let inside = c.requires.0 in
    let length = sym (front_at a.times.now a.place inside) in
    let deadline = sym (part_at 32 a.times.now a.place inside) in
    let period = sym (part_at 64 a.times.now a.place inside) in
    let claims = ap (bit_or a.claiming) (shifted_one 32 a.place inside) ∙ set-with a.claiming a.place c.ranges.claiming.fits inside in
    stored-all xs _ a.place _ _ _ inside
    ∙ λ i.
    machine (set (segment 0 xs) a.place (length i)) (set (segment 32 xs) a.place (a.tick + deadline i)) (set (segment 64 xs) a.place (a.tick + period i)) (claims i)
