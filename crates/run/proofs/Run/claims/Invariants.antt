-- of the places below i: the sets, the tasks that claim and that work as they are seen with their empty jobs, and both widths
use Rattle.std.proofs.Common.{◌≡◌, length}
use Rattle.phase.specs.Phase.{claiming, working, released}
use Rattle.rule.specs.Widths.{pair}
use Rattle.model.proofs.Gathered.{Gathered}
use Rattle.run.specs.Numbers.{late_at, place_out}
use Rattle.run.specs.Run.{even_at, phase_at, emptied_at}
use Rattle.run.proofs.PlaceSets.{Stored}
use Rattle.run.proofs.Run.claims.Given as goal

abbrev pub invariant-loop-i : goal.invariant-loop-i
invariant-loop-i l = record {
  size : length l.widths ≡ pair;
  broken : Gathered (place_out l.self) l.i l.broken;
  late : Gathered (late_at l.self) l.i l.late;
  claims : Gathered (λ p. claiming (emptied_at l.self l.empties p)) l.i l.claiming;
  works : Gathered (λ p. working (emptied_at l.self l.empties p)) l.i l.working;
  begins : Gathered (λ p. released (phase_at l.self p)) l.i l.released;
  evens : Gathered (even_at l.self) l.i l.even;
  stored : Stored l.self l.i l.widths;
}
