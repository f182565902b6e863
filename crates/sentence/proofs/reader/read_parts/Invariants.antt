-- The parts read so far are those of the counts so far, and the rest is what is left.
use Rattle.std.proofs.Common.{length}
use Rattle.sentence.proofs.Parting.{Read}
use Rattle.sentence.proofs.reader.read_parts.Given as goal

abbrev pub invariant-loop-part : goal.invariant-loop-part
invariant-loop-part l = Read l.parts l.position l.ran l.last l.text

abbrev pub decreases-loop-part : goal.decreases-loop-part
decreases-loop-part l = length l.text
