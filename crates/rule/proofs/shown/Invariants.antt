-- The places below i are as they are shown, the others have no set yet.
use Rattle.rule.proofs.Showing.{Shows}
use Rattle.rule.proofs.shown.Given as goal

abbrev pub invariant-loop-i : goal.invariant-loop-i
invariant-loop-i l = Shows l.reserved l.borrowed l.count l.sets l.i
