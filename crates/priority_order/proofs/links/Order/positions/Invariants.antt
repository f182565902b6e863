-- The places passed hold their positions, the others zero.
use Rattle.priority_order.specs.Answer.{positions_of}
use Rattle.priority_order.proofs.Filling.{Filled}
use Rattle.priority_order.proofs.links.Order.positions.Given as goal

abbrev pub invariant-loop-i : goal.invariant-loop-i
invariant-loop-i l = Filled (positions_of l.self.count l.self.places) l.i l.positions
