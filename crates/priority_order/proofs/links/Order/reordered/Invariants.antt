-- The chain is linked along the places passed.
use Rattle.priority_order.proofs.Reordering.{Linking}
use Rattle.priority_order.proofs.links.Order.reordered.Given as goal

abbrev pub invariant-loop-place : goal.invariant-loop-place
invariant-loop-place l = Linking l.fn.self.words.now l.fn.self.places l.chain.words l.chain.link l.place-index
