-- `Seen` says what code has of the orders tried so far.
use Rattle.priority_order.specs.Repair.{late_in}
use Rattle.priority_order.proofs.Searching.{Seen}
use Rattle.priority_order.proofs.search.Given as goal

abbrev pub invariant-loop-number : goal.invariant-loop-number
invariant-loop-number l = Seen l.words l.number l.accepted (late_in l.late)
