-- The number is that of the record at the places passed.
use Rattle.std.proofs.Common.{◌≡◌}
use Rattle.table.specs.Words.{visited}
use Rattle.priority_order.proofs.links.record_at.Given as goal

abbrev pub invariant-loop : goal.invariant-loop
invariant-loop l = l.number ≡ visited l.words l.counter
