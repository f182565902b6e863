-- What is left of the repair has the answer of the whole (`Going`).
use Rattle.std.proofs.Common.{◌+◌}
use Rattle.priority_order.specs.Repair.{late_in}
use Rattle.priority_order.proofs.Choosing.{Going}
use Rattle.priority_order.proofs.repaired.Given as goal

abbrev pub invariant-loop-made : goal.invariant-loop-made
invariant-loop-made l = Going l.words l.count l.tried l.most (late_in l.initial.late) l.initial.kept (late_in l.late) l.kept (l.made + 1) l.power l.made
