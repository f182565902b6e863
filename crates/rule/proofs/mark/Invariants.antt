use Rattle.std.proofs.Common.{◌≡◌, ◌^◌, ◌<◌}
use Rattle.model.specs.Members.{members}
use Rattle.rule.specs.Marked.{marked}
use Rattle.rule.proofs.mark.Given as goal

-- marking the cores that are left still gives the whole
abbrev pub invariant-loop-core : goal.invariant-loop-core
invariant-loop-core l =
    (l.core-iterator.rest < 2 ^ 64)
    × (marked l.row l.mark (members l.core-iterator.rest) ≡ marked l.fn.row l.mark (members l.fn.set))
