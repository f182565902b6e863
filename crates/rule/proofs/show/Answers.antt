-- A row can show the sets that the rule grants of the unfenced cores.
use Rattle.std.proofs.Common.{take, arith}
use Rattle.model.specs.Grants.{claimants}
use Rattle.model.specs.Search.{bit}
use Rattle.model.specs.Task.{rule_of}
use Rattle.cores.proofs.Unfenced.{open_of}
use Rattle.rule.specs.Widths.{widths_in}
use Rattle.rule.proofs.Sets.{sets-showable}
use Rattle.rule.proofs.show.Goals as goal

pub row_in-requires-clause-fact_2 : goal.row_in-requires-clause-fact_2
row_in-requires-clause-fact_2 c =
    let a = c.args in
    let free = c.unfenced_cores-free.result in
    sets-showable (rule_of a.rule) (claimants (take a.count (widths_in a.even a.widths.now)) (bit a.claiming)) a.count free c.grants-sets.result c.grants-sets.ensures
    a.fence a.cores (open_of free a.fence a.cores (omega arith) c.unfenced_cores-free.ensures)
