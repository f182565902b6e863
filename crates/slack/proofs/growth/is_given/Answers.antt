use Rattle.std.proofs.Common.{not, ap, sym, ◌∙◌}
use Rattle.table.specs.Fit.{loaded_table}
use Rattle.slack.proofs.Ordered.{gives-accepted, gives-never}
use Rattle.slack.proofs.growth.is_given.Goals as goal

pub returns-then-is_ordered : goal.returns-then-is_ordered
returns-then-is_ordered c = ap not c.misses.ensures ∙ gives-accepted (loaded_table c.args.table.loaded) (sym c.is_ordered.ensures ∙ c.if-is_ordered.true)

pub returns-else-is_ordered : goal.returns-else-is_ordered
returns-else-is_ordered c = c.if-is_ordered.false ∙ gives-never (loaded_table c.args.table.loaded) (sym c.is_ordered.ensures ∙ c.if-is_ordered.false)
