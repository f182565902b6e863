use Rattle.std.proofs.Common.{ap, ◌∙◌}
use Rattle.slack.specs.Slack.{misses}
use Rattle.slack.proofs.LongerIn.{longer-fit, longer-table}
use Rattle.slack.proofs.growth.misses_longer.Goals as goal

pub invariant_of-misses : goal.invariant_of-misses
invariant_of-misses c = let a = c.args in record { fit = longer-fit a.table.loaded a.table.fit a.place c.requires.0 a.growth }

pub returns : goal.returns
returns c = let a = c.args in c.misses.ensures ∙ ap misses (longer-table a.table.loaded c.args.table.fit a.place c.requires.0 a.growth)
