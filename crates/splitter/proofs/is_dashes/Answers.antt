use Rattle.std.proofs.Common.{◌∙◌, ap}
use lib.Dec.{eqb}
use Rattle.std.specs.Cmp.Lexicographic.{pointwise}
use Rattle.splitter.proofs.Splits.{dashes-same}
use Rattle.splitter.proofs.is_dashes.Goals as goal

pub returns : goal.returns
returns c = c.eq.ensures ∙ ap (pointwise eqb c.args.line.now) c.as_slice.ensures ∙ dashes-same c.args.line.now
