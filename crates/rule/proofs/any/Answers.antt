-- A set that is not 0 has a core.
use Rattle.std.proofs.Common.{sym}
use Rattle.rule.proofs.Unions.{some-cores}
use Rattle.rule.proofs.any.Goals as goal

pub returns : goal.returns
returns c = sym (some-cores c.args.set c.ranges.set.fits)
