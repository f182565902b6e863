use Rattle.std.proofs.Common.{get_or, rules}
use Rattle.model.specs.Grants.{some}
use Rattle.cores.specs.Cores.{cores}
use Rattle.rule.proofs.owners.Goals as goal

pub returns : goal.returns
returns c = c.places_where.ensures (λ p. some (cores (get_or c.args.sets.now p 0))) (λ p r l e. search rules)
