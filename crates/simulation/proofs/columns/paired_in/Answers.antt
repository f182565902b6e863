use Rattle.std.proofs.Common.{rules}
use borrow.Author.Tests.{tests}
use Rattle.simulation.specs.TickState.{paired_in}
use Rattle.simulation.proofs.Fields.{differs}
use Rattle.simulation.proofs.Sets.{set-of-all}
use Rattle.simulation.proofs.columns.paired_in.Goals as goal

pub returns : goal.returns
unfolding paired_in
returns c =
    let test = differs c.args.tasks in
    set-of-all test _ c.places_where.type_inv (c.places_where.ensures test (λ p r l e. search (rules, tests)))
