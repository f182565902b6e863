-- Some task is late: the chain tests the tasks below the count.
use Rattle.std.proofs.Common.{◌∙◌, take, rules, tests, arith}
use Rattle.std.proofs.lemmas.Iterator.{YieldsList-from_slice}
use Rattle.std.proofs.lemmas.Iterator.Search.{any_from_yields_List}
use Rattle.phase.specs.Phase.{late_in}
use Rattle.phase.specs.Task.{past_end}
use Rattle.plan_check.specs.Numbers.{missed}
use Rattle.plan_check.proofs.AnyPlace.{any_of_first}
use Rattle.plan_check.proofs.bounds.missed.Goals as goal

pub returns : goal.returns
unfolding missed
returns c =
    let r = c.args.run in
    any_from_yields_List (λ t. late_in t.parameters.deadline t.phase) _ _ _ c.any.ensures.ran (YieldsList-from_slice (take r.count r.tasks) cc) (λ x b q k. search (rules, tests))
    ∙ any_of_first _ r.tasks r.count past_end (omega arith)
