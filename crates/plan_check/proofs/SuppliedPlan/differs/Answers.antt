-- Some phase is not the recorded one: the chain compares the tasks below the count with the notes.
use Rattle.std.proofs.Common.{◌∙◌, not, take, rules, tests, arith}
use Rattle.std.proofs.lemmas.Iterator.{YieldsList-from_slice, YieldsList-from_zip}
use Rattle.std.proofs.lemmas.Iterator.Search.{any_from_yields_List}
use Rattle.phase.specs.Task.{past_end}
use Rattle.plan_check.specs.Numbers.{differs, same_phase}
use Rattle.plan_check.specs.State.{past_note}
use Rattle.plan_check.proofs.AnyPlace.{any_of_pairs}
use Rattle.plan_check.proofs.SuppliedPlan.differs.Goals as goal

pub returns : goal.returns
unfolding differs
returns c =
    let w = c.args.self in
    any_from_yields_List (λ x. not (same_phase x.0.phase x.1.phase)) c.any.new.self _ _ c.any.ensures.ran
    (YieldsList-from_zip (YieldsList-from_slice (take w.run.count w.run.tasks) cc) (YieldsList-from_slice w.noted cc))
    (λ x b q k. search (rules, tests))
    ∙ any_of_pairs _ w.run.tasks w.noted w.run.count past_end past_note (omega arith) (omega arith)
