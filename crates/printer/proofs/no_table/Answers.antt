-- `printer::no_table`: the derived default is zeros, and each task of it is none.
use Rattle.std.proofs.Common.{◌≡◌, ◌∙◌, sym, replicate, arith, ext_get_or}
use Rattle.std.proofs.lemmas.List.{get_or-replicate, length-replicate}
use Rattle.model.specs.Sizes.{most_tasks}
use Rattle.table.specs.Task.{no_task}
use Rattle.table.proofs.Places.{none-is}
use Rattle.printer.proofs.no_table.Goals as goal

pub returns : goal.returns
returns c =
    let e = c.default.ensures in
    let all = e.1.1.1.1.0 in
    let none : c.default.result.tasks ≡ replicate most_tasks no_task =
    ext_get_or no_task c.default.result.tasks (replicate most_tasks no_task) (all.long ∙ sym (length-replicate most_tasks no_task))
    (λ i l. none-is _ (all.at i no_task (omega (arith, all.long))) ∙ sym (get_or-replicate most_tasks i no_task no_task (omega (arith, all.long)))) in
    λ i. record {
      count = e.0 i;
      cores = e.1.0 i;
      fence = e.1.1.0 i;
      rule = e.1.1.1.0 i;
      tasks = none i;
      start = e.1.1.1.1.1.0 i;
      period = e.1.1.1.1.1.1.0 i;
      horizon = e.1.1.1.1.1.1.1 i;
    }
