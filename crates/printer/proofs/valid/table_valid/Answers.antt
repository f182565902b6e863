use Rattle.std.proofs.Common.{◌≡◌, List, ap, sym, ◌∙◌, arith, rules, take, min}
use borrow.Author.Tests.{tests}
use Rattle.std.proofs.lemmas.Iterator.{cases_from_all, YieldsList-from_slice}
use Rattle.model.specs.Fence.{unfenced_count}
use Rattle.table.specs.Task.{task_of}
use Rattle.table.specs.Limits.{task_number}
use Rattle.table.specs.declared.Task.{Task}
use Rattle.printer.proofs.Limits.{many-out, wide-out, valid_all}
use Rattle.printer.proofs.valid.table_valid.Goals as goal

pub returns-then-count-gt-MOST_TASKS : goal.returns-then-count-gt-MOST_TASKS
returns-then-count-gt-MOST_TASKS c = sym (many-out c.args.table c.if-count-gt-MOST_TASKS.true)

pub returns-then-cores-gt-MOST_CORES : goal.returns-then-cores-gt-MOST_CORES
returns-then-cores-gt-MOST_CORES c = sym (wide-out c.args.table c.if-count-gt-MOST_TASKS.false c.if-cores-gt-MOST_CORES.true)

pub returns : goal.returns
returns c =
    let t = c.args.table in
    let wide = c.unfenced_count-wide.result in
    -- a width is measured against the unfenced cores
    let all : min t.cores 64 ≡ t.cores = omega (arith, c.if-cores-gt-MOST_CORES.false) in
    let measured : wide ≡ unfenced_count t.fence t.cores = c.unfenced_count-wide.ensures ∙ ap (unfenced_count t.fence) all in
    let xs : List Task = take t.count t.tasks in
    valid_all t wide c.all.result c.if-count-gt-MOST_TASKS.false c.if-cores-gt-MOST_CORES.false (omega arith) measured
    (cases_from_all _ _ c.all.result (λ (x : Task). task_number wide (task_of x) ≡ 0) (λ (x : Task). task_number wide (task_of x) ≡ 0 → ⊥) c.all.ensures.ran
    (YieldsList-from_slice xs cc) (λ x q k. search (rules, tests)) (λ x q k. search (rules, tests)))
