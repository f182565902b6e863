-- No step wraps, since S grows by less than a period a place.
use Rattle.std.proofs.Common.{◌≡◌, sym, ap, ◌∙◌, subst, List, ℕ, ◌+◌, ◌-◌, ◌<◌, length, get_or, take, drop, arith, rules}
use lib.ListN.{get_or-map}
use lib.Seq.{get_or-take, get_or-drop}
use Rattle.model.specs.Task as model
use Rattle.model.specs.Horizon.{release_from, S}
use Rattle.table.specs.declared.Task.{Task}
use Rattle.table.specs.Task.{task_of, no_task, TimesWithin}
use Rattle.table.proofs.Starts.{S-bound, S-next}
use Rattle.table.proofs.positions.last_start.Goals as goal

-- the tasks after the first, by place
behind : (tasks : List Task) (i : ℕ) → i < length tasks - 1 → get_or (take (length tasks - 1) (drop 1 tasks)) i no_task ≡ get_or tasks (i + 1) no_task
behind tasks i h = get_or-take (length tasks - 1) (drop 1 tasks) i no_task h ∙ search (rules, get_or-drop 1 tasks i no_task)

pub loop-task-init : goal.loop-task-init
unfolding S
loop-task-init c = sym (ap (λ (τ : model.Task). τ.offset) (get_or-map task_of c.args.tasks.now 0 no_task))

pub release_from-start-requires-clause-fact_1 : goal.release_from-start-requires-clause-fact_1
release_from-start-requires-clause-fact_1 c =
    subst TimesWithin (sym (behind c.args.tasks.now c.loop-task.task-index (search rules))) (c.requires.limits (c.loop-task.task-index + 1) (omega arith))

pub release_from-start-requires-clause-fact_2 : goal.release_from-start-requires-clause-fact_2
release_from-start-requires-clause-fact_2 c =
    omega (arith, c.requires.few, S-bound c.args.tasks.now c.requires.limits c.loop-task.task-index (omega arith))

pub loop-task-preserved : goal.loop-task-preserved
loop-task-preserved c =
    let tasks = c.args.tasks.now in
    let i = c.loop-task.task-index in
    c.release_from-start.ensures
    ∙ (ap (λ (t : Task). release_from (task_of t) c.loop-task.start) (behind tasks i (search rules))
    ∙ (ap (release_from (task_of (get_or tasks (i + 1) no_task))) c.loop-task.invariant
    ∙ sym (S-next tasks c.requires.limits i)))
