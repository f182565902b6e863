use Rattle.std.proofs.Common.{List, [], ◌∷◌, ◌++◌, ℕ, ◌+◌, ◌≡◌, ◌<◌, ◌≤◌, ap, sym, ◌∙◌, arith, rules, length, get_or, map, take, drop, replicate}
use Rattle.std.proofs.Math.ListN.{length-map}
use Rattle.std.proofs.Math.Seq.{get_or-take, length-take-le}
use Rattle.std.proofs.lemmas.List.{drop-replicate}
use Rattle.model.proofs.Lists.{map_more}
use Rattle.model.specs.Sizes.{most_tasks}
use Rattle.table.specs.declared.Task as table
use Rattle.table.specs.Task.{task_of, tasks_of, no_task}
use Rattle.phase.specs.declared.Task.{Task}
use Rattle.phase.specs.Task.{unused, past_end, start_task}
use Rattle.run.specs.Start.{started_run}
use Rattle.run.proofs.Written.{written-more, take_more}
use Rattle.run.proofs.starts.begun.Goals as goal

-- the first i tasks as they start
abbrev starting : List table.Task → ℕ → List Task
starting tasks i = map start_task (tasks_of tasks i)

length-starting : (tasks : List table.Task) (i : ℕ) → i ≤ length tasks → length (starting tasks i) ≡ i
length-starting tasks i h =
    length-map (tasks_of tasks i) start_task ∙ (length-map (take i tasks) task_of ∙ length-take-le i tasks h)

-- one more
starting-more : (tasks : List table.Task) (i : ℕ) → i < length tasks → starting tasks (i + 1) ≡ starting tasks i ++ (start_task (task_of (get_or tasks i no_task)) ∷ [])
starting-more tasks i h =
    ap (λ (l : List table.Task). map start_task (map task_of l)) (take_more tasks i no_task h)
    ∙ (ap (map start_task) (map_more task_of (take i tasks) (get_or tasks i no_task)) ∙ map_more start_task (tasks_of tasks i) (task_of (get_or tasks i no_task)))

pub loop-i-preserved : goal.loop-i-preserved
loop-i-preserved c =
    let tasks = c.args.table.tasks in
    let l = c.loop-i in
    let places : length tasks ≡ most_tasks = search rules in
    let more =
    written-more (starting tasks l.i) (replicate most_tasks unused) l.i (start_task (task_of (get_or tasks l.i no_task))) past_end
    (length-starting tasks l.i (omega arith)) (omega arith) in
    let here = get_or-take c.args.table.count tasks l.i no_task (omega arith) in
    simp (l.invariant, c.from.ensures, here) (more ∙ ap (λ (k : List Task). k ++ drop (l.i + 1) (replicate most_tasks unused)) (sym (starting-more tasks l.i (omega arith))))

pub returns : goal.returns
unfolding started_run
returns c =
    let a = c.args.table in
    let l = c.loop-i in
    let e : l.i ≡ a.count = omega arith in
    let places : length a.tasks ≡ most_tasks = search rules in
    let n : length (tasks_of a.tasks a.count) ≡ a.count = length-map (take a.count a.tasks) task_of ∙ length-take-le a.count a.tasks (omega arith) in
    simp (l.invariant, e, n, drop-replicate a.count most_tasks unused)
