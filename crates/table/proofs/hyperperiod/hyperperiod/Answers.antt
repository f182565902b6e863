-- The product is the hyperperiod of one task more, and the hyperperiod of more tasks is no smaller.
use Rattle.std.proofs.Common.{◌≡◌, refl, ap, ◌∙◌, subst, List, map, ℕ, ◌+◌, ◌*◌, ◌/◌, ◌≤◌, ◌<◌, length, get_or, take, arith, rules}
use native.Mathlib.Nat.{pos_of_dvd_of_pos, lt_of_le_of_lt, le_trans, mul-le-mul, div-le_self}
use lib.Dec.{lit<}
use Rattle.model.specs.Horizon.{hyperperiod}
use Rattle.model.specs.Task.{cycle}
use Rattle.model.proofs.Starts.{hyperperiod-pos}
use Rattle.table.specs.declared.Task.{Task}
use Rattle.table.specs.Gcd.{Gcd}
use Rattle.table.specs.Limits.{most_horizon, most_time}
use Rattle.table.specs.Task.{task_of, no_task, InLimits}
use Rattle.table.proofs.Hyperperiods.{cycle-most, hyperperiod-next, hyperperiod-over}
use Rattle.table.proofs.hyperperiod.hyperperiod.Goals as goal

pub loop-task-init : goal.loop-task-init
unfolding hyperperiod
loop-task-init c = record { within = search rules; is = refl }

pub nonzero_div-multiple : goal.nonzero_div-multiple
nonzero_div-multiple c =
    pos_of_dvd_of_pos c.gcd.ensures.left (omega (arith, c.loop-task.invariant.is, hyperperiod-pos (take c.loop-task.task-index (map task_of c.args.tasks.now))))

module _ (tasks : List Task) (i span : ℕ) (limits : InLimits tasks (length tasks)) (l : i < length tasks) (e : span ≡ cycle (task_of (get_or tasks i no_task))) where
  most : span ≤ 2 * most_time
  most = omega (arith, e, cycle-most (get_or tasks i no_task) (limits i l))

  next : (m g : ℕ) → m ≡ hyperperiod (take i (map task_of tasks)) → Gcd m span g → m / g * span ≡ hyperperiod (take (i + 1) (map task_of tasks))
  next m g h d =
      ap (λ (n : ℕ). m / g * n) e ∙ hyperperiod-next tasks limits m i g h l (subst (λ (n : ℕ). Gcd m n g) e d)

pub overflow_mul-multiple : goal.overflow_mul-multiple
overflow_mul-multiple c =
    let l = c.loop-task in
    let few : c.cycle-span.result ≤ 2 * most_time = most c.args.tasks.now l.task-index c.cycle-span.result c.requires (search rules) c.cycle-span.ensures in
    record { fits = lt_of_le_of_lt (mul-le-mul (le_trans (div-le_self l.multiple c.gcd.result) l.invariant.within) few) (lit< tt) }

pub returns-then-from-multiple : goal.returns-then-from-multiple
returns-then-from-multiple c =
    let tasks = c.args.tasks.now in
    let l = c.loop-task in
    let more = next tasks l.task-index c.cycle-span.result c.requires (search rules) c.cycle-span.ensures l.multiple c.gcd.result l.invariant.is c.gcd.ensures in
    hyperperiod-over tasks c.requires most_horizon (l.task-index + 1) (subst (λ (n : ℕ). most_horizon < n) more (subst (λ (n : ℕ). n < l.multiple / c.gcd.result * c.cycle-span.result) c.from.ensures c.if-from-multiple.true))

pub loop-task-preserved : goal.loop-task-preserved
loop-task-preserved c =
    let l = c.loop-task in
    record {
      within = subst (λ (n : ℕ). l.multiple / c.gcd.result * c.cycle-span.result ≤ n) c.from.ensures c.if-from-multiple.false;
      is = next c.args.tasks.now l.task-index c.cycle-span.result c.requires (search rules) c.cycle-span.ensures l.multiple c.gcd.result l.invariant.is c.gcd.ensures;
    }
