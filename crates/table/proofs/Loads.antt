-- What code gives at each stage of `load` is the value by the definitions.
use mathlib.Core.Path.{◌≡◌, refl, sym, ap, ◌∙◌}
use mathlib.Core.Bool.{Bool, cond, true, false}
use mathlib.Core.List.{List, [], ◌∷◌, map}
use lib.Dec.{eqb, ltb}
use Prim.Native.Nat.{ℕ, ◌+◌, ◌-◌, min, ◌≤◌, ◌<◌}
use native.Mathlib.Omega.{arith}
use lib.ListN.{length, get_or, drop, replicate, length-map}
use lib.Seq.{take_at, drop_at}
use borrow.Author.Tests.{eqb-true, eqb-false, ne_eqb, ltb-false}
use Rattle.model.specs.Task as model
use Rattle.model.specs.Horizon.{last_s, hyperperiod, horizon}
use Rattle.model.specs.Sizes.{most_tasks}
use Rattle.table.specs.declared.Task.{Task}
use Rattle.table.specs.Answer.{Answer, Passed}
use Rattle.model.specs.declared.refusal.Refusal.{Refusal}
use Rattle.model.specs.Refusal.{numbered, number_of, position_of}
use Rattle.table.specs.declared.Loaded.{Loaded}
use Rattle.std.specs.Prelude.{Ok, Err}
use Rattle.table.specs.Answer.{Past, Again, Whole}
use Rattle.table.specs.Task.{task_of, tasks_of, no_task, InLimits}
use Rattle.table.specs.Words.{core_count, rule, fence, count, table_of}
use Rattle.table.specs.Limits.{task_number, task_out, width_out, times_out, horizon_out, most_horizon}
use Rattle.table.specs.Answer.{Ending, Refused, answer_in, header_answer, chain_answer, header_number, first_out, tasks_answer, width_limit, by_horizon, by_tasks, ending_of, by_walk, answer_of}
use Rattle.table.specs.Load.{code_task, code_tasks, passing, refusal, loaded_by, table_with, load_of}
use Rattle.table.proofs.Places.{tasks-length, task-at}
use Rattle.table.proofs.Tasks.{table-length}
use Rattle.table.proofs.FirstOut.{none-out}
use Rattle.table.proofs.Inside.{inside-test}
use Rattle.table.proofs.Hyperperiods.{exceeds-capped, capped-exact}

-- the tasks that are in the places
placed-back : (τs : List model.Task) → map task_of (map code_task τs) ≡ τs
placed-back [] = refl
placed-back (τ ∷ τs) = ap {B = List model.Task} (λ ts. τ ∷ ts) (placed-back τs)

pub places-tasks : (τs : List model.Task) → tasks_of (code_tasks τs) (length τs) ≡ τs
places-tasks τs =
    ap (map task_of) (take_at (map code_task τs) (replicate (most_tasks - length τs) no_task) (length τs) (length-map τs code_task)) ∙ placed-back τs

-- so the places of a walk that ended at the zero hold the tasks of the words
pub walked-tasks : (ws : List ℕ) (tasks : List Task) (many : ℕ) → tasks ≡ code_tasks (table_of ws).tasks → many ≡ count ws → tasks_of tasks many ≡ (table_of ws).tasks
walked-tasks ws tasks many e n = rw (e, n ∙ sym (table-length ws)) (places-tasks (table_of ws).tasks)

pub places-past : (τs : List model.Task) → drop (length τs) (code_tasks τs) ≡ replicate (most_tasks - length τs) no_task
places-past τs = drop_at (map code_task τs) (replicate (most_tasks - length τs) no_task) (length τs) (length-map τs code_task)

-- THE HORIZON

-- P capped decides 9 ..
pub horizon-test : (s : model.Table) (start period : ℕ) → start ≡ last_s s.tasks → period ≡ min (hyperperiod s.tasks) (most_horizon + 1)
    → horizon_out (start + period) ≡ horizon_out (horizon s)
unfolding horizon
horizon-test s start period e f = rw (e, f) (exceeds-capped most_horizon (last_s s.tasks) (hyperperiod s.tasks))

pub by-far : (s : model.Table) (l : Loaded) → horizon_out (horizon s) ≡ true → loaded_by (by_horizon s) l ≡ refusal 9 0
unfolding by_horizon
by-far s l e = rw e

pub by_near : (s : model.Table) (l : Loaded) → horizon_out (horizon s) ≡ false → loaded_by (by_horizon s) l ≡ Ok l
unfolding by_horizon
by_near s l e = rw e

-- .. and where it does not exceed, the table is made of it
pub made : (m f r : ℕ) (tasks : List Task) (count start period : ℕ) → count ≤ length tasks → tasks ≡ code_tasks (tasks_of tasks count)
    → start ≡ last_s (tasks_of tasks count) → period ≡ min (hyperperiod (tasks_of tasks count)) (most_horizon + 1) → horizon_out (start + period) ≡ false
    → ◌≡◌ {A = Loaded}
    (record { count = count; cores = m; fence = f; rule = r; tasks = tasks; start = start; period = period; horizon = start + period })
    (passing r (table_with m f r (tasks_of tasks count)))
unfolding horizon
made m f r tasks count start period there whole e g near =
    let counted = sym (tasks-length tasks count there) in
    let most : start + period ≤ most_horizon = ltb-false most_horizon (start + period) near in
    let exact : period ≡ hyperperiod (tasks_of tasks count) =
    g ∙ capped-exact most_horizon start (hyperperiod (tasks_of tasks count)) (omega arith) in
    let sum : start + period ≡ last_s (tasks_of tasks count) + hyperperiod (tasks_of tasks count) = omega arith in
    λ i. record { count = counted i; cores = m; fence = f; rule = r; tasks = whole i; start = e i; period = exact i; horizon = sum i }

-- THE TASKS

-- 7 or 8 of a task, and where there is none the horizon decides
module _ (s : model.Table) (l : Loaded) where
  pub by-number : (n p : ℕ) → Refused n p ≡ tasks_answer (width_limit s) s.tasks → refusal n p ≡ loaded_by (by_tasks s) l
  unfolding by_tasks
  by-number n p = go (ltb (first_out (width_limit s) s.tasks) (length s.tasks)) _ _
    where
      go : (t : Bool) (m q : ℕ) → Refused n p ≡ cond t (Refused m q) Passed → refusal n p ≡ loaded_by (cond t (Refused m q) (by_horizon s)) l
      go true m q e = ap (λ (a : Answer). loaded_by a l) e
      go false m q e = absurd (cc)

  pub by-none : Passed ≡ tasks_answer (width_limit s) s.tasks → loaded_by (by_horizon s) l ≡ loaded_by (by_tasks s) l
  unfolding by_tasks
  by-none = go (ltb (first_out (width_limit s) s.tasks) (length s.tasks)) _ _
    where
      go : (t : Bool) (m q : ℕ) → Passed ≡ cond t (Refused m q) Passed → loaded_by (by_horizon s) l ≡ loaded_by (cond t (Refused m q) (by_horizon s)) l
      go true m q e = absurd (cc)
      go false m q e = refl

-- the number of a task that is turned down: 7 by a width, else 8
pub width-number : (m : ℕ) (τ : model.Task) → width_out m τ ≡ true → task_number m τ ≡ 7
width-number m τ e = rw e

pub time-number : (m : ℕ) (τ : model.Task) → width_out m τ ≡ false → times_out τ ≡ true → task_number m τ ≡ 8
time-number m τ e f = rw (e, f)

pub in-number : (m : ℕ) (τ : model.Task) → width_out m τ ≡ false → times_out τ ≡ false → task_out m τ ≡ false
in-number m τ e f = rw (e, f)

-- where no task is turned down, each is within its limits
pub in-limits : (m : ℕ) (tasks : List Task) (count : ℕ) → count ≤ length tasks → Passed ≡ tasks_answer m (tasks_of tasks count) → InLimits tasks count
in-limits m tasks count there e p h =
    let l : p < length (tasks_of tasks count) = omega (arith, tasks-length tasks count there) in
    let i = inside-test m (task_of (get_or tasks p no_task)) (ap (task_out m) (sym (task-at tasks count p h)) ∙ none-out m (tasks_of tasks count) e p l) in
    record { offset-most = i.offset-most; period-least = i.period-from.0; period-most = i.period-from.1 }

-- THE HEADER AND THE WALK

table-with : (ws : List ℕ) → table_with (core_count ws) (fence ws) (rule ws) (table_of ws).tasks ≡ table_of ws
unfolding table_of
table-with ws = refl

pub load-header : (ws : List ℕ) → (header_number ws ≡ 0 → ⊥) → load_of ws ≡ refusal (header_number ws) 0
unfolding load_of answer_of
load-header ws n = rw (ne_eqb (header_number ws) 0 n)

module _ (ws : List ℕ) (fine : header_number ws ≡ 0) where
  pub load_past : ending_of ws ≡ Past → load_of ws ≡ refusal 5 0
  unfolding load_of answer_of by_walk
  load_past e = rw (fine, e)

  pub load_again : ending_of ws ≡ Again → load_of ws ≡ refusal 6 0
  unfolding load_of answer_of by_walk
  load_again e = rw (fine, e)

  pub load-tasks : ending_of ws ≡ Whole → load_of ws ≡ loaded_by (by_tasks (table_of ws)) (passing (rule ws) (table_of ws))
  unfolding load_of answer_of by_walk
  load-tasks e = rw (fine, e)

  pub load-whole : ending_of ws ≡ Whole → (tasks : List Task) (many : ℕ) → tasks ≡ code_tasks (table_of ws).tasks → many ≡ count ws
      → loaded_by (by_tasks (table_with (core_count ws) (fence ws) (rule ws) (tasks_of tasks many))) (passing (rule ws) (table_with (core_count ws) (fence ws) (rule ws) (tasks_of tasks many))) ≡ load_of ws
  load-whole e tasks many h n =
      ap (λ (τs : List model.Task). loaded_by (by_tasks (table_with (core_count ws) (fence ws) (rule ws) τs)) (passing (rule ws) (table_with (core_count ws) (fence ws) (rule ws) τs)))
      (walked-tasks ws tasks many h n)
      ∙ ap (λ (s : model.Table). loaded_by (by_tasks s) (passing (rule ws) s)) (table-with ws)
      ∙ sym (load-tasks e)

-- a test of the header, and a walk, that pass
pub header-passed : (ws : List ℕ) → Passed ≡ header_answer ws → header_number ws ≡ 0
header-passed ws = go (eqb (header_number ws) 0) refl
  where
    go : (t : Bool) → eqb (header_number ws) 0 ≡ t → Passed ≡ cond t Passed (Refused (header_number ws) 0) → header_number ws ≡ 0
    go true e h = eqb-true (header_number ws) 0 e
    go false e h = absurd (let z : ◌≡◌ {A = ℕ} 0 1 = cc in omega arith)

pub chain-whole : (e : Ending) → Passed ≡ chain_answer e → e ≡ Whole
chain-whole Past h = absurd (let z : ◌≡◌ {A = ℕ} 0 1 = cc in omega arith)
chain-whole Again h = absurd (let z : ◌≡◌ {A = ℕ} 0 1 = cc in omega arith)
chain-whole Whole h = refl

-- .. and that turn the words down
pub header-refused : (ws : List ℕ) (x : Refusal) → answer_in {T = Loaded} (Err x) ≡ header_answer ws → numbered (Err x) ≡ load_of ws
header-refused ws x = go (eqb (header_number ws) 0) refl
  where
    go : (t : Bool) → eqb (header_number ws) 0 ≡ t → Refused (number_of x) (position_of x) ≡ cond t Passed (Refused (header_number ws) 0) → Err (number_of x, position_of x) ≡ load_of ws
    go true e h = absurd (let z : ◌≡◌ {A = ℕ} 0 1 = cc in omega arith)
    go false e h = ap (λ a. loaded_by a (passing (rule ws) (table_of ws))) h ∙ sym (load-header ws (eqb-false (header_number ws) 0 e))

pub chain-refused : (ws : List ℕ) (x : Refusal) → header_number ws ≡ 0 → answer_in {T = Loaded} (Err x) ≡ chain_answer (ending_of ws) → numbered (Err x) ≡ load_of ws
chain-refused ws x fine h = go (ending_of ws) refl (h)
  where
    go : (e : Ending) → ending_of ws ≡ e → Refused (number_of x) (position_of x) ≡ chain_answer e → Err (number_of x, position_of x) ≡ load_of ws
    go Past f g = ap (λ a. loaded_by a (passing (rule ws) (table_of ws))) g ∙ sym (load_past ws fine f)
    go Again f g = ap (λ a. loaded_by a (passing (rule ws) (table_of ws))) g ∙ sym (load_again ws fine f)
    go Whole f g = absurd (let z : ◌≡◌ {A = ℕ} 0 1 = cc in omega arith)
