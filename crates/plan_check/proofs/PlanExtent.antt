-- The last S and the horizon of a run that passes 14, by the tasks of the table that it is of.
use Rattle.std.specs.Prelude.{Err}
use mathlib.Core.Bool.{Bool, cond, false, true}
use mathlib.Core.List.{List}
use mathlib.Core.Path.{ap, sym, subst, ◌∙◌, ◌≡◌, refl}
use mathlib.Core.Logic.{◌⊎◌, inl, inr}
use Prim.Native.Nat.{◌+◌, ◌-◌, ◌<◌, min, ℕ, ◌≤◌}
use native.Mathlib.Omega.{arith}
use lib.ListN.{get_or-map, get_or, length, length-take, take}
use lib.Seq.{get_or-take}
use borrow.Author.Tests.{ltb-false, ne_eqb}
use Rattle.model.specs.Horizon.{horizon, hyperperiod, last_s}
use Rattle.model.specs.Refusal.{number_of, position_of}
use Rattle.model.specs.Sizes.{most_tasks}
use Rattle.model.specs.Task as model
use Rattle.model.specs.declared.refusal.Refusal.{Refusal}
use Rattle.model.specs.declared.refusal.Refusal.TheVariants.{NotATable, BadCores, BadRule, NoHead, NoRecord, RecordAgain, BadWidth, BadTime, LongHorizon, BadRange, ShortRows, PastMiss, TableMisses, NotARun, Late, BadReport, NoMiss, ShortBuffer, BadFence, BadEmpty, NotFirm, NoPosition, SlackNotGiven, BadRow, DeadlineMissed, PhasesDiffer}
use Rattle.table.proofs.Hyperperiods.{capped-exact}
use Rattle.table.proofs.Inside.{inside-test}
use Rattle.table.proofs.Loads.{horizon-test}
use Rattle.table.proofs.Places.{task-at}
use Rattle.table.proofs.Tests.{from-decides}
use Rattle.table.specs.Limits.{horizon_out, most_horizon, task_out}
use Rattle.table.specs.Task.{InLimits, TimesWithin, no_task, tasks_of}
use Rattle.table.specs.Task as table
use Rattle.table.specs.declared.Task.{Task}
use Rattle.phase.specs.Task.{past_end, task_of}
use Rattle.run.proofs.Limits.{in_array, passes-if}
use Rattle.run.specs.Numbers.{run_out, width_limit_in}
use Rattle.run.specs.Run.{run_table, run_task_at, tasks_in}
use Rattle.run.specs.declared.Run.{Run}
use Rattle.plan_check.specs.Extent.{ExtentOf, Ready, extent_in, extent_of, first_number}
use Rattle.plan_check.specs.Numbers.{state_out}
use Rattle.plan_check.specs.State.{horizon_in}
use Rattle.plan_check.specs.CheckRow.{check_row_of}
use Rattle.plan_check.specs.declared.SuppliedPlan.{SuppliedPlan}
use Rattle.plan_check.proofs.Cases.{refusal, take-refused}
use Rattle.plan_check.proofs.Working.{horizon-kept}

module _ (r : Run) (e : run_out r ≡ false) where
  pub some-tasks : 1 ≤ r.count
  some-tasks = ((from-decides 1 most_tasks r.count).0 (passes-if r e).count).0

  -- the task at a place of the table that the run is of
  pub tasks-at : (p : ℕ) → p < r.count → get_or (tasks_in r) p model.absent_task ≡ run_task_at r p
  tasks-at p l = get_or-map task_of (take r.count r.tasks) p past_end ∙ ap task_of (get_or-take r.count r.tasks p past_end l)

  -- they are within the limits that S and P need
  pub plain-within : (ts : List Task) → tasks_of ts r.count ≡ tasks_in r → InLimits ts r.count
  plain-within ts same p l =
      let at : table.task_of (get_or ts p no_task) ≡ run_task_at r p =
      sym (task-at ts r.count p l) ∙ (ap (λ (τs : List model.Task). get_or τs p model.absent_task) same ∙ tasks-at p l) in
      let i = inside-test (width_limit_in r) (table.task_of (get_or ts p no_task)) (ap (task_out (width_limit_in r)) at ∙ (passes-if r e).tasks p l) in
      record { offset-most = i.offset-most; period-least = i.period-from.0; period-most = i.period-from.1 }

  -- .. as the slice of them has it
  pub slice-within : (ts : List Task) → tasks_of ts r.count ≡ tasks_in r → InLimits (take r.count ts) (length (take r.count ts))
  slice-within ts same p l =
      let here : p < r.count = omega (arith, length-take r.count ts) in
      subst TimesWithin (sym (get_or-take r.count ts p no_task here)) (plain-within ts same p here)

-- S and P capped decide 9 ..
pub horizon-out :
    (r : Run) (ts : List Task) (start period : ℕ) → tasks_of ts r.count ≡ tasks_in r → start ≡ last_s (tasks_of ts r.count)
    → period ≡ min (hyperperiod (tasks_of ts r.count)) (most_horizon + 1) → horizon_out (start + period) ≡ horizon_out (horizon_in r)
horizon-out r ts start period same s p =
    horizon-test (run_table r) start period (s ∙ ap last_s same) (p ∙ ap (λ (τs : List model.Task). min (hyperperiod τs) (most_horizon + 1)) same)

-- .. and where it does not apply, they are exact
pub horizon-near :
    (r : Run) (ts : List Task) (start period : ℕ) → tasks_of ts r.count ≡ tasks_in r → start ≡ last_s (tasks_of ts r.count)
    → period ≡ min (hyperperiod (tasks_of ts r.count)) (most_horizon + 1) → horizon_out (start + period) ≡ false → state_out r ≡ false → Ready r start (start + period)
unfolding horizon
horizon-near r ts start period same s p near e =
    let most : start + period ≤ most_horizon = ltb-false most_horizon (start + period) near in
    let S : start ≡ last_s (tasks_in r) = s ∙ ap last_s same in
    let P : period ≡ min (hyperperiod (tasks_in r)) (most_horizon + 1) = p ∙ ap (λ (τs : List model.Task). min (hyperperiod τs) (most_horizon + 1)) same in
    let exact : period ≡ hyperperiod (tasks_in r) = P ∙ capped-exact most_horizon start (hyperperiod (tasks_in r)) (omega arith) in
    let sum : start + period ≡ last_s (tasks_in r) + hyperperiod (tasks_in r) = omega arith in
    record { passes = e; start = S; horizon = sum; within = omega arith }

-- 14 and 9 by the first number
pub number-14 : (r : Run) → state_out r ≡ true → first_number r ≡ 14
unfolding first_number
number-14 r e = rw e

pub number-9 : (r : Run) → state_out r ≡ false → horizon_out (horizon_in r) ≡ true → first_number r ≡ 9
unfolding first_number
number-9 r e f = rw (e, f)

pub number-none : (r : Run) → state_out r ≡ false → horizon_out (horizon_in r) ≡ false → first_number r ≡ 0
unfolding first_number
number-none r e f = rw (e, f)

-- no refusal has number 0
number-some : (e : Refusal) → ¬ (number_of e ≡ 0)
number-some NotATable h = absurd (omega arith)
number-some BadCores h = absurd (omega arith)
number-some BadRule h = absurd (omega arith)
number-some NoHead h = absurd (omega arith)
number-some NoRecord h = absurd (omega arith)
number-some RecordAgain h = absurd (omega arith)
number-some (BadWidth p) h = absurd (omega arith)
number-some (BadTime p) h = absurd (omega arith)
number-some LongHorizon h = absurd (omega arith)
number-some BadRange h = absurd (omega arith)
number-some ShortRows h = absurd (omega arith)
number-some PastMiss h = absurd (omega arith)
number-some TableMisses h = absurd (omega arith)
number-some NotARun h = absurd (omega arith)
number-some (Late p) h = absurd (omega arith)
number-some BadReport h = absurd (omega arith)
number-some NoMiss h = absurd (omega arith)
number-some ShortBuffer h = absurd (omega arith)
number-some BadFence h = absurd (omega arith)
number-some BadEmpty h = absurd (omega arith)
number-some NotFirm h = absurd (omega arith)
number-some NoPosition h = absurd (omega arith)
number-some SlackNotGiven h = absurd (omega arith)
number-some (BadRow p) h = absurd (omega arith)
number-some (DeadlineMissed p) h = absurd (omega arith)
number-some (PhasesDiffer p) h = absurd (omega arith)

-- 14 and 9 have no position
abbrev Plain : ℕ → Type 0
Plain n = (n ≡ 14) ⊎ ((n ≡ 9) ⊎ (n ≡ 0))

plain-number : (r : Run) → Plain (first_number r)
unfolding first_number
plain-number r = go (state_out r) (horizon_out (horizon_in r))
  where
    go : (a b : Bool) → Plain (cond a 14 (cond b 9 0))
    go true b = inl refl
    go false true = inr (inl refl)
    go false false = inr (inr refl)

plain-position : (e : Refusal) → Plain (number_of e) → position_of e ≡ 0
plain-position NotATable h = refl
plain-position BadCores h = refl
plain-position BadRule h = refl
plain-position NoHead h = refl
plain-position NoRecord h = refl
plain-position RecordAgain h = refl
plain-position (BadWidth p) h = absurd (omega (arith, h))
plain-position (BadTime p) h = absurd (omega (arith, h))
plain-position LongHorizon h = refl
plain-position BadRange h = refl
plain-position ShortRows h = refl
plain-position PastMiss h = refl
plain-position TableMisses h = refl
plain-position NotARun h = refl
plain-position (Late p) h = absurd (omega (arith, h))
plain-position BadReport h = refl
plain-position NoMiss h = refl
plain-position ShortBuffer h = refl
plain-position BadFence h = refl
plain-position BadEmpty h = refl
plain-position NotFirm h = refl
plain-position NoPosition h = refl
plain-position SlackNotGiven h = refl
plain-position (BadRow p) h = absurd (omega (arith, h))
plain-position (DeadlineMissed p) h = absurd (omega (arith, h))
plain-position (PhasesDiffer p) h = absurd (omega (arith, h))

-- a plan without an extent turns every row down with the refusal of its extent
pub extent-turns-down :
    (w : SuppliedPlan) (row : List ℕ) (e : Refusal) → ExtentOf w.run (extent_in (Err e))
    → refusal w (number_of e) (position_of e) ≡ check_row_of w row
extent-turns-down w row e h =
    ap (refusal w (number_of e)) (plain-position e (subst Plain (sym h.number) (plain-number w.run)))
    ∙ (ap (λ (n : ℕ). refusal w n 0) h.number ∙ sym (take-refused w row (λ z. number-some e (h.number ∙ z))))

-- the extent: zeros beside a number ..
pub extent-refused : (r : Run) (n : ℕ) → first_number r ≡ n → ¬ (n ≡ 0) → record { number = n; start = 0; horizon = 0 } ≡ extent_of r
unfolding extent_of
extent-refused r n e z = rw (e, ne_eqb n 0 z)

-- .. and where there is none the last S and the horizon
pub extent-near :
    (r : Run) (start horizon : ℕ) → first_number r ≡ 0 → Ready r start horizon → record { number = 0; start = start; horizon = horizon } ≡ extent_of r
unfolding extent_of
extent-near r start horizon e h = rw (e, h.start, h.horizon)

-- the places below the count are places of the array
pub all-places : (r : Run) → run_out r ≡ false → r.count ≤ length r.tasks
all-places r e =
    let l : r.count - 1 < r.count = omega (arith, some-tasks r e) in
    omega (arith, in_array r (r.count - 1) ((passes-if r e).tasks (r.count - 1) l))

-- a run with the same tasks that passes 14 is ready with the same numbers
pub ready-again : (r s : Run) (start horizon : ℕ) → Ready r start horizon → tasks_in s ≡ tasks_in r → state_out s ≡ false → Ready s start horizon
ready-again r s start horizon h e q = record {
  passes = q;
  start = h.start ∙ sym (ap last_s e);
  horizon = h.horizon ∙ sym (horizon-kept r s e);
  within = omega (arith, horizon-kept r s e, h.within);
}
