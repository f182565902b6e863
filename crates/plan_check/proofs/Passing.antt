-- A state that 14 passes: what holds of its run, that the beginning is one, and that a row taken where no task is late leaves one again, with the same tasks.
use mathlib.Core.Bool.{Bool, cond, false, false≢true, not, true, true≢false, ◌||◌}
use mathlib.Core.List.{List}
use mathlib.Core.Path.{ap, refl, subst, sym, ◌∙◌, ◌≡◌}
use Prim.Native.Nat.{◌+◌, ◌-◌, ◌<◌, ℕ}
use lib.Dec.{eqb}
use borrow.Author.Tests.{eq-eqb, eqb-true, not-false}
use Rattle.model.proofs.Bools.{or_left_false, or_right_false}
use Rattle.model.proofs.Search.{none_any, none-at}
use Rattle.model.specs.Search.{any}
use Rattle.model.specs.Task as model
use Rattle.phase.proofs.Phases.{emptied-in}
use Rattle.phase.specs.Phase.{PhaseIn, ended, next_state, resting, task_state}
use Rattle.phase.specs.Task.{past_end, task_of}
use Rattle.phase.specs.declared.Phase.{Phase}
use Rattle.phase.specs.declared.Phase.TheVariants.{Coming, Holding, Resting, Working}
use Rattle.phase.specs.declared.Task.{Task}
use Rattle.run.proofs.Limits.{Passes, in_array, passes-if, passes-runs, valid-if}
use Rattle.run.proofs.Places.{map_first-at, take-kept}
use Rattle.run.proofs.StartPasses.{start-passes, started-at}
use Rattle.run.specs.Numbers.{late_at, run_out, width_limit_in}
use Rattle.run.specs.Run.{even_at, phase_at, place_at, rule_in, run_task_at, tasks_in}
use Rattle.run.specs.Start.{started_run}
use Rattle.run.specs.declared.Run.{Run}
use Rattle.table.specs.Limits.{task_out}
use Rattle.table.specs.Numbers.{NoneApplies}
use Rattle.table.specs.Words.{rule, table_of}
use Rattle.plan_check.specs.Numbers.{unreachable_phase, missed, state_out}
use Rattle.plan_check.specs.Row.{shown_in_row, worked_row, worked_at}
use Rattle.plan_check.proofs.OneTick.{end-rests}

-- the parts of 14 that a state passes
pub record StatePasses (r : Run) : Type 0 where
  pub run : Passes r
  pub present : r.withdrawn ≡ 0
  pub straight : (p : ℕ) → p < r.count → unreachable_phase (phase_at r p) ≡ false

pub state-if : (r : Run) → state_out r ≡ false → StatePasses r
unfolding state_out
state-if r e = record {
  run = passes-if r (or_left_false (run_out r) rest e);
  present = eqb-true r.withdrawn 0 (not-false (eqb r.withdrawn 0) (or_left_false (not (eqb r.withdrawn 0)) astrays (or_right_false (run_out r) rest e)));
  straight = λ p. none-at r.count (λ p. unreachable_phase (phase_at r p)) p (or_right_false (not (eqb r.withdrawn 0)) astrays (or_right_false (run_out r) rest e));
}
  where
    astrays : Bool
    astrays = any r.count (λ p. unreachable_phase (phase_at r p))

    rest : Bool
    rest = not (eqb r.withdrawn 0) || astrays

pub state-passes : (r : Run) → StatePasses r → state_out r ≡ false
unfolding state_out
state-passes r h = rw (passes-runs r h.run, eq-eqb r.withdrawn 0 h.present) (none_any r.count (λ p. unreachable_phase (phase_at r p)) h.straight)

-- THE BEGINNING

start-reachable : (O : ℕ) (b : Bool) → unreachable_phase (cond b (Working 0 0 0) (Coming O)) ≡ false
start-reachable O true = refl
start-reachable O false = refl

pub started-state : (ws : List ℕ) → NoneApplies ws → StatePasses (started_run (rule ws) (table_of ws))
started-state ws none = record {
  run = start-passes ws none;
  present = unfold started_run in refl;
  straight = reachable;
}
  where
    reachable : (p : ℕ) → p < (started_run (rule ws) (table_of ws)).count → unreachable_phase (phase_at (started_run (rule ws) (table_of ws)) p) ≡ false
    reachable p l = unfold started_run in
        ap (λ (t : Task). unreachable_phase t.phase) (started-at (table_of ws).tasks _ p l)
        ∙ start-reachable (model.task (table_of ws) p).offset (eqb (model.task (table_of ws) p).offset 0)

-- A ROW

rest-reachable : (τ : model.Task) (e : Bool) (z : ℕ) → unreachable_phase (resting τ e z).phase ≡ false
rest-reachable τ e z = go (eqb z τ.period)
  where
    go : (b : Bool) → unreachable_phase (cond b (task_state (not e) (Working 0 0 0)) (task_state e (Resting z))).phase ≡ false
    go true = refl
    go false = refl

-- where nothing is reported or lent, a task with equal counts keeps them equal, and none comes to hold
next-reachable :
    (r : model.Rule) (τ : model.Task) (given e : Bool) (ph : Phase) → unreachable_phase ph ≡ false → unreachable_phase (next_state r τ given false false e ph).phase ≡ false
next-reachable r τ given e (Coming left) h = go (eqb (left - 1) 0)
  where
    go : (b : Bool) → unreachable_phase (cond b (Working 0 0 0) (Coming (left - 1))) ≡ false
    go true = refl
    go false = refl
next-reachable r τ false e (Working z had reserved) h = h
next-reachable r τ true e (Working z had reserved) h = go (eqb (had + 1) τ.length) refl
  where
    same : reserved ≡ had
    same = eqb-true reserved had (not-false (eqb reserved had) h)

    go : (b : Bool) → eqb (had + 1) τ.length ≡ b
        → unreachable_phase (cond b (ended r τ e (z + 1) (reserved + 1)) (task_state e (Working (z + 1) (had + 1) (reserved + 1)))).phase ≡ false
    go true q =
        let all : reserved + 1 ≡ τ.length = ap (λ (n : ℕ). n + 1) same ∙ eqb-true (had + 1) τ.length q in
        rw (end-rests r τ e (z + 1) (reserved + 1) all) (rest-reachable τ e (z + 1))
    go false q = let equal : reserved + 1 ≡ had + 1 = ap (λ (n : ℕ). n + 1) same in rw (eq-eqb (reserved + 1) (had + 1) equal)
next-reachable r τ given e (Holding z reserved) h = absurd (true≢false h)
next-reachable r τ given e (Resting z) h = rest-reachable τ e (z + 1)

module _ (r : Run) (row : List ℕ) where
  -- the tasks stay
  pub worked-tasks : tasks_in (worked_row r row) ≡ tasks_in r
  unfolding worked_row
  worked-tasks = take-kept (worked_at r row) r.count r.tasks (λ p t. refl)

  module _ (h : Passes r) where
    -- the value at a place
    pub worked-at : (p : ℕ) → p < r.count → place_at (worked_row r row) p ≡ worked_at r row p (place_at r p)
    unfolding worked_row
    worked-at p l = map_first-at (worked_at r row) r.count r.tasks p past_end l (in_array r p (h.tasks p l))

  pub worked-passes : StatePasses r → missed r ≡ false → StatePasses (worked_row r row)
  worked-passes x m = record { run = run; present = unfold worked_row in x.present; straight = reachable }
    where
      h : Passes r
      h = x.run

      on-time : (p : ℕ) → p < r.count → late_at r p ≡ false
      on-time p l = unfold missed in none-at r.count (late_at r) p m l

      run : Passes (worked_row r row)
      run = unfold worked_row in record {
        count = h.count;
        cores = h.cores;
        rule = h.rule;
        fence = h.fence;
        withdrawn = h.withdrawn;
        tasks = λ p l. subst (λ (t : Task). task_out (width_limit_in r) (task_of t) ≡ false) (sym (worked-at h p l)) (h.tasks p l);
        phases = λ p l.
            subst (λ (t : Task). PhaseIn (rule_in r) (task_of t) t.even t.phase) (sym (worked-at h p l))
            (emptied-in (rule_in r) (run_task_at r p) (valid-if (width_limit_in r) (run_task_at r p) (h.tasks p l)) false (shown_in_row row p) false false
            (even_at r p) (λ e. absurd (false≢true e)) (phase_at r p) (h.phases p l) (on-time p l));
      }

      reachable : (p : ℕ) → p < (worked_row r row).count → unreachable_phase (phase_at (worked_row r row) p) ≡ false
      reachable p l = unfold worked_row in
          subst (λ (t : Task). unreachable_phase t.phase ≡ false) (sym (worked-at h p l))
          (next-reachable (rule_in r) (run_task_at r p) (shown_in_row row p) (even_at r p) (phase_at r p) (x.straight p l))
