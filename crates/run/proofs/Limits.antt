-- Number 14: its test decides its condition, what passes it has valid tasks, and an advance and a withdrawal pass it again.
use mathlib.Core.Path.{◌≡◌, refl, sym, subst}
use mathlib.Core.Bool.{Bool, true, false, not, ◌||◌, true≢false}
use Prim.Native.Nat.{ℕ, ◌<◌}
use lib.ListN.{length, get_or, get_or-eq_default}
use lib.Dec.{leb}
use borrow.Author.Tests.{leb-true, leb-false, not-false}
use Rattle.model.proofs.Search.{none_any, none-at}
use Rattle.model.specs.Search.{any}
use Rattle.model.specs.Task as model
use Rattle.model.proofs.Bools.{or_left_false, or_right_false}
use Rattle.model.specs.Sizes.{most_tasks}
use Rattle.table.specs.Limits.{in_range, cores_out, rule_out, fence_out, task_out}
use Rattle.table.proofs.Decide.{Decides, decides_not, decides_or, decides-any}
use Rattle.table.proofs.Tests.{from-decides, cores-decides, rule-decides, fence-decides, task-decides}
use Rattle.table.proofs.Inside.{inside-test, inside-valid}
use Rattle.phase.specs.declared.Task.{Task}
use Rattle.run.specs.declared.Run.{Run}
use Rattle.phase.specs.Phase.{PhaseIn, phase_in}
use Rattle.phase.specs.Task.{task_of, past_end}
use Rattle.run.specs.Run.{rule_in, run_task_at, even_at, phase_at, empty_at, has_cores, has_lent, map_first, next_at, moved, withdrawn_in}
use Rattle.run.specs.Numbers.{width_limit_in, PlaceOut, RunOut, past_count, place_out, run_out, late_at}
use Rattle.run.proofs.SetTests.{past-decides, within-or}
use Rattle.run.proofs.Lent.{lent-lends}
use Rattle.run.proofs.Places.{map_first-at}
use Rattle.phase.proofs.Phases.{phase-decides, emptied-in}

-- THE TEST OF 14

pub place-decides : (r : Run) (p : ℕ) → Decides (place_out r p) (PlaceOut r p)
place-decides r p =
    decides_or _ _ _ _ (task-decides (width_limit_in r) (run_task_at r p))
    (decides_not _ _ (phase-decides (rule_in r) (run_task_at r p) (even_at r p) (phase_at r p)))

pub run-decides : (r : Run) → Decides (run_out r) (RunOut r)
unfolding run_out
run-decides r =
    decides_or _ _ _ _ (decides_not _ _ (from-decides 1 most_tasks r.count))
    (decides_or _ _ _ _ (cores-decides r.cores)
    (decides_or _ _ _ _ (rule-decides r.rule)
    (decides_or _ _ _ _ (fence-decides r.cores r.fence)
    (decides_or _ _ _ _ (past-decides r.count r.withdrawn)
    (decides-any r.count (place_out r) (PlaceOut r) (place-decides r))))))

-- WHAT PASSES IT

-- the parts of 14 that a run passes
pub record Passes (r : Run) : Type 0 where
  pub count : in_range 1 most_tasks r.count ≡ true
  pub cores : cores_out r.cores ≡ false
  pub rule : rule_out r.rule ≡ false
  pub fence : fence_out r.cores r.fence ≡ false
  pub withdrawn : past_count r.count r.withdrawn ≡ false
  pub tasks : (p : ℕ) → p < r.count → task_out (width_limit_in r) (run_task_at r p) ≡ false
  pub phases : (p : ℕ) → p < r.count → PhaseIn (rule_in r) (run_task_at r p) (even_at r p) (phase_at r p)

none_of :
    (a b c d e f : Bool) → a || (b || (c || (d || (e || f)))) ≡ false
    → (a ≡ false) × (b ≡ false) × (c ≡ false) × (d ≡ false) × (e ≡ false) × (f ≡ false)
none_of true b c d e f x = absurd (true≢false x)
none_of false true c d e f x = absurd (true≢false x)
none_of false false true d e f x = absurd (true≢false x)
none_of false false false true e f x = absurd (true≢false x)
none_of false false false false true f x = absurd (true≢false x)
none_of false false false false false f x = (refl, refl, refl, refl, refl, x)

pub passes-if : (r : Run) → run_out r ≡ false → Passes r
unfolding run_out
passes-if r e = record {
  count = not-false (in_range 1 most_tasks r.count) none.0;
  cores = none.1;
  rule = none.2;
  fence = none.3;
  withdrawn = none.4;
  tasks = λ p l. or_left_false (task_out (width_limit_in r) (run_task_at r p)) (not (phase_in (rule_in r) (run_task_at r p) (even_at r p) (phase_at r p))) (at p l);
  phases = λ p l.
      (phase-decides (rule_in r) (run_task_at r p) (even_at r p) (phase_at r p)).0
      (not-false (phase_in (rule_in r) (run_task_at r p) (even_at r p) (phase_at r p))
      (or_right_false (task_out (width_limit_in r) (run_task_at r p)) (not (phase_in (rule_in r) (run_task_at r p) (even_at r p) (phase_at r p))) (at p l)));
}
  where
    none : (not (in_range 1 most_tasks r.count) ≡ false) × (cores_out r.cores ≡ false) × (rule_out r.rule ≡ false) × (fence_out r.cores r.fence ≡ false)
        × (past_count r.count r.withdrawn ≡ false) × (any r.count (place_out r) ≡ false)
    none =
        none_of (not (in_range 1 most_tasks r.count)) (cores_out r.cores) (rule_out r.rule) (fence_out r.cores r.fence)
        (past_count r.count r.withdrawn) (any r.count (place_out r)) e

    at : (p : ℕ) → p < r.count → place_out r p ≡ false
    at p l = none-at r.count (place_out r) p none.5 l

pub passes-runs : (r : Run) → Passes r → run_out r ≡ false
unfolding run_out
passes-runs r h = rw (h.count, h.cores, h.rule, h.fence, h.withdrawn) (none_any r.count (place_out r) at)
  where
    at : (p : ℕ) → p < r.count → place_out r p ≡ false
    at p l = rw (h.tasks p l, (phase-decides (rule_in r) (run_task_at r p) (even_at r p) (phase_at r p)).1 (h.phases p l))

-- a task that 7 and 8 pass is valid
pub valid-if : (m : ℕ) (τ : model.Task) → task_out m τ ≡ false → model.ValidTask τ
valid-if m τ e = inside-valid m τ (inside-test m τ e)

-- A MOVE PASSES IT AGAIN

-- a place with a task is a place of the array
pub in_array : (r : Run) (p : ℕ) → task_out (width_limit_in r) (run_task_at r p) ≡ false → p < length r.tasks
in_array r p e = go (leb (length r.tasks) p) refl
  where
    go : (x : Bool) → leb (length r.tasks) p ≡ x → p < length r.tasks
    go false q = leb-false (length r.tasks) p q
    go true q =
        absurd (true≢false (subst (λ (t : Task). task_out (width_limit_in r) (task_of t) ≡ false) (get_or-eq_default r.tasks past_end (leb-true (length r.tasks) p q)) e))

-- the run one tick on passes 14, where no task is late
pub moved_passes : (f : ℕ → Bool) (e : ℕ) (r : Run) → Passes r → ((p : ℕ) → p < r.count → late_at r p ≡ false) → Passes (moved f e r)
unfolding moved
moved_passes f e r h n = record {
  count = h.count;
  cores = h.cores;
  rule = h.rule;
  fence = h.fence;
  withdrawn = h.withdrawn;
  tasks = λ p l. rw (at p l) (h.tasks p l);
  phases = λ p l.
      subst (λ (t : Task). PhaseIn (rule_in r) (task_of t) t.even t.phase) (sym (at p l))
      (emptied-in (rule_in r) (run_task_at r p) (valid-if (width_limit_in r) (run_task_at r p) (h.tasks p l)) (empty_at r e p) (has_cores r e p) (has_lent r e p) (f p)
      (even_at r p) (lent-lends r e p) (phase_at r p) (h.phases p l) (n p l));
}
  where
    at : (p : ℕ) → p < r.count → get_or (map_first (next_at r f e) r.count r.tasks) p past_end ≡ next_at r f e p (get_or r.tasks p past_end)
    at p l = map_first-at (next_at r f e) r.count r.tasks p past_end l (in_array r p (h.tasks p l))

-- A WITHDRAWAL PASSES IT AGAIN, where it names no position past the count
pub withdrawn-passes : (x : ℕ) (r : Run) → Passes r → past_count r.count x ≡ false → Passes (withdrawn_in x r)
unfolding withdrawn_in
withdrawn-passes x r h w = record {
  count = h.count;
  cores = h.cores;
  rule = h.rule;
  fence = h.fence;
  withdrawn = within-or r.count r.withdrawn x h.withdrawn w;
  tasks = h.tasks;
  phases = h.phases;
}
