-- Number 14 in the order in which code tests: the count, the core count, the rule, the fence and the withdrawn set, then each place; and the space that a
-- phase has for one more tick.
use mathlib.Core.Path.{◌≡◌, refl, ap, ◌∙◌}
use mathlib.Core.Bool.{Bool, true, false, not, ◌||◌}
use Prim.Native.Nat.{ℕ, ◌≤◌, ◌<◌, min}
use native.Mathlib.Omega.{arith}
use borrow.Author.Tests.{not-false}
use Rattle.model.specs.Fence.{unfenced_count}
use Rattle.model.specs.Search.{any}
use Rattle.model.proofs.Bools.{or_left_false, or_right_false}
use Rattle.model.specs.Task as model
use Rattle.model.specs.Sizes.{most_cores, most_tasks}
use Rattle.table.specs.Limits.{in_range, cores_out, rule_out, fence_out, most_time}
use Rattle.table.proofs.Tests.{from-decides}
use Rattle.table.proofs.Inside.{inside-test}
use Rattle.phase.specs.declared.Phase.{Phase}
use Rattle.phase.specs.declared.Phase.TheVariants.{Coming, Working, Holding, Resting}
use Rattle.run.specs.declared.Run.{Run}
use Rattle.phase.specs.Phase.{PhaseIn}
use Rattle.phase.specs.NoOverflow.{NoOverflow}
use Rattle.run.specs.Run.{rule_in, run_task_at, even_at, phase_at}
use Rattle.run.specs.Numbers.{width_limit_in, past_count, place_out, run_out}
use Rattle.run.proofs.Limits.{passes-if}

-- ---- the head, then the places

abbrev pub head_out : Run → Bool
head_out r =
    not (in_range 1 most_tasks r.count)
    || (cores_out r.cores || (rule_out r.rule || (fence_out r.cores r.fence || past_count r.count r.withdrawn)))

head_first : (a b c d e f : Bool) → a || (b || (c || (d || (e || f)))) ≡ (a || (b || (c || (d || e)))) || f
head_first true b c d e f = refl
head_first false true c d e f = refl
head_first false false true d e f = refl
head_first false false false true e f = refl
head_first false false false false e f = refl

module _ (r : Run) where
  by-head : run_out r ≡ head_out r || any r.count (place_out r)
  unfolding run_out
  by-head =
      head_first (not (in_range 1 most_tasks r.count)) (cores_out r.cores) (rule_out r.rule) (fence_out r.cores r.fence)
      (past_count r.count r.withdrawn) (any r.count (place_out r))

  pub out-by-head : head_out r ≡ true → run_out r ≡ true
  out-by-head e = by-head ∙ ap (λ (t : Bool). t || any r.count (place_out r)) e

  pub out-by-place : head_out r ≡ false → run_out r ≡ any r.count (place_out r)
  out-by-place e = by-head ∙ ap (λ (t : Bool). t || any r.count (place_out r)) e

  module _ (e : head_out r ≡ false) where
    abbrev rest : Bool
    rest = rule_out r.rule || (fence_out r.cores r.fence || past_count r.count r.withdrawn)

    rest_in : cores_out r.cores || rest ≡ false
    rest_in = or_right_false (not (in_range 1 most_tasks r.count)) (cores_out r.cores || rest) e

    pub head_few : r.count ≤ most_tasks
    head_few =
        ((from-decides 1 most_tasks r.count).0
        (not-false (in_range 1 most_tasks r.count) (or_left_false (not (in_range 1 most_tasks r.count)) (cores_out r.cores || rest) e))).1

    pub head-few-cores : r.cores ≤ most_cores
    head-few-cores =
        ((from-decides 1 most_cores r.cores).0
        (not-false (in_range 1 most_cores r.cores) (or_left_false (cores_out r.cores) rest rest_in))).1

    -- so the unfenced cores, of 64 at most, are those of the core count
    pub head-wide : unfenced_count r.fence (min r.cores most_cores) ≡ width_limit_in r
    head-wide =
        let few = head-few-cores in
        let all : min r.cores most_cores ≡ r.cores = omega arith in
        ap (unfenced_count r.fence) all

-- ---- what a run that passes 14 has

-- a phase within its limits has space, where O, D and T are at most 1,000,000
room :
    (r : model.Rule) (τ : model.Task) (even : Bool) (ph : Phase) → τ.offset ≤ most_time → τ.deadline ≤ most_time → τ.period ≤ most_time
    → PhaseIn r τ even ph → NoOverflow ph
room r τ even (Coming left) o d t h = h.0.0
room r τ even (Working z had reserved) o d t h = (omega arith, omega arith, omega arith)
room r τ even (Holding z reserved) o d t h = (omega arith, omega arith)
room r τ even (Resting z) o d t h = omega arith

module _ (r : Run) (e : run_out r ≡ false) where
  pub few : r.count ≤ most_tasks
  few = ((from-decides 1 most_tasks r.count).0 (passes-if r e).count).1

  pub few-cores : r.cores ≤ most_cores
  few-cores = ((from-decides 1 most_cores r.cores).0 (not-false (in_range 1 most_cores r.cores) (passes-if r e).cores)).1

  -- each place has space for one more tick
  pub has_room : (p : ℕ) → p < r.count → NoOverflow (phase_at r p)
  has_room p l =
      let i = inside-test (width_limit_in r) (run_task_at r p) ((passes-if r e).tasks p l) in
      room (rule_in r) (run_task_at r p) (even_at r p) (phase_at r p) i.offset-most (omega (arith, i.deadline-from, i.period-from)) i.period-from.1
      ((passes-if r e).phases p l)
