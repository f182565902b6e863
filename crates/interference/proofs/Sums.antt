-- What the places above are given, summed place by place over the tasks that code keeps.
use mathlib.Core.List.{List}
use mathlib.Core.Path.{ap, ap₂, refl, sym, ◌∙◌, ◌≡◌}
use Prim.Native.Nat.{◌%◌, ◌*◌, ◌+◌, ◌-◌, ◌/◌, ◌<◌, min, ℕ, ◌≤◌}
use native.Mathlib.Nat.{div-add-mod', mod-lt}
use native.Mathlib.Numerals.{add-one}
use native.Mathlib.Omega.{arith}
use lib.Arith.{digits_div, digits_lt, mod-mul}
use lib.ListN.{get_or}
use Rattle.model.specs.Interference.{cores_in, interference_in, sum_below, workload_in}
use Rattle.model.specs.Task as model
use Rattle.model.specs.Task.{narrowest, task, widest}
use Rattle.model.proofs.Windows.{sum_same}
use Rattle.table.specs.declared.Loaded.{Loaded}
use Rattle.table.specs.declared.Task.{Task}
use Rattle.table.specs.Limits.{most_time}
use Rattle.table.specs.Task.{no_task, task_of}
use Rattle.table.proofs.Places.{task-at, tasks-length}
use Rattle.table.specs.Fit.{Fit, loaded_table}
use Rattle.interference.specs.Bounds.{most_cores_in}

-- what place i is given at most
abbrev pub part : List Task → List ℕ → ℕ → ℕ → ℕ → ℕ
part tasks ends window waits i = cores_in (task_of (get_or tasks i no_task)) (get_or ends i 0) window waits

-- THE WORKLOAD BY ONE DIVISION: of every second job by that of all

div-twice : (n T : ℕ) → 0 < T → n / (2 * T) ≡ n / T / 2
div-twice n T pos =
    let r = n / T % 2 * T + n % T in
    let split : n ≡ n / T / 2 * (2 * T) + r =
    omega (arith, div-add-mod' n T, ap (λ (x : ℕ). x * T) (div-add-mod' (n / T) 2)) in
    ap (λ (x : ℕ). x / (2 * T)) split ∙ digits_div (n / T / 2) (digits_lt (mod-lt (n / T) (omega arith)) (mod-lt n pos))

pub by-one-division :
    (τ : model.Task) (e L : ℕ) → 0 < τ.period
    → (L + e - τ.length) / τ.period / 2 * τ.length + min τ.length ((L + e - τ.length) / τ.period % 2 * τ.period + (L + e - τ.length) % τ.period)
    ≡ workload_in τ (2 * τ.period) e L
by-one-division τ e L pos =
    ap₂ (λ (a b : ℕ). a * τ.length + min τ.length b) (sym (div-twice (L + e - τ.length) τ.period pos))
    (sym (mod-mul (L + e - τ.length) {m = 2} {c = τ.period} (omega arith) pos))

-- a task of two widths
pub cores-two :
    (τ : model.Task) (e L n narrow wide a b : ℕ) → narrow ≡ narrowest τ → wide ≡ widest τ
    → a ≡ min n (workload_in τ τ.period e L) → b ≡ min n (workload_in τ (2 * τ.period) e L) → narrow * a + (wide - narrow) * b ≡ cores_in τ e L n
cores-two τ e L n narrow wide a b nq wq aq bq = rw (nq, wq, aq, bq) refl

-- the sum over the places passed
pub record Summed (tasks : List Task) (ends : List ℕ) (window waits sum i : ℕ) : Type 0 where
  pub most : sum ≤ most_cores_in * i
  pub value : sum ≡ sum_below i (part tasks ends window waits)

pub summed-none : (tasks : List Task) (ends : List ℕ) (window waits : ℕ) → Summed tasks ends window waits 0 0
summed-none tasks ends window waits = record { most = omega arith; value = unfold sum_below in refl }

pub summed-more :
    (tasks : List Task) (ends : List ℕ) (window waits sum i c : ℕ) → Summed tasks ends window waits sum i → c ≡ part tasks ends window waits i
    → c ≤ most_cores_in → Summed tasks ends window waits (sum + c) (i + 1)
summed-more tasks ends window waits sum i c s is few = record {
  most = omega (arith, s.most);
  value = rw (add-one i) (unfold sum_below in ap₂ (λ (a b : ℕ). a + b) s.value is);
}

module _ (t : Loaded) (fit : Fit t) where
  pub place_at : (i : ℕ) → i < t.count → task (loaded_table t) i ≡ task_of (get_or t.tasks i no_task)
  place_at i l = task-at t.tasks t.count i l

  -- a place's job and its deadline, in the table and in the tasks that code keeps
  pub place-limits :
      (i : ℕ) → i < t.count
      → ((task (loaded_table t) i).length ≡ (get_or t.tasks i no_task).length) × ((task (loaded_table t) i).deadline ≡ (get_or t.tasks i no_task).deadline)
      × ((get_or t.tasks i no_task).deadline ≤ most_time) × (1 ≤ (get_or t.tasks i no_task).length)
  place-limits i h =
      let τ = place_at i h in
      let ok = fit.valid i (omega (arith, tasks-length t.tasks t.count (omega (arith, fit.few, fit.places)))) in
      let D = ap (λ x. x.deadline) τ in
      let C = ap (λ x. x.length) τ in
      (C, D, omega (arith, ok.constrained, fit.short i h), omega (arith, ok.length-pos))

  -- over all places above it is what the definition says
  pub summed-all :
      (ends : List ℕ) (place window waits sum : ℕ) → place ≤ t.count → Summed t.tasks ends window waits sum place
      → sum ≡ interference_in (loaded_table t) (λ i. get_or ends i 0) place window waits
  unfolding interference_in
  summed-all ends place window waits sum l s =
      s.value
      ∙ sum_same place (part t.tasks ends window waits) (λ i. cores_in (task (loaded_table t) i) (get_or ends i 0) window waits)
      (λ i h. ap (λ τ. cores_in τ (get_or ends i 0) window waits) (sym (place_at i (omega arith))))
