-- Widths that never fall, place by place.
use native.Mathlib.Numerals.{add-one}
use native.Mathlib.Omega.{arith}
use mathlib.Core.Path.{◌≡◌, refl, sym, ap, ◌∙◌, subst₂}
use mathlib.Core.Bool.{Bool, true}
use mathlib.Core.Logic.{◌⊎◌, inl, inr}
use mathlib.Core.List.{List, map}
use Rattle.std.specs.Prelude.{◌↔◌}
use Prim.Native.Nat.{ℕ, zero, suc, ◌+◌, ◌≤◌, ◌<◌, max, min}
use lib.ListN.{length, get_or, get_or-map, length-map}
use Rattle.model.specs.Task.{narrowest, absent_task, rule_of, widest}
use Rattle.model.specs.Task as model
use Rattle.model.specs.Firm.{ParallelismMonotonic, parallelism_monotonic, firm}
use borrow.Author.Tests.{ne_eqb}
use Rattle.std.specs.Cmp.{both_ways}
use Rattle.model.proofs.Verdict.{monotonic-exact}
use Rattle.table.specs.declared.Task.{Task}
use Rattle.table.specs.Task.{no_task, task_of}

-- the larger and the smaller width at a place
abbrev pub widest_at : List Task → ℕ → ℕ
widest_at tasks p = max (get_or tasks p no_task).width (get_or tasks p no_task).second

abbrev pub narrowest_at : List Task → ℕ → ℕ
narrowest_at tasks p = min (get_or tasks p no_task).width (get_or tasks p no_task).second

-- the test of widths along a list, where it is true exactly if none falls
pub monotonic-known :
    (tasks : List Task) (r : Bool) → (r ≡ true) ↔ ((p : ℕ) → p + 1 < length tasks → widest_at tasks p ≤ narrowest_at tasks (p + 1))
    → r ≡ parallelism_monotonic (map task_of tasks)
monotonic-known tasks r h = both_ways r (parallelism_monotonic τs) (λ e. exact.1 (rises (h.0 e))) (λ e. h.1 (risen (exact.0 e)))
  where
    τs : List model.Task
    τs = map task_of tasks

    exact : (parallelism_monotonic τs ≡ true) ↔ ParallelismMonotonic τs
    exact = monotonic-exact τs

    -- the widths of the model's tasks
    wide : (p : ℕ) → widest (get_or τs p absent_task) ≡ widest_at tasks p
    wide p = ap widest (get_or-map task_of tasks p no_task)

    narrow : (p : ℕ) → narrowest (get_or τs p absent_task) ≡ narrowest_at tasks p
    narrow p = ap narrowest (get_or-map task_of tasks p no_task)

    rises : ((p : ℕ) → p + 1 < length tasks → widest_at tasks p ≤ narrowest_at tasks (p + 1)) → ParallelismMonotonic τs
    rises g p l =
        let inside : p + 1 < length tasks = omega (arith, length-map tasks task_of) in
        subst₂ (λ (a b : ℕ). a ≤ b) (sym (wide p)) (sym (narrow (suc p) ∙ ap (narrowest_at tasks) (sym (add-one p)))) (g p inside)

    risen : ParallelismMonotonic τs → (p : ℕ) → p + 1 < length tasks → widest_at tasks p ≤ narrowest_at tasks (p + 1)
    risen g p l =
        let inside : suc p < length τs = omega (arith, length-map tasks task_of) in
        subst₂ (λ (a b : ℕ). a ≤ b) (wide p) (narrow (suc p) ∙ ap (narrowest_at tasks) (sym (add-one p))) (g p inside)

-- FIRM by the rule's number: 2, 3 and 4 are, any other where widths never fall
pub firm-numbers : (n : ℕ) (τs : List model.Task) → 2 ≤ n → n < 5 → firm (rule_of n) τs ≡ true
unfolding firm
firm-numbers zero τs a b = absurd (omega arith)
firm-numbers (suc zero) τs a b = absurd (omega arith)
firm-numbers (suc (suc zero)) τs a b = refl
firm-numbers (suc (suc (suc zero))) τs a b = refl
firm-numbers (suc (suc (suc (suc zero)))) τs a b = refl
firm-numbers (suc (suc (suc (suc (suc n))))) τs a b = absurd (omega arith)

pub firm-others : (n : ℕ) (τs : List model.Task) → (n < 2) ⊎ (5 ≤ n) → firm (rule_of n) τs ≡ parallelism_monotonic τs
unfolding firm
firm-others n τs (inl l) = rw (ne_eqb n 2 (λ q. omega arith), ne_eqb n 3 (λ q. omega arith), ne_eqb n 4 (λ q. omega arith))
firm-others n τs (inr l) = rw (ne_eqb n 2 (λ q. omega arith), ne_eqb n 3 (λ q. omega arith), ne_eqb n 4 (λ q. omega arith))
