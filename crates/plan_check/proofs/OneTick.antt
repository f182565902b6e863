-- One tick of a task that is given its cores or not, and never reported: the ticks owed fall by one where it works, and at none owed it rests.
use mathlib.Core.Bool.{Bool, cond, false, not, true}
use mathlib.Core.Path.{ap, refl, sym, ◌∙◌, ◌≡◌}
use Prim.Native.Nat.{◌%◌, ◌+◌, ◌-◌, ◌<◌, suc, zero, ℕ, ◌≤◌}
use native.Mathlib.Omega.{arith}
use lib.Dec.{eqb, ltb}
use borrow.Author.Tests.{eq-eqb, eqb-false, eqb-true, le-ltb, lt-ltb, ltb-false, ltb-true, ne_eqb}
use Rattle.model.specs.Task.{Rule, Task, greedy, idling, lending, limited}
use Rattle.phase.specs.Phase.{ended, next_state, resting, task_state, worked}
use Rattle.phase.specs.declared.Phase.{Phase}
use Rattle.phase.specs.declared.Phase.TheVariants.{Resting, Working}
use Rattle.plan_check.specs.Plan.{phase_after}

-- the phase z ticks after a release with o ticks owed
abbrev pub phase_of : Task → ℕ → ℕ → Phase
phase_of τ z o = cond (ltb 0 o) (Working z (τ.length - o) (τ.length - o)) (Resting z)

pub phase-of : (τ : Task) (z had : ℕ) → phase_after τ.length z had ≡ phase_of τ z (τ.length - had)
phase-of τ z had = go (ltb had τ.length) refl
  where
    go : (b : Bool) → ltb had τ.length ≡ b → cond b (Working z had had) (Resting z) ≡ phase_of τ z (τ.length - had)
    go true e =
        let short : had < τ.length = ltb-true had τ.length e in
        let back : had ≡ τ.length - (τ.length - had) = omega arith in
        rw (lt-ltb 0 (τ.length - had) (omega arith)) (ap (λ (n : ℕ). Working z n n) back)
    go false e = let full : τ.length ≤ had = ltb-false had τ.length e in rw (le-ltb 0 (τ.length - had) (omega arith))

-- ended work at C ticks rests, whatever the rule
pub end-rests : (r : Rule) (τ : Task) (e : Bool) (z u : ℕ) → u ≡ τ.length → ended r τ e z u ≡ resting τ e z
end-rests greedy τ e z u q = refl
end-rests limited τ e z u q = refl
end-rests idling τ e z u q = rw (eq-eqb u τ.length q)
end-rests lending τ e z u q = rw (eq-eqb u τ.length q)

work-ends : (r : Rule) (τ : Task) (e : Bool) (z u : ℕ) → u ≡ τ.length → worked r τ false e z u u ≡ resting τ e z
work-ends r τ e z u q = ap (λ (b : Bool). cond b (ended r τ e z u) (task_state e (Working z u u))) (eq-eqb u τ.length q) ∙ end-rests r τ e z u q

-- one tick of work or of waiting
pub next_of :
    (rule : Rule) (τ : Task) (ran e : Bool) (z o : ℕ) → o ≤ τ.length → (ran ≡ true → 0 < o)
    → next_state rule τ ran false false e (phase_of τ z o)
    ≡ cond (ltb 0 (o - cond ran 1 0)) (task_state e (Working (z + 1) (τ.length - (o - cond ran 1 0)) (τ.length - (o - cond ran 1 0)))) (resting τ e (z + 1))
next_of rule τ true e z zero le some-owed = absurd (omega (arith, some-owed refl))
next_of rule τ false e z zero le some-owed = refl
next_of rule τ false e z (suc o) le some-owed =
    let same : τ.length - suc o ≡ τ.length - (suc o - 0) = omega arith in
    rw (lt-ltb 0 (suc o) (omega arith), lt-ltb 0 (suc o - 0) (omega arith)) (ap (λ (x : ℕ). task_state e (Working (z + 1) x x)) same)
next_of rule τ true e z (suc o) le some-owed = rw (lt-ltb 0 (suc o) (omega arith)) (go o refl)
  where
    u : ℕ
    u = τ.length - suc o + 1

    go : (q : ℕ) → o ≡ q
        → worked rule τ false e (z + 1) u u ≡ cond (ltb 0 (suc o - 1)) (task_state e (Working (z + 1) (τ.length - (suc o - 1)) (τ.length - (suc o - 1)))) (resting τ e (z + 1))
    go zero f =
        work-ends rule τ e (z + 1) u (omega arith)
        ∙ sym (ap (λ (b : Bool). cond b (task_state e (Working (z + 1) (τ.length - (suc o - 1)) (τ.length - (suc o - 1)))) (resting τ e (z + 1)))
        (le-ltb 0 (suc o - 1) (omega arith)))
    go (suc q) f =
        let same : u ≡ τ.length - (suc o - 1) = omega arith in
        rw (ne_eqb u τ.length (λ g. omega arith), lt-ltb 0 (suc o - 1) (omega arith)) (ap (λ (x : ℕ). task_state e (Working (z + 1) x x)) same)

-- the next number has the other parity
pub next-parity : (k : ℕ) → not (eqb (suc k % 2) 0) ≡ not (not (eqb (k % 2) 0))
next-parity k = go (eqb (k % 2) 0) refl
  where
    go : (b : Bool) → eqb (k % 2) 0 ≡ b → not (eqb (suc k % 2) 0) ≡ not (not b)
    go true e = let n = eqb-true (k % 2) 0 e in rw (ne_eqb (suc k % 2) 0 (λ (q : suc k % 2 ≡ 0). omega arith))
    go false e = let n = eqb-false (k % 2) 0 e in rw (eq-eqb (suc k % 2) 0 (omega arith))
