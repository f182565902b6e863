-- The phase of a place by the rows: from its offset on it is determined by the ticks since its release and the ticks still owed.
use mathlib.Core.Bool.{Bool, cond, false, true}
use mathlib.Core.List.{List}
use mathlib.Core.Path.{ap, refl, sym, ◌∙◌, ◌≡◌}
use Prim.Native.Nat.{◌-◌, ◌<◌, ℕ, ◌≤◌}
use native.Mathlib.Omega.{arith}
use lib.Dec.{ltb}
use borrow.Author.Tests.{le-ltb, lt-ltb, ltb-false, ltb-true}
use Rattle.model.specs.Task.{Table, newest, release, task}
use Rattle.phase.specs.declared.Phase.TheVariants.{Coming, Resting, Working}
use Rattle.plan_check.specs.Plan.{had_in_rows, phase_after, phase_by}

module _ (s : Table) (r : ℕ → List ℕ) (p : ℕ) where
  pub phase-coming : (t : ℕ) → t < (task s p).offset → phase_by s r p t ≡ Coming ((task s p).offset - t)
  unfolding phase_by
  phase-coming t h = rw (lt-ltb t (task s p).offset h)

  pub phase-from :
      (t : ℕ) → (task s p).offset ≤ t
      → phase_by s r p t ≡ phase_after (task s p).length (t - release (task s p) (newest (task s p) t)) (had_in_rows s r p (newest (task s p) t) t)
  unfolding phase_by
  phase-from t h = rw (le-ltb t (task s p).offset h)

-- equal phases have equal ticks owed ..
pub phase-owes : (C z y a b : ℕ) → phase_after C z a ≡ phase_after C y b → C - a ≡ C - b
phase-owes C z y a b = go (ltb a C) refl (ltb b C) refl
  where
    go : (f : Bool) → ltb a C ≡ f → (g : Bool) → ltb b C ≡ g → cond f (Working z a a) (Resting z) ≡ cond g (Working y b b) (Resting y) → C - a ≡ C - b
    go true e true q h = let had : a ≡ b = cc in omega arith
    go true e false q h = let n : ◌≡◌ {A = ℕ} 0 1 = cc in absurd (omega arith)
    go false e true q h = let n : ◌≡◌ {A = ℕ} 0 1 = cc in absurd (omega arith)
    go false e false q h = omega (arith, ltb-false a C e, ltb-false b C q)

-- .. and equal ticks owed, as long after a release, are equal phases
pub owes-phase : (C z a b : ℕ) → C - a ≡ C - b → phase_after C z a ≡ phase_after C z b
owes-phase C z a b h = go (ltb a C) refl
  where
    go : (f : Bool) → ltb a C ≡ f → cond f (Working z a a) (Resting z) ≡ phase_after C z b
    go true e =
        let short : a < C = ltb-true a C e in
        let had : a ≡ b = omega arith in
        ap (λ (n : ℕ). Working z n n) had ∙ sym (ap (λ (t : Bool). cond t (Working z b b) (Resting z)) (lt-ltb b C (omega arith)))
    go false e =
        let full : C ≤ a = ltb-false a C e in
        sym (ap (λ (t : Bool). cond t (Working z b b) (Resting z)) (le-ltb b C (omega arith)))
