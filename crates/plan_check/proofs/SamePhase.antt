-- Two phases are the same exactly if their test is true.
use mathlib.Core.Bool.{◌&&◌, false≢true, true}
use mathlib.Core.Logic.{◌↔◌}
use mathlib.Core.Path.{ap, subst, ◌∙◌, ◌≡◌, refl}
use Prim.Native.Nat.{ℕ}
use lib.Dec.{eqb}
use borrow.Author.Tests.{eq-eqb, eqb-true}
use Rattle.model.proofs.Bools.{and_left, and_right}
use Rattle.phase.specs.declared.Phase.{Phase}
use Rattle.phase.specs.declared.Phase.TheVariants.{Coming, Holding, Resting, Working}
use Rattle.plan_check.specs.Numbers.{same_phase}

there : (a b : Phase) → same_phase a b ≡ true → a ≡ b
there (Coming a) (Coming b) e = ap Coming (eqb-true a b e)
there (Coming a) (Working z had reserved) e = absurd (false≢true e)
there (Coming a) (Holding z reserved) e = absurd (false≢true e)
there (Coming a) (Resting z) e = absurd (false≢true e)
there (Working a b c) (Coming left) e = absurd (false≢true e)
there (Working a b c) (Working z had reserved) e =
    let rest = and_right (eqb a z) (eqb b had && eqb c reserved) e in
    let x = eqb-true a z (and_left (eqb a z) (eqb b had && eqb c reserved) e) in
    let y = eqb-true b had (and_left (eqb b had) (eqb c reserved) rest) in
    let w = eqb-true c reserved (and_right (eqb b had) (eqb c reserved) rest) in
    ap (λ (n : ℕ). Working n b c) x ∙ (ap (λ (n : ℕ). Working z n c) y ∙ ap (λ (n : ℕ). Working z had n) w)
there (Working a b c) (Holding z reserved) e = absurd (false≢true e)
there (Working a b c) (Resting z) e = absurd (false≢true e)
there (Holding a b) (Coming left) e = absurd (false≢true e)
there (Holding a b) (Working z had reserved) e = absurd (false≢true e)
there (Holding a b) (Holding z reserved) e =
    ap (λ (n : ℕ). Holding n b) (eqb-true a z (and_left (eqb a z) (eqb b reserved) e))
    ∙ ap (λ (n : ℕ). Holding z n) (eqb-true b reserved (and_right (eqb a z) (eqb b reserved) e))
there (Holding a b) (Resting z) e = absurd (false≢true e)
there (Resting a) (Coming left) e = absurd (false≢true e)
there (Resting a) (Working z had reserved) e = absurd (false≢true e)
there (Resting a) (Holding z reserved) e = absurd (false≢true e)
there (Resting a) (Resting z) e = ap Resting (eqb-true a z e)

itself : (a : Phase) → same_phase a a ≡ true
itself (Coming a) = eq-eqb a a refl
itself (Working a b c) = rw (eq-eqb a a refl, eq-eqb b b refl, eq-eqb c c refl)
itself (Holding a b) = rw (eq-eqb a a refl, eq-eqb b b refl)
itself (Resting a) = eq-eqb a a refl

pub same-phase : (a b : Phase) → (same_phase a b ≡ true) ↔ (a ≡ b)
same-phase a b = (there a b, λ e. subst (λ (c : Phase). same_phase a c ≡ true) e (itself a))
