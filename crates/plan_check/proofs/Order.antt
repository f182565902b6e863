-- The order of a row's numbers: nothing is checked before itself, and one number at most is the first that applies.
use mathlib.Core.Bool.{Bool, cond, false, true}
use mathlib.Core.List.{List}
use mathlib.Core.Logic.{inl, inr}
use mathlib.Core.Path.{ap₂, refl, sym, ◌∙◌, ◌≡◌}
use Prim.Native.Nat.{◌<◌, ℕ, ◌≤◌}
use native.Mathlib.Omega.{arith}
use lib.Dec.{eqb, ltb}
use borrow.Author.Tests.{ltb-false, ltb-true}
use Rattle.table.specs.Numbers.{place_from}
use Rattle.plan_check.specs.Numbers.{Applies, EarlierFault, First, eleven, fourteen, in_tick, late-last, late-now, nine, row_order, ten, twenty-four, twenty-six}
use Rattle.plan_check.specs.declared.SuppliedPlan.{SuppliedPlan}

-- a number of a later place is not checked before ..
pub later : (m s n t : ℕ) → place_from 1 row_order n < place_from 1 row_order m → ¬ EarlierFault m s n t
later m s n t l (inl h) = omega arith
later m s n t l (inr (e, h)) = omega arith

-- .. nor one of a later tick ..
pub later-tick : (m s n t : ℕ) → place_from 1 row_order m ≡ place_from 1 row_order n → t < s → ¬ EarlierFault m s n t
later-tick m s n t e l (inl h) = omega arith
later-tick m s n t e l (inr (f, inl h)) = omega arith
later-tick m s n t e l (inr (f, inr h)) = omega arith

-- .. nor, in a tick, one that comes no sooner: itself not either
pub no-earlier : (m s n t : ℕ) → place_from 1 row_order n ≤ place_from 1 row_order m → t ≤ s → place_from 1 in_tick n ≤ place_from 1 in_tick m → ¬ EarlierFault m s n t
no-earlier m s n t e l k (inl h) = omega arith
no-earlier m s n t e l k (inr (f, inl h)) = omega arith
no-earlier m s n t e l k (inr (f, inr h)) = omega arith

-- the number of a place
abbrev number_at : ℕ → ℕ → ℕ
number_at p k =
    cond (eqb p 1) 14 (cond (eqb p 2) 9 (cond (eqb p 3) 10 (cond (eqb p 4) 11 (cond (eqb k 1) 25 (cond (eqb k 2) 24 26)))))

-- a number that applies is that of its place
known : (w : SuppliedPlan) (row : List ℕ) (n t : ℕ) → Applies w row n t → n ≡ number_at (place_from 1 row_order n) (place_from 1 in_tick n)
known w row n t (fourteen h) = refl
known w row n t (nine h) = refl
known w row n t (ten h) = refl
known w row n t (eleven h) = refl
known w row n t (late-now h) = refl
known w row n t (late-last l h) = refl
known w row n t (twenty-four h) = refl
known w row n t (twenty-six l h) = refl

-- of two numbers one is lower, or they are the same
same-unless : (a b : ℕ) → ¬ (a < b) → ¬ (b < a) → a ≡ b
same-unless a b p q = go (ltb a b) refl (ltb b a) refl
  where
    go : (t : Bool) → ltb a b ≡ t → (u : Bool) → ltb b a ≡ u → a ≡ b
    go true e u f = absurd (p (ltb-true a b e))
    go false e true f = absurd (q (ltb-true b a f))
    go false e false f = omega (arith, ltb-false a b e, ltb-false b a f)

-- so one at most is the first of the numbers that apply
pub first-only : (w : SuppliedPlan) (row : List ℕ) (n t m s : ℕ) → First w row n t → First w row m s → (n ≡ m) × (t ≡ s)
first-only w row n t m s f g = (known w row n t f.0 ∙ (ap₂ number_at place tick-place ∙ sym (known w row m s g.0)), tick)
  where
    there : ¬ EarlierFault n t m s
    there e = g.1 n t e f.0

    back : ¬ EarlierFault m s n t
    back e = f.1 m s e g.0

    place : place_from 1 row_order n ≡ place_from 1 row_order m
    place = same-unless _ _ (λ l. there (inl l)) (λ l. back (inl l))

    tick : t ≡ s
    tick = same-unless t s (λ l. there (inr (place, inl l))) (λ l. back (inr (sym place, inl l)))

    tick-place : place_from 1 in_tick n ≡ place_from 1 in_tick m
    tick-place = same-unless _ _ (λ l. there (inr (place, inr (tick, l)))) (λ l. back (inr (sym place, inr (sym tick, l))))
