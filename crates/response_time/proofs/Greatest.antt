-- The greatest of some numbers: at least each of them, one of them, and at most what bounds them all.
use mathlib.Core.Bool.{Bool, true, false}
use mathlib.Core.Logic.{◌⊎◌, inl, inr, ⊎_elim}
use mathlib.Core.Path.{◌≡◌, refl, subst, sym, ◌∙◌}
use Prim.Native.Nat.{ℕ, zero, suc, ◌≤◌, ◌<◌, max}
use native.Mathlib.Nat.{eq-or-lt_of_le, le_trans, not-suc-le-zero}
use native.Mathlib.Omega.{arith}
use lib.Dec.{leb}
use borrow.Author.Tests.{leb-true, leb-false}
use Rattle.response_time.specs.Response.{greatest}

-- at least each of them
pub greatest-at : (n : ℕ) (f : ℕ → ℕ) (i : ℕ) → i < n → f i ≤ greatest n f
unfolding greatest
greatest-at zero f i l = absurd (not-suc-le-zero l)
greatest-at (suc n) f i l =
    ⊎_elim
    (λ (e : i ≡ n). subst (λ (j : ℕ). f j ≤ max (greatest n f) (f n)) (sym e) (omega arith))
    (λ (e : i < n). le_trans (greatest-at n f i e) (omega arith))
    (eq-or-lt_of_le (omega arith))

-- it is one of them, where there are some
pub greatest-is : (n : ℕ) (f : ℕ → ℕ) → (i : ℕ) × (i < suc n) × (greatest (suc n) f ≡ f i)
unfolding greatest
greatest-is zero f = (0, omega arith, omega arith)
greatest-is (suc n) f = go (either (greatest (suc n) f) (f (suc n))) (greatest-is n f)
  where
    either : (a b : ℕ) → (max a b ≡ b) ⊎ (max a b ≡ a)
    either a b = test (leb a b) refl
      where
        test : (t : Bool) → leb a b ≡ t → (max a b ≡ b) ⊎ (max a b ≡ a)
        test true q = inl (omega (arith, leb-true a b q))
        test false q = inr (omega (arith, leb-false a b q))

    go :
        (max (greatest (suc n) f) (f (suc n)) ≡ f (suc n)) ⊎ (max (greatest (suc n) f) (f (suc n)) ≡ greatest (suc n) f)
        → (i : ℕ) × (i < suc n) × (greatest (suc n) f ≡ f i) → (i : ℕ) × (i < suc (suc n)) × (max (greatest (suc n) f) (f (suc n)) ≡ f i)
    go (inl e) x = (suc n, omega arith, e)
    go (inr e) x = (x.0, omega (arith, x.1), e ∙ x.2)

-- and at most what each of them is at most
pub greatest-least : (n : ℕ) (f : ℕ → ℕ) (m : ℕ) → ((i : ℕ) → i < n → f i ≤ m) → greatest n f ≤ m
unfolding greatest
greatest-least zero f m h = omega arith
greatest-least (suc n) f m h = omega (arith, greatest-least n f m (λ i l. h i (omega arith)), h n (omega arith))
