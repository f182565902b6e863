-- Numbers from 1 to n that differ from each other are at most n.
use mathlib.Core.Path.{◌≡◌, refl}
use mathlib.Core.Bool.{Bool, true, false, cond}
use Prim.Native.Nat.{ℕ, zero, suc, ◌≤◌, ◌<◌, suc-le-suc}
use native.Mathlib.Omega.{arith}
use lib.Dec.{eqb}
use borrow.Author.Tests.{eqb-true, eqb-false}

-- with the last number in the place of the largest, the others are from 1 to n and still differ
abbrev swapped : ℕ → ℕ → ℕ → ℕ
swapped n last x = cond (eqb x (suc n)) last x

swapped-within : (n last x : ℕ) → 1 ≤ last → last ≤ suc n → 1 ≤ x → x ≤ suc n → (x ≡ last → ⊥) → (1 ≤ swapped n last x) × (swapped n last x ≤ n)
swapped-within n last x a b c d e = go (eqb x (suc n)) refl
  where
    go : (t : Bool) → eqb x (suc n) ≡ t → (1 ≤ cond t last x) × (cond t last x ≤ n)
    go true q = let s = eqb-true x (suc n) q in omega arith
    go false q = let s = eqb-false x (suc n) q in omega arith

swapped-differ : (n last x y : ℕ) → (x ≡ y → ⊥) → (x ≡ last → ⊥) → (y ≡ last → ⊥) → swapped n last x ≡ swapped n last y → ⊥
swapped-differ n last x y d e f = go (eqb x (suc n)) refl (eqb y (suc n)) refl
  where
    go : (t : Bool) → eqb x (suc n) ≡ t → (u : Bool) → eqb y (suc n) ≡ u → cond t last x ≡ cond u last y → ⊥
    go true p true q h = let a = eqb-true x (suc n) p in let b = eqb-true y (suc n) q in omega arith
    go true p false q h = omega arith
    go false p true q h = omega arith
    go false p false q h = omega arith

pub pigeonhole : (n k : ℕ) (f : ℕ → ℕ)
    → ((i : ℕ) → i < k → (1 ≤ f i) × (f i ≤ n))
    → ((i j : ℕ) → i < j → j < k → f i ≡ f j → ⊥)
    → k ≤ n
pigeonhole zero zero f within differ = omega arith
pigeonhole zero (suc k) f within differ = let x = within 0 (omega arith) in omega arith
pigeonhole (suc n) zero f within differ = omega arith
pigeonhole (suc n) (suc k) f within differ =
    let last = within k (omega arith) in
    suc-le-suc
    (pigeonhole n k (λ i. swapped n (f k) (f i))
    (λ i l. let x = within i (omega arith) in swapped-within n (f k) (f i) last.0 last.1 x.0 x.1 (differ i k l (omega arith)))
    (λ i j l m.
    swapped-differ n (f k) (f i) (f j) (differ i j l (omega arith)) (differ i k (omega arith) (omega arith)) (differ j k m (omega arith))))
