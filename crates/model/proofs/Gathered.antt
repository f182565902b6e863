-- Sets of places that are gathered place after place, digit by digit: one place added, and the places below i that pass a test.
use mathlib.Core.Path.{◌≡◌, refl, sym, ap, ◌∙◌}
use mathlib.Core.Bool.{Bool, true, false, ◌||◌, ◌&&◌, and-false, and-true}
use Prim.Native.Nat.{ℕ, ◌+◌, ◌*◌, ◌^◌, ◌%◌, ◌≤◌, ◌<◌}
use native.Mathlib.Omega.{arith}
use lib.Bits.{bit_or}
use lib.Dec.{eqb, ltb}
use borrow.Author.Tests.{lt-ltb, le-ltb, eqb-true, eqb-false, ltb-true, ltb-false}
use Rattle.model.proofs.Digits.{or-bit, bit-none, bit-power, shifted_one}
use Rattle.model.specs.Search.{bit}

-- a place added
pub with-place : (s q : ℕ) → q < 32 → (p : ℕ) → bit (bit_or s ((1 * 2 ^ q) % 2 ^ 32)) p ≡ bit s p || eqb p q
with-place s q h p =
    or-bit s ((1 * 2 ^ q) % 2 ^ 32) p ∙ ap (λ (t : Bool). bit s p || t) (ap (λ (x : ℕ). bit x p) (shifted_one 32 q h) ∙ bit-power q p)

-- the set of the places below i that pass the test
abbrev pub Gathered : (ℕ → Bool) → ℕ → ℕ → Type 0
Gathered f i x = (p : ℕ) → bit x p ≡ ltb p i && f p

none_below : (p : ℕ) (b : Bool) → false ≡ ltb p 0 && b
none_below p b = sym (ap (λ (t : Bool). t && b) (le-ltb p 0 (omega arith)))

pub gathered_none : (f : ℕ → Bool) → Gathered f 0 0
gathered_none f p = bit-none p ∙ none_below p (f p)

or-none : (a b : Bool) → a || (b && false) ≡ a
or-none true b = refl
or-none false b = and-false b

one_more : (f : ℕ → Bool) (i p : ℕ) → (ltb p i && f p) || (f i && eqb p i) ≡ ltb p (i + 1) && f p
one_more f i p = go (eqb p i) refl (ltb p i) refl
  where
    go : (s : Bool) → eqb p i ≡ s → (t : Bool) → ltb p i ≡ t → (t && f p) || (f i && s) ≡ ltb p (i + 1) && f p
    go true e true l = absurd (omega (arith, eqb-true p i e, ltb-true p i l))
    go true e false l =
        let q : p ≡ i = eqb-true p i e in
        and-true (f i) ∙ ap f (sym q) ∙ sym (ap (λ (t : Bool). t && f p) (lt-ltb p (i + 1) (omega arith)))
    go false e true l = or-none (f p) (f i) ∙ sym (ap (λ (t : Bool). t && f p) (lt-ltb p (i + 1) (omega (arith, ltb-true p i l))))
    go false e false l =
        let n : (p ≡ i → ⊥) = eqb-false p i e in
        let m : i ≤ p = ltb-false p i l in
        and-false (f i) ∙ sym (ap (λ (t : Bool). t && f p) (le-ltb p (i + 1) (omega arith)))

-- place i tested too
pub gathered-more : (f : ℕ → Bool) (i x y : ℕ) (b : Bool) → Gathered f i x → b ≡ f i → ((p : ℕ) → bit y p ≡ bit x p || (b && eqb p i)) → Gathered f (i + 1) y
gathered-more f i x y b g e w p = w p ∙ rw (g p, e) (one_more f i p)
