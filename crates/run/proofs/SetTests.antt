-- Sets of places by their tests: a bit that is set where it may not be, a place at or past the count, by a search and by one shift.
use mathlib.Core.Path.{◌≡◌, refl, sym, ◌∙◌, ap}
use mathlib.Core.Bool.{Bool, true, false, not, ◌&&◌, true≢false}
use Prim.Native.Nat.{ℕ, ◌+◌, ◌-◌, ◌/◌, ◌^◌, ◌≤◌, ◌<◌}
use native.Mathlib.Nat.{div-div-eq-div-mul, div-eq_of_lt, le-div_iff_mul-le, le_of_eq}
use native.Mathlib.Omega.{arith}
use lib.Bits.{bit_or}
use lib.Pow.{pow-add, pow_pos}
use lib.Dec.{ltb, leb}
use borrow.Author.Tests.{ltb-false, le-ltb, lt-ltb, leb-true, leb-false, ne_eqb, not-true}
use Rattle.model.specs.Search.{any, bit}
use Rattle.model.specs.Advance.{singleton}
use Rattle.model.proofs.Bools.{and_left, and_right, and_both}
use Rattle.std.proofs.lemmas.Bool.{false_from_ne_true, true_from_ne_false}
use Rattle.std.specs.Cmp.{both_ways}
use Rattle.model.proofs.Digits.{bit_high, bit-none, bit_past, bit-power, or-bit, same_set}
use Rattle.model.proofs.Search.{any_some, any_of}
use Rattle.table.proofs.Decide.{Decides, fails}
use Rattle.run.specs.Numbers.{PastCount, past_count}

-- A BIT THAT IS SET WHERE IT MAY NOT BE

-- a set has no bit from its number up
pub bit-low : (x p : ℕ) → bit x p ≡ true → p < x
bit-low x p e = go (leb x p) refl
  where
    go : (t : Bool) → leb x p ≡ t → p < x
    go true q = absurd (true≢false (sym e ∙ bit_high x p (leb-true x p q)))
    go false q = leb-false x p q

pub set-decides :
    (x : ℕ) (f : ℕ → Bool) (P : ℕ → Type 0) → ((p : ℕ) → Decides (not (f p)) (P p))
    → Decides (any x (λ p. bit x p && not (f p))) ((p : ℕ) × ((bit x p ≡ true) × P p))
set-decides x f P d = (
  λ e.
      let y = any_some x (λ p. bit x p && not (f p)) e in
      (y.0, (and_left (bit x y.0) (not (f y.0)) y.2, (d y.0).0 (and_right (bit x y.0) (not (f y.0)) y.2))),
  λ y.
      any_of x (λ p. bit x p && not (f p)) y.0 (bit-low x y.0 y.1.0)
      (and_both (bit x y.0) (not (f y.0)) y.1.0 ((d y.0).1 y.1.1)),
)

-- A PLACE AT OR PAST THE COUNT

pub beyond-decides : (p n : ℕ) → Decides (not (ltb p n)) (n ≤ p)
beyond-decides p n = (λ e. ltb-false p n (not-true (ltb p n) e), λ l. ap not (le-ltb p n l))

-- a set that is below 2 ^ n has no place from n on, and one that is not has one
below_none : (n x : ℕ) → x < 2 ^ n → (p : ℕ) → n ≤ p → bit x p ≡ false
below_none n x h p l = bit_past n x p h l

bit-shift : (x n i : ℕ) → bit (x / 2 ^ n) i ≡ bit x (n + i)
bit-shift x n i = rw (div-div-eq-div-mul x (2 ^ n) (2 ^ i), ← pow-add 2 n i)

-- something is left by a shift exactly if the set is no less than the digit
some_left : (n x : ℕ) → 2 ^ n ≤ x → 1 ≤ x / 2 ^ n
some_left n x h = (le-div_iff_mul-le (pow_pos n)).1 (omega arith)

none_below : (n x : ℕ) → ((p : ℕ) → n ≤ p → bit x p ≡ false) → ¬ (2 ^ n ≤ x)
none_below n x h l =
    let none : x / 2 ^ n ≡ 0 = same_set (x / 2 ^ n) 0 (λ i. bit-shift x n i ∙ (h (n + i) (omega arith) ∙ sym (bit-none i))) in
    omega (arith, some_left n x l)

search-decides : (n x : ℕ) → Decides (any x (λ p. bit x p && not (ltb p n))) (PastCount n x)
search-decides n x = set-decides x (λ p. ltb p n) (λ p. n ≤ p) (λ p. beyond-decides p n)

pub past-decides : (n x : ℕ) → Decides (past_count n x) (PastCount n x)
unfolding past_count
past-decides n x = (there, back)
  where
    there : leb (2 ^ n) x ≡ true → PastCount n x
    there e = (search-decides n x).0 (true_from_ne_false (any x (λ p. bit x p && not (ltb p n))) (λ f.
        let none : ¬ PastCount n x = fails (any x (λ p. bit x p && not (ltb p n))) (PastCount n x) (search-decides n x) f in
        none_below n x (λ p l. false_from_ne_true (bit x p) (λ b. none (p, (b, l)))) (leb-true (2 ^ n) x e)))

    back : PastCount n x → leb (2 ^ n) x ≡ true
    back y = true_from_ne_false (leb (2 ^ n) x) (λ f. true≢false (sym y.1.0 ∙ below_none n x (leb-false (2 ^ n) x f) y.0 y.1.1))

-- so a search finds the same
pub past-search : (n x : ℕ) → past_count n x ≡ any x (λ p. bit x p && not (ltb p n))
past-search n x =
    both_ways (past_count n x) (any x (λ p. bit x p && not (ltb p n)))
    (λ e. (search-decides n x).1 ((past-decides n x).0 e)) (λ e. (past-decides n x).1 ((search-decides n x).0 e))

-- no bit is set at the count or past it
pub within-if : (n x : ℕ) → past_count n x ≡ false → (p : ℕ) → n ≤ p → bit x p ≡ false
within-if n x e p l = false_from_ne_true (bit x p) (λ b. fails (past_count n x) (PastCount n x) (past-decides n x) e (p, (b, l)))

pub within-is : (n x : ℕ) → ((p : ℕ) → n ≤ p → bit x p ≡ false) → past_count n x ≡ false
within-is n x h = false_from_ne_true (past_count n x) (λ e. let y = (past-decides n x).0 e in true≢false (sym y.1.0 ∙ h y.0 y.1.1))

-- of no place, of one position of the run, of two sets together
pub within_none : (n : ℕ) → past_count n 0 ≡ false
within_none n = within-is n 0 (λ p l. bit-none p)

pub within-or : (n x y : ℕ) → past_count n x ≡ false → past_count n y ≡ false → past_count n (bit_or x y) ≡ false
within-or n x y a b = within-is n (bit_or x y) (λ p l. or-bit x y p ∙ rw (within-if n x a p l, within-if n y b p l))

pub within-only : (n p : ℕ) → 1 ≤ p → p ≤ n → past_count n (singleton p) ≡ false
within-only n p a b = within-is n (singleton p) (λ q l. bit-power (p - 1) q ∙ ne_eqb q (p - 1) (λ e. omega arith))

-- BY ONE SHIFT: what is left of a set are its places from the count on
pub past_shift : (n x : ℕ) → past_count n x ≡ ltb 0 (x / 2 ^ n)
unfolding past_count
past_shift n x = go (leb (2 ^ n) x) refl
  where
    go : (t : Bool) → leb (2 ^ n) x ≡ t → t ≡ ltb 0 (x / 2 ^ n)
    go false e = sym (le-ltb 0 (x / 2 ^ n) (le_of_eq (div-eq_of_lt (leb-false (2 ^ n) x e))))
    go true e = sym (lt-ltb 0 (x / 2 ^ n) (some_left n x (leb-true (2 ^ n) x e)))

-- a set of k digits has none from k on
pub past_all : (n k x : ℕ) → x < 2 ^ k → k ≤ n → past_count n x ≡ false
past_all n k x h l = within-is n x (λ p m. bit_past k x p h (omega arith))
