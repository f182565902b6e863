-- A set's binary digits: one by one, of the empty set and of one number, how |, & and ^ read them, the set without one number,
-- and the lowest number, which trailing zeros finds.
use mathlib.Core.Path.{◌≡◌, refl, sym, ap, ap₂, ◌∙◌, subst}
use mathlib.Core.Bool.{true, false, true≢false, false≢true, not, ◌&&◌, ◌||◌, cond, and-true, and-false}
use mathlib.Core.Logic.{⊎_elim}
use Prim.Native.Nat.{ℕ, zero, suc, ◌+◌, ◌-◌, ◌*◌, ◌/◌, ◌%◌, ◌^◌, ◌≤◌, ◌<◌, min, max}
use native.Mathlib.Nat.{div-div-eq-div-mul, div-eq_of_lt, div-one, eq-zero-or-pos, le_trans, pow-suc, pow-succ', zero-div}
use native.Mathlib.Omega.{arith}
use lib.Bits.{bit_and, bit_or, bit_xor, differ, and_step, or_step, xor_step, and_self, and_shr, or_shr, xor_shr}
use lib.Count.{count_trailing_zeros, under}
use lib.Dec.{eqb, eqb-suc-suc, eqb-suc-zero, eqb-zero-suc}
use lib.Pow.{pow_mono, pow_pos, shl_exact}
use borrow.Author.Tests.{eq-eqb, eqb-true, ne_eqb}
use Rattle.model.specs.Search.{bit}

-- ---- a set's digits, one by one

pub bit-zero : (n : ℕ) → bit n 0 ≡ eqb (n % 2) 1
bit-zero n = rw (div-one n)

-- a digit above the lowest is a digit of the half
pub bit-suc : (n i : ℕ) → bit n (suc i) ≡ bit (n / 2) i
bit-suc n i = rw (pow-succ' 2 i, ← div-div-eq-div-mul n 2 (2 ^ i))

pub even-half : (n m : ℕ) → n ≡ 2 * m → (n % 2 ≡ 0) × (n / 2 ≡ m)
even-half n m e = omega arith

pub odd-half : (n m : ℕ) → n ≡ 1 + 2 * m → (n % 2 ≡ 1) × (n / 2 ≡ m)
odd-half n m e = omega arith

pub half : (d n : ℕ) → n < 2 ^ suc d → n / 2 < 2 ^ d
half d n h = omega (arith, pow-suc 2 d)

-- ---- the set of nothing, and of one number

pub bit-none : (i : ℕ) → bit 0 i ≡ false
bit-none i = rw (zero-div (2 ^ i))

pub bit-power : (q i : ℕ) → bit (2 ^ q) i ≡ eqb i q
bit-power zero zero = refl
bit-power zero (suc i) = rw (bit-suc 1 i, bit-none i, eqb-suc-zero i)
bit-power (suc q) zero =
    let e : 2 ^ suc q % 2 ≡ 0 = omega (arith, pow-suc 2 q) in
    rw (bit-zero (2 ^ suc q), e, eqb-zero-suc q)
bit-power (suc q) (suc i) =
    let e : 2 ^ suc q / 2 ≡ 2 ^ q = omega (arith, pow-suc 2 q) in
    rw (bit-suc (2 ^ suc q) i, e, bit-power q i, eqb-suc-suc i q)

-- `1 << q` at d bits is the power
pub shifted_one : (d q : ℕ) → q < d → (1 * 2 ^ q) % 2 ^ d ≡ 2 ^ q
shifted_one d q h = shl_exact 1 q d (omega arith) (omega arith) ∙ omega arith

-- ---- no digits past the end

-- a set below 2 ^ k has no number from k up
pub bit_past : (k n i : ℕ) → n < 2 ^ k → k ≤ i → bit n i ≡ false
bit_past k n i h l =
    let small : n < 2 ^ i = le_trans h (pow_mono l) in
    rw (div-eq_of_lt small)

pub below-pow : (i : ℕ) → i < 2 ^ i
below-pow zero = omega arith
below-pow (suc i) = omega (arith, below-pow i)

-- the digits of a set from its number up are 0
pub bit_high : (n i : ℕ) → n ≤ i → bit n i ≡ false
bit_high n i h = bit_past i n i (omega (arith, below-pow i)) (omega arith)

-- ---- sets with the same digits are the same

digit-same : (x y : ℕ) → x < 2 → y < 2 → eqb x 1 ≡ eqb y 1 → x ≡ y
digit-same zero zero h k e = refl
digit-same zero (suc zero) h k e = absurd (false≢true e)
digit-same (suc zero) zero h k e = absurd (true≢false e)
digit-same (suc zero) (suc zero) h k e = refl
digit-same (suc (suc x)) y h k e = absurd (omega arith)
digit-same zero (suc (suc y)) h k e = absurd (omega arith)
digit-same (suc zero) (suc (suc y)) h k e = absurd (omega arith)

pub same_digits : (d x y : ℕ) → x < 2 ^ d → y < 2 ^ d → ((i : ℕ) → i < d → bit x i ≡ bit y i) → x ≡ y
same_digits zero x y h k e = omega arith
same_digits (suc d) x y h k e =
    let low : x % 2 ≡ y % 2 = digit-same (x % 2) (y % 2) (omega arith) (omega arith) (sym (bit-zero x) ∙ e 0 (omega arith) ∙ bit-zero y) in
    let rest : x / 2 ≡ y / 2 = same_digits d (x / 2) (y / 2) (half d x h) (half d y k) (λ i l. sym (bit-suc x i) ∙ e (suc i) (omega arith) ∙ bit-suc y i) in
    omega arith

-- with no bound on them
pub same_set : (x y : ℕ) → ((i : ℕ) → bit x i ≡ bit y i) → x ≡ y
same_set x y e =
    let all : x + y < 2 ^ (x + y) = below-pow (x + y) in
    same_digits (x + y) x y (omega arith) (omega arith) (λ i l. e i)

-- ---- two sets, digit by digit

or-digit : (x y : ℕ) → x < 2 → y < 2 → eqb (max x y) 1 ≡ eqb x 1 || eqb y 1
or-digit zero zero h k = refl
or-digit zero (suc zero) h k = refl
or-digit (suc zero) zero h k = refl
or-digit (suc zero) (suc zero) h k = refl
or-digit (suc (suc x)) y h k = absurd (omega arith)
or-digit zero (suc (suc y)) h k = absurd (omega arith)
or-digit (suc zero) (suc (suc y)) h k = absurd (omega arith)

and-digit : (x y : ℕ) → x < 2 → y < 2 → eqb (min x y) 1 ≡ eqb x 1 && eqb y 1
and-digit zero zero h k = refl
and-digit zero (suc zero) h k = refl
and-digit (suc zero) zero h k = refl
and-digit (suc zero) (suc zero) h k = refl
and-digit (suc (suc x)) y h k = absurd (omega arith)
and-digit zero (suc (suc y)) h k = absurd (omega arith)
and-digit (suc zero) (suc (suc y)) h k = absurd (omega arith)

pub or-bit : (a b i : ℕ) → bit (bit_or a b) i ≡ bit a i || bit b i
or-bit a b i =
    let x = a / 2 ^ i in
    let y = b / 2 ^ i in
    let e : bit_or a b / 2 ^ i % 2 ≡ max (x % 2) (y % 2) = ap (λ (z : ℕ). z % 2) (or_shr a b i) ∙ omega (arith, or_step x y) in
    ap (λ (z : ℕ). eqb z 1) e ∙ or-digit (x % 2) (y % 2) (omega arith) (omega arith)

pub and-bit : (a b i : ℕ) → bit (bit_and a b) i ≡ bit a i && bit b i
and-bit a b i =
    let x = a / 2 ^ i in
    let y = b / 2 ^ i in
    let e : bit_and a b / 2 ^ i % 2 ≡ min (x % 2) (y % 2) = ap (λ (z : ℕ). z % 2) (and_shr a b i) ∙ omega (arith, and_step x y) in
    ap (λ (z : ℕ). eqb z 1) e ∙ and-digit (x % 2) (y % 2) (omega arith) (omega arith)

-- a ^ b: the digits of one of them alone
xor-digit : (x y : ℕ) → x < 2 → y < 2 → (differ x y < 2) × (eqb (differ x y) 1 ≡ cond (eqb x 1) (not (eqb y 1)) (eqb y 1))
xor-digit zero zero h k = (omega arith, refl)
xor-digit zero (suc zero) h k = (omega arith, refl)
xor-digit (suc zero) zero h k = (omega arith, refl)
xor-digit (suc zero) (suc zero) h k = (omega arith, refl)
xor-digit (suc (suc x)) y h k = absurd (omega arith)
xor-digit zero (suc (suc y)) h k = absurd (omega arith)
xor-digit (suc zero) (suc (suc y)) h k = absurd (omega arith)

pub xor-bit : (a b i : ℕ) → bit (bit_xor a b) i ≡ cond (bit a i) (not (bit b i)) (bit b i)
xor-bit a b i =
    let x = a / 2 ^ i in
    let y = b / 2 ^ i in
    let d = xor-digit (x % 2) (y % 2) (omega arith) (omega arith) in
    let e : bit_xor a b / 2 ^ i % 2 ≡ differ (x % 2) (y % 2) = ap (λ (z : ℕ). z % 2) (xor_shr a b i) ∙ omega (arith, xor_step x y, d.0) in
    ap (λ (z : ℕ). eqb z 1) e ∙ d.1

-- a & (a ^ b): the digits of a that b does not have
without-digit : (x y : ℕ) → x < 2 → y < 2 → (differ x y < 2) × (eqb (min x (differ x y)) 1 ≡ eqb x 1 && not (eqb y 1))
without-digit zero zero h k = (omega arith, refl)
without-digit zero (suc zero) h k = (omega arith, refl)
without-digit (suc zero) zero h k = (omega arith, refl)
without-digit (suc zero) (suc zero) h k = (omega arith, refl)
without-digit (suc (suc x)) y h k = absurd (omega arith)
without-digit zero (suc (suc y)) h k = absurd (omega arith)
without-digit (suc zero) (suc (suc y)) h k = absurd (omega arith)

pub without-bit : (a b i : ℕ) → bit (bit_and a (bit_xor a b)) i ≡ bit a i && not (bit b i)
without-bit a b i =
    let x = a / 2 ^ i in
    let y = b / 2 ^ i in
    let d = without-digit (x % 2) (y % 2) (omega arith) (omega arith) in
    let o : bit_xor a b / 2 ^ i % 2 ≡ differ (x % 2) (y % 2) = ap (λ (z : ℕ). z % 2) (xor_shr a b i) ∙ omega (arith, xor_step x y, d.0) in
    let e : bit_and a (bit_xor a b) / 2 ^ i % 2 ≡ min (x % 2) (differ (x % 2) (y % 2)) =
    ap (λ (z : ℕ). z % 2) (and_shr a (bit_xor a b) i) ∙ omega (arith, and_step x (bit_xor a b / 2 ^ i), o) in
    ap (λ (z : ℕ). eqb z 1) e ∙ d.1

-- ---- the set without one number

-- the power of a number that is there is within the set, and the set without it has the others
pub record BitCleared (x p : ℕ) : Type 0 where
  pub within : 2 ^ p ≤ x
  pub others : (q : ℕ) → bit (x - 2 ^ p) q ≡ bit x q && not (eqb q p)

-- from the half
double : (x p : ℕ) → BitCleared (x / 2) p → BitCleared x (suc p)
double x p half = record { within = omega (arith, pow-suc 2 p, half.within); others = go }
  where
    go : (q : ℕ) → bit (x - 2 ^ suc p) q ≡ bit x q && not (eqb q (suc p))
    go zero =
        let r : (x - 2 ^ suc p) % 2 ≡ x % 2 = omega (arith, pow-suc 2 p, half.within) in
        rw (bit-zero (x - 2 ^ suc p), r, bit-zero x, eqb-zero-suc p) (sym (and-true (eqb (x % 2) 1)))
    go (suc q) =
        let r : (x - 2 ^ suc p) / 2 ≡ x / 2 - 2 ^ p = omega (arith, pow-suc 2 p, half.within) in
        rw (bit-suc (x - 2 ^ suc p) q, r, bit-suc x q, eqb-suc-suc q p) (half.others q)

pub clear-bit : (x p : ℕ) → bit x p ≡ true → BitCleared x p
clear-bit x zero e = record { within = omega (arith, odd); others = go }
  where
    odd : x % 2 ≡ 1
    odd = eqb-true (x % 2) 1 (sym (bit-zero x) ∙ e)

    go : (q : ℕ) → bit (x - 1) q ≡ bit x q && not (eqb q 0)
    go zero =
        let r : (x - 1) % 2 ≡ 0 = omega (arith, odd) in
        rw (bit-zero (x - 1), r, bit-zero x, odd)
    go (suc q) =
        let r : (x - 1) / 2 ≡ x / 2 = omega (arith, odd) in
        rw (bit-suc (x - 1) q, r, bit-suc x q, eqb-suc-zero q) (sym (and-true (bit (x / 2) q)))
clear-bit x (suc p) e = double x p (clear-bit (x / 2) p (sym (bit-suc x p) ∙ e))

-- ---- the lowest number of a set that is not empty

pub record Lowest (n q : ℕ) : Type 0 where
  pub within : 2 ^ q ≤ n
  -- q is in the set, and nothing below it is
  pub here : bit n q ≡ true
  pub below : (i : ℕ) → i < q → bit n i ≡ false
  -- the set without it
  pub gone : bit (n - 2 ^ q) q ≡ false
  pub others : (i : ℕ) → (i ≡ q → ⊥) → bit (n - 2 ^ q) i ≡ bit n i

lowest-is : (n q : ℕ) → bit n q ≡ true → ((i : ℕ) → i < q → bit n i ≡ false) → Lowest n q
lowest-is n q h b =
    let w = clear-bit n q h in
    record {
      within = w.within;
      here = h;
      below = b;
      gone = w.others q ∙ rw (eq-eqb q q refl) (and-false (bit n q));
      others = λ i k. w.others i ∙ rw (ne_eqb i q k) (and-true (bit n i));
    }

pub tz-out : (d n m : ℕ) → n ≡ 2 * m → count_trailing_zeros (suc d) n ≡ suc (count_trailing_zeros d m)
unfolding count_trailing_zeros
tz-out d n m e = ap₂ (λ (b h : ℕ). under b (count_trailing_zeros d h)) (even-half n m e).0 (even-half n m e).1

pub tz-into : (d n m : ℕ) → n ≡ 1 + 2 * m → count_trailing_zeros (suc d) n ≡ 0
unfolding count_trailing_zeros
tz-into d n m e = ap₂ (λ (b h : ℕ). under b (count_trailing_zeros d h)) (odd-half n m e).0 (odd-half n m e).1

-- trailing zeros finds it
pub lowest-of : (d n : ℕ) → 0 < n → n < 2 ^ d → (count_trailing_zeros d n < d) × Lowest n (count_trailing_zeros d n)
lowest-of zero n p h = absurd (omega arith)
lowest-of (suc d) n p h =
    ⊎_elim
    (λ (e : n % 2 ≡ 0).
    let l = lowest-of d (n / 2) (omega arith) (half d n h) in
    subst (λ (q : ℕ). (q < suc d) × Lowest n q) (sym (tz-out d n (n / 2) (omega arith))) (omega (arith, l.0), even e l.1))
    (λ (e : 0 < n % 2).
    subst (λ (q : ℕ). (q < suc d) × Lowest n q) (sym (tz-into d n (n / 2) (omega arith)))
    (omega arith, lowest-is n 0 (bit-zero n ∙ eq-eqb (n % 2) 1 (omega arith)) (λ i k. absurd (omega arith))))
    (eq-zero-or-pos (n % 2))
  where
    even : {q : ℕ} → n % 2 ≡ 0 → Lowest (n / 2) q → Lowest n (suc q)
    even {q} e l = lowest-is n (suc q) (bit-suc n q ∙ l.here) below
      where
        below : (i : ℕ) → i < suc q → bit n i ≡ false
        below zero k = bit-zero n ∙ ap (λ (x : ℕ). eqb x 1) e
        below (suc i) k = bit-suc n i ∙ l.below i (omega arith)

-- n & (n - 1) is the set without it
cleared-from : (d n : ℕ) → 0 < n → n < 2 ^ d → bit_and n (n - 1) + 2 ^ count_trailing_zeros d n ≡ n
cleared-from zero n p h = absurd (omega arith)
cleared-from (suc d) n p h =
    ⊎_elim
    (λ (e : n % 2 ≡ 0).
    let z : n ≡ 2 * (n / 2) = omega arith in
    let f : (n - 1) / 2 ≡ n / 2 - 1 = omega arith in
    let i : bit_and (n / 2) ((n - 1) / 2) + 2 ^ count_trailing_zeros d (n / 2) ≡ n / 2 = rw f (cleared-from d (n / 2) (omega arith) (half d n h)) in
    omega (arith, and_step n (n - 1), i, ap (λ (x : ℕ). 2 ^ x) (tz-out d n (n / 2) z) ∙ pow-suc 2 (count_trailing_zeros d (n / 2))))
    (λ (e : 0 < n % 2).
    let z : n ≡ 1 + 2 * (n / 2) = omega arith in
    let f : (n - 1) / 2 ≡ n / 2 = omega arith in
    let i : bit_and (n / 2) ((n - 1) / 2) ≡ n / 2 = rw f (and_self (n / 2)) in
    omega (arith, and_step n (n - 1), i, ap (λ (x : ℕ). 2 ^ x) (tz-into d n (n / 2) z)))
    (eq-zero-or-pos (n % 2))

-- one step of a walk through the d digits of a set: its lowest number, and the set without it
pub record LowestDigit (d n : ℕ) : Type 0 where
  pub place : count_trailing_zeros d n < d
  pub lowest : Lowest n (count_trailing_zeros d n)
  pub after : bit_and n (n - 1) ≡ n - 2 ^ count_trailing_zeros d n
  pub falls : bit_and n (n - 1) < n

pub lowest-digit : (d n : ℕ) → 0 < n → n < 2 ^ d → LowestDigit d n
lowest-digit d n p h =
    let l = lowest-of d n p h in
    record {
      place = l.0;
      lowest = l.1;
      after = omega (arith, cleared-from d n p h);
      falls = omega (arith, cleared-from d n p h, pow_pos (count_trailing_zeros d n));
    }
