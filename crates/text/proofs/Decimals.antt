-- Decimal output: digits only, no zeros in front, and parsing gives the number.
use mathlib.Core.Bool.{Bool, true, false, cond}
use mathlib.Core.List.{List, [], ◌∷◌, ◌++◌}
use mathlib.Core.Path.{◌≡◌, refl, ap, ap₂, sym, ◌∙◌}
use Prim.Native.Nat.{ℕ, zero, suc, ◌+◌, ◌*◌, ◌-◌, ◌/◌, ◌%◌, ◌^◌, ◌≤◌, ◌<◌}
use native.Mathlib.Nat.{not-suc-le-zero, pow-suc, pow-le-pow_right, mul-le-mul_right, mul-add-div_right, div-eq_of_lt}
use native.Mathlib.Omega.{arith}
use Rattle.std.proofs.Common.{Option, None, Some}
use Rattle.std.specs.Option.{IfNone, IfSome, unwrap_or}
use lib.ListN.{length, get_or, length-append, get_or-append}
use lib.Dec.{ltb, leb, eqb}
use borrow.Author.Tests.{ltb-true, ltb-false, lt-ltb, le-ltb, leb-true, leb-false, eqb-true, eqb-false}
use Rattle.text.specs.Decimal.{all, is_digit, Digit, Digits, value, last_digits, digits_within, digit_count, decimal}
use Rattle.text.proofs.Every.{all_more}
use Rattle.text.proofs.Values.{digit-exact, digits-exact, value-more, value-below}

pub last-length : (k n : ℕ) → length (last_digits k n) ≡ k
unfolding last_digits
last-length zero n = refl
last-length (suc k) n = length-append (last_digits k (n / 10)) ((48 + n % 10) ∷ []) ∙ (let e = last-length k (n / 10) in omega arith)

last-all : (k n : ℕ) → all is_digit (last_digits k n) ≡ true
unfolding last_digits all
last-all zero n = refl
last-all (suc k) n = all_more is_digit (last_digits k (n / 10)) (48 + n % 10) (last-all k (n / 10)) ((digit-exact (48 + n % 10)).1 (omega arith))

-- they represent the number, if it has no more
pub last-value : (k n : ℕ) → n < 10 ^ k → value (last_digits k n) ≡ n
unfolding last_digits value
last-value zero n h = omega arith
last-value (suc k) n h =
    let more = value-more (last_digits k (n / 10)) (48 + n % 10) in
    let small : n < 10 ^ k * 10 = rw (← pow-suc 10 k) h in
    let e = last-value k (n / 10) (omega arith) in
    omega arith

-- any bound that is above the number gives its count of digits
within-enough : (k m n : ℕ) → n < k → n < m → digits_within k n ≡ digits_within m n
unfolding digits_within
within-enough zero m n h l = absurd (not-suc-le-zero h)
within-enough (suc k) zero n h l = absurd (not-suc-le-zero l)
within-enough (suc k) (suc m) n h l = go (ltb n 10) refl (within-enough k m (n / 10))
  where
    go : (t : Bool) → ltb n 10 ≡ t → (n / 10 < k → n / 10 < m → digits_within k (n / 10) ≡ digits_within m (n / 10)) →
        cond t 1 (suc (digits_within k (n / 10))) ≡ cond t 1 (suc (digits_within m (n / 10)))
    go true e ih = refl
    go false e ih = let b = ltb-false n 10 e in ap suc (ih (omega arith) (omega arith))

-- 1 below 10
pub count-one : (n : ℕ) → n < 10 → digit_count n ≡ 1
unfolding digit_count digits_within
count-one n h = rw (lt-ltb n 10 h)

within_more : (k n : ℕ) → 10 ≤ n → digits_within (suc k) n ≡ suc (digits_within k (n / 10))
unfolding digits_within
within_more k n h = rw (le-ltb n 10 h)

-- .. else one more than n / 10 has
pub count-more : (n : ℕ) → 10 ≤ n → digit_count n ≡ suc (digit_count (n / 10))
unfolding digit_count
count-more n h = within_more n n h ∙ ap suc (within-enough n (suc (n / 10)) (n / 10) (omega arith) (omega arith))

-- this number of digits is enough for n
within-fits : (k n : ℕ) → n < k → n < 10 ^ digits_within k n
unfolding digits_within
within-fits zero n h = absurd (not-suc-le-zero h)
within-fits (suc k) n h = go (ltb n 10) refl (within-fits k (n / 10))
  where
    go : (t : Bool) → ltb n 10 ≡ t → (n / 10 < k → n / 10 < 10 ^ digits_within k (n / 10)) → n < 10 ^ cond t 1 (suc (digits_within k (n / 10)))
    go true e ih = ltb-true n 10 e
    go false e ih =
        let b = ltb-false n 10 e in
        let f = ih (omega arith) in
        rw pow-suc (omega arith)

pub count_fits : (n : ℕ) → n < 10 ^ digit_count n
unfolding digit_count
count_fits n = within-fits (suc n) n (omega arith)

pub count-some : (n : ℕ) → 1 ≤ digit_count n
count-some n = go (ltb n 10) refl
  where
    go : (t : Bool) → ltb n 10 ≡ t → 1 ≤ digit_count n
    go true e = omega (arith, count-one n (ltb-true n 10 e))
    go false e = omega (arith, count-more n (ltb-false n 10 e))

-- .. and no more than k where n is below 10^k
pub count_most : (k n : ℕ) → n < 10 ^ suc k → digit_count n ≤ suc k
count_most zero n h = omega (arith, count-one n h)
count_most (suc k) n h = go (ltb n 10) refl (count_most k (n / 10))
  where
    go : (t : Bool) → ltb n 10 ≡ t → (n / 10 < 10 ^ suc k → digit_count (n / 10) ≤ suc k) → digit_count n ≤ suc (suc k)
    go true e ih = omega (arith, count-one n (ltb-true n 10 e))
    go false e ih =
        let b = ltb-false n 10 e in
        let small : n < 10 ^ suc k * 10 = rw (← pow-suc 10 (suc k)) h in
        let f = ih (omega arith) in
        omega (arith, count-more n b)

-- THE LAWS OF DECIMAL

-- digits only
pub decimal-digits : (n : ℕ) → Digits (decimal n)
unfolding decimal
decimal-digits n = (digits-exact (last_digits (digit_count n) n)).0 (last-all (digit_count n) n)

-- as many as n has
pub decimal-length : (n : ℕ) → length (decimal n) ≡ digit_count n
unfolding decimal
decimal-length n = last-length (digit_count n) n

-- at least one, and at most ten where n is below 2^32
pub decimal-some : (n : ℕ) → 1 ≤ length (decimal n)
decimal-some n = omega (arith, decimal-length n, count-some n)

pub decimal-most : (n : ℕ) → n < 2 ^ 32 → length (decimal n) ≤ 10
decimal-most n h = omega (arith, decimal-length n, count_most 9 n (omega arith))

-- reading back gives the number
pub decimal-value : (n : ℕ) → value (decimal n) ≡ n
unfolding decimal
decimal-value n = last-value (digit_count n) n (count_fits n)

-- two numbers are never the same in decimal
pub decimal_injective : (m n : ℕ) → decimal m ≡ decimal n → m ≡ n
decimal_injective m n e = sym (decimal-value m) ∙ ap value e ∙ decimal-value n

-- one digit below 10, else the digits of n / 10 and then the last
pub decimal-one : (n : ℕ) → n < 10 → decimal n ≡ (48 + n) ∷ []
unfolding decimal last_digits
decimal-one n h = let e : n % 10 ≡ n = omega arith in rw (count-one n h, e)

pub decimal-more : (n : ℕ) → 10 ≤ n → decimal n ≡ decimal (n / 10) ++ ((48 + n % 10) ∷ [])
unfolding decimal last_digits
decimal-more n h = rw (count-more n h)

-- only 0 begins with `0`
lead-within : (k n : ℕ) → n < k → get_or (decimal n) 0 0 ≡ 48 → n ≡ 0
lead-within zero n h e = absurd (not-suc-le-zero h)
lead-within (suc k) n h e = go (ltb n 10) refl (lead-within k (n / 10))
  where
    go : (t : Bool) → ltb n 10 ≡ t → (n / 10 < k → get_or (decimal (n / 10)) 0 0 ≡ 48 → n / 10 ≡ 0) → n ≡ 0
    go true q ih =
        let f : get_or (decimal n) 0 0 ≡ 48 + n = ap (λ (ds : List ℕ). get_or ds 0 0) (decimal-one n (ltb-true n 10 q)) in
        omega arith
    go false q ih =
        let b = ltb-false n 10 q in
        let f : get_or (decimal n) 0 0 ≡ get_or (decimal (n / 10)) 0 0 =
        ap (λ (ds : List ℕ). get_or ds 0 0) (decimal-more n b)
        ∙ get_or-append (decimal (n / 10)) ((48 + n % 10) ∷ []) 0 0 (decimal-some (n / 10)) in
        let z = ih (omega arith) (sym f ∙ e) in
        omega arith

pub decimal-lead : (n : ℕ) → get_or (decimal n) 0 0 ≡ 48 → n ≡ 0
decimal-lead n e = lead-within (suc n) n (omega arith) e

-- no zeros in front, and `0` for 0: a text of digits that begins with `0` has no other
abbrev pub NoZeros : List ℕ → Type 0
NoZeros ds = get_or ds 0 0 ≡ 48 → length ds ≡ 1

-- the first digit and the value of the rest are a quotient and a remainder
quotient : (a v m : ℕ) → v < m → (a * m + v) / m ≡ a
quotient a v m h = let q = mul-add-div_right {m = m} (omega arith) a v in let r = div-eq_of_lt h in omega arith

first-digit : (a b v w m : ℕ) → v < m → w < m → a * m + v ≡ b * m + w → (a ≡ b) × (v ≡ w)
first-digit a b v w m p q e =
    let same : a ≡ b = sym (quotient a v m p) ∙ ap (λ (x : ℕ). x / m) e ∙ quotient b w m q in
    let rest : b * m + v ≡ b * m + w = rw same at e in
    (same, omega arith)

-- as many digits with the same value are the same
same_digits : (ds es : List ℕ) → Digits ds → Digits es → length ds ≡ length es → value ds ≡ value es → ds ≡ es
unfolding value
same_digits [] [] p q l e = refl
same_digits [] (x ∷ es) p q l e = absurd (omega arith)
same_digits (d ∷ ds) [] p q l e = absurd (omega arith)
same_digits (d ∷ ds) (x ∷ es) p q l e =
    let l' : length ds ≡ length es = omega arith in
    let p' : Digits ds = λ i h. p (suc i) (omega arith) in
    let q' : Digits es = λ i h. q (suc i) (omega arith) in
    let h : (d - 48 ≡ x - 48) × (value ds ≡ value es) =
    first-digit (d - 48) (x - 48) (value ds) (value es) (10 ^ length ds) (value-below ds p') (rw l' (value-below es q')) (rw (← l') at e) in
    let a : Digit d = p 0 (omega arith) in
    let b : Digit x = q 0 (omega arith) in
    let same : d ≡ x = omega arith in
    ap₂ (λ (y : ℕ) (ys : List ℕ). y ∷ ys) same (same_digits ds es p' q' l' h.1)

-- a number from 10^k up and below 10^(k+1) has k + 1 digits
count-exact : (k n : ℕ) → 10 ^ k ≤ n → n < 10 ^ suc k → digit_count n ≡ suc k
count-exact k n l h = go (leb (digit_count n) k) refl
  where
    go : (t : Bool) → leb (digit_count n) k ≡ t → digit_count n ≡ suc k
    go true e =
        let few : 10 ^ digit_count n ≤ 10 ^ k = pow-le-pow_right (omega arith) (leb-true (digit_count n) k e) in
        absurd (omega (arith, count_fits n))
    go false e = omega (arith, count_most k n h, leb-false (digit_count n) k e)

-- .. by the power of ten that it reaches; 0, which reaches none, has one
pub count-reached :
    (n u : ℕ) (r : Option ℕ) → IfNone r (n ≡ 0) → IfSome r (λ k. 10 ^ k ≤ n) → IfSome r (λ k. n < 10 * 10 ^ k) → u ≡ unwrap_or r 0 → u + 1 ≡ digit_count n
count-reached n u None z l h e = omega (arith, count-one n (omega arith))
count-reached n u (Some k) z l h e = omega (arith, count-exact k n l (rw pow-suc (omega arith)))

-- digits with no zeros in front are as many as their number has
only-count : (ds : List ℕ) → Digits ds → 1 ≤ length ds → NoZeros ds → digit_count (value ds) ≡ length ds
unfolding value
only-count [] p s z = absurd (omega arith)
only-count (d ∷ ds) p s z = go (eqb d 48) refl
  where
    below : value (d ∷ ds) < 10 ^ suc (length ds)
    below = value-below (d ∷ ds) p

    go : (t : Bool) → eqb d 48 ≡ t → digit_count (value (d ∷ ds)) ≡ suc (length ds)
    go true e =
        let one : suc (length ds) ≡ 1 = z (eqb-true d 48 e) in
        let small : value (d ∷ ds) < 10 ^ 1 = rw one at below in
        count-one (value (d ∷ ds)) small ∙ sym one
    go false e =
        let n : d ≡ 48 → ⊥ = eqb-false d 48 e in
        let a : Digit d = p 0 (omega arith) in
        let m : 1 * 10 ^ length ds ≤ (d - 48) * 10 ^ length ds = mul-le-mul_right (10 ^ length ds) (omega arith) in
        count-exact (length ds) (value (d ∷ ds)) (omega arith) below

-- digits with no zeros in front are their number in decimal, so n has no other text of digits
pub decimal-only : (ds : List ℕ) → Digits ds → 1 ≤ length ds → NoZeros ds → ds ≡ decimal (value ds)
decimal-only ds p s z =
    same_digits ds (decimal (value ds)) p (decimal-digits (value ds))
    (sym (decimal-length (value ds) ∙ only-count ds p s z))
    (sym (decimal-value (value ds)))
