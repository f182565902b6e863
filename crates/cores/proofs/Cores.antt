-- A set and its list of cores: the two directions are inverse, and the laws of ones, trailing zeros, take and drop.
use mathlib.Core.Path.{◌≡◌, refl, sym, ap, ap₂, ◌∙◌, subst}
use mathlib.Core.Bool.{Bool, true, false, ◌&&◌, true-and}
use mathlib.Core.Logic.{⊎_elim}
use mathlib.Core.List.{List, [], ◌∷◌, ◌++◌}
use Prim.Native.Nat.{ℕ, zero, suc, ◌+◌, ◌-◌, ◌*◌, ◌/◌, ◌%◌, ◌^◌, ◌≤◌, ◌<◌}
use native.Mathlib.Nat.{pow-suc, sub-zero, zero-add, add-zero, eq-or-lt_of_le}
use native.Mathlib.Omega.{arith}
use lib.Arith.{lt-one}
use lib.ListN.{length, take, drop, take-append-drop}
use lib.Count.{ones, ones_step, count_trailing_zeros}
use lib.Dec.{eqb, ltb}
use lib.Pow.{pow_mono, pow_pos, ones_lt}
use borrow.Author.Tests.{ltb-false, ltb-true}
use Rattle.model.specs.Search.{bit, filtered, cons_if, member, up_from}
use Rattle.model.specs.Members.{members}
use Rattle.model.specs.Sets.{set_of}
use Rattle.model.proofs.Digits.{bit_past, bit-zero, bit-suc, even-half, odd-half, half, tz-out, tz-into}
use Rattle.model.proofs.Members.{members-to}
use Rattle.cores.specs.Cores.{cores}
use Rattle.cores.proofs.Ascending.{Range, range-weaken, range-take, range-drop, memb-past, memb-up, memb-kept}

-- ---- the cores, digit by digit

-- core c before the rest if the digit b is 1
abbrev pub named : ℕ → ℕ → List ℕ → List ℕ
named zero c l = l
named (suc b) c l = c ∷ l

-- the cores of the d lowest digits of n, the lowest of which is core c
unfoldable pub cores_from : ℕ → ℕ → ℕ → List ℕ
cores_from zero c n = []
cores_from (suc d) c n = named (n % 2) c (cores_from d (suc c) (n / 2))

named-kept : (b c : ℕ) (l : List ℕ) → b < 2 → cons_if (eqb b 1) c l ≡ named b c l
named-kept zero c l h = refl
named-kept (suc zero) c l h = refl
named-kept (suc (suc b)) c l h = absurd (omega arith)

kept-digits : (f : ℕ → Bool) (d c n : ℕ) → ((i : ℕ) → f (c + i) ≡ bit n i) → filtered f (up_from c d) ≡ cores_from d c n
unfolding filtered up_from cores_from
kept-digits f zero c n h = refl
kept-digits f (suc d) c n h =
    let first : f c ≡ eqb (n % 2) 1 = ap f (sym (add-zero c)) ∙ h 0 ∙ bit-zero n in
    let rest : filtered f (up_from (suc c) d) ≡ cores_from d (suc c) (n / 2) = kept-digits f d (suc c) (n / 2) (λ i. ap f (next i) ∙ h (suc i) ∙ bit-suc n i) in
    ap₂ (λ (q : Bool) (l : List ℕ). cons_if q c l) first rest ∙ named-kept (n % 2) c (cores_from d (suc c) (n / 2)) (omega arith)
  where
    next : (i : ℕ) → suc c + i ≡ c + suc i
    next i = omega arith

pub cores-digits : (n : ℕ) → cores n ≡ cores_from 64 0 n
unfolding cores
cores-digits n = kept-digits (bit n) 64 0 n (λ i. ap (bit n) (zero-add i))

range-named : (b at hi : ℕ) (l : List ℕ) → at < hi → Range (suc at) hi l → Range at hi (named b at l)
range-named zero at hi l h r = range-weaken l (omega arith) (omega arith) r
range-named (suc b) at hi l h r = (omega arith, h, r)

pub range-from : (d at n hi : ℕ) → at + d ≤ hi → Range at hi (cores_from d at n)
unfolding cores_from
range-from zero at n hi h = tt
range-from (suc d) at n hi h = range-named (n % 2) at hi (cores_from d (suc at) (n / 2)) (omega arith) (range-from d (suc at) (n / 2) hi (omega arith))

pub cores-range : (n : ℕ) → Range 0 64 (cores n)
cores-range n = rw cores-digits (range-from 64 0 n 64 (omega arith))

-- ---- ones counts the cores

length-named : (b at : ℕ) (l : List ℕ) → b < 2 → length (named b at l) ≡ b + length l
length-named zero at l h = omega arith
length-named (suc zero) at l h = omega arith
length-named (suc (suc b)) at l h = absurd (omega arith)

length_from : (d at n : ℕ) → n < 2 ^ d → length (cores_from d at n) ≡ ones n
unfolding cores_from ones
length_from zero at n h = ap ones (sym (lt-one h))
length_from (suc d) at n h =
    length-named (n % 2) at (cores_from d (suc at) (n / 2)) (omega arith)
    ∙ ap (λ (x : ℕ). n % 2 + x) (length_from d (suc at) (n / 2) (half d n h)) ∙ sym (ones_step n)

pub cores-length : (n : ℕ) → n < 2 ^ 64 → length (cores n) ≡ ones n
cores-length n h = ap length (cores-digits n) ∙ length_from 64 0 n h

-- ---- the set that has the cores of a list, its entries counted from at

unfoldable set_from : ℕ → List ℕ → ℕ
set_from at [] = 0
set_from at (c ∷ l) = 2 ^ (c - at) + set_from at l

set-from : (l : List ℕ) → set_of l ≡ set_from 0 l
unfolding set_of set_from
set-from [] = refl
set-from (c ∷ l) = ap₂ (λ (x y : ℕ). 2 ^ x + y) (sym (sub-zero c)) (set-from l)

set-shift : (hi at : ℕ) (l : List ℕ) → Range (suc at) hi l → set_from at l ≡ 2 * set_from (suc at) l
unfolding set_from
set-shift hi at [] r = refl
set-shift hi at (c ∷ l) r =
    let e : c - at ≡ suc (c - suc at) = omega arith in
    omega (arith, ap (λ (x : ℕ). 2 ^ x) e ∙ pow-suc 2 (c - suc at), set-shift hi at l (range-weaken l (omega arith) (omega arith) r.2))

-- a list whose first entry is at, as digits
set_first : (hi at c : ℕ) (l : List ℕ) → at ≡ c → Range (suc c) hi l → set_from at (c ∷ l) ≡ 1 + 2 * set_from (suc at) l
unfolding set_from
set_first hi at c l e r =
    let z : c - at ≡ 0 = omega arith in
    omega (arith, ap (λ (x : ℕ). 2 ^ x) z, set-shift hi at l (range-weaken l (omega arith) (omega arith) r))

set-named : (b at : ℕ) (l : List ℕ) → b < 2 → set_from at (named b at l) ≡ b + set_from at l
unfolding set_from
set-named zero at l h = omega arith
set-named (suc zero) at l h = let z : at - at ≡ 0 = omega arith in omega (arith, ap (λ (x : ℕ). 2 ^ x) z)
set-named (suc (suc b)) at l h = absurd (omega arith)

set-cores-from : (d at n : ℕ) → n < 2 ^ d → set_from at (cores_from d at n) ≡ n
unfolding cores_from set_from
set-cores-from zero at n h = sym (lt-one h)
set-cores-from (suc d) at n h =
    let l = cores_from d (suc at) (n / 2) in
    omega (arith, set-named (n % 2) at l (omega arith), set-shift (suc at + d) at l (range-from d (suc at) (n / 2) (suc at + d) (omega arith)), set-cores-from d (suc at) (n / 2) (half d n h))

pub set-cores : (n : ℕ) → n < 2 ^ 64 → set_of (cores n) ≡ n
set-cores n h = ap set_of (cores-digits n) ∙ set-from (cores_from 64 0 n) ∙ set-cores-from 64 0 n h

-- ---- and the cores of that set

pub out : (d at n m : ℕ) → n ≡ 2 * m → cores_from (suc d) at n ≡ cores_from d (suc at) m
unfolding cores_from
out d at n m e = ap₂ (λ (b h : ℕ). named b at (cores_from d (suc at) h)) (even-half n m e).0 (even-half n m e).1

pub into : (d at n m : ℕ) → n ≡ 1 + 2 * m → cores_from (suc d) at n ≡ at ∷ cores_from d (suc at) m
unfolding cores_from
into d at n m e = ap₂ (λ (b h : ℕ). named b at (cores_from d (suc at) h)) (odd-half n m e).0 (odd-half n m e).1

back : (d at : ℕ) (l : List ℕ) → Range at (at + d) l → cores_from d at (set_from at l) ≡ l
unfolding cores_from set_from
back zero at [] r = refl
back zero at (c ∷ l) r = absurd (omega arith)
back (suc d) at [] r = back d (suc at) [] tt
back (suc d) at (c ∷ l) r =
    ⊎_elim
    (λ (e : at ≡ c). into d at (set_from at (c ∷ l)) (set_from (suc at) l) (set_first (at + suc d) at c l e r.2)
    ∙ ap₂ (λ (x : ℕ) (y : List ℕ). x ∷ y) e (back d (suc at) l (range-weaken l (omega arith) (omega arith) r.2)))
    (λ (h : at < c). let s : Range (suc at) (suc at + d) (c ∷ l) = (h, omega arith, range-weaken l (omega arith) (omega arith) r.2) in
    out d at (set_from at (c ∷ l)) (set_from (suc at) (c ∷ l)) (set-shift (suc at + d) at (c ∷ l) s) ∙ back d (suc at) (c ∷ l) s)
    (eq-or-lt_of_le r.0)

pub cores-set : (l : List ℕ) → Range 0 64 l → cores (set_of l) ≡ l
cores-set l r = cores-digits (set_of l) ∙ ap (cores_from 64 0) (set-from l) ∙ back 64 0 l r

-- ---- trailing zeros finds the first core

tz-from : (d at c : ℕ) (l : List ℕ) → Range at (at + d) (c ∷ l) → at + count_trailing_zeros d (set_from at (c ∷ l)) ≡ c
unfolding set_from
tz-from zero at c l r = absurd (omega arith)
tz-from (suc d) at c l r =
    ⊎_elim
    (λ (e : at ≡ c). omega (arith, tz-into d (set_from at (c ∷ l)) (set_from (suc at) l) (set_first (at + suc d) at c l e r.2)))
    (λ (h : at < c). let s : Range (suc at) (suc at + d) (c ∷ l) = (h, omega arith, range-weaken l (omega arith) (omega arith) r.2) in
    omega (arith, tz-out d (set_from at (c ∷ l)) (set_from (suc at) (c ∷ l)) (set-shift (suc at + d) at (c ∷ l) s), tz-from d (suc at) c l s))
    (eq-or-lt_of_le r.0)

pub first-core : (c : ℕ) (l : List ℕ) → Range 0 64 (c ∷ l) → count_trailing_zeros 64 (set_of (c ∷ l)) ≡ c
first-core c l r = ap (count_trailing_zeros 64) (set-from (c ∷ l)) ∙ sym (zero-add (count_trailing_zeros 64 (set_from 0 (c ∷ l)))) ∙ tz-from 64 0 c l r

-- ---- sums

pub set-append : (l m : List ℕ) → set_of (l ++ m) ≡ set_of l + set_of m
unfolding set_of
set-append [] m = omega arith
set-append (c ∷ l) m = omega (arith, set-append l m)

pub set_split : (k : ℕ) (l : List ℕ) → set_of (take k l) + set_of (drop k l) ≡ set_of l
set_split k l = sym (set-append (take k l) (drop k l)) ∙ ap set_of (take-append-drop k l)

-- ---- a set that is the front or the back of another, and what is left: the difference

module _ (n w r : ℕ) (h : n < 2 ^ 64) (k : r < 2 ^ 64) where
  whole : set_of (take w (cores n)) + set_of (drop w (cores n)) ≡ n
  whole = set_split w (cores n) ∙ set-cores n h

  pub front-le : cores r ≡ take w (cores n) → r ≤ n
  front-le e = omega (arith, whole, set-cores r k, ap set_of e)

  pub back-of : cores r ≡ take w (cores n) → cores (n - r) ≡ drop w (cores n)
  back-of e =
      let d : n - r ≡ set_of (drop w (cores n)) = omega (arith, whole, set-cores r k, ap set_of e) in
      ap cores d ∙ cores-set (drop w (cores n)) (range-drop w 0 64 (cores n) (cores-range n))

  pub front_of : cores r ≡ drop w (cores n) → cores (n - r) ≡ take w (cores n)
  front_of e =
      let d : n - r ≡ set_of (take w (cores n)) = omega (arith, whole, set-cores r k, ap set_of e) in
      ap cores d ∙ cores-set (take w (cores n)) (range-take w 0 64 (cores n) (cores-range n))

-- they are the members of the set
pub cores-members : (n : ℕ) → n < 2 ^ 64 → cores n ≡ members n
unfolding cores
cores-members n h = sym (members-to n 64 h)

pub cores-none : cores 0 ≡ []
unfolding cores filtered up_from
cores-none = refl

-- ---- a set that is not empty: its first core by trailing zeros, and the set without it, in the machine's words

-- what `1u64 << u64::trailing_zeros(n)` is
abbrev pub bit_of : ℕ → ℕ
bit_of n = (1 * 2 ^ count_trailing_zeros 64 n) % 2 ^ 64

pub record Popped (n : ℕ) : Type 0 where
  pub core : count_trailing_zeros 64 n < 64
  pub some : 0 < bit_of n
  pub within : bit_of n ≤ n
  pub rest : cores n ≡ count_trailing_zeros 64 n ∷ cores (n - bit_of n)

popped-as : (n : ℕ) → 0 < n → n < 2 ^ 64 → (l : List ℕ) → cores n ≡ l → Popped n
unfolding set_of
popped-as n p h [] e = absurd (omega (arith, set-cores n h, ap set_of e))
popped-as n p h (c ∷ l) e =
    let r : Range 0 64 (c ∷ l) = subst (Range 0 64) e (cores-range n) in
    let s : n ≡ set_of (c ∷ l) = sym (set-cores n h) ∙ ap set_of e in
    let z : count_trailing_zeros 64 n ≡ c = ap (count_trailing_zeros 64) s ∙ first-core c l r in
    let q : bit_of n ≡ 2 ^ c = omega (arith, ap (λ (x : ℕ). 2 ^ x) z) in
    let d : n - bit_of n ≡ set_of l = omega arith in
    record {
      core = omega arith;
      some = omega (arith, pow_pos c);
      within = omega arith;
      rest = e ∙ ap₂ (λ (x : ℕ) (y : List ℕ). x ∷ y) (sym z) (sym (ap cores d ∙ cores-set l (range-weaken l (omega arith) (omega arith) r.2)));
    }

pub popped : (n : ℕ) → 0 < n → n < 2 ^ 64 → Popped n
popped n p h = popped-as n p h (cores n) refl

-- ---- membership is the digit

pub cores-memb : (n c : ℕ) → c < 64 → member c (cores n) ≡ bit n c
unfolding cores
cores-memb n c h = memb-kept (bit n) c (up_from 0 64) ∙ ap (λ (t : Bool). t && bit n c) (memb-up c 0 64 (omega arith) h) ∙ true-and (bit n c)

-- ---- the set of an ascending list: a number of 64 digits, whose digits are membership and whose ones are counted

set_room : (lo hi : ℕ) (l : List ℕ) → lo ≤ hi → Range lo hi l → set_of l + 2 ^ lo ≤ 2 ^ hi
unfolding set_of
set_room lo hi [] h r = omega (arith, pow_mono h)
set_room lo hi (c ∷ l) h r =
    let i : set_of l + 2 ^ suc c ≤ 2 ^ hi = set_room (suc c) hi l (omega arith) r.2 in
    omega (arith, i, pow-suc 2 c, pow_mono r.0)

pub set-lt : (l : List ℕ) → Range 0 64 l → set_of l < 2 ^ 64
set-lt l r = omega (arith, set_room 0 64 l (omega arith) r)

pub set-bit : (l : List ℕ) → Range 0 64 l → (c : ℕ) → bit (set_of l) c ≡ member c l
set-bit l r c = go (ltb c 64) refl
  where
    go : (t : Bool) → ltb c 64 ≡ t → bit (set_of l) c ≡ member c l
    go true e = sym (cores-memb (set_of l) c (ltb-true c 64 e)) ∙ ap (member c) (cores-set l r)
    go false e = bit_past 64 (set_of l) c (set-lt l r) (ltb-false c 64 e) ∙ sym (memb-past c 0 64 l r (ltb-false c 64 e))

pub set-ones : (l : List ℕ) → Range 0 64 l → ones (set_of l) ≡ length l
set-ones l r = sym (cores-length (set_of l) (set-lt l r)) ∙ ap length (cores-set l r)

-- ---- all of the first m cores

pub none_from : (d at : ℕ) → cores_from d at 0 ≡ []
unfolding cores_from
none_from zero at = refl
none_from (suc d) at = none_from d (suc at)

up-from : (d at m : ℕ) → m ≤ d → cores_from d at (2 ^ m - 1) ≡ up_from at m
unfolding up_from
up-from d at zero h = none_from d at
up-from zero at (suc m) h = absurd (omega arith)
up-from (suc d) at (suc m) h =
    into d at (2 ^ suc m - 1) (2 ^ m - 1) (omega (arith, pow-suc 2 m, ones_lt m)) ∙ ap (λ (l : List ℕ). at ∷ l) (up-from d (suc at) m (omega arith))

pub cores-up : (m : ℕ) → m ≤ 64 → cores (2 ^ m - 1) ≡ up_from 0 m
cores-up m h = cores-digits (2 ^ m - 1) ∙ up-from 64 0 m h
