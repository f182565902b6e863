-- A run of free cores: trailing zeros find its first core, trailing zeros of the complement of the shifted set its length;
-- a piece of it taken off the set leaves the cores after the piece.
use mathlib.Core.Path.{◌≡◌, sym, ap, ap₂, subst, ◌∙◌}
use mathlib.Core.Logic.{⊎_elim}
use mathlib.Core.List.{List, ◌∷◌, ◌++◌}
use Prim.Native.Nat.{ℕ, zero, suc, ◌+◌, ◌-◌, ◌*◌, ◌/◌, ◌%◌, ◌^◌, ◌≤◌, ◌<◌, min}
use native.Mathlib.Nat.{pow-suc, pow-succ', add-zero, zero-add, sub-zero, eq-zero-or-pos, div-div-eq-div-mul, div-one, mul_comm, mul-sub, le_trans, lt_of_le_of_lt, mod-eq_of_lt, mul-le-mul_right}
use native.Mathlib.Omega.{arith}
use lib.Arith.{lt-one}
use lib.Count.{count_trailing_zeros, trailing_le}
use lib.ListN.{drop}
use lib.Seq.{drop-append_seam}
use lib.Pow.{pow_pos, pow_mono, shr_le, shr_lt}
use Rattle.model.specs.Search.{up_from}
use Rattle.model.specs.Sets.{set_of}
use Rattle.model.proofs.Digits.{half, tz-out, tz-into, lowest-of}
use Rattle.model.proofs.Lists.{up-length}
use Rattle.cores.specs.Cores.{cores}
use Rattle.cores.proofs.Cores.{named, cores_from, cores-digits, none_from, out, into, set-cores, cores-up}

-- ---- the ones that a set begins with

-- what a piece of m ones off the front of n leaves
record Front (d at n m : ℕ) : Type 0 where
  within : 2 ^ m - 1 ≤ n
  rest : cores_from d at n ≡ up_from at m ++ cores_from d at (n - (2 ^ m - 1))

no_ones : (d at n : ℕ) → Front d at n 0
unfolding up_from
no_ones d at n = record { within = omega arith; rest = ap (cores_from d at) (sym (sub-zero n)) }

halved : (n x y : ℕ) → n % 2 ≡ 1 → 0 < x → y ≡ x * 2 → x - 1 ≤ n / 2 → (y - 1 ≤ n) × (n - (y - 1) ≡ 2 * (n / 2 - (x - 1)))
halved n x y o p e h = (omega arith, omega arith)

-- trailing zeros of the complement count them
front : (d at n m : ℕ) → n < 2 ^ d → m ≤ count_trailing_zeros d (2 ^ d - 1 - n) → Front d at n m
unfolding up_from count_trailing_zeros
front d at n zero h k = no_ones d at n
front zero at n (suc m) h k = absurd (omega arith)
front (suc d) at n (suc m) h k =
    ⊎_elim
    (λ (e : n % 2 ≡ 0).
    let c : 2 ^ suc d - 1 - n ≡ 1 + 2 * (2 ^ d - 1 - n / 2) = omega (arith, pow-suc 2 d, half d n h) in
    absurd (omega (arith, tz-into d (2 ^ suc d - 1 - n) (2 ^ d - 1 - n / 2) c)))
    (λ (e : 0 < n % 2).
    let c : 2 ^ suc d - 1 - n ≡ 2 * (2 ^ d - 1 - n / 2) = omega (arith, pow-suc 2 d, half d n h) in
    let f = front d (suc at) (n / 2) m (half d n h) (omega (arith, tz-out d (2 ^ suc d - 1 - n) (2 ^ d - 1 - n / 2) c)) in
    let s = halved n (2 ^ m) (2 ^ suc m) (omega arith) (pow_pos m) (pow-suc 2 m) f.within in
    record {
      within = s.0;
      rest =
          into d at n (n / 2) (omega arith)
          ∙ ap (λ (l : List ℕ). at ∷ l) (f.rest ∙ ap (λ (l : List ℕ). up_from (suc at) m ++ l) (sym (out d at (n - (2 ^ suc m - 1)) (n / 2 - (2 ^ m - 1)) s.1)));
    })
    (eq-zero-or-pos (n % 2))

-- a set that is odd begins with one
pub some-ones : (d n : ℕ) → n < 2 ^ suc d → n % 2 ≡ 1 → 0 < count_trailing_zeros (suc d) (2 ^ suc d - 1 - n)
some-ones d n h e =
    let c : 2 ^ suc d - 1 - n ≡ 2 * (2 ^ d - 1 - n / 2) = omega (arith, pow-suc 2 d, half d n h) in
    omega (arith, tz-out d (2 ^ suc d - 1 - n) (2 ^ d - 1 - n / 2) c)

-- ---- a set above zeros

-- digits that are not there add nothing
wider : (d e at n : ℕ) → n < 2 ^ d → d ≤ e → cores_from d at n ≡ cores_from e at n
unfolding cores_from
wider zero e at n h k = sym (ap (cores_from e at) (lt-one h) ∙ none_from e at)
wider (suc d) zero at n h k = absurd (omega arith)
wider (suc d) (suc e) at n h k = ap (named (n % 2) at) (wider d e (suc at) (n / 2) (half d n h) (omega arith))

above : (a d e at n : ℕ) → e ≡ a + d → cores_from e at (n * 2 ^ a) ≡ cores_from d (at + a) n
above zero d e at n h =
    let one : n * 2 ^ 0 ≡ n = omega arith in
    let same : e ≡ d = omega arith in
    ap₂ (λ (i j : ℕ). cores_from i at j) same one ∙ ap (λ (i : ℕ). cores_from d i n) (sym (add-zero at))
above (suc a) d zero at n h = absurd (omega arith)
above (suc a) d (suc e) at n h =
    let two : n * 2 ^ suc a ≡ 2 * (n * 2 ^ a) = omega (arith, ap (λ (x : ℕ). n * x) (pow-suc 2 a)) in
    let next : suc at + a ≡ at + suc a = omega arith in
    out e at (n * 2 ^ suc a) (n * 2 ^ a) two ∙ above a d e (suc at) n (omega arith) ∙ ap (λ (i : ℕ). cores_from d i n) next

shifted : (a n : ℕ) → a ≤ 64 → n < 2 ^ (64 - a) → cores (n * 2 ^ a) ≡ cores_from 64 a n
shifted a n h k =
    cores-digits (n * 2 ^ a) ∙ above a (64 - a) 64 0 n (omega arith) ∙ ap (λ (i : ℕ). cores_from (64 - a) i n) (zero-add a) ∙ wider (64 - a) 64 a n k (omega arith)

-- trailing zeros find where it begins
begins : (d n : ℕ) → 0 < n → n < 2 ^ d → (n / 2 ^ count_trailing_zeros d n * 2 ^ count_trailing_zeros d n ≡ n) × (n / 2 ^ count_trailing_zeros d n % 2 ≡ 1)
begins zero n p h = absurd (omega arith)
begins (suc d) n p h =
    ⊎_elim
    (λ (e : n % 2 ≡ 0).
    let q = count_trailing_zeros d (n / 2) in
    let l = begins d (n / 2) (omega arith) (half d n h) in
    let s : n / 2 ^ suc q ≡ n / 2 / 2 ^ q = ap (λ (x : ℕ). n / x) (pow-succ' 2 q) ∙ sym (div-div-eq-div-mul n 2 (2 ^ q)) in
    let t : n / 2 / 2 ^ q * 2 ^ suc q ≡ n = omega (arith, ap (λ (x : ℕ). n / 2 / 2 ^ q * x) (pow-suc 2 q), l.0) in
    subst (λ (z : ℕ). (n / 2 ^ z * 2 ^ z ≡ n) × (n / 2 ^ z % 2 ≡ 1)) (sym (tz-out d n (n / 2) (omega arith)))
    (ap (λ (x : ℕ). x * 2 ^ suc q) s ∙ t, ap (λ (x : ℕ). x % 2) s ∙ l.1))
    (λ (e : 0 < n % 2).
    subst (λ (z : ℕ). (n / 2 ^ z * 2 ^ z ≡ n) × (n / 2 ^ z % 2 ≡ 1)) (sym (tz-into d n (n / 2) (omega arith)))
    (omega (arith, div-one n), ap (λ (x : ℕ). x % 2) (div-one n) ∙ omega arith))
    (eq-zero-or-pos (n % 2))

-- ---- a piece of the first run of a set

-- where the first run of a set begins, how long it is, and the ones of a piece of it, in the machine's words
abbrev pub first_of : ℕ → ℕ
first_of n = count_trailing_zeros 64 n

abbrev pub run_of : ℕ → ℕ
run_of n = count_trailing_zeros 64 (2 ^ 64 - 1 - n / 2 ^ first_of n)

pub record Piece (n m : ℕ) : Type 0 where
  pub within : (2 ^ m - 1) * 2 ^ first_of n ≤ n
  pub rest : cores n ≡ up_from (first_of n) m ++ cores (n - (2 ^ m - 1) * 2 ^ first_of n)

pub some-run : (n : ℕ) → 0 < n → n < 2 ^ 64 → (first_of n < 64) × (0 < run_of n)
some-run n p h = ((lowest-of 64 n p h).0, some-ones 63 (n / 2 ^ first_of n) (omega (arith, shr_le n (first_of n))) (begins 64 n p h).1)

pub piece_of : (n m : ℕ) → 0 < n → n < 2 ^ 64 → m ≤ run_of n → Piece n m
piece_of n m p h k =
    let a = first_of n in
    let s = n / 2 ^ a in
    let b = (begins 64 n p h).0 in
    let l : a < 64 = (lowest-of 64 n p h).0 in
    let f = front 64 a s m (omega (arith, shr_le n a)) k in
    let sum : 64 - a + a ≡ 64 = omega arith in
    let high : s < 2 ^ (64 - a) = shr_lt (64 - a) a (rw sum h) in
    let low : s - (2 ^ m - 1) < 2 ^ (64 - a) = omega arith in
    let less : (s - (2 ^ m - 1)) * 2 ^ a ≡ n - (2 ^ m - 1) * 2 ^ a =
    mul_comm (s - (2 ^ m - 1)) (2 ^ a) ∙ mul-sub (2 ^ a) s (2 ^ m - 1) ∙ ap₂ (λ (x y : ℕ). x - y) (mul_comm (2 ^ a) s) (mul_comm (2 ^ a) (2 ^ m - 1)) ∙ ap (λ (x : ℕ). x - (2 ^ m - 1) * 2 ^ a) b in
    record {
      within = le_trans (mul-le-mul_right (2 ^ a) f.within) (omega (arith, b));
      rest =
          ap cores (sym b) ∙ shifted a s (omega arith) high ∙ f.rest
          ∙ ap (λ (x : List ℕ). up_from a m ++ x) (sym (ap cores (sym less) ∙ shifted a (s - (2 ^ m - 1)) (omega arith) low));
    }

-- the first m cores as a set
pub first-set : (r m : ℕ) → r < 2 ^ 64 → m ≤ 64 → cores r ≡ up_from 0 (min m 64) → r ≡ 2 ^ m - 1
first-set r m h k e =
    let all : min m 64 ≡ m = omega arith in
    sym (set-cores r h) ∙ ap set_of (e ∙ ap (up_from 0) all ∙ sym (cores-up m k)) ∙ set-cores (2 ^ m - 1) (omega (arith, pow_mono k, pow_pos m))

-- r << first_of n, r being the first m cores, is a piece of the first run: the set without it has the cores from place m on
pub taken-off : (n m r : ℕ) → 0 < n → n < 2 ^ 64 → m ≤ run_of n → r < 2 ^ 64 → cores r ≡ up_from 0 (min m 64)
    → ((r * 2 ^ first_of n) % 2 ^ 64 ≤ n) × (cores (n - (r * 2 ^ first_of n) % 2 ^ 64) ≡ drop m (cores n))
taken-off n m r p h k l e =
    let a = first_of n in
    let o = piece_of n m p h k in
    let q : r ≡ 2 ^ m - 1 = first-set r m l (le_trans k (trailing_le 64 (2 ^ 64 - 1 - n / 2 ^ a))) e in
    let z : (r * 2 ^ a) % 2 ^ 64 ≡ (2 ^ m - 1) * 2 ^ a = ap (λ (x : ℕ). (x * 2 ^ a) % 2 ^ 64) q ∙ mod-eq_of_lt (lt_of_le_of_lt o.within h) in
    let d : drop m (cores n) ≡ cores (n - (2 ^ m - 1) * 2 ^ a) =
    ap (drop m) o.rest ∙ ap (λ (i : ℕ). drop i (up_from a m ++ cores (n - (2 ^ m - 1) * 2 ^ a))) (sym (up-length a m)) ∙ drop-append_seam (up_from a m) (cores (n - (2 ^ m - 1) * 2 ^ a)) in
    (subst (λ (x : ℕ). x ≤ n) (sym z) o.within, subst (λ (x : ℕ). cores (n - x) ≡ drop m (cores n)) (sym z) (sym d))
