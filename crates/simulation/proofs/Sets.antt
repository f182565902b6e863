-- The set of the places that pass a test: its digits, its size, and a set with one place more. The set of those at their second width, in a tick.
use mathlib.Core.Path.{◌≡◌, refl, sym, ap, ◌∙◌}
use mathlib.Core.Bool.{Bool, true, false, not, ◌&&◌, ◌||◌, cond}
use Prim.Native.Nat.{ℕ, zero, suc, ◌+◌, ◌*◌, ◌/◌, ◌%◌, ◌^◌, ◌≤◌, ◌<◌}
use native.Mathlib.Nat.{not-suc-le-zero, le_of_suc-le-suc, pow-suc}
use native.Mathlib.Omega.{arith}
use lib.Bits.{bit_and, bit_or, bit_xor, and_zero_l, or_lt, xor_self, xor_zero_r}
use lib.Dec.{eqb, ltb}
use lib.Pow.{pow-lt}
use borrow.Author.Tests.{lt-ltb}
use Rattle.model.specs.Search.{bit}
use Rattle.model.proofs.Bools.{or_comm}
use Rattle.model.proofs.Digits.{bit-zero, bit-suc, bit_past, bit-power, and-bit, or-bit, xor-bit, same_digits}
use Rattle.simulation.specs.Places.{set_where}
use Rattle.simulation.specs.TickState.{toggled_by}

-- the lowest digit and the rest
digit : (b : Bool) (x y : ℕ) → x ≡ cond b 1 0 + 2 * y → (bit x 0 ≡ b) × (x / 2 ≡ y)
digit true x y e =
    let r : x % 2 ≡ 1 = omega arith in
    (rw (bit-zero x, r), omega arith)
digit false x y e =
    let r : x % 2 ≡ 0 = omega arith in
    (rw (bit-zero x, r), omega arith)

pub set-has : (n : ℕ) (f : ℕ → Bool) (i : ℕ) → i < n → bit (set_where n f) i ≡ f i
unfolding set_where
set-has zero f i h = absurd (not-suc-le-zero h)
set-has (suc n) f zero h = (digit (f 0) (set_where (suc n) f) (set_where n (λ p. f (suc p))) refl).0
set-has (suc n) f (suc i) h =
    bit-suc (set_where (suc n) f) i
    ∙ (ap (λ (x : ℕ). bit x i) (digit (f 0) (set_where (suc n) f) (set_where n (λ p. f (suc p))) refl).1
    ∙ set-has n (λ p. f (suc p)) i (le_of_suc-le-suc h))

digit_lt : (b : Bool) (y m : ℕ) → y < m → cond b 1 0 + 2 * y < m * 2
digit_lt true y m h = omega arith
digit_lt false y m h = omega arith

pub set-lt : (n : ℕ) (f : ℕ → Bool) → set_where n f < 2 ^ n
unfolding set_where
set-lt zero f = omega arith
set-lt (suc n) f = rw (pow-suc 2 n) (digit_lt (f 0) (set_where n (λ p. f (suc p))) (2 ^ n) (set-lt n (λ p. f (suc p))))

pub set_past : (n : ℕ) (f : ℕ → Bool) (i : ℕ) → n ≤ i → bit (set_where n f) i ≡ false
set_past n f i h = bit_past n (set_where n f) i (set-lt n f) h

-- a number below 2 ^ n is the set of its places
pub set_is : (n x : ℕ) (f : ℕ → Bool) → x < 2 ^ n → ((i : ℕ) → i < n → bit x i ≡ f i) → x ≡ set_where n f
set_is n x f h e = same_digits n x (set_where n f) h (set-lt n f) (λ i l. e i l ∙ sym (set-has n f i l))

-- .. of all places at which the test holds
pub set-of-all : (f : ℕ → Bool) (x : ℕ) → x < 2 ^ 32 → ((p : ℕ) → bit x p ≡ ltb p 32 && f p) → x ≡ set_where 32 f
set-of-all f x h e = set_is 32 x f h (λ p l. e p ∙ ap (λ (b : Bool). b && f p) (lt-ltb p 32 l))

-- a set with one place more
pub set-with : (x p : ℕ) → x < 2 ^ 32 → p < 32 → bit_or x (2 ^ p) ≡ set_where 32 (λ q. eqb q p || bit x q)
set-with x p h l =
    set_is 32 (bit_or x (2 ^ p)) (λ q. eqb q p || bit x q) (or_lt 32 x (2 ^ p) h (pow-lt l))
    (λ i k. or-bit x (2 ^ p) i ∙ or_comm (bit x i) (bit (2 ^ p) i) ∙ ap (λ (b : Bool). b || bit x i) (bit-power p i))

-- THE SECOND WIDTHS: a place turns where it has two and its claim is new
abbrev pub toggled_bit : Bool → Bool → Bool → Bool → Bool
toggled_bit q e c c' = cond e (not (cond c' (not c) c && q)) (cond c' (not c) c && q)

pub toggled-bit : (q e c c' p : ℕ) → bit (toggled_by q e c c') p ≡ toggled_bit (bit q p) (bit e p) (bit c p) (bit c' p)
toggled-bit q e c c' p =
    xor-bit e (bit_and (bit_xor c' c) q) p
    ∙ ap (λ (b : Bool). cond (bit e p) (not b) b) (and-bit (bit_xor c' c) q p ∙ ap (λ (b : Bool). b && bit q p) (xor-bit c' c p))

-- where the claimants stay none does
pub toggled-none : (q e c : ℕ) → toggled_by q e c c ≡ e
toggled-none q e c = ap (λ (x : ℕ). bit_xor e (bit_and x q)) (xor_self c) ∙ (ap (bit_xor e) (and_zero_l q) ∙ xor_zero_r e)
