-- The number that digits represent: one digit more at the end, and how large it can be.
use mathlib.Core.Bool.{true}
use mathlib.Core.List.{List, [], ◌∷◌, ◌++◌}
use mathlib.Core.Logic.{◌↔◌}
use mathlib.Core.Path.{◌≡◌, ◌∙◌}
use Prim.Native.Nat.{ℕ, suc, ◌+◌, ◌*◌, ◌-◌, ◌^◌, ◌≤◌, ◌<◌}
use native.Mathlib.Nat.{pow-suc, pow-le-pow_right, mul-le-mul_right}
use native.Mathlib.Omega.{arith}
use lib.ListN.{length, get_or, length-append}
use lib.Dec.{leb}
use borrow.Author.Tests.{leb-true, le-leb}
use Rattle.model.proofs.Bools.{and_left, and_right, and_both}
use Rattle.text.specs.Decimal.{all, is_digit, Digit, Digits, value}
use Rattle.text.proofs.Every.{all-at, all_of}

pub digit-exact : (b : ℕ) → (is_digit b ≡ true) ↔ Digit b
digit-exact b = (
  λ e. (leb-true 48 b (and_left (leb 48 b) (leb b 57) e), leb-true b 57 (and_right (leb 48 b) (leb b 57) e)),
  λ h. and_both (leb 48 b) (leb b 57) (le-leb 48 b h.0) (le-leb b 57 h.1),
)

-- the test of digits is exact
pub digits-exact : (ds : List ℕ) → (all is_digit ds ≡ true) ↔ Digits ds
digits-exact ds = (λ e i l. (digit-exact (get_or ds i 0)).0 (all-at is_digit ds 0 e i l), λ h. all_of is_digit ds 0 (λ i l. (digit-exact (get_or ds i 0)).1 (h i l)))

-- one digit more
pub value-more : (ds : List ℕ) (d : ℕ) → value (ds ++ (d ∷ [])) ≡ value ds * 10 + (d - 48)
unfolding value
value-more [] d = omega arith
value-more (x ∷ ds) d =
    let e = value-more ds d in
    let n : length (ds ++ (d ∷ [])) ≡ suc (length ds) = length-append ds (d ∷ []) ∙ omega arith in
    rw (n, e, pow-suc) (omega arith)

-- n digits represent less than 10^n
pub value-below : (ds : List ℕ) → Digits ds → value ds < 10 ^ length ds
unfolding value
value-below [] h = omega arith
value-below (d ∷ ds) h =
    let ih = value-below ds (λ i l. h (suc i) (omega arith)) in
    let q = h 0 (omega arith) in
    let m : (d - 48) * 10 ^ length ds ≤ 9 * 10 ^ length ds = mul-le-mul_right (10 ^ length ds) (omega arith) in
    rw pow-suc (omega arith)

-- .. and so at most k digits less than 10^k
pub value-within : (ds : List ℕ) (k : ℕ) → Digits ds → length ds ≤ k → value ds < 10 ^ k
value-within ds k h l = let small = value-below ds h in let more : 10 ^ length ds ≤ 10 ^ k = pow-le-pow_right (omega arith) l in omega arith
