-- A line represents a number exactly where the test is true.
use mathlib.Core.Bool.{Bool, true, false, ◌&&◌, cond}
use mathlib.Core.List.{List}
use mathlib.Core.Logic.{◌↔◌}
use mathlib.Core.Path.{◌≡◌, refl, sym, ap, ◌∙◌}
use Prim.Native.Nat.{ℕ, ◌+◌, ◌*◌, ◌-◌, ◌≤◌, ◌<◌}
use native.Mathlib.Numerals.{add-one}
use native.Mathlib.Omega.{arith}
use lib.ListN.{length, get_or, take, length-take}
use lib.Seq.{take-suc}
use lib.Dec.{leb}
use borrow.Author.Tests.{leb-true, le-leb}
use Rattle.model.proofs.Bools.{and_left, and_right, and_both}
use Rattle.std.proofs.lemmas.Bool.{false_from_ne_true}
use Rattle.text.specs.Decimal.{all, is_digit, Digit, Digits, value}
use Rattle.text.specs.Format.{Number, is_number, largest}
use Rattle.text.specs.Input.{parse_number}
use Rattle.std.proofs.Common.{Some, None, Result, Ok, Err}
use Rattle.std.specs.Result.{OkIff, result_ok}
use Rattle.text.proofs.Every.{all_more}
use Rattle.text.proofs.Values.{digit-exact, digits-exact, value-more, value-within}

pub number-exact : (l : List ℕ) → (is_number l ≡ true) ↔ Number l
unfolding is_number
number-exact l = (to, from)
  where
    fit : is_number l ≡ true → all is_digit l && leb (value l) largest ≡ true
    fit e = and_right (leb (length l) 10) _ (and_right (leb 1 (length l)) _ e)

    to : is_number l ≡ true → Number l
    to e =
        record {
          some = leb-true 1 (length l) (and_left (leb 1 (length l)) _ e);
          short = leb-true (length l) 10 (and_left (leb (length l) 10) _ (and_right (leb 1 (length l)) _ e));
          digits = (digits-exact l).0 (and_left (all is_digit l) _ (fit e));
          fits = leb-true (value l) largest (and_right (all is_digit l) _ (fit e));
        }

    from : Number l → is_number l ≡ true
    from n =
        and_both (leb 1 (length l)) _ (le-leb 1 (length l) n.some)
        (and_both (leb (length l) 10) _ (le-leb (length l) 10 n.short)
        (and_both (all is_digit l) _ ((digits-exact l).1 n.digits) (le-leb (value l) largest n.fits)))

pub found-value : (l : List ℕ) → Number l → Some (value l) ≡ parse_number l
found-value l n = rw ((number-exact l).1 n)

pub found_nothing : (l : List ℕ) → (Number l → ⊥) → None ≡ parse_number l
found_nothing l h = rw (false_from_ne_true (is_number l) (λ e. h ((number-exact l).0 e)))

-- .. by the value of its digits, which are few, converted to 32 bits
pub number-of :
    {E : Type 0} (l : List ℕ) (r : Result ℕ E) (v : ℕ) → OkIff r (v < 4294967296) v → v ≡ value l → Digits l → 1 ≤ length l → length l ≤ 10 → result_ok r ≡ parse_number l
number-of l (Ok n) v h e d s t =
    ap Some (h.1 ∙ e) ∙ found-value l (record { some = s; short = t; digits = d; fits = omega (arith, h.0, e) })
number-of l (Err x) v h e d s t = found_nothing l (λ n. h (omega (arith, n.fits, e)))

-- reading one digit more: all so far are digits, and the value is that of the digits so far
pub digits_more : (l : List ℕ) (i : ℕ) → i < length l → all is_digit (take i l) ≡ true → Digit (get_or l i 0) → all is_digit (take (i + 1) l) ≡ true
digits_more l i q e d = rw (add-one, take-suc l i 0 q) (all_more is_digit (take i l) (get_or l i 0) e ((digit-exact (get_or l i 0)).1 d))

pub value_on : (l : List ℕ) (i : ℕ) → i < length l → value (take i l) * 10 + (get_or l i 0 - 48) ≡ value (take (i + 1) l)
value_on l i q = sym (rw (add-one, take-suc l i 0 q) (value-more (take i l) (get_or l i 0)))

-- up to nine digits represent less than 10^9
pub value-nine : (l : List ℕ) (i : ℕ) → i ≤ 9 → all is_digit (take i l) ≡ true → value (take i l) < 1000000000
value-nine l i q e = value-within (take i l) 9 ((digits-exact (take i l)).0 e) (simp length-take (omega arith))

-- what was found decides whether the line represents a number, and which
pub nothing-found : (l : List ℕ) → parse_number l ≡ None → is_number l ≡ false
nothing-found l = go (is_number l)
  where
    go : (t : Bool) → cond t (Some (value l)) None ≡ None → t ≡ false
    go true e = let z : ◌≡◌ {A = ℕ} 0 1 = cc in absurd (omega arith)
    go false e = refl

pub value_found : (l : List ℕ) (n : ℕ) → parse_number l ≡ Some n → (is_number l ≡ true) × (n ≡ value l)
value_found l n = go (is_number l)
  where
    go : (t : Bool) → cond t (Some (value l)) None ≡ Some n → (t ≡ true) × (n ≡ value l)
    go true e = (refl, cc)
    go false e = let z : ◌≡◌ {A = ℕ} 0 1 = cc in absurd (omega arith)
