-- The digits at the front of a text: their number in decimal, and what turns them down is no number below 2^64.
use mathlib.Core.Bool.{true, false, ◌&&◌, false≢true}
use mathlib.Core.List.{List, ◌++◌}
use mathlib.Core.Path.{◌≡◌, ap, ap₂, sym, subst, ◌∙◌}
use Prim.Native.Nat.{ℕ, ◌+◌, ◌*◌, ◌-◌, ◌≤◌, ◌<◌}
use native.Mathlib.Omega.{arith}
use lib.ListN.{length, get_or, take, drop}
use Rattle.std.proofs.Common.{Bor}
use lib.Dec.{eqb, ltb}
use Rattle.text.specs.Decimal.{Digits, value, decimal}
use Rattle.text.proofs.Decimals.{decimal-some, decimal-value}
use Rattle.text.proofs.Values.{digits-exact}
use Rattle.text.proofs.Numbers.{value_on}
use Rattle.sentence.specs.Facts.{limit}
use Rattle.sentence.specs.Reading.{digits_of, Stops, NoNumber, NumberAt}
use Rattle.sentence.proofs.Reading.{digits-within, digits-all, digits-stop, front, number-there, number-front, number-plain}

-- a text s, of which `count` digits are at the front
module _ (s : List ℕ) (count : ℕ) (count-is : count ≡ digits_of s) where
  pub within : count ≤ length s
  within = omega (arith, digits-within s)

  digits-are : take count s ≡ front s
  digits-are = ap (λ (k : ℕ). take k s) count-is

  -- the digits are digits
  pub only-digits : Digits (take count s)
  only-digits = subst Digits (sym digits-are) ((digits-exact (front s)).0 (digits-all s))

  padded-is : eqb (get_or s 0 0) 48 && ltb 1 count ≡ eqb (get_or s 0 0) 48 && ltb 1 (digits_of s)
  padded-is = ap (λ (k : ℕ). eqb (get_or s 0 0) 48 && ltb 1 k) count-is

  -- where no digit is
  pub no-digits : count ≡ 0 → NoNumber s
  no-digits h n rest l q e = omega (arith, (number-front s rest n q e).0, decimal-some n)

  -- where a zero is in front of other digits
  pub zero-first : eqb (get_or s 0 0) 48 && ltb 1 count ≡ true → NoNumber s
  zero-first z n rest l q e = false≢true (sym (padded-is ∙ number-plain s rest n q e) ∙ z)

  -- where the digits represent too much
  pub too_large : limit ≤ value (take count s) → NoNumber s
  too_large m n rest b q f =
      let z : value (take count s) ≡ n = ap value (digits-are ∙ (number-front s rest n q f).1) ∙ decimal-value n in
      omega arith

  -- the number that is there
  pub is_number : (v : ℕ) (rest : Bor (List ℕ)) → (count ≡ 0 → ⊥) → eqb (get_or s 0 0) 48 && ltb 1 count ≡ false → v ≡ value (take count s) → v < limit →
      rest.now ≡ drop count s → NumberAt s (v, rest)
  is_number v rest l z e b r =
      let d : drop (digits_of s) s ≡ rest.now = sym (r ∙ ap (λ (k : ℕ). drop k s) count-is) in
      let t : s ≡ decimal (value (front s)) ++ drop (digits_of s) s = number-there s (omega arith) (sym padded-is ∙ z) in
      let f : value (front s) ≡ v = sym (e ∙ ap value digits-are) in
      record {
        there = t ∙ ap₂ (λ (k : ℕ) (xs : List ℕ). decimal k ++ xs) f d;
        stops = subst Stops d (digits-stop s);
        small = b;
      }

-- one digit more
pub value-next : (ds : List ℕ) (k v : ℕ) → k < length ds → v ≡ value (take k ds) → v * 10 + (get_or ds k 0 - 48) ≡ value (take (k + 1) ds)
value-next ds k v h e = ap (λ (x : ℕ). x * 10 + (get_or ds k 0 - 48)) e ∙ value_on ds k h
