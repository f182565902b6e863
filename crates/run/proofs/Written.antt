-- A list that is written from the front, one store after the other: what is written, then what was there before.
use mathlib.Core.Path.{◌≡◌, refl, sym, ap, ◌∙◌}
use mathlib.Core.List.{List, [], ◌∷◌, ◌++◌}
use Prim.Native.Nat.{ℕ, zero, suc, ◌+◌, ◌-◌, ◌<◌}
use native.Mathlib.Numerals.{add-one}
use native.Mathlib.Omega.{arith}
use lib.ListN.{length, get_or, set, take, drop, replicate}
use lib.Seq.{drop-cons, length-take-le, take_all, take-suc}

module _ {A : Type 0} where
  -- a store right after the first part
  set_next : (xs : List A) (y v : A) (ys : List A) → set (xs ++ (y ∷ ys)) (length xs) v ≡ (xs ++ (v ∷ [])) ++ ys
  set_next [] y v ys = refl
  set_next (x ∷ xs) y v ys = ap (λ (l : List A). x ∷ l) (set_next xs y v ys)

  -- one more is written
  pub written-more : (xs old : List A) (i : ℕ) (v d : A) → length xs ≡ i → i < length old → set (xs ++ drop i old) i v ≡ (xs ++ (v ∷ [])) ++ drop (i + 1) old
  written-more xs old i v d e h =
      ap (λ (l : List A). set (xs ++ l) i v) (drop-cons old i d h)
      ∙ (ap (λ (k : ℕ). set (xs ++ (get_or old i d ∷ drop (suc i) old)) k v) (sym e)
      ∙ (set_next xs (get_or old i d) v (drop (suc i) old)
      ∙ ap (λ (k : ℕ). (xs ++ (v ∷ [])) ++ drop k old) (sym (add-one i))))

  -- one more of a list
  pub take_more : (l : List A) (i : ℕ) (d : A) → i < length l → take (i + 1) l ≡ take i l ++ (get_or l i d ∷ [])
  take_more l i d h = ap (λ (k : ℕ). take k l) (add-one i) ∙ take-suc l i d h

  -- a loop that writes a list in front of another: one more of it ..
  pub front-more :
      (xs old : List A) (i : ℕ) (d : A) → i < length xs → i < length old
      → set (take i xs ++ drop i old) i (get_or xs i d) ≡ take (i + 1) xs ++ drop (i + 1) old
  front-more xs old i d h l =
      written-more (take i xs) old i (get_or xs i d) d (length-take-le i xs (omega arith)) l
      ∙ ap (λ (k : List A). k ++ drop (i + 1) old) (sym (take_more xs i d h))

  -- .. and all of it
  pub front-all : (xs old : List A) (i n : ℕ) → i ≡ n → length xs ≡ n → take i xs ++ drop i old ≡ xs ++ drop n old
  front-all xs old i n e l =
      ap (λ (k : ℕ). take k xs ++ drop k old) e ∙ ap (λ (k : List A). k ++ drop n old) (take_all n xs (omega arith))

  -- the rest of a list of equal elements
  pub drop-equal : (n i : ℕ) (x : A) → drop i (replicate n x) ≡ replicate (n - i) x
  drop-equal n zero x = let e : n ≡ n - 0 = omega arith in ap (λ (k : ℕ). replicate k x) e
  drop-equal zero (suc i) x = let e : 0 ≡ 0 - suc i = omega arith in ap (λ (k : ℕ). replicate k x) e
  drop-equal (suc n) (suc i) x = let e : n - i ≡ suc n - suc i = omega arith in drop-equal n i x ∙ ap (λ (k : ℕ). replicate k x) e
