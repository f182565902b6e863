-- Whether some place of a list passes a test, as the library's `any` finds it.
use Rattle.std.proofs.Common.{◌≡◌, ◌≤◌, ◌<◌, ◌||◌, ◌∷◌, [], ℕ, zero, suc, Bool, true, false, List, length, get_or, get_or-take, take, refl, ap, sym, ◌∙◌, arith}
use Rattle.std.proofs.Math.Seq.{take-suc}
use Rattle.std.proofs.Math.Seq.{length-take-le, take_all}
use Rattle.std.proofs.lemmas.List.Folds.{list_any-append}
use Rattle.std.proofs.lemmas.Slice.Zip.{get_or-zip, length-zip}
use Rattle.std.specs.List.{list_any, zip}
use Rattle.model.proofs.Search.{any_same}
use Rattle.model.specs.Search.{any}

module _ {A : Type 0} where
  one : (f : A → Bool) (x : A) → list_any f (x ∷ []) ≡ f x
  one f x = go (f x)
    where
      go : (b : Bool) → b || false ≡ b
      go true = refl
      go false = refl

  -- some of the first n items passes
  pub any_of_first : (f : A → Bool) (xs : List A) (n : ℕ) (d : A) → n ≤ length xs → list_any f (take n xs) ≡ any n (λ p. f (get_or xs p d))
  unfolding any
  any_of_first f xs zero d h = refl
  any_of_first f xs (suc n) d h =
      ap (list_any f) (take-suc xs n d (omega arith))
      ∙ (list_any-append f (take n xs) (get_or xs n d ∷ [])
      ∙ rw (any_of_first f xs n d (omega arith), one f (get_or xs n d)))

-- some of the first n pairs of two lists passes
pub any_of_pairs :
    {A B : Type 0} (f : A × B → Bool) (xs : List A) (ys : List B) (n : ℕ) (d : A) (e : B) → n ≤ length xs → n ≤ length ys
    → list_any f (zip (take n xs) ys) ≡ any n (λ p. f (get_or xs p d, get_or ys p e))
any_of_pairs {A} {B} f xs ys n d e h l =
    ap (list_any f) (sym (take_all n pairs (omega (arith, size))))
    ∙ (any_of_first f pairs n (d, e) (omega (arith, size))
    ∙ any_same n (λ p. f (get_or pairs p (d, e))) (λ p. f (get_or xs p d, get_or ys p e)) (λ p b. ap f (there p b)))
  where
    pairs : List (A × B)
    pairs = zip (take n xs) ys

    first : length (take n xs) ≡ n
    first = length-take-le n xs h

    size : length pairs ≡ n
    size = omega (arith, length-zip (take n xs) ys, first)

    there : (p : ℕ) → p < n → get_or pairs p (d, e) ≡ (get_or xs p d, get_or ys p e)
    there p b =
        get_or-zip (take n xs) ys p (d, e) (omega (arith, first)) (omega arith)
        ∙ ap (λ (x : A). (x, get_or ys p e)) (get_or-take n xs p d b)
