-- A test on every element of a list: each element, and the list's parts.
use mathlib.Core.Bool.{Bool, true}
use mathlib.Core.List.{List, [], ◌∷◌, ◌++◌}
use mathlib.Core.Path.{◌≡◌, refl}
use Prim.Native.Nat.{ℕ, zero, suc, ◌<◌}
use native.Mathlib.Nat.{not-suc-le-zero, le_of_suc-le-suc}
use native.Mathlib.Omega.{arith}
use lib.ListN.{length, get_or}
use Rattle.model.proofs.Bools.{and_left, and_right, and_both}
use Rattle.text.specs.Decimal.{all}

-- each element passes
pub all-at : {A : Type 0} (f : A → Bool) (xs : List A) (d : A) → all f xs ≡ true → (i : ℕ) → i < length xs → f (get_or xs i d) ≡ true
unfolding all
all-at f [] d e i l = absurd (not-suc-le-zero l)
all-at f (x ∷ xs) d e zero l = and_left (f x) (all f xs) e
all-at f (x ∷ xs) d e (suc i) l = all-at f xs d (and_right (f x) (all f xs) e) i (le_of_suc-le-suc l)

-- where each element passes, all do
pub all_of : {A : Type 0} (f : A → Bool) (xs : List A) (d : A) → ((i : ℕ) → i < length xs → f (get_or xs i d) ≡ true) → all f xs ≡ true
unfolding all
all_of f [] d h = refl
all_of f (x ∷ xs) d h = and_both (f x) (all f xs) (h 0 (omega arith)) (all_of f xs d (λ i l. h (suc i) (omega arith)))

-- one more at the end
pub all_more : {A : Type 0} (f : A → Bool) (xs : List A) (x : A) → all f xs ≡ true → f x ≡ true → all f (xs ++ (x ∷ [])) ≡ true
unfolding all
all_more f [] x e q = and_both (f x) true q refl
all_more f (y ∷ xs) x e q = and_both (f y) (all f (xs ++ (x ∷ []))) (and_left (f y) (all f xs) e) (all_more f xs x (and_right (f y) (all f xs) e) q)
