-- The elements at the chosen places of a list.
use mathlib.Core.Bool.{Bool, and-true, cond, false, not, true, ◌&&◌}
use mathlib.Core.List.{List, [], map, ◌∷◌}
use mathlib.Core.Path.{ap, refl, ◌∙◌, ◌≡◌}
use Prim.Native.Nat.{ℕ, suc, zero, ◌<◌, ◌≤◌}
use native.Mathlib.Nat.{not-suc-le-zero}
use native.Mathlib.Omega.{arith}
use lib.Dec.{eqb, eqb-suc-suc, eqb-suc-zero, eqb-zero-suc}
use lib.ListN.{get_or, length}
use Rattle.conflict.specs.SubTable.{chosen}

module _ {A : Type 0} where
  -- tests that agree on the places of a list choose the same
  pub chosen-same : (k m : ℕ → Bool) (xs : List A) → ((q : ℕ) → q < length xs → k q ≡ m q) → chosen k xs ≡ chosen m xs
  unfolding chosen
  chosen-same k m [] h = refl
  chosen-same k m (x ∷ xs) h =
      rw (h 0 (omega arith), chosen-same (λ q. k (suc q)) (λ q. m (suc q)) xs (λ q l. h (suc q) (omega arith)))

  -- all of them: the list itself
  pub chosen-whole : (k : ℕ → Bool) (xs : List A) → ((q : ℕ) → q < length xs → k q ≡ true) → chosen k xs ≡ xs
  unfolding chosen
  chosen-whole k [] h = refl
  chosen-whole k (x ∷ xs) h =
      rw (h 0 (omega arith)) (ap (λ (l : List A). x ∷ l) (chosen-whole (λ q. k (suc q)) xs (λ q l. h (suc q) (omega arith))))

  -- what holds of all holds of those
  pub chosen-all : (P : A → Type 0) (d : A) (k : ℕ → Bool) (xs : List A)
      → ((p : ℕ) → p < length xs → P (get_or xs p d)) → (p : ℕ) → p < length (chosen k xs) → P (get_or (chosen k xs) p d)
  unfolding chosen
  chosen-all P d k [] h p l = h p l
  chosen-all P d k (x ∷ xs) h p l = go (k 0) p l (chosen-all P d (λ q. k (suc q)) xs (λ q m. h (suc q) (omega arith)))
    where
      rest : List A
      rest = chosen (λ q. k (suc q)) xs

      go : (t : Bool) (p : ℕ) → p < length (cond t (x ∷ rest) rest) → ((q : ℕ) → q < length rest → P (get_or rest q d)) → P (get_or (cond t (x ∷ rest) rest) p d)
      go true zero m ih = h 0 (omega arith)
      go true (suc q) m ih = ih q (omega arith)
      go false q m ih = ih q m

  -- they are no more
  pub chosen-length : (k : ℕ → Bool) (xs : List A) → length (chosen k xs) ≤ length xs
  unfolding chosen
  chosen-length k [] = omega arith
  chosen-length k (x ∷ xs) = go (k 0) (chosen-length (λ q. k (suc q)) xs)
    where
      rest : List A
      rest = chosen (λ q. k (suc q)) xs

      go : (t : Bool) → length rest ≤ length xs → length (cond t (x ∷ rest) rest) ≤ suc (length xs)
      go true h = omega arith
      go false h = omega arith

  -- one place less
  pub chosen_less : (k m : ℕ → Bool) (xs : List A) (p : ℕ) → p < length xs → k p ≡ true → ((q : ℕ) → m q ≡ k q && not (eqb q p))
      → suc (length (chosen m xs)) ≡ length (chosen k xs)
  unfolding chosen
  chosen_less k m [] p l e h = absurd (not-suc-le-zero l)
  chosen_less k m (x ∷ xs) zero l e h =
      let gone : m 0 ≡ false = h 0 ∙ rw e in
      let others : chosen (λ q. m (suc q)) xs ≡ chosen (λ q. k (suc q)) xs =
      chosen-same (λ q. m (suc q)) (λ q. k (suc q)) xs (λ q i. h (suc q) ∙ rw (eqb-suc-zero q) (and-true (k (suc q)))) in
      rw (gone, e, others)
  chosen_less k m (x ∷ xs) (suc p) l e h =
      let first : m 0 ≡ k 0 = h 0 ∙ rw (eqb-zero-suc p) (and-true (k 0)) in
      rw first
      (go (k 0)
      (chosen_less (λ q. k (suc q)) (λ q. m (suc q)) xs p (omega arith) e
      (λ q. h (suc q) ∙ ap (λ (b : Bool). k (suc q) && not b) (eqb-suc-suc q p))))
    where
      these : List A
      these = chosen (λ q. m (suc q)) xs

      those : List A
      those = chosen (λ q. k (suc q)) xs

      go : (t : Bool) → suc (length these) ≡ length those → suc (length (cond t (x ∷ these) these)) ≡ length (cond t (x ∷ those) those)
      go true i = ap suc i
      go false i = i

  -- where there is one, some place passes the test
  pub chosen-some : (k : ℕ → Bool) (xs : List A) → 0 < length (chosen k xs) → (p : ℕ) × (p < length xs) × (k p ≡ true)
  unfolding chosen
  chosen-some k [] l = absurd (not-suc-le-zero l)
  chosen-some k (x ∷ xs) l = go (k 0) refl l (chosen-some (λ q. k (suc q)) xs)
    where
      rest : List A
      rest = chosen (λ q. k (suc q)) xs

      go : (t : Bool) → k 0 ≡ t → 0 < length (cond t (x ∷ rest) rest) → (0 < length rest → (p : ℕ) × (p < length xs) × (k (suc p) ≡ true))
          → (p : ℕ) × (p < suc (length xs)) × (k p ≡ true)
      go true e m ih = (0, omega arith, e)
      go false e m ih = let y = ih m in (suc y.0, omega (arith, y.1), y.2)

-- a function of each
pub chosen-map : {A B : Type 0} (f : A → B) (k : ℕ → Bool) (xs : List A) → map f (chosen k xs) ≡ chosen k (map f xs)
unfolding chosen
chosen-map f k [] = refl
chosen-map {A} {B} f k (x ∷ xs) = go (k 0) (chosen-map f (λ q. k (suc q)) xs)
  where
    rest : List A
    rest = chosen (λ q. k (suc q)) xs

    those : List B
    those = chosen (λ q. k (suc q)) (map f xs)

    go : (t : Bool) → map f rest ≡ those → map f (cond t (x ∷ rest) rest) ≡ cond t (f x ∷ those) those
    go true e = ap (λ (l : List B). f x ∷ l) e
    go false e = e
