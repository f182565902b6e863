-- The value at a place after a change.
use mathlib.Core.Path.{◌≡◌, refl, ap}
use mathlib.Core.List.{List, [], ◌∷◌}
use Prim.Native.Nat.{ℕ, zero, suc, ◌<◌}
use native.Mathlib.Nat.{not-suc-le-zero, le_of_suc-le-suc}
use native.Mathlib.Omega.{arith}
use lib.ListN.{length, get_or, set}
use Rattle.simulation.specs.Places.{map_places}

pub each-length : (f : ℕ → ℕ → ℕ) (xs : List ℕ) → length (map_places f xs) ≡ length xs
unfolding map_places
each-length f [] = refl
each-length f (x ∷ xs) = ap suc (each-length (λ p. f (suc p)) xs)

pub each_at : (f : ℕ → ℕ → ℕ) (xs : List ℕ) (p : ℕ) → p < length xs → get_or (map_places f xs) p 0 ≡ f p (get_or xs p 0)
unfolding map_places
each_at f [] p h = absurd (not-suc-le-zero h)
each_at f (x ∷ xs) zero h = refl
each_at f (x ∷ xs) (suc p) h = each_at (λ q. f (suc q)) xs p (le_of_suc-le-suc h)

-- changes that are the same at every place are the same
pub each_same : (f g : ℕ → ℕ → ℕ) (xs : List ℕ) → ((p : ℕ) → f p (get_or xs p 0) ≡ g p (get_or xs p 0)) → map_places f xs ≡ map_places g xs
unfolding map_places
each_same f g [] e = refl
each_same f g (x ∷ xs) e = rw (e 0, each_same (λ p. f (suc p)) (λ p. g (suc p)) xs (λ p. e (suc p)))

-- a change that does nothing
pub each_none : (f : ℕ → ℕ → ℕ) (xs : List ℕ) → ((p x : ℕ) → f p x ≡ x) → map_places f xs ≡ xs
unfolding map_places
each_none f [] e = refl
each_none f (x ∷ xs) e = rw (e 0 x, each_none (λ p. f (suc p)) xs (λ p. e (suc p)))

-- a change that does nothing at this place
pub each-still : (f : ℕ → ℕ → ℕ) (xs : List ℕ) (p : ℕ) → ((x : ℕ) → f p x ≡ x) → get_or (map_places f xs) p 0 ≡ get_or xs p 0
unfolding map_places
each-still f [] p e = refl
each-still f (x ∷ xs) zero e = e x
each-still f (x ∷ xs) (suc p) e = each-still (λ q. f (suc q)) xs p e

-- a change that does more at one place
pub each_more :
    (f g : ℕ → ℕ → ℕ) (xs : List ℕ) (p v : ℕ) → g p (get_or xs p 0) ≡ v → ((q x : ℕ) → (q ≡ p → ⊥) → g q x ≡ f q x)
    → set (map_places f xs) p v ≡ map_places g xs
unfolding map_places
each_more f g [] p v e o = refl
each_more f g (x ∷ xs) zero v e o =
    rw (e, each_same (λ q. g (suc q)) (λ q. f (suc q)) xs (λ q. o (suc q) (get_or xs q 0) (λ z. omega arith)))
each_more f g (x ∷ xs) (suc p) v e o =
    rw (
      o 0 x (λ z. omega arith),
      each_more (λ q. f (suc q)) (λ q. g (suc q)) xs p v e (λ q y n. o (suc q) y (λ z. n (omega arith))),
    )
