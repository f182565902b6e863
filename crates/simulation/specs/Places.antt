-- A number for each place, and a set of places as one number.
use Rattle.std.specs.Prelude.{Bool, cond, List, [], ◌∷◌, ℕ, zero, suc, ◌+◌, ◌*◌, take, drop}
use Rattle.model.specs.Sizes.{most_tasks}

-- a list with three numbers for each place has those of one kind after those of another: where the second and the third kind begin, and its length
abbrev pub second : ℕ
second = most_tasks

abbrev pub third : ℕ
third = 2 * most_tasks

abbrev pub triple : ℕ
triple = 3 * most_tasks

-- the numbers of the 32 places, one after the other from k on, in a list that has several for each place
unfoldable pub segment : ℕ → List ℕ → List ℕ
segment k xs = take most_tasks (drop k xs)

-- the number of each place, changed by f, which is given the place and the number
unfoldable pub map_places : (ℕ → ℕ → ℕ) → List ℕ → List ℕ
map_places f [] = []
map_places f (x ∷ xs) = f 0 x ∷ map_places (λ p. f (suc p)) xs

-- the set of the places below n that pass the test: f 0, f 1, .. are its binary digits from the lowest
unfoldable pub set_where : ℕ → (ℕ → Bool) → ℕ
set_where zero f = 0
set_where (suc n) f = cond (f 0) 1 0 + 2 * set_where n (λ p. f (suc p))
