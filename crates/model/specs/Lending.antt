-- Lending (request 109; scope: lending; the field: slack reclaiming; Goossens and Berten: limited slack reclaiming): what the places of a tick borrow from the
-- holders above them, and what a row shows then.
use Rattle.std.specs.Prelude.{Bool, true, false, ◌&&◌, ◌||◌, not, List, [], ◌∷◌, ◌++◌, map, ℕ, zero, suc, get_or, ltb}
use Rattle.model.specs.Search.{filtered, member}
use Rattle.model.specs.Task.{Rule, greedy, limited, idling, lending}
use Rattle.model.specs.Grants.{claimants, grants, some}

-- rule 4 alone lends
abbrev pub lends : Rule → Bool
lends greedy = false
lends limited = false
lends idling = false
lends lending = true

-- the cores of each place in one list and in another
unfoldable pub merged : List (List ℕ) → List (List ℕ) → List (List ℕ)
merged [] hs = []
merged (g ∷ gs) [] = g ∷ gs
merged (g ∷ gs) (h ∷ hs) = (g ++ h) ∷ merged gs hs

-- place n tries place q, where bs is what each place has borrowed so far: q is below n, seeks cores and has borrowed none in this tick
abbrev pub tries : (ℕ → Bool) → ℕ → List (List ℕ) → ℕ → Bool
tries seeks n bs q = ltb n q && seeks q && not (some (get_or bs q []))

-- place n lends the cores F: the places that it tries are taken in order, as under greedy; one whose width fits in what is not yet lent of F
-- takes the lowest of that
abbrev pub lend_once : List ℕ → (ℕ → Bool) → List ℕ → ℕ → List (List ℕ) → List (List ℕ)
lend_once ws seeks F n bs = merged bs (grants greedy (claimants ws (tries seeks n bs)) F)

-- what each place has borrowed once the first n places have lent, by priority: ws are the widths, seeks tests a place, and offer is what a place lends
unfoldable pub lent : List ℕ → (ℕ → Bool) → (ℕ → List ℕ) → ℕ → List (List ℕ)
lent ws seeks offer zero = map (λ w. []) ws
lent ws seeks offer (suc n) = lend_once ws seeks (offer n) n (lent ws seeks offer n)

-- core c is in one of the lists
unfoldable pub among : ℕ → List (List ℕ) → Bool
among c [] = false
among c (l ∷ ls) = member c l || among c ls

-- the cores of a list that no place borrows
abbrev pub unlent : List (List ℕ) → List ℕ → List ℕ
unlent bs cs = filtered (λ c. not (among c bs)) cs

-- .. and those that some place borrows
abbrev pub lent_away : List (List ℕ) → List ℕ → List ℕ
lent_away bs cs = filtered (λ c. among c bs) cs

-- the cores of each place as the row shows them, from those that it is given and those that it borrows: a holder keeps what it has not lent
abbrev pub shown_cores : List (List ℕ) → List (List ℕ) → List (List ℕ)
shown_cores gs bs = merged bs (map (unlent bs) gs)
