-- Rows of bytes, one a core, core 0 first (scope, 'The plan'), and marks put on some of their cores.
use Rattle.std.specs.Prelude.{cond, List, [], ◌∷◌, map, ℕ, suc, length, get_or}
use Rattle.model.specs.Search.{member, up_from}

-- the row with the mark on each core of the list, and the other bytes as they were
unfoldable pub marked : List ℕ → ℕ → List ℕ → List ℕ
marked row mark l = map (λ c. cond (member c l) mark (get_or row c 0)) (up_from 0 (length row))

-- the row with each position on its cores, one after the other; the first list is that of position p
unfoldable pub shown_bytes : List ℕ → ℕ → List (List ℕ) → List ℕ
shown_bytes row p [] = row
shown_bytes row p (g ∷ gs) = shown_bytes (marked row p g) (suc p) gs
