-- Rows as sets of cores (request 114): of each place the cores that the row of a tick shows, as one number, core 0 its lowest digit.
use Rattle.std.specs.Prelude.{false, true, List, [], ◌∷◌, map, ◌⊎◌, ◌≡◌, ℕ, ◌+◌, ◌^◌, ◌<◌, get_or, length}
use Rattle.std.specs.Int.Count.{ones}
use Rattle.model.specs.Jobs.{Book}
use Rattle.model.specs.Claims.{shown_of}
use Rattle.model.specs.Refusals.{Asked, asked_by}
use Rattle.model.specs.Lending.{lent_away, unlent}
use Rattle.model.specs.Search.{bit}
use Rattle.model.specs.Task.{Table}

-- the set of the cores of a list without repetition
unfoldable pub set_of : List ℕ → ℕ
set_of [] = 0
set_of (c ∷ l) = 2 ^ c + set_of l

-- the set of each place, of the cores that the book's row shows: a borrower's are those that it borrows, a lender's those that it has not lent
abbrev pub book_sets : Table → Book → List ℕ
book_sets s b = map set_of (shown_of s b)

-- a row asked as sets: 15 and 20 as of a row asked (`asked_by`)
unfoldable pub sets_asked : Table → Book → ℕ → Asked
sets_asked s b e = asked_by (book_sets s) s b e

-- WHAT HOLDS OF THE SETS OF A TICK

-- no core is in two of them
abbrev pub SetsApart : List ℕ → Type 0
SetsApart sets = (p q c : ℕ) → bit (get_or sets p 0) c ≡ true → bit (get_or sets q 0) c ≡ true → p ≡ q

-- none has a core past the count m, or a fenced one
abbrev pub SetsUnfenced : ℕ → ℕ → List ℕ → Type 0
SetsUnfenced fence m sets = (p c : ℕ) → bit (get_or sets p 0) c ≡ true → (c < m) × (bit fence c ≡ false)

-- how many cores they have, where ws are the widths, offers are the cores that each place may lend and bs is what each borrows
pub record SetsCount (ws : List ℕ) (offers : ℕ → List ℕ) (bs : List (List ℕ)) (sets : List ℕ) : Type 0 where
  -- a place that has nothing to lend has as many as the width of its job, or none
  pub width : (p : ℕ) → offers p ≡ [] → (ones (get_or sets p 0) ≡ get_or ws p 0) ⊎ (get_or sets p 0 ≡ 0)
  -- a place that may lend keeps what no place borrows ..
  pub lender : (p : ℕ) → ¬ (offers p ≡ []) → get_or sets p 0 ≡ set_of (unlent bs (offers p))
  -- .. and that and what is borrowed of it are together as many as the width of its job: all of them where no place borrows
  pub parts : (p : ℕ) → ¬ (offers p ≡ []) → ones (get_or sets p 0) + length (lent_away bs (offers p)) ≡ get_or ws p 0
