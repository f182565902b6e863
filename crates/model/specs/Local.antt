-- No task changes the core of a task above it (scope, 'Who runs in a tick'): what is compared. `local-full`, `local-empty` and `local-lists` show it.
use Rattle.std.specs.Prelude.{cond, List, [], map, ◌∷◌, ◌≡◌, ◌<◌, ℕ, leb, get_or, take}
use Rattle.model.specs.Jobs.{Book}
use Rattle.model.specs.Claims.{borrowed, grants_of, offer, book_row}
use Rattle.model.specs.Advance.{Entry, advance, singleton, withdraw, withdraw_all}
use Rattle.model.specs.Search.{any, bit}
use Rattle.model.specs.Task.{Table}

-- two tables that differ only below position n: the same rule, cores and fence, and the same first n tasks
pub record EqualAbove (n : ℕ) (s s' : Table) : Type 0 where
  pub rules : s.rule ≡ s'.rule
  pub cores : s.cores ≡ s'.cores
  pub fences : s.fence ≡ s'.fence
  pub tasks : take n s.tasks ≡ take n s'.tasks

-- two sets that agree on positions 1 to n
abbrev pub SameBits : ℕ → ℕ → ℕ → Type 0
SameBits n x y = (q : ℕ) → q < n → bit x q ≡ bit y q

-- an entry before others, dropped if it withdraws only positions below position n
abbrev pub relevant_if : ℕ → Entry → List Entry → List Entry
relevant_if n (advance x e) xs = advance x e ∷ xs
relevant_if n (withdraw p) xs = cond (leb p n) (withdraw p ∷ xs) xs
relevant_if n (withdraw_all x) xs = cond (any n (bit x)) (withdraw_all x ∷ xs) xs

-- the entries of a list that concern positions 1 to n: withdrawals of positions below them are dropped
unfoldable pub relevant : ℕ → List Entry → List Entry
relevant n [] = []
relevant n (x ∷ xs) = relevant_if n x (relevant n xs)

-- two entries that are equal on positions 1 to n: advances whose sets, of reports and of empty jobs, agree on them, or withdrawals of one position,
-- or of sets that agree on them
abbrev pub SameEntry : ℕ → Entry → Entry → Type 0
SameEntry n (advance x e) (advance y g) = SameBits n x y × SameBits n e g
SameEntry n (advance x e) (withdraw q) = ⊥
SameEntry n (advance x e) (withdraw_all y) = ⊥
SameEntry n (withdraw p) (advance y g) = ⊥
SameEntry n (withdraw p) (withdraw q) = p ≡ q
SameEntry n (withdraw p) (withdraw_all y) = SameBits n (singleton p) y
SameEntry n (withdraw_all x) (advance y g) = ⊥
SameEntry n (withdraw_all x) (withdraw q) = SameBits n x (singleton q)
SameEntry n (withdraw_all x) (withdraw_all y) = SameBits n x y

-- two lists of equal length whose entries are equal on positions 1 to n
unfoldable pub SameEntries : ℕ → List Entry → List Entry → Type 0
SameEntries n [] [] = Unit {0}
SameEntries n [] (y ∷ ys) = ⊥
SameEntries n (x ∷ xs) [] = ⊥
SameEntries n (x ∷ xs) (y ∷ ys) = SameEntry n x y × SameEntries n xs ys

-- two lists that are equal on positions 1 to n
abbrev pub SameReports : ℕ → List Entry → List Entry → Type 0
SameReports n xs ys = SameEntries n (relevant n xs) (relevant n ys)

-- a row restricted to positions 1 to n: the bytes of positions below them, and of fenced cores, read 0 (n is below 255)
abbrev pub up_to : ℕ → ℕ → ℕ
up_to n byte = cond (leb byte n) byte 0

-- no place lends in a book: this holds under rules 1 to 3 (`offer-none`), and under every rule at full length (`full-offer`)
abbrev pub NoLending : Table → Book → Type 0
NoLending s b = (q : ℕ) → offer s b q ≡ []

-- positions 1 to n have the same cores in two books: as lists of the cores that they are given, or that are reserved for them, as lists of those
-- that they may lend, as lists of those that they borrow, and, where no place lends, as bytes of the rows (where one does, a row shows a borrower on cores
-- of a place above it: `lending-shows`; a place that has nothing to lend, since no cores are reserved for it as a holder, shows the same cores in both:
-- `local-sets`)
pub record SameCoresAbove (n : ℕ) (s : Table) (b : Book) (s' : Table) (b' : Book) : Type 0 where
  pub lists : (p : ℕ) → p < n → get_or (grants_of s b) p [] ≡ get_or (grants_of s' b') p []
  pub offers : (p : ℕ) → p < n → offer s b p ≡ offer s' b' p
  pub borrows : (p : ℕ) → p < n → borrowed s b p ≡ borrowed s' b' p
  pub bytes : NoLending s b → NoLending s' b' → map (up_to n) (book_row s b) ≡ map (up_to n) (book_row s' b')
