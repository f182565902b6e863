-- The book of a list (scope, section 'The book of a run'): its answers, its taken entries, its rows; and the full-length run.
use Rattle.std.specs.Prelude.{Bool, false, ◌&&◌, ◌||◌, List, [], ◌∷◌, ◌≡◌, ℕ, zero, suc, ◌+◌, ◌<◌, length, replicate}
use Rattle.model.specs.Task.{Table, task, due}
use Rattle.model.specs.Jobs.{Book, empty_book, empty_in, released_now}
use Rattle.model.specs.Advance.{step, Entry, advance, withdraw, withdraw_all, empties_of, after_taken}
use Rattle.model.specs.Refusals.{Answer, taken, refused, answer, Asked, asked}

-- a refused entry changes nothing in the book
abbrev pub entered : Answer → Book → Book → Book
entered taken new old = new
entered (refused n p) new old = old

-- the book after an entry, taken or refused
unfoldable pub enter : Table → Entry → Book → Book
enter s x b = entered (answer s b x) (after_taken s x b) b

-- the book of a list of entries, from book b on
unfoldable pub book_from : Table → Book → List Entry → Book
book_from s b [] = b
book_from s b (x ∷ xs) = book_from s (enter s x b) xs

-- the book of a list
abbrev pub book : Table → List Entry → Book
book s xs = book_from s empty_book xs

-- the answer to each entry of the list
unfoldable pub answers_from : Table → Book → List Entry → List Answer
answers_from s b [] = []
answers_from s b (x ∷ xs) = answer s b x ∷ answers_from s (enter s x b) xs

-- the ticks of an entry: one if it is an advance that is taken
abbrev pub ticks_of : Entry → Answer → ℕ
ticks_of (advance x e) taken = 1
ticks_of (advance x e) (refused n p) = 0
ticks_of (withdraw q) w = 0
ticks_of (withdraw_all x) w = 0

-- the number of advances of a list that were not refused, by its answers: the list's tick (`tick-taken`)
unfoldable pub taken_in : List Entry → List Answer → ℕ
taken_in [] ws = 0
taken_in (x ∷ xs) [] = 0
taken_in (x ∷ xs) (w ∷ ws) = ticks_of x w + taken_in xs ws

-- an entry is kept before the others if it is taken, and dropped if it is refused
abbrev pub keep : Answer → Entry → List Entry → List Entry
keep taken x xs = x ∷ xs
keep (refused n p) x xs = xs

-- the entries of the list that are taken, from book b on
unfoldable pub taken_from : Table → Book → List Entry → List Entry
taken_from s b [] = []
taken_from s b (x ∷ xs) = keep (answer s b x) x (taken_from s (enter s x b) xs)

-- the taken entries of a list: the book of these alone is the book of the list (`taken-book`)
abbrev pub taken_of : Table → List Entry → List Entry
taken_of s xs = taken_from s empty_book xs

-- every entry of the list is taken, from book b on (this holds of `taken_of`, and then nothing is dropped: `taken-all`, `taken-same`)
abbrev pub AllTaken : Table → Book → List Entry → Type 0
AllTaken s b xs = answers_from s b xs ≡ replicate (length xs) taken

-- an entry with this answer enters job k of place p as empty: it is an advance that is taken in the tick of the job's release, and the job's bit is set among
-- its empty jobs, or its position is withdrawn
abbrev pub emptied_by : Table → Book → Entry → Answer → ℕ → ℕ → Bool
emptied_by s b (advance x e) taken p k = empty_in b e p && released_now s b p k
emptied_by s b (advance x e) (refused n q) p k = false
emptied_by s b (withdraw q) w p k = false
emptied_by s b (withdraw_all x) w p k = false

-- some entry of the list does so, from book b on
unfoldable pub empty_from : Table → Book → List Entry → ℕ → ℕ → Bool
empty_from s b [] p k = false
empty_from s b (x ∷ xs) p k = emptied_by s b x (answer s b x) p k || empty_from s (enter s x b) xs p k

-- job k of place p is an empty job of the list (one that is not has a tick before it ends: `ended-worked`)
abbrev pub empty_job : Table → List Entry → ℕ → ℕ → Bool
empty_job s xs p k = empty_from s empty_book xs p k

-- the row asked before each entry of the list with its empty jobs, and after the last with none
unfoldable pub rows_from : Table → Book → List Entry → List Asked
rows_from s b [] = asked s b 0 ∷ []
rows_from s b (x ∷ xs) = asked s b (empties_of x) ∷ rows_from s (enter s x b) xs

-- THE FULL-LENGTH RUN

-- no report, and no empty job
abbrev pub no_places : ℕ → Bool
no_places p = false

-- an advance whose sets are both empty
abbrev pub no_reports : Entry
no_reports = advance 0 0

-- the full-length run at tick n (scope: full; the field: the run with exact execution times): every advance is entered with no report and no empty job, past
-- a miss too; no position is withdrawn. Up to the first miss it is the scope's, the book of n advances whose sets are both empty (`full-length`)
unfoldable pub full : Table → ℕ → Book
full s zero = empty_book
full s (suc n) = step s no_places (full s n)

-- place p of the table misses a deadline in book b: some job with r + D at the book's tick has not ended
abbrev pub Misses : Table → Book → ℕ → Type 0
Misses s b p = (p < length s.tasks) × ((k : ℕ) × (due (task s p) k ≡ b.tick) × ((b.job p k).ended ≡ false))

-- place p misses a deadline at tick t of the full-length run, which goes on past a miss; up to the first miss it is the scope's
abbrev pub Missed : Table → ℕ → ℕ → Type 0
Missed s p t = Misses s (full s t) p

-- no deadline of the full-length run is missed at any tick (`never-missed-exact`: the same of the books of empty sets)
abbrev pub NeverMissed : Table → Type 0
NeverMissed s = (p t : ℕ) → ¬ Missed s p t
