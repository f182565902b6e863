-- The answers (scope, section 'The book of a run'): which entries and which rows are refused, with number and position.
use Rattle.std.specs.Prelude.{Bool, not, ◌&&◌, ◌||◌, cond, List, ℕ, suc, length, eqb, leb, ltb}
use Rattle.model.specs.Search.{any, least, bit}
use Rattle.model.specs.Task.{Table, task, due, newest}
use Rattle.model.specs.Firm.{firm}
use Rattle.model.specs.Jobs.{Book, released_now, emptied, empty_in}
use Rattle.model.specs.Claims.{in_row, newest_ended, borrows, book_row}
use Rattle.model.specs.Advance.{Entry, advance, withdraw, withdraw_all}

-- place p of the table has a job with r + D at or before t that has not ended (such a job has a number up to t: `late-exact`)
unfoldable pub late : Table → Book → ℕ → Bool
late s b p = any (suc b.tick) (λ k. leb (due (task s p) k) b.tick && not (b.job p k).ended)

-- the lowest late place, or the number of places where none is late
abbrev pub first_late : Table → Book → ℕ
first_late s b = least (length s.tasks) (late s b)

-- a bit may be set for a position that is given cores, or borrows some, and whose claiming job has not ended
unfoldable pub reportable : Table → Book → ℕ → Bool
reportable s b p = (in_row s b p || borrows s b p) && not (newest_ended s b p)

-- some bit of the report set is set for anything else (a set x has no bit from x up: `wrong-reports-exact`)
unfoldable pub wrong_reports : Table → Book → ℕ → Bool
wrong_reports s b x = any x (λ p. bit x p && not (reportable s b p))

-- a bit may be set in the empties for a position of the table whose job is released in this tick and has not ended (`emptiable-exact`)
unfoldable pub emptiable : Table → Book → ℕ → Bool
emptiable s b p =
    ltb p (length s.tasks) && released_now s b p (newest (task s p) b.tick) && not (b.job p (newest (task s p) b.tick)).ended

-- some bit of the empties is set for anything else (`wrong-empties-exact`)
unfoldable pub wrong_empties : Table → Book → ℕ → Bool
wrong_empties s b e = any e (λ p. bit e p && not (emptiable s b p))

-- an unknown position, one that is not in the table: 0, or past the last (`unknown-position-exact`)
abbrev pub unknown_position : Table → ℕ → Bool
unknown_position s p = eqb p 0 || ltb (length s.tasks) p

-- some bit of a set is set past the last position (`unknown-positions-exact`)
unfoldable pub unknown_positions : Table → ℕ → Bool
unknown_positions s x = any x (λ p. bit x p && not (ltb p (length s.tasks)))

-- the answer to a call: taken, or refused with number and position
pub data Answer : Type 0 where
  taken : Answer
  refused : ℕ → ℕ → Answer

-- a withdrawal: 21 where the table's rule and widths are not firm; else 22 where one of its positions is not in the table; else taken.
-- 15 is not tested, nor anything else in the book (`withdraw-taken`, `withdraw-all-taken`)
abbrev pub withdrawing : Table → Bool → Answer
withdrawing s unknown = cond (firm s.rule s.tasks) (cond unknown (refused 22 0) taken) (refused 21 0)

-- an advance: 15 with the lowest late position; else 20 with position 0; else, with the empty jobs ended, 16 with position 0; else taken
unfoldable pub answer : Table → Book → Entry → Answer
answer s b (advance x e) =
    cond (ltb (first_late s b) (length s.tasks))
    (refused 15 (suc (first_late s b)))
    (cond (wrong_empties s b e)
    (refused 20 0)
    (cond (wrong_reports s (emptied s (empty_in b e) b) x) (refused 16 0) taken))
answer s b (withdraw p) = withdrawing s (unknown_position s p)
answer s b (withdraw_all x) = withdrawing s (unknown_positions s x)

-- the answer to a row asked: the row, or refused with number and position
pub data Asked : Type 0 where
  shown : List ℕ → Asked
  row_refused : ℕ → ℕ → Asked

-- the answer of a book asked with the empty jobs e: 15 with the lowest late position; else 20 with position 0; else what it shows with these ended.
-- Nothing changes in the book
abbrev pub asked_by : (Book → List ℕ) → Table → Book → ℕ → Asked
asked_by show s b e =
    cond (ltb (first_late s b) (length s.tasks))
    (row_refused 15 (suc (first_late s b)))
    (cond (wrong_empties s b e) (row_refused 20 0) (shown (show (emptied s (empty_in b e) b))))

-- a row asked
unfoldable pub asked : Table → Book → ℕ → Asked
asked s b e = asked_by (book_row s) s b e
