-- The positions that work in a tick (issue 47): those for which a report bit is admitted, as one set, bit 0 for position 1. Held cores work for none of them.
use Rattle.std.specs.Prelude.{Bool, [], ◌∷◌, ℕ, length}
use Rattle.model.specs.Jobs.{Book}
use Rattle.model.specs.Refusals.{Asked, asked_by, reportable}
use Rattle.model.specs.Search.{filtered, up_from}
use Rattle.model.specs.Sets.{set_of}
use Rattle.model.specs.Task.{Table}

-- the set of the numbers below n that pass a test
unfoldable pub set_where : ℕ → (ℕ → Bool) → ℕ
set_where n f = set_of (filtered f (up_from 0 n))

-- the set of the places whose job has cores in the book's tick, its own or lent ones, and has not ended
abbrev pub book_working : Table → Book → ℕ
book_working s b = set_where (length s.tasks) (reportable s b)

-- who works, asked with the empty jobs e: 15 and 20 as of a row asked (`asked_by`); else this set alone
unfoldable pub working_asked : Table → Book → ℕ → Asked
working_asked s b e = asked_by (λ c. book_working s c ∷ []) s b e
