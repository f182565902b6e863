-- The entries of a list (scope, section 'The book of a run'; requests 105, 106 and 113): an advance with its reports and its empty jobs, a withdrawal of one
-- position or of several, and the book after each that is taken.
use Rattle.std.specs.Prelude.{Bool, true, ◌||◌, cond, ℕ, suc, ◌-◌, ◌^◌, leb}
use Rattle.std.specs.Int.Bits.{bit_or}
use Rattle.model.specs.Task.{Table, task}
use Rattle.model.specs.Jobs.{Job, Book, emptied, empty_in}
use Rattle.model.specs.Search.{bit}
use Rattle.model.specs.Claims.{served, borrowing}

-- AN ADVANCE THAT IS TAKEN (scope: advance; the field: a step of one tick with its reports)

-- a job that is given cores has claimed one tick more and, if not ended, has had one more; such a job ends if its bit is set or it has had C
unfoldable pub work : ℕ → Bool → Job → Job
work C report j =
    cond j.ended
    (record { had = j.had; claimed = suc j.claimed; ended = true })
    (record { had = suc j.had; claimed = suc j.claimed; ended = report || leb C (suc j.had) })

-- a job that borrows cores has had one tick more and claimed none; it ends as the others do
unfoldable pub work_lent : ℕ → Bool → Job → Job
work_lent C report j =
    cond j.ended j
    (record { had = suc j.had; claimed = j.claimed; ended = report || leb C (suc j.had) })

-- one advance with the reports f (scope: report; the field: early completion), without a test whether it is refused; t goes up by one
unfoldable pub step : Table → (ℕ → Bool) → Book → Book
step s f b = record {
  tick = suc b.tick;
  job = λ p k.
      cond (served s b p k)
      (work (task s p).length (f p) (b.job p k))
      (cond (borrowing s b p k) (work_lent (task s p).length (f p) (b.job p k)) (b.job p k));
  withdrawn = b.withdrawn;
}

-- an advance with the reports f and the empty jobs e: these are ended before the claims of the tick are taken
abbrev pub advanced : Table → (ℕ → Bool) → (ℕ → Bool) → Book → Book
advanced s f e b = step s f (emptied s e b)

-- THE ENTRIES OF A LIST

-- an advance with its sets of reports and empty jobs, bit 0 for position 1; or a withdrawal of one position or of a set of them (scope: withdraw; the field:
-- task removal)
pub data Entry : Type 0 where
  advance : ℕ → ℕ → Entry
  withdraw : ℕ → Entry
  withdraw_all : ℕ → Entry

-- the set of empty jobs of an entry
abbrev pub empties_of : Entry → ℕ
empties_of (advance x e) = e
empties_of (withdraw p) = 0
empties_of (withdraw_all x) = 0

-- the set of one position
abbrev pub singleton : ℕ → ℕ
singleton p = 2 ^ (p - 1)

-- a withdrawal of the positions of a set only adds them to the withdrawn ones: a job released before this tick goes on
abbrev pub with_withdrawn : ℕ → Book → Book
with_withdrawn x b = record { tick = b.tick; job = b.job; withdrawn = bit_or b.withdrawn x }

-- the book after an entry that is taken
unfoldable pub after_taken : Table → Entry → Book → Book
after_taken s (advance x e) b = advanced s (bit x) (empty_in b e) b
after_taken s (withdraw p) b = with_withdrawn (singleton p) b
after_taken s (withdraw_all x) b = with_withdrawn x b
