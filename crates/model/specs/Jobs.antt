-- The jobs of a book (scope, section 'The book of a run'): a job's line, the book itself, and empty jobs (request 105).
use Rattle.std.specs.Prelude.{Bool, true, false, ◌&&◌, ◌||◌, cond, ℕ, eqb}
use Rattle.model.specs.Search.{bit}
use Rattle.model.specs.Task.{Table, task, release}

-- a job's line: the ticks had and the ticks claimed, and whether it has ended
pub record Job : Type 0 where
  pub had : ℕ
  pub claimed : ℕ
  pub ended : Bool

-- both first 0, and first no
abbrev pub fresh : Job
fresh = record { had = 0; claimed = 0; ended = false }

-- the book (scope: book; the field: reference trace): the tick, the line of job k of place p, and the set of withdrawn positions, bit 0 for position 1
pub record Book : Type 0 where
  pub tick : ℕ
  pub job : ℕ → ℕ → Job
  pub withdrawn : ℕ

-- the book of the empty list: tick 0, every line fresh, no position withdrawn
abbrev pub empty_book : Book
empty_book = record { tick = 0; job = λ p k. fresh; withdrawn = 0 }

-- EMPTY JOBS (scope: empty job; the field: a job of execution time zero)

-- job k of place p is released in the book's tick
abbrev pub released_now : Table → Book → ℕ → ℕ → Bool
released_now s b p k = eqb (release (task s p) k) b.tick

-- an empty job ends with the ticks that it has had, which are none
abbrev pub ended_with : Job → Job
ended_with j = record { had = j.had; claimed = j.claimed; ended = true }

-- the book with its empty jobs ended, before the claims of its tick are taken: e contains the places whose jobs released in this tick are empty
unfoldable pub emptied : Table → (ℕ → Bool) → Book → Book
emptied s e b = record {
  tick = b.tick;
  job = λ p k. cond (e p && released_now s b p k) (ended_with (b.job p k)) (b.job p k);
  withdrawn = b.withdrawn;
}

-- the job of place p, if released in this tick, is empty: its position is in the set e, or it is withdrawn, with or without its bit
abbrev pub empty_in : Book → ℕ → ℕ → Bool
empty_in b e p = bit e p || bit b.withdrawn p
