-- The facts of a miss by the book of the full-length run, which is the book of a list of empty report sets (scope, 'The book of a run'): the late job,
-- the ticks that it had, its waiting ticks, and for each task above the number of them in which that task is in the row.
use Rattle.std.specs.Prelude.{Bool, not, ◌&&◌, cond, List, map, ℕ, zero, suc, ◌-◌, leb, length, replicate}
use Rattle.model.specs.Search.{least, up_from}
use Rattle.model.specs.Task.{Table, task, newest}
use Rattle.model.specs.Jobs.{Book}
use Rattle.model.specs.Claims.{in_row}
use Rattle.model.specs.Lists.{book, no_reports}
use Rattle.model.specs.Verdict.{missed_at, first_miss}
use Rattle.table.specs.Words.{table_of}
use Rattle.sentence.specs.Facts.{Facts, named}

-- how many i below n pass the test
unfoldable pub tally : ℕ → (ℕ → Bool) → ℕ
tally zero f = 0
tally (suc n) f = cond (f n) (suc (tally n f)) (tally n f)

-- the full-length run before tick u
abbrev pub book_at : Table → ℕ → Book
book_at s u = book s (replicate u no_reports)

-- the release of the job of place p that is due at t (`late-job`)
abbrev pub release_of : Table → ℕ → ℕ → ℕ
release_of s t p = t - (task s p).deadline

-- the number of that job of place p (`late-job`)
abbrev pub late_job : Table → ℕ → ℕ → ℕ
late_job s t p = newest (task s p) (release_of s t p)

-- the ticks that it had by t
abbrev pub had_by : Table → ℕ → ℕ → ℕ
had_by s t p = ((book_at s t).job p (late_job s t p)).had

-- tick u, before t, is a waiting tick of it: it is released, and not in the row (a place that is given cores is in it: `shown-runs`)
abbrev pub waits : Table → ℕ → ℕ → ℕ → Bool
waits s t p u = leb (release_of s t p) u && not (in_row s (book_at s u) p)

-- the number of its waiting ticks in which place q is in the row, with any of its jobs
unfoldable pub ran_while_waiting : Table → ℕ → ℕ → ℕ → ℕ
ran_while_waiting s t p q = tally t (λ u. waits s t p u && in_row s (book_at s u) q)

-- the facts of a miss of place p at tick t: position, tick, ticks had, length C, and the tasks above that ran, with their counts
abbrev pub facts_at : Table → ℕ → ℕ → Facts
facts_at s t p = record {
  position = suc p;
  tick = t;
  had = had_by s t p;
  length = (task s p).length;
  others = named (map (ran_while_waiting s t p) (up_from 0 p));
}

-- the place of the first miss, as in the model's `verdict`: at its tick the first in priority
unfoldable pub miss_place : Table → ℕ
miss_place s = least (length s.tasks) (missed_at s (first_miss s))

-- the facts of the first miss (`facts-first`)
unfoldable pub facts_in : Table → Facts
facts_in s = facts_at s (first_miss s) (miss_place s)

-- .. of the table that the words represent
abbrev pub facts_of : List ℕ → Facts
facts_of ws = facts_in (table_of ws)
