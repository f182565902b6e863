-- What a started run does through a list of entries, against the book (scope, 'The book of a run'): `refines` shows it of every table that start takes.
use Rattle.std.specs.Prelude.{◌≡◌, Bool, false, not, true, List, map, ℕ, ◌+◌, ◌%◌, ◌<◌, eqb, length}
use Rattle.model.specs.Jobs.{Job, empty_book, fresh}
use Rattle.model.specs.Advance.{Entry}
use Rattle.model.specs.Refusals.{asked}
use Rattle.model.specs.Lists.{answers_from, taken_in, book}
use Rattle.model.specs.Task.{Task, due, newest, release, task}
use Rattle.table.specs.Words.{table_of}
use Rattle.phase.specs.declared.Phase.{Phase}
use Rattle.phase.specs.declared.Phase.TheVariants.{Coming, Working, Holding, Resting}
use Rattle.phase.specs.Phase.{late_in}
use Rattle.run.specs.declared.Run.{Run}
use Rattle.run.specs.Answer.{answer_meaning, row_meaning, asked_in64}
use Rattle.run.specs.Numbers.{RunOut}
use Rattle.run.specs.Row.{row_of}
use Rattle.run.specs.Run.{even_at, phase_at}
use Rattle.run.specs.Start.{start_of}
use Rattle.refinement.specs.Entries.{answers, run_after_list}

-- the list begins with the run that start returned
abbrev pub first_run : List ℕ → Run
first_run ws = (start_of ws).run

-- a phase is that of job k of a task at tick t, whose line is j: the ticks to or since its release, the ticks had and reserved, and whether it has ended
abbrev pub PhaseOfJob : Task → ℕ → ℕ → Job → Phase → Type 0
PhaseOfJob τ t k j (Coming left) = (t + left ≡ release τ k) × (j ≡ fresh)
PhaseOfJob τ t k j (Working z had reserved) = (release τ k + z ≡ t) × (j ≡ record { had = had; claimed = reserved; ended = false })
PhaseOfJob τ t k j (Holding z reserved) = (release τ k + z ≡ t) × (j.claimed ≡ reserved) × (j.ended ≡ true)
PhaseOfJob τ t k j (Resting z) = (release τ k + z ≡ t) × (j.ended ≡ true)

-- the parity and the phase of a task are those of a job of its line: of the newest, or of a late task, of the job that is due now. Numbers count from 0, so
-- that an odd number is an even job
pub record StateOfJob (τ : Task) (t : ℕ) (jobs : ℕ → Job) (even : Bool) (ph : Phase) : Type 0 where
  pub number : ℕ
  pub newest-job : late_in τ.deadline ph ≡ false → newest τ t ≡ number
  pub late-job : late_in τ.deadline ph ≡ true → due τ number ≡ t
  pub parity : eqb (number % 2) 0 ≡ not even
  pub phase : PhaseOfJob τ t number (jobs number) ph

-- the claims about the words of a table and a list xs of entries
pub record Refines (ws : List ℕ) (xs : List Entry) : Type 0 where
  -- each answer in it, taken or refused with number and position, is the book's
  pub each-answer : map answer_meaning (answers (first_run ws) xs) ≡ answers_from (table_of ws) empty_book xs
  -- the list's tick, the number of advances in it that were not refused, is the book's
  pub list-tick : taken_in xs (map answer_meaning (answers (first_run ws) xs)) ≡ (book (table_of ws) xs).tick
  -- and so is the row asked of the run after it with any set of empty jobs, or its refusal, byte by byte
  pub row-after : (e : ℕ) → row_meaning (row_of (run_after_list (first_run ws) xs) e) ≡ asked_in64 (asked (table_of ws) (book (table_of ws) xs) e)
  -- in that run the withdrawn positions, and each task's parity and counts, are the book's
  pub withdrawn : (run_after_list (first_run ws) xs).withdrawn ≡ (book (table_of ws) xs).withdrawn
  pub counts :
      (p : ℕ) → p < length (table_of ws).tasks
      → StateOfJob (task (table_of ws) p) (book (table_of ws) xs).tick ((book (table_of ws) xs).job p)
      (even_at (run_after_list (first_run ws) xs) p) (phase_at (run_after_list (first_run ws) xs) p)
  -- and it passes 14
  pub passes : ¬ RunOut (run_after_list (first_run ws) xs)
