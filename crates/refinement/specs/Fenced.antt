-- What a started run with a fence does through a list of entries, against the book of the table with just its unfenced cores (request 102): `fenced`
-- shows it of every table that start takes.
use Rattle.std.specs.Prelude.{◌≡◌, List, map, ℕ}
use Rattle.model.specs.Jobs.{empty_book}
use Rattle.model.specs.Advance.{Entry}
use Rattle.model.specs.Refusals.{Asked, shown, row_refused, asked}
use Rattle.model.specs.Lists.{answers_from, book}
use Rattle.model.specs.Fence.{unfenced_table, spread}
use Rattle.model.specs.Task.{Table}
use Rattle.table.specs.Words.{table_of}
use Rattle.run.specs.Answer.{answer_meaning, row_meaning, asked_in64}
use Rattle.run.specs.Row.{row_of}
use Rattle.refinement.specs.Entries.{answers, run_after_list}
use Rattle.refinement.specs.Refines.{first_run}

-- a row that is shown, spread over a table's unfenced cores; a refusal unchanged
abbrev pub spread_over : Table → Asked → Asked
spread_over s (shown bytes) = shown (spread s.fence s.cores bytes)
spread_over s (row_refused n p) = row_refused n p

-- the claims about the words of a table and a list xs of entries
pub record Fenced (ws : List ℕ) (xs : List Entry) : Type 0 where
  -- each answer in it is that of the book without a fence
  pub each-answer : map answer_meaning (answers (first_run ws) xs) ≡ answers_from (unfenced_table (table_of ws)) empty_book xs
  -- and the row asked of the run after it with any set of empty jobs is that book's, spread over the unfenced cores with 255 between, or its refusal
  pub row-after :
      (e : ℕ) → row_meaning (row_of (run_after_list (first_run ws) xs) e)
      ≡ asked_in64 (spread_over (table_of ws) (asked (unfenced_table (table_of ws)) (book (unfenced_table (table_of ws)) xs) e))
