-- The row as sets of cores (request 114) asked of a started run after a list of entries, against the book: `sets-book` and `sets-kept` show it of every
-- table that start takes.
use Rattle.std.specs.Prelude.{◌≡◌, true, not, ◌&&◌, ◌||◌, ◌⊎◌, List, map, ℕ, suc, ◌≤◌, ◌<◌, eqb, ltb, length, get_or, replicate}
use Rattle.model.specs.Jobs.{Book, emptied, empty_in}
use Rattle.model.specs.Claims.{borrows, in_row, lent_of, newest_ended, offer, shown_of, task_claims, widths}
use Rattle.model.specs.Advance.{Entry}
use Rattle.model.specs.Refusals.{taken}
use Rattle.model.specs.Lists.{book}
use Rattle.model.specs.Refusals as model
use Rattle.model.specs.Search.{bit}
use Rattle.model.specs.Sets.{SetsApart, SetsCount, SetsUnfenced, set_of, sets_asked}
use Rattle.model.specs.Sizes.{most_tasks}
use Rattle.model.specs.Task.{Table}
use Rattle.table.specs.Words.{table_of}
use Rattle.run.specs.Sets.{Sets}
use Rattle.run.specs.Answer.{by_answer, answer_meaning}
use Rattle.run.specs.Row.{no_bytes, row_of}
use Rattle.run.specs.Sets.{asked_in32, bytes_of, in32, sets_of, sets_meaning}
use Rattle.refinement.specs.Entries.{run_after_list}
use Rattle.refinement.specs.Refines.{first_run}

-- of the words of a table and a list xs of entries: asked with any set of empty jobs, the sets are those of the book, and 0 past its last place, or its
-- refusal
abbrev pub SetsBook : List ℕ → List Entry → Type 0
SetsBook ws xs = (e : ℕ) → sets_meaning (sets_of (run_after_list (first_run ws) xs) e) ≡ asked_in32 (sets_asked (table_of ws) (book (table_of ws) xs) e)

-- WHAT HOLDS OF THEM, in the book's words

-- the sets w and the row's bytes as they are asked, where s is the table, and c the book with the empty jobs ended
pub record SetsKept (s : Table) (c : Book) (w : Sets) (row : List ℕ) : Type 0 where
  -- refused: with 15 or 20, and all 32 are empty
  pub refused : (n p : ℕ) → answer_meaning w.answer ≡ model.refused n p → ((n ≡ 15) ⊎ (n ≡ 20)) × (w.sets ≡ replicate most_tasks 0)
  -- taken: the book's
  pub sets : answer_meaning w.answer ≡ taken → w.sets ≡ in32 (map set_of (shown_of s c))
  -- there are 32, empty past the table's last place
  pub size : length w.sets ≡ most_tasks
  pub past : (p : ℕ) → length s.tasks ≤ p → get_or w.sets p 0 ≡ 0
  -- no two overlap, and none has a fenced core or one past the count
  pub apart : SetsApart w.sets
  pub unfenced-only : SetsUnfenced s.fence s.cores w.sets
  -- taken: each set has as many cores as its job's width or none; a place that lends keeps what no place borrows
  pub count : answer_meaning w.answer ≡ taken → SetsCount (widths s c.tick) (offer s c) (lent_of s c) w.sets
  -- taken: a job that claims and has not ended is given cores, or borrows some, exactly if its task's set is not empty
  pub works :
      answer_meaning w.answer ≡ taken → (p : ℕ) → task_claims s c p && not (newest_ended s c p) ≡ true
      → (in_row s c p || borrows s c p) ≡ ltb 0 (get_or w.sets p 0)
  -- core i is in the set of a position exactly if the row shows that position on it
  pub each : (p i : ℕ) → p < most_tasks → bit (get_or w.sets p 0) i ≡ eqb (get_or row i 0) (suc p)
  -- the row's bytes are those of the sets
  pub bytes : row ≡ by_answer w.answer (bytes_of s.fence s.cores w.sets) no_bytes

-- of the words of a table and a list xs of entries, asked with any set of empty jobs
abbrev pub SetsHold : List ℕ → List Entry → Type 0
SetsHold ws xs =
    let s = table_of ws in
    let r = run_after_list (first_run ws) xs in
    (e : ℕ) → SetsKept s (emptied s (empty_in (book s xs) e) (book s xs)) (sets_of r e) (row_of r e).bytes
