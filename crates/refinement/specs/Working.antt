-- Who works (issue 47) asked of a started run after a list of entries, against the book: `working-book` and `working-kept` show it of every table that start
-- takes.
use Rattle.std.specs.Prelude.{◌≡◌, List, ℕ}
use Rattle.model.specs.Jobs.{emptied, empty_in}
use Rattle.model.specs.Advance.{Entry}
use Rattle.model.specs.Lists.{book}
use Rattle.model.specs.Refusals.{reportable, taken}
use Rattle.model.specs.Search.{bit}
use Rattle.model.specs.Working.{working_asked}
use Rattle.table.specs.Words.{table_of}
use Rattle.run.specs.Answer.{answer_meaning}
use Rattle.run.specs.Working.{working_meaning, working_of}
use Rattle.refinement.specs.Entries.{run_after_list}
use Rattle.refinement.specs.Refines.{first_run}

-- of the words of a table and a list xs of entries: asked with any set of empty jobs, the positions that work are the book's, or its refusal
abbrev pub WorkingBook : List ℕ → List Entry → Type 0
WorkingBook ws xs = (e : ℕ) → working_meaning (working_of (run_after_list (first_run ws) xs) e) ≡ working_asked (table_of ws) (book (table_of ws) xs) e

-- taken: a place is in the set exactly if the book, with the empty jobs ended, admits a report bit for it
abbrev pub WorkingHolds : List ℕ → List Entry → Type 0
WorkingHolds ws xs =
    let s = table_of ws in
    let r = run_after_list (first_run ws) xs in
    (e : ℕ) → answer_meaning (working_of r e).answer ≡ taken → (p : ℕ) → bit (working_of r e).set p ≡ reportable s (emptied s (empty_in (book s xs) e) (book s xs)) p
