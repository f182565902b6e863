-- A replay: the run of a table's words is started, taken through a whole list of entries and asked for its row with no empty job (scope, 'The book of a run',
-- demand 3). The list is in words, three an entry (Listing.antt). The results go into two lent slices: a number for each answer, and the bytes of the last row.
use Rattle.std.specs.Prelude.{◌≡◌, ◌↔◌, Bool, ◌&&◌, cond, List, map, ◌++◌, ℕ, ◌+◌, ◌*◌, ◌≤◌, length, take, drop, leb}
use Rattle.model.specs.Jobs as jobs
use Rattle.model.specs.Advance as entries
use Rattle.model.specs.Refusals as answers
use Rattle.model.specs.Lists as lists
use Rattle.model.specs.Sizes.{most_cores, most_tasks}
use Rattle.table.specs.Limits.{InRange}
use Rattle.table.specs.Words.{table_of}
use Rattle.table.specs.Numbers.{FirstOf, NoneOf}
use Rattle.run.specs.declared.Run.{Run}
use Rattle.run.specs.Answer.{Answer}
use Rattle.run.specs.Answer.{Taken, Refused}
use Rattle.refinement.specs.Replayed.{Replayed}
use Rattle.refinement.specs.Replayed as replayed
use Rattle.run.specs.Answer.{answer_meaning, asked_in64}
use Rattle.run.specs.Row.{row_of}
use Rattle.run.specs.Start.{StartApplies, start_of}
use Rattle.refinement.specs.Entries.{answers, run_after_list}
use Rattle.refinement.specs.Refines.{first_run}
use Rattle.refinement.specs.Listing.{Listed, listed, entry_count, entries_in}

-- an answer as one number: 0 for taken, else its number times 256 plus its position (no two answers of an entry have the same: `codes-injective`)
abbrev pub code : answers.Answer → ℕ
code answers.taken = 0
code (answers.refused n p) = n * 256 + p

-- an answer that an entry may get: taken, or a number up to 22 with a position up to 32
abbrev pub EntryAnswer : answers.Answer → Type 0
EntryAnswer answers.taken = Unit {0}
EntryAnswer (answers.refused n p) = InRange 1 22 n × (p ≤ most_tasks)

-- the answers of a run to a list of entries, as numbers
abbrev pub codes : Run → List entries.Entry → List ℕ
codes r xs = map (λ a. code (answer_meaning a)) (answers r xs)

-- the lent slices fit: the words are a list of entries, and there is space for a number for each, and for 64 bytes
abbrev pub SlicesFit : List ℕ → List ℕ → List ℕ → Type 0
SlicesFit es numbers bytes = Listed es × (entry_count es ≤ length numbers) × (most_cores ≤ length bytes)

-- the test, by the lengths of the slices that are written (`fits-decides`)
abbrev pub slices_fit : List ℕ → ℕ → ℕ → Bool
slices_fit es numbers bytes = listed es && (leb (entry_count es) numbers && leb most_cores bytes)

-- the result of a replay: its answer, and the lent slices afterwards
pub record ReplayOutcome : Type 0 where
  pub answer : Replayed
  pub numbers : List ℕ
  pub bytes : List ℕ

-- the case of the last row: shown, or refused with number and position
abbrev pub row_case : Answer → Replayed
row_case Taken = replayed.Shown
row_case (Refused n p) = replayed.RowRefused n p

-- the answer of a replay in the scope's words: the answer to the row asked after the list, or the start refused with number and position, or slices
-- that do not fit, which have no number of the scope
pub data ReplayAnswer : Type 0 where
  last_row : answers.Asked → ReplayAnswer
  start_refused : ℕ → ℕ → ReplayAnswer
  slices_unfit : ReplayAnswer

-- the meaning of each case, with the bytes written
abbrev pub replay_meaning : Replayed → List ℕ → ReplayAnswer
replay_meaning replayed.Shown bytes = last_row (answers.shown bytes)
replay_meaning (replayed.RowRefused n p) bytes = last_row (answers.row_refused n p)
replay_meaning (replayed.Refused n p) bytes = start_refused n p
replay_meaning replayed.Unfit bytes = slices_unfit

-- the meaning of a result
abbrev pub outcome_meaning : ReplayOutcome → ReplayAnswer
outcome_meaning o = replay_meaning o.answer (take most_cores o.bytes)

-- a run that has started: the answers and the row after the list are written, and the rest of the slices is as found; where the slices do not fit,
-- everything is as found
unfoldable pub replayed_run : Run → List ℕ → List ℕ → List ℕ → ReplayOutcome
replayed_run r es numbers bytes =
    cond (slices_fit es (length numbers) (length bytes))
    (record {
      answer = row_case (row_of (run_after_list r (entries_in es)) 0).answer;
      numbers = codes r (entries_in es) ++ drop (entry_count es) numbers;
      bytes = (row_of (run_after_list r (entries_in es)) 0).bytes ++ drop most_cores bytes;
    })
    (record { answer = replayed.Unfit; numbers = numbers; bytes = bytes })

-- a start that is refused: everything as found
abbrev pub by_start : Answer → ReplayOutcome → List ℕ → List ℕ → ReplayOutcome
by_start Taken o numbers bytes = o
by_start (Refused n p) o numbers bytes = record { answer = replayed.Refused n p; numbers = numbers; bytes = bytes }

-- the words are started, and the run is taken through the list
unfoldable pub replay_of : List ℕ → List ℕ → List ℕ → List ℕ → ReplayOutcome
replay_of ws es numbers bytes = by_start (start_of ws).answer (replayed_run (first_run ws) es numbers bytes) numbers bytes

-- the results are those of the book
pub record MatchesBook (ws : List ℕ) (xs : List entries.Entry) (numbers bytes : List ℕ) (o : ReplayOutcome) : Type 0 where
  -- each answer, and the rest as found
  pub each-answer : o.numbers ≡ map code (lists.answers_from (table_of ws) jobs.empty_book xs) ++ drop (length xs) numbers
  -- the row asked after the list, or its refusal
  pub row-after : outcome_meaning o ≡ last_row (asked_in64 (answers.asked (table_of ws) (lists.book (table_of ws) xs) 0))
  -- the bytes after the row, as found
  pub behind : drop most_cores o.bytes ≡ drop most_cores bytes

-- the contract of a replay of the words with the entries' words es
pub record ReplayOf (ws es numbers bytes : List ℕ) (o : ReplayOutcome) : Type 0 where
  -- its value
  pub value : o ≡ replay_of ws es numbers bytes
  -- refused exactly as the start is
  pub refused : (n p : ℕ) → (outcome_meaning o ≡ start_refused n p) ↔ FirstOf (StartApplies ws) n p
  -- unfit exactly if the start is taken and the lent slices do not fit: a case outside the scope's numbers
  pub unfit : (outcome_meaning o ≡ slices_unfit) ↔ (NoneOf (StartApplies ws) × (¬ SlicesFit es numbers bytes))
  -- both leave everything as found
  pub refused-found : (n p : ℕ) → outcome_meaning o ≡ start_refused n p → (o.numbers ≡ numbers) × (o.bytes ≡ bytes)
  pub unfit-found : outcome_meaning o ≡ slices_unfit → (o.numbers ≡ numbers) × (o.bytes ≡ bytes)
  -- else every answer and the last row are the book's
  pub book : NoneOf (StartApplies ws) → SlicesFit es numbers bytes → MatchesBook ws (entries_in es) numbers bytes o
