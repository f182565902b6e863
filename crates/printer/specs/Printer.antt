-- The bytes that a printer has left, and the contract of each piece, for every printer, valid or not.
use Rattle.std.specs.Prelude.{true, false, cond, List, [], ◌++◌, ◌≡◌, ℕ, ◌-◌, ◌≤◌, ◌<◌, min, length, replicate, take, drop}
use Rattle.model.specs.Lists.{Missed}
use Rattle.model.specs.Sizes.{most_tasks}
use Rattle.table.specs.declared.Loaded.{Loaded}
use Rattle.table.specs.Words.{table_of}
use Rattle.table.specs.Answer.{answer_of}
use Rattle.table.specs.Limits.{most_horizon}
use Rattle.table.specs.Task.{no_task}
use Rattle.simulation.specs.TickState.{Numbers, loaded_numbers, TickState, tick_state_of, next_tick_state}
use Rattle.judge.specs.declared.Verdict.{Verdict}
use Rattle.table.specs.Fit.{loaded_table, Fit}
use Rattle.text.specs.Output.{first_line, row_lines, printed_by, output, longest_cells, longest_line}
use Rattle.judge.specs.JudgeAnswer.{verdict_meaning}
use Rattle.text.specs.Written.{Put}
use Rattle.printer.specs.Rows.{text_in, line_in, lines_in}
use Rattle.printer.specs.Valid.{table_valid, valid, Safe}
use Rattle.printer.specs.declared.Stage.{Stage}
use Rattle.printer.specs.declared.Printer.{Printer}
use Rattle.printer.specs.declared.Piece.{Piece}

-- a printer's run, and the text of the row that it keeps
abbrev pub run_state_of : Printer → TickState
run_state_of p = tick_state_of p.stage.registers p.places

abbrev pub text_kept : Printer → List ℕ
text_kept p = take p.stage.text p.row

-- the rest of its line, and the lines of the rows to come
unfoldable pub remaining : Printer → List ℕ
remaining p =
    take (p.stage.ready - p.given) (drop p.given p.line) ++ lines_in (loaded_numbers p.table) (p.end - p.stage.registers.tick) (run_state_of p) (text_kept p)

-- the bytes that a printer has left: all that where it is valid; else nothing
unfoldable pub rest : Printer → List ℕ
rest p = cond (valid p) (remaining p) []

-- ONE ROW

-- a run that can be stepped, with arrays for its texts, before the last tick of all
pub record Stepping (n : Numbers) (x : Stage) (places row old : List ℕ) : Type 0 where
  pub safe : Safe n (tick_state_of x.registers places)
  pub tick : x.registers.tick < most_horizon
  pub text : x.text ≤ longest_cells
  pub wide : length row ≡ longest_cells
  pub long : length old ≡ longest_line

-- one tick on: the line of the tick is written, and the state is that before the next; `kept` is the text that was kept
pub record Stepped (n : Numbers) (s : TickState) (kept old : List ℕ) (x' : Stage) (places' row' new : List ℕ) : Type 0 where
  pub state : tick_state_of x'.registers places' ≡ next_tick_state n s
  pub keeps : take x'.text row' ≡ text_in n s kept
  pub line : Put old 0 (line_in n s kept) new x'.ready
  pub ready : x'.ready ≤ longest_line
  pub text : x'.text ≤ longest_cells
  pub wide : length row' ≡ longest_cells
  pub long : length new ≡ longest_line

-- A NEW PRINTER

-- of a table's rows up to e, with the verdict's line before them
pub record PrinterStartOf (t : Loaded) (e : ℕ) (v : Verdict) (p : Printer) : Type 0 where
  pub valid : table_valid t ≡ true → e ≤ most_horizon → valid p ≡ true
  pub whole :
      (0 < e → Fit t × (e ≤ t.horizon) × ((q u : ℕ) → u < e → ¬ Missed (loaded_table t) q u))
      → remaining p ≡ first_line (verdict_meaning v) ++ row_lines (loaded_table t) 0 e

-- a table without tasks, which stands in a printer that has no rows
abbrev pub no_table : Loaded
no_table = record {
  count = 0;
  cores = 0;
  fence = 0;
  rule = 0;
  tasks = replicate most_tasks no_task;
  start = 0;
  period = 0;
  horizon = 0;
}

-- of a table's words
pub record WordsPrinter (ws : List ℕ) (p : Printer) : Type 0 where
  pub valid : valid p ≡ true
  pub whole : rest p ≡ printed_by (answer_of ws) (table_of ws)

-- of the bytes of an input: it is valid, and has all of the output left
pub record MadeFrom (bs : List ℕ) (p : Printer) : Type 0 where
  pub valid : valid p ≡ true
  pub whole : rest p ≡ output bs

-- A PIECE

-- as much of what is left as fits is at the front of the buffer, all else in the buffer is as it was, and the rest is left for later
pub record PieceOf (p : Printer) (before after : List ℕ) (r : Piece) : Type 0 where
  pub length : r.length ≡ min (length before) (length (rest p))
  pub bytes : Put before 0 (take r.length (rest p)) after r.length
  pub rest : rest r.printer ≡ drop r.length (rest p)
  -- a printer that is not valid is refused: nothing is written, the buffer is as found, the printer as given
  pub refused : valid p ≡ false → (r.length ≡ 0) × (after ≡ before) × (r.printer ≡ p)
  -- and a valid one stays valid
  pub valid : valid r.printer ≡ valid p
