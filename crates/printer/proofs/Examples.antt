-- Tasks with two widths, computed from the definitions: all that is printed for a text, and the same rows by the steps of the run with the text that is kept.
-- A job ends at its deadline and the next is released in the same tick with the other width: the claimants are the same, and the row is not.
use mathlib.Core.List.{List, [], ◌∷◌, ◌++◌, map}
use mathlib.Core.Path.{◌≡◌, refl}
use Prim.Native.Nat.{ℕ}
use Prim.Native.String.{String}
use Rattle.model.specs.Grants.{claimants, given, grants, left}
use Rattle.model.specs.Horizon.{S, horizon, hyperperiod, lcm}
use Rattle.model.specs.Row.{owner, row}
use Rattle.model.specs.Search.{any, filtered, least, member, up_from}
use Rattle.model.proofs.Computing.{computing}
use Rattle.rule.specs.Widths.{widths_in}
use Rattle.table.specs.Answer.{header_number, last_step, ending_of, first_out, by_horizon, by_tasks, by_walk, answer_of}
use Rattle.table.specs.Load.{load_of}
use Rattle.table.specs.Words.{visited, count, chain, table_of}
use Rattle.table.specs.declared.Loaded.{Loaded}
use Rattle.std.specs.Prelude.{Result, Ok, Err}
use Rattle.simulation.specs.Machine.{with_release, released_due, earliest, worked_tick}
use Rattle.simulation.specs.Places.{map_places, set_where}
use Rattle.simulation.specs.TickState.{paired_in, loaded_numbers, initial_tick_state, after_events, next_event_after, even_at_tick, granted_at, next_tick_state}
use Rattle.text.specs.Decimal.{all, value, decimal, last_digits, digit_count, digits_within}
use Rattle.text.specs.Format.{words_of, lines, is_number}
use Rattle.text.specs.Output.{letters, fields, line_of, first_line, row_line, row_lines, printed, output}
use Rattle.printer.specs.Cells.{cells}
use Rattle.printer.specs.Rows.{row_text_of, text_in, line_in, lines_in}

-- a table: its name, its words and the text of them, the first line of what is printed, how many rows, and their lines
pub record Print : Type 0 where
  pub name : String
  pub words : List ℕ
  pub text : String
  pub first : String
  pub rows : ℕ
  pub lines : String

abbrev pub prints : List Print
prints =
    record {
      name = "two cores, one task of widths 1 and 2, released in every tick";
      words = 1 ∷ 2 ∷ 1 ∷ 0 ∷ 0 ∷ 0 ∷ 0 ∷ 1 ∷ 1 ∷ 1 ∷ 1 ∷ 2 ∷ [];
      text = "1\n2\n1\n0\n0\n0\n0\n1\n1\n1\n1\n2\n";
      first = "firm 0 2\n";
      rows = 2;
      lines = "0 1 0\n1 1 1\n";
    }
    ∷ record {
      name = "behind a task of width 1 its second width does not fit";
      words = 1 ∷ 2 ∷ 1 ∷ 0 ∷ 0 ∷ 2 ∷ 0 ∷ 1 ∷ 1 ∷ 1 ∷ 1 ∷ 1 ∷ 0 ∷ 0 ∷ 1 ∷ 1 ∷ 1 ∷ 1 ∷ 2 ∷ [];
      text = "1\n2\n1\n0\n0\n2\n0\n1\n1\n1\n1\n1\n0\n0\n1\n1\n1\n1\n2\n";
      first = "miss 2 2\n";
      rows = 2;
      lines = "0 1 2\n1 1 0\n";
    }
    ∷ record {
      name = "the same two under rule 4 on three cores, where both fit: at full length nobody lends";
      words = 1 ∷ 3 ∷ 4 ∷ 0 ∷ 0 ∷ 2 ∷ 0 ∷ 1 ∷ 1 ∷ 1 ∷ 1 ∷ 1 ∷ 0 ∷ 0 ∷ 1 ∷ 1 ∷ 1 ∷ 1 ∷ 2 ∷ [];
      text = "1\n3\n4\n0\n0\n2\n0\n1\n1\n1\n1\n1\n0\n0\n1\n1\n1\n1\n2\n";
      first = "firm 0 2\n";
      rows = 2;
      lines = "0 1 2 0\n1 1 2 2\n";
    }
    ∷ []

-- what is printed for a text, and what is to be
pub texts : map (λ p. output (letters p.text)) prints ≡ map (λ p. letters p.first ++ letters p.lines) prints
unfolding output words_of lines is_number all value printed first_line row_line row_lines line_of fields decimal last_digits digit_count digits_within answer_of by_walk
    by_tasks by_horizon first_out ending_of last_step header_number table_of chain count visited computing
texts = refl

-- the lines that the run of a table gives from tick 0 on, beginning with the text of no claimants
abbrev pub stepped : Loaded → ℕ → List ℕ
stepped t k = lines_in (loaded_numbers t) k (initial_tick_state t) (row_text_of (loaded_numbers t) 0 (initial_tick_state t).even)

-- .. of a table that passes
abbrev pub stepped_in : Result Loaded (ℕ × ℕ) → ℕ → List ℕ
stepped_in (Ok t) k = stepped t k
stepped_in (Err e) k = []

abbrev rows : Print → List ℕ
rows p = letters p.lines

pub runs : map (λ p. stepped_in (load_of p.words) p.rows) prints ≡ map (λ p. letters p.lines) prints
unfolding lines_in line_in text_in cells next_tick_state after_events next_event_after even_at_tick granted_at paired_in with_release released_due earliest worked_tick map_places set_where widths_in fields decimal
    last_digits digit_count digits_within load_of answer_of by_walk by_tasks by_horizon first_out ending_of last_step header_number table_of chain count visited horizon S
    hyperperiod lcm least any filtered member up_from owner row given left grants claimants
runs = refl
