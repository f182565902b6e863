-- The rows that are left of any run: the steps of crate simulation, with the text that is kept while the claimants and
-- their widths are unchanged. A run that refines a table's gives the rows of the book: `rows-follow` in proofs/Refines.antt.
use Rattle.std.specs.Prelude.{cond, List, [], ◌++◌, ℕ, zero, suc, take}
use Rattle.simulation.specs.TickState.{Numbers, TickState, after_events, even_at_tick, choice_kept, next_tick_state}
use Rattle.rule.specs.Widths.{widths_in}
use Rattle.text.specs.Decimal.{decimal}
use Rattle.printer.specs.Cells.{cells}

-- the text of the row where the places of the set c claim, those of the set e with their second width
abbrev pub row_text_of : Numbers → ℕ → ℕ → List ℕ
row_text_of n c e = cells n.rule n.cores n.fence (take n.count (widths_in e n.widths)) c

-- the text of the row of a tick: the one that is kept, x, or made anew
unfoldable pub text_in : Numbers → TickState → List ℕ → List ℕ
text_in n s x = cond (choice_kept n s) x (row_text_of n (after_events n s).claiming (even_at_tick n s))

-- the line of the tick
unfoldable pub line_in : Numbers → TickState → List ℕ → List ℕ
line_in n s x = decimal s.tick ++ text_in n s x

-- the lines of the next k rows
unfoldable pub lines_in : Numbers → ℕ → TickState → List ℕ → List ℕ
lines_in n zero s x = []
lines_in n (suc k) s x = line_in n s x ++ lines_in n k (next_tick_state n s) (text_in n s x)
