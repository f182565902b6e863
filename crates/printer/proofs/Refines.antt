-- THE RELATION to the book: a run that refines a table's gives, up to the first miss, the rows of the table's full-length run.
use mathlib.Core.Path.{◌≡◌, refl, sym, ap, ap₂, ◌∙◌}
use mathlib.Core.Bool.{Bool, true, false, cond}
use mathlib.Core.List.{List, [], ◌∷◌, ◌++◌}
use Prim.Native.Nat.{ℕ, zero, suc, ◌+◌, ◌<◌}
use native.Mathlib.Numerals.{add-one}
use native.Mathlib.Omega.{arith}
use lib.ListN.{take}
use Rattle.model.specs.Task.{Table}
use Rattle.model.specs.Claims.{book_row}
use Rattle.model.specs.Lists.{full, Missed}
use Rattle.table.specs.declared.Loaded.{Loaded}
use Rattle.simulation.specs.Machine.{Machine}
use Rattle.rule.specs.Widths.{widths_in}
use Rattle.simulation.specs.TickState.{Numbers, loaded_numbers, TickState, after_events, next_event_after, even_at_tick, choice_kept, next_tick_state}
use Rattle.simulation.proofs.SameClaimants.{row_same}
use Rattle.simulation.proofs.Steps.{unchanged-claims, unchanged-even, tick-on, chosen_on, even-on}
use Rattle.table.specs.Fit.{loaded_table, Fit}
use Rattle.simulation.proofs.AtTick.{After, front-agree}
use Rattle.simulation.proofs.RefinesTick.{RefinesTick, handled-after, refines_on}
use Rattle.text.specs.Decimal.{decimal}
use Rattle.text.specs.Format.{newline}
use Rattle.text.specs.Output.{fields, line_of, row_line, row_lines}
use Rattle.printer.specs.Cells.{cells}
use Rattle.printer.specs.Rows.{row_text_of, text_in, line_in, lines_in}

-- a line of its parts
row-line : (tick : ℕ) (r : List ℕ) → decimal tick ++ (fields r ++ (newline ∷ [])) ≡ row_line tick r
unfolding row_line line_of
row-line tick r = refl

module _ (t : Loaded) (fit : Fit t) where
  abbrev book : Table
  book = loaded_table t

  abbrev n : Numbers
  n = loaded_numbers t

  -- the text of the claimants, with their widths, is that of the row
  cells-row :
      (m : Machine) (even next_event tick : ℕ) → After t m even next_event tick
      → row_text_of n m.claiming even ≡ fields (book_row book (full book tick)) ++ (newline ∷ [])
  unfolding cells
  cells-row m even next_event tick a =
      ap (λ (r : List ℕ). fields r ++ (newline ∷ []))
      (row_same book fit.valid tick m a.ready (take t.count (widths_in even n.widths)) (front-agree t fit m even next_event tick a))

  module _ (s : TickState) (kept : List ℕ) (h : RefinesTick t s) (own : kept ≡ row_text_of n s.chosen s.even) (met : (q : ℕ) → ¬ Missed book q s.tick) where
    -- the text is that of the claimants and their widths
    text : text_in n s kept ≡ row_text_of n (after_events n s).claiming (even_at_tick n s)
    unfolding text_in
    text = go (choice_kept n s) refl
      where
        go : (b : Bool) → choice_kept n s ≡ b
            → cond b kept (row_text_of n (after_events n s).claiming (even_at_tick n s)) ≡ row_text_of n (after_events n s).claiming (even_at_tick n s)
        go true e = own ∙ ap₂ (row_text_of n) (sym (unchanged-claims n s e)) (sym (unchanged-even n s e))
        go false e = refl

    -- so the line is that of the row
    line : line_in n s kept ≡ row_line s.tick (book_row book (full book s.tick))
    unfolding line_in
    line =
        ap (λ (x : List ℕ). decimal s.tick ++ x) (text ∙ cells-row (after_events n s) (even_at_tick n s) (next_event_after n s) s.tick (handled-after t fit s h met))
        ∙ row-line s.tick (book_row book (full book s.tick))

  -- THEOREM (rows-follow)
  pub rows-follow :
      (k : ℕ) (s : TickState) (kept : List ℕ) → RefinesTick t s → kept ≡ row_text_of n s.chosen s.even → ((q u : ℕ) → u < s.tick + k → ¬ Missed book q u)
      → lines_in n k s kept ≡ row_lines book s.tick k
  unfolding lines_in row_lines
  rows-follow zero s kept h own met = refl
  rows-follow (suc k) s kept h own met =
      ap₂ (λ (x y : List ℕ). x ++ y) (line s kept h own here)
      (rows-follow k (next_tick_state n s) (text_in n s kept) (refines_on t fit s h here (next_tick_state n s) refl)
      (text s kept h own here ∙ ap₂ (row_text_of n) (sym (chosen_on n s (next_tick_state n s) refl)) (sym (even-on n s (next_tick_state n s) refl)))
      (λ q u b. met q u (omega (arith, one)))
      ∙ ap (λ (x : ℕ). row_lines book x k) (one ∙ add-one s.tick))
    where
      here : (q : ℕ) → ¬ Missed book q s.tick
      here q = met q s.tick (omega arith)

      one : (next_tick_state n s).tick ≡ s.tick + 1
      one = tick-on n s (next_tick_state n s) refl
