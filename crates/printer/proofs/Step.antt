-- One tick as the printer takes it is the step of the definitions: the text kept or made anew, and the line of the tick.
use mathlib.Core.Path.{◌≡◌, sym, ap, ap₂, ◌∙◌, subst}
use mathlib.Core.Bool.{Bool, true, false, not, ◌||◌, cond}
use mathlib.Core.List.{List, ◌++◌}
use Prim.Native.Nat.{ℕ, ◌≤◌}
use native.Mathlib.Omega.{arith}
use lib.Dec.{eqb}
use lib.ListN.{length, take}
use Rattle.simulation.specs.TickState.{Numbers, TickState, after_events, even_at_tick}
use Rattle.simulation.proofs.Steps.{unchanged-by}
use Rattle.text.specs.Decimal.{decimal}
use Rattle.text.specs.Written.{Put}
use Rattle.text.proofs.Writing.{put-length, put_front}
use Rattle.text.specs.Output.{longest_cells}
use Rattle.printer.specs.Rows.{row_text_of, text_in, line_in}

-- the text of a row in its array
abbrev pub Text : Numbers → TickState → List ℕ → ℕ → List ℕ → Type 0
Text n s kept text row = (take text row ≡ text_in n s kept) × (text ≤ longest_cells) × (length row ≡ longest_cells)

module _ (n : Numbers) (s : TickState) (kept : List ℕ) (c e : ℕ) (claims : c ≡ (after_events n s).claiming) (turned : e ≡ even_at_tick n s) where
  -- other claimants than those of the text that is kept, or other widths
  abbrev changed : Bool
  changed = not (eqb c s.chosen) || not (eqb e s.even)

  text-by : (b : Bool) → changed ≡ b → cond (not b) kept (row_text_of n c e) ≡ text_in n s kept
  unfolding text_in
  text-by b h =
      ap₂ (λ (x y : ℕ). cond (not b) kept (row_text_of n x y)) claims turned
      ∙ ap (λ (x : Bool). cond x kept (row_text_of n (after_events n s).claiming (even_at_tick n s))) (sym (unchanged-by n s c e b claims turned h))

  -- the text is kept
  pub text-kept : changed ≡ false → kept ≡ text_in n s kept
  text-kept h = text-by false h

  -- or made anew
  pub text-put :
      (text : ℕ) (row row' : List ℕ) → changed ≡ true → length row ≡ longest_cells → (Put row 0 (row_text_of n c e) row' text) × (text ≤ longest_cells)
      → Text n s kept text row'
  text-put text row row' h wide q = (
    put_front q.0 ∙ text-by true h,
    q.1,
    put-length q.0 (omega (arith, wide, q.1)) ∙ wide,
  )

module _ (n : Numbers) (s : TickState) (kept : List ℕ) where
  -- the line of the tick
  pub line-put :
      (text ready : ℕ) (row old new : List ℕ) → take text row ≡ text_in n s kept → Put old 0 (decimal s.tick ++ take text row) new ready
      → Put old 0 (line_in n s kept) new ready
  unfolding line_in
  line-put text ready row old new e q = subst (λ (x : List ℕ). Put old 0 (decimal s.tick ++ x) new ready) e q
