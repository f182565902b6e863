-- The first word is the tick, and the words after it are the numbers (Reading).
use Rattle.std.proofs.Common.{◌≡◌, ◌∙◌, ℕ, ap, sym, arith, drop, take}
use Rattle.std.proofs.lemmas.List.{length-take-le}
use Rattle.text.specs.Input.{parse_number, length_to}
use Rattle.text.specs.Output.{space}
use Rattle.text.proofs.Lines.{mark-within}
use Rattle.plan_text.specs.Line.{words_after, cells_of, read_line, most_cells}
use Rattle.plan_text.proofs.Reading.{row-none, row-some}
use Rattle.plan_text.proofs.line.read.Goals as goal

pub slice_bounds-number-end : goal.slice_bounds-number-end
slice_bounds-number-end c = sym (length-take-le _ _ (omega (arith, c.end_from-end.ensures, mark-within space c.args.line.now)))

pub returns-in_err-tick : goal.returns-in_err-tick
returns-in_err-tick c =
    let line = c.args.line.now in
    let first : length_to space line ≡ c.end_from-end.result = omega (arith, c.end_from-end.ensures) in
    c.from_residual.ensures
    ∙ ap read_line (sym (row-none line (ap (λ (k : ℕ). parse_number (take k line)) first ∙ sym c.number.ensures ∙ c.in_err-tick.was)))

pub cells_from-requires : goal.cells_from-requires
cells_from-requires c = omega (arith, c.end_from-end.ensures, mark-within space c.args.line.now)

pub returns : goal.returns
returns c =
    let line = c.args.line.now in
    let first : length_to space line ≡ c.end_from-end.result = omega (arith, c.end_from-end.ensures) in
    c.cells_from.ensures
    ∙ ap read_line (ap (λ (k : ℕ). cells_of c.in_ok-tick.tick (take most_cells (words_after (drop k line)))) (sym first)
    ∙ sym (row-some line c.in_ok-tick.tick (ap (λ (k : ℕ). parse_number (take k line)) first ∙ sym c.number.ensures ∙ c.in_ok-tick.was)))
