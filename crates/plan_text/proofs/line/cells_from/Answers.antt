-- The row from the start is that of the numbers read and of the words left (Reading).
use Rattle.std.proofs.Common.{◌≡◌, ◌∙◌, ◌-◌, ◌<◌, ◌≤◌, ◌+◌, ℕ, List, [], ◌∷◌, ◌++◌, Some, ap, ap₂, refl, sym, arith, length, drop, take}
use lib.ListN.{length-append, length-drop, set}
use Rattle.text.specs.Input.{parse_number, length_to}
use Rattle.text.specs.Output.{space}
use Rattle.text.proofs.Lines.{mark-within}
use Rattle.text.proofs.Numbers.{value_found}
use Rattle.plan_text.specs.Line.{words_after, cells_of, read_line, most_cells}
use Rattle.plan_text.proofs.Reading.{behind-here, behind-none, byte-found, byte-large, byte-none, cells_from, converted, from-full, from_more, from-none, from_start, from_wrong, line_of, not-converted, placed-more}
use Rattle.plan_text.proofs.line.cells_from.Goals as goal

-- the word that begins here ends within the line
ends : (line : List ℕ) (at end : ℕ) → at < length line → end ≡ at + 1 + length_to space (drop (at + 1) line) → end ≤ length line
ends line at end h e = omega (arith, e, mark-within space (drop (at + 1) line), length-drop (at + 1) line)

-- the row of the numbers read, of this word and of those after it
here :
    (line ns : List ℕ) (tick start at end : ℕ) → at < length line → end ≡ at + 1 + length_to space (drop (at + 1) line)
    → cells_from tick ns (words_after (drop at line)) ≡ cells_of tick (take most_cells (words_after (drop start line)))
    → cells_from tick ns (take (end - (at + 1)) (drop (at + 1) line) ∷ words_after (drop end line)) ≡ cells_of tick (take most_cells (words_after (drop start line)))
here line ns tick start at end h e p = ap (cells_from tick ns) (sym (behind-here line at end h e)) ∙ p

pub loop-at-init : goal.loop-at-init
loop-at-init c = ([], refl, refl, omega arith, c.requires, from_start _ _)

pub returns-then-count-eq-CELLS : goal.returns-then-count-eq-CELLS
returns-then-count-eq-CELLS c =
    let i = c.loop-at.invariant in
    line_of c.args.tick i.0 _ _ i.1 i.2 ∙ ap read_line (sym (from-full _ i.0 _ (sym i.2 ∙ c.if-count-eq-CELLS.true)) ∙ i.5)

pub slice_bounds-number-end : goal.slice_bounds-number-end
slice_bounds-number-end c = omega (arith, ends c.args.line.now c.loop-at.at _ c.loop-at-test.true c.end_from-end.ensures)

pub returns-in_err-number : goal.returns-in_err-number
returns-in_err-number c =
    let i = c.loop-at.invariant in
    let h = here c.args.line.now i.0 c.args.tick c.args.start c.loop-at.at _ c.loop-at-test.true c.end_from-end.ensures i.5 in
    c.from_residual.ensures
    ∙ ap read_line (sym (from_wrong c.args.tick i.0 _ _ (omega (arith, i.2, i.3, c.if-count-eq-CELLS.false)) (byte-none _ (sym c.number.ensures ∙ c.in_err-number.was))) ∙ h)

pub returns-in_err-cells : goal.returns-in_err-cells
returns-in_err-cells c =
    let i = c.loop-at.invariant in
    let n = c.in_ok-number.number in
    let h = here c.args.line.now i.0 c.args.tick c.args.start c.loop-at.at _ c.loop-at-test.true c.end_from-end.ensures i.5 in
    let large = not-converted c.try_from.result n c.try_from.ensures (sym c.ok.ensures.value ∙ c.in_err-cells.was) in
    c.from_residual-in_err-cells.ensures
    ∙ ap read_line (sym (from_wrong c.args.tick i.0 _ _ (omega (arith, i.2, i.3, c.if-count-eq-CELLS.false)) (byte-large _ n (sym c.number.ensures ∙ c.in_ok-number.was) (omega (arith, large)))) ∙ h)

pub loop-at-preserved : goal.loop-at-preserved
loop-at-preserved c =
    let i = c.loop-at.invariant in
    let ns = i.0 in
    let n = c.in_ok-number.number in
    let b = converted c.try_from.result n c.in_ok-cells.field-0 c.try_from.ensures (sym c.ok.ensures.value ∙ c.in_ok-cells.was) in
    let line = c.args.line.now in
    let end = c.end_from-end.result in
    let h = here line ns c.args.tick c.args.start c.loop-at.at end c.loop-at-test.true c.end_from-end.ensures i.5 in
    let found : parse_number (take (end - (c.loop-at.at + 1)) (drop (c.loop-at.at + 1) line)) ≡ Some n = sym c.number.ensures ∙ c.in_ok-number.was in
    let v = value_found _ n found in
    let room : length ns < most_cells = omega (arith, i.2, i.3, c.if-count-eq-CELLS.false) in
    let more : length (ns ++ (n ∷ [])) ≡ length ns + 1 = length-append ns (n ∷ []) in (
      ns ++ (n ∷ []),
      ap (set c.loop-at.cells c.loop-at.count) b.1 ∙ ap₂ (λ (p : List ℕ) (k : ℕ). set p k n) i.1 i.2 ∙ placed-more ns n room,
      omega (arith, more, i.2),
      omega (arith, more, room),
      ends line c.loop-at.at end c.loop-at-test.true c.end_from-end.ensures,
      ap (λ (x : ℕ). cells_from c.args.tick (ns ++ (x ∷ [])) (words_after (drop end line))) v.1
          ∙ sym (from_more c.args.tick ns _ _ room (byte-found _ n found (omega (arith, b.0)))) ∙ h,
    )

pub returns : goal.returns
returns c =
    let i = c.loop-at.invariant in
    line_of c.args.tick i.0 _ _ i.1 i.2
    ∙ ap read_line (sym (from-none _ i.0) ∙ ap (cells_from _ i.0) (sym (behind-none c.args.line.now c.loop-at.at (omega (arith, c.loop-at-test.false)))) ∙ i.5)
