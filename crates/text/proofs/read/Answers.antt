use Rattle.std.proofs.Common.{List, [], ◌∷◌, ◌++◌, ◌≡◌, ◌+◌, ◌-◌, ◌≤◌, ℕ, length, take, drop, refl, sym, ap, ap₂, ◌∙◌, arith, length-drop, length-append}
use lib.ListN.{set}
use Rattle.text.specs.Format.{read_words, words_of, lines}
use Rattle.text.specs.Input.{line_length, parse_number, input_of, read_in}
use Rattle.text.proofs.Lines.{line-within}
use Rattle.text.proofs.Numbers.{nothing-found, value_found}
use Rattle.text.proofs.ReadOf.{read_of}
use Rattle.text.proofs.Reading.{words_from, from_start, from_end, from_wrong, from-full, from_more, lines_from, lines-past, placed-more, input-of}
use Rattle.text.proofs.read.Goals as goal

pub loop-at-init : goal.loop-at-init
loop-at-init c = ([], refl, refl, omega arith, from_start _)

-- the line from `at` on ends within the bytes
ends : (bytes : List ℕ) (at end : ℕ) → at ≤ length bytes → end ≡ at + line_length (drop at bytes) → end ≤ length bytes
ends bytes at end h e = omega (arith, line-within (drop at bytes), length-drop at bytes)

-- that line, as it is read
line-is : (bytes : List ℕ) (at end : ℕ) → end ≡ at + line_length (drop at bytes) → parse_number (take (end - at) (drop at bytes)) ≡ parse_number (take (line_length (drop at bytes)) (drop at bytes))
line-is bytes at end e = let n : end - at ≡ line_length (drop at bytes) = omega arith in ap (λ (k : ℕ). parse_number (take k (drop at bytes))) n

pub slice_bounds-number-end : goal.slice_bounds-number-end
slice_bounds-number-end c = ends c.args.bytes.now c.loop-at.at c.end_from-end.result (omega arith) c.end_from-end.ensures

pub returns-in_err-number : goal.returns-in_err-number
returns-in_err-number c =
    let bytes = c.args.bytes.now in
    let l = c.loop-at in
    let w = nothing-found _ (sym (line-is bytes l.at c.end_from-end.result c.end_from-end.ensures) ∙ sym c.in_err-number.ensures) in
    read_of _ _ (ap read_in c.from_residual.ensures ∙ ap input_of (sym (from_wrong l.invariant.0 _ _ w) ∙ ap (words_from l.invariant.0) (sym (lines_from bytes l.at (omega arith))) ∙ l.invariant.4))

pub returns-then-count-eq-NUMBERS : goal.returns-then-count-eq-NUMBERS
returns-then-count-eq-NUMBERS c =
    let bytes = c.args.bytes.now in
    let l = c.loop-at in
    read_of _ _ (ap input_of (sym (from-full l.invariant.0 _ _ (omega arith)) ∙ ap (words_from l.invariant.0) (sym (lines_from bytes l.at (omega arith))) ∙ l.invariant.4))

pub loop-at-preserved : goal.loop-at-preserved
loop-at-preserved c =
    let bytes = c.args.bytes.now in
    let l = c.loop-at in
    let w = c.in_ok-number.number in
    let ws = l.invariant.0 in
    let end = c.end_from-end in
    let v = value_found _ w (sym (line-is bytes l.at end.result end.ensures) ∙ sym c.in_ok-number.ensures) in
    let more : length (ws ++ (w ∷ [])) ≡ length ws + 1 = length-append ws (w ∷ []) in (
      ws ++ (w ∷ []),
      ap₂ (λ (p : List ℕ) (k : ℕ). set p k w) l.invariant.1 l.invariant.2 ∙ placed-more ws w (omega arith),
      omega arith,
      omega arith,
      ap₂ (λ (x k : ℕ). words_from (ws ++ (x ∷ [])) (lines (drop (k + 1) bytes))) v.1 end.ensures ∙ sym (from_more ws _ _ v.0)
          ∙ ap (words_from ws) (sym (lines_from bytes l.at (omega arith))) ∙ l.invariant.4,
    )

pub returns : goal.returns
returns c =
    let l = c.loop-at in
    let bytes = c.args.bytes.now in
    let e : read_words l.invariant.0 ≡ words_of bytes =
    sym (from_end l.invariant.0 l.invariant.3) ∙ ap (words_from l.invariant.0) (sym (lines-past bytes l.at (omega arith))) ∙ l.invariant.4 in
    read_of bytes _ (input-of l.invariant.0 l.words l.count l.invariant.1 l.invariant.2 ∙ ap input_of e)
