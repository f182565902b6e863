-- The words of a line one after another: the row of the numbers that were read and of the words that are left.
use mathlib.Core.Bool.{cond, false, true}
use mathlib.Core.List.{List, [], ◌++◌, append-nil, map, ◌∷◌}
use mathlib.Core.Logic.{⊎_elim}
use mathlib.Core.Path.{◌∙◌, ◌≡◌, ap, ap₂, refl, sym}
use Prim.Native.Nat.{◌+◌, ◌-◌, ◌<◌, suc, ℕ, ◌≤◌}
use native.Mathlib.Nat.{eq-or-lt_of_le}
use native.Mathlib.Numerals.{add-one}
use native.Mathlib.Omega.{arith}
use lib.ListN.{drop, drop_of_length-le, get_or, length, length-append, replicate, set, take}
use lib.Seq.{append_snoc, drop-cons, drop-drop, set-append_seam, take_all, take-nil}
use borrow.Author.Tests.{le-leb, lt-leb}
use Rattle.text.specs.Decimal.{all, value}
use Rattle.text.specs.Format.{is_number}
use Rattle.text.specs.Input.{parse_number, length_to}
use Rattle.text.specs.Output.{space}
use Rattle.std.proofs.Common.{Option, None, Some, Result, Ok, Err}
use Rattle.std.specs.Result.{OkIff, result_ok}
use Rattle.text.proofs.Lines.{mark-within}
use Rattle.text.proofs.Numbers.{nothing-found, value_found}
use Rattle.splitter.specs.Words.{words_in}
use Rattle.splitter.proofs.Words.{words_more, words-one}
use Rattle.plan_text.specs.declared.line.Line.{Line}
use Rattle.plan_text.specs.Line.{Read, words_after, cells_of, is_byte, read_line, most_cells, no_row, pad_cells, row_read, row_in, row_of_words}

-- WORDS

-- the words of a text: the first, and those after its space
pub words-split : (l : List ℕ) → words_in l ≡ take (length_to space l) l ∷ words_after (drop (length_to space l) l)
unfolding words_after
words-split l = ⊎_elim one more (eq-or-lt_of_le (mark-within space l))
  where
    one : length_to space l ≡ length l → words_in l ≡ take (length_to space l) l ∷ words_after (drop (length_to space l) l)
    one e =
        let z : drop (length_to space l) l ≡ [] = drop_of_length-le l {i = length_to space l} (omega (arith, e)) in
        words-one l e ∙ ap₂ (λ (x : List ℕ) (y : List (List ℕ)). x ∷ y) (sym (take_all (length_to space l) l (omega (arith, e)))) (ap words_after (sym z))

    more : length_to space l < length l → words_in l ≡ take (length_to space l) l ∷ words_after (drop (length_to space l) l)
    more h =
        words_more l h
        ∙ ap (λ (y : List (List ℕ)). take (length_to space l) l ∷ y) (ap words_after (sym (drop-cons l (length_to space l) 0 h)))

-- from a place on: the word after the space that is there, and those after it
pub behind-here :
    (l : List ℕ) (at end : ℕ) → at < length l → end ≡ at + 1 + length_to space (drop (at + 1) l)
    → words_after (drop at l) ≡ take (end - (at + 1)) (drop (at + 1) l) ∷ words_after (drop end l)
unfolding words_after
behind-here l at end h e =
    let m : List ℕ = drop (at + 1) l in
    let n : length_to space m ≡ end - (at + 1) = omega (arith, e) in
    ap words_after (drop-cons l at 0 h ∙ ap (λ (k : ℕ). get_or l at 0 ∷ drop k l) (sym (add-one at)))
    ∙ words-split m
    ∙ ap₂ (λ (x : List ℕ) (y : List (List ℕ)). x ∷ y) (ap (λ (k : ℕ). take k m) n)
    (ap words_after (drop-drop (length_to space m) (at + 1) l ∙ ap (λ (k : ℕ). drop k l) (sym e)))

pub behind-none : (l : List ℕ) (at : ℕ) → length l ≤ at → words_after (drop at l) ≡ []
unfolding words_after
behind-none l at h = ap words_after (drop_of_length-le l h)

-- BYTES

pub byte-none : (w : List ℕ) → parse_number w ≡ None → is_byte w ≡ false
unfolding is_byte
byte-none w e = rw (nothing-found w e)

pub byte-large : (w : List ℕ) (n : ℕ) → parse_number w ≡ Some n → 255 < n → is_byte w ≡ false
unfolding is_byte
byte-large w n e h = let v = value_found w n e in rw v.0 (lt-leb (value w) 255 (omega (arith, h, v.1)))

pub byte-found : (w : List ℕ) (n : ℕ) → parse_number w ≡ Some n → n ≤ 255 → is_byte w ≡ true
unfolding is_byte
byte-found w n e h = let v = value_found w n e in rw v.0 (le-leb (value w) 255 (omega (arith, h, v.1)))

-- a number as it is converted to a byte, or not
pub converted : {E : Type 0} (r : Result ℕ E) (n b : ℕ) → OkIff r (n < 256) n → result_ok r ≡ Some b → (n < 256) × (b ≡ n)
converted (Ok x) n b h e = let q : x ≡ b = cc in (h.0, sym q ∙ h.1)
converted (Err x) n b h e = absurd cc

pub not-converted : {E : Type 0} (r : Result ℕ E) (n : ℕ) → OkIff r (n < 256) n → result_ok r ≡ None → ¬ (n < 256)
not-converted (Ok x) n h e = λ _. absurd cc
not-converted (Err x) n h e = h

-- NUMBERS READ AND WORDS LEFT

-- the row where the numbers ns have been read and the words ws are left, of which as many are read as there is space for
unfoldable pub cells_from : ℕ → List ℕ → List (List ℕ) → Read
cells_from t ns ws =
    cond (all is_byte (take (most_cells - length ns) ws)) (row_read t (ns ++ map value (take (most_cells - length ns) ws))) no_row

pub from_start : (t : ℕ) (ws : List (List ℕ)) → cells_from t [] ws ≡ cells_of t (take most_cells ws)
unfolding cells_from cells_of
from_start t ws = refl

pub from-none : (t : ℕ) (ns : List ℕ) → cells_from t ns [] ≡ row_read t ns
unfolding cells_from all
from-none t ns = rw (take-nil {A = List ℕ} (most_cells - length ns)) (ap (row_read t) (append-nil ns))

pub from-full : (t : ℕ) (ns : List ℕ) (ws : List (List ℕ)) → length ns ≡ most_cells → cells_from t ns ws ≡ row_read t ns
unfolding cells_from all
from-full t ns ws e = let z : most_cells - length ns ≡ 0 = omega (arith, e) in rw z (ap (row_read t) (append-nil ns))

module _ (t : ℕ) (ns w : List ℕ) (ws : List (List ℕ)) (room : length ns < most_cells) where
  pub from_wrong : is_byte w ≡ false → cells_from t ns (w ∷ ws) ≡ no_row
  unfolding cells_from all
  from_wrong e =
      let k : most_cells - length ns ≡ suc (most_cells - suc (length ns)) = omega (arith, room) in
      rw (k, e)

  pub from_more : is_byte w ≡ true → cells_from t ns (w ∷ ws) ≡ cells_from t (ns ++ (value w ∷ [])) ws
  unfolding cells_from all
  from_more e =
      let k : most_cells - length ns ≡ suc (most_cells - suc (length ns)) = omega (arith, room) in
      let n : length (ns ++ (value w ∷ [])) ≡ suc (length ns) = omega (arith, length-append ns (value w ∷ [])) in
      rw (k, e, n, append_snoc ns (value w) (map value (take (most_cells - suc (length ns)) ws)))

-- one more number in its place
pub placed-more : (ns : List ℕ) (n : ℕ) → length ns < most_cells → set (pad_cells ns) (length ns) n ≡ pad_cells (ns ++ (n ∷ []))
placed-more ns n h =
    let m : length (ns ++ (n ∷ [])) ≡ suc (length ns) = omega (arith, length-append ns (n ∷ [])) in
    let k : most_cells - length ns ≡ suc (most_cells - suc (length ns)) = omega (arith, h) in
    rw (m, k) (set-append_seam ns 0 (replicate (most_cells - suc (length ns)) 0) n ∙ sym (append_snoc ns n (replicate (most_cells - suc (length ns)) 0)))

-- the numbers in their places and their count are the whole row
pub line_of :
    (t : ℕ) (ns places : List ℕ) (count : ℕ) → places ≡ pad_cells ns → count ≡ length ns
    → ◌≡◌ {A = Option Line} (Some (record { tick = t; count = count; cells = places })) (read_line (row_read t ns))
line_of t ns places count p q = λ i. Some (record { tick = t; count = q i; cells = p i })

-- THE FIRST WORD

pub row-split : (l : List ℕ) → row_in l ≡ cond (is_number (take (length_to space l) l)) (cells_of (value (take (length_to space l) l)) (take most_cells (words_after (drop (length_to space l) l)))) no_row
unfolding row_of_words
row-split l = ap row_of_words (words-split l)

pub row-none : (l : List ℕ) → parse_number (take (length_to space l) l) ≡ None → row_in l ≡ no_row
row-none l e = row-split l ∙ rw (nothing-found (take (length_to space l) l) e)

pub row-some :
    (l : List ℕ) (t : ℕ) → parse_number (take (length_to space l) l) ≡ Some t
    → row_in l ≡ cells_of t (take most_cells (words_after (drop (length_to space l) l)))
row-some l t e =
    let v = value_found (take (length_to space l) l) t e in
    row-split l ∙ rw v.0 (ap (λ (x : ℕ). cells_of x (take most_cells (words_after (drop (length_to space l) l)))) (sym v.1))
