-- The format, exact both ways: `words_of` finds the numbers of every table's text, and turns down what is none.
use mathlib.Core.Bool.{Bool, true, false, ◌&&◌, cond}
use mathlib.Core.List.{List, [], ◌∷◌, ◌++◌, map}
use mathlib.Core.Logic.{◌↔◌, ⊎_elim}
use mathlib.Core.Path.{◌≡◌, refl, ap, sym, subst, ◌∙◌}
use Prim.Native.Nat.{ℕ, zero, suc, ◌*◌, ◌≤◌, ◌<◌}
use native.Mathlib.Nat.{not-suc-le-zero, le_refl, eq-or-lt_of_le}
use native.Mathlib.Omega.{arith}
use lib.ListN.{length, take, drop, length-append, length-drop, length-map, drop_of_length-le}
use lib.Seq.{take_all, length-take-le}
use lib.Dec.{leb}
use borrow.Author.Tests.{leb-true, leb-false, le-leb}
use Rattle.model.proofs.Bools.{and_left, and_right, and_both}
use Rattle.text.specs.Decimal.{all, value}
use Rattle.text.specs.Format.{newline, most_numbers, most_bytes, enough_bytes, lines, Number, is_number, Words, read_words, no_text, words_of, Lines, none, last, line, IsText}
use Rattle.text.specs.Input.{line_length}
use Rattle.text.specs.Output.{output, output_of}
use Rattle.text.proofs.Lines.{line-within, line-split, lines-first, lines-line, lines-last}
use Rattle.text.proofs.Numbers.{number-exact}

-- where every line represents a number, the first does, and every one after it
first-test : (bs : List ℕ) → all is_number (take (line_length bs) bs ∷ lines (drop (suc (line_length bs)) bs)) ≡ true →
    Number (take (line_length bs) bs) × (all is_number (lines (drop (suc (line_length bs)) bs)) ≡ true)
unfolding all
first-test bs e = (
  (number-exact (take (line_length bs) bs)).0 (and_left (is_number (take (line_length bs) bs)) (all is_number (lines (drop (suc (line_length bs)) bs))) e),
  and_right (is_number (take (line_length bs) bs)) (all is_number (lines (drop (suc (line_length bs)) bs))) e,
)

-- no bytes are no numbers
no_lines : {bs ws : List ℕ} → Lines bs ws → bs ≡ [] → ws ≡ []
no_lines none e = refl
no_lines (last {l} n) e = let z : length l ≡ 0 = ap length e in absurd (omega (arith, n.some))
no_lines (line {l} {bs} n t) e = let z : length (l ++ (newline ∷ bs)) ≡ 0 = ap length e in absurd (omega (arith, length-append l (newline ∷ bs)))

-- a first line that represents a number, and the numbers of what is after its newline
first-line : (bs ws : List ℕ) → Number (take (line_length bs) bs) → Lines (drop (suc (line_length bs)) bs) ws → Lines bs (value (take (line_length bs) bs) ∷ ws)
first-line bs ws n t = ⊎_elim whole part (eq-or-lt_of_le (line-within bs))
  where
    whole : line_length bs ≡ length bs → Lines bs (value (take (line_length bs) bs) ∷ ws)
    whole e =
        let all : take (line_length bs) bs ≡ bs = take_all (line_length bs) bs (omega arith) in
        let over : ws ≡ [] = no_lines t (drop_of_length-le bs {i = suc (line_length bs)} (omega arith)) in
        let m : Number bs = rw all at n in
        rw (all, over) (last m)

    part : line_length bs < length bs → Lines bs (value (take (line_length bs) bs) ∷ ws)
    part l = subst (λ (x : List ℕ). Lines x (value (take (line_length bs) bs) ∷ ws)) (sym (line-split bs l)) (line n t)

-- the bytes are the numbers of their lines, where each line represents one
numbers_of : (n : ℕ) (bs : List ℕ) → length bs ≤ n → all is_number (lines bs) ≡ true → Lines bs (map value (lines bs))
unfolding lines
numbers_of zero [] h e = none
numbers_of zero (b ∷ bs) h e = absurd (not-suc-le-zero h)
numbers_of (suc n) [] h e = none
numbers_of (suc n) (b ∷ bs) h e =
    let rest : List ℕ = drop (suc (line_length (b ∷ bs))) (b ∷ bs) in
    let shorter : length rest ≤ n = simp length-drop (omega arith) in
    let q = first-test (b ∷ bs) (subst (λ (ls : List (List ℕ)). all is_number ls ≡ true) (lines-first b bs) e) in
    subst (λ (ls : List (List ℕ)). Lines (b ∷ bs) (map value ls)) (sym (lines-first b bs))
    (first-line (b ∷ bs) (map value (lines rest)) q.0 (numbers_of n rest shorter q.1))

-- the lines of numbers, one to a line
lines_of : {bs ws : List ℕ} → Lines bs ws → (all is_number (lines bs) ≡ true) × (map value (lines bs) ≡ ws)
unfolding lines all
lines_of none = (refl, refl)
lines_of (last {l} n) = rw (lines-last l n.digits n.some) (and_both (is_number l) true ((number-exact l).1 n) refl, refl)
lines_of (line {l} {bs} {ws} n t) =
    let ih = lines_of t in
    rw (lines-line l bs n.digits) (and_both (is_number l) (all is_number (lines bs)) ((number-exact l).1 n) ih.0, ap (λ (vs : List ℕ). value l ∷ vs) ih.1)

-- exact: the numbers that `words_of` finds are those of the text ..
pub text-exact : (bs ws : List ℕ) → (words_of bs ≡ read_words ws) ↔ IsText bs ws
unfolding words_of
text-exact bs ws = (to (all is_number (lines bs)) refl (leb (length (lines bs)) most_numbers) refl, from)
  where
    to : (t : Bool) → all is_number (lines bs) ≡ t → (u : Bool) → leb (length (lines bs)) most_numbers ≡ u →
        cond (t && u) (read_words (map value (lines bs))) no_text ≡ read_words ws → IsText bs ws
    to true p true q e =
        let w : map value (lines bs) ≡ ws = cc in
        let m : length (lines bs) ≤ most_numbers = leb-true (length (lines bs)) most_numbers q in
        record {
          lines = subst (Lines bs) w (numbers_of (length bs) bs (le_refl (length bs)) p);
          most = rw (← w, length-map) m;
        }
    to true p false q e = let z : ◌≡◌ {A = ℕ} 0 1 = cc in absurd (omega arith)
    to false p u q e = let z : ◌≡◌ {A = ℕ} 0 1 = cc in absurd (omega arith)

    from : IsText bs ws → cond (all is_number (lines bs) && leb (length (lines bs)) most_numbers) (read_words (map value (lines bs))) no_text ≡ read_words ws
    from x =
        let o = lines_of x.lines in
        let n : length (lines bs) ≤ most_numbers = rw (← o.1, length-map) at x.most in
        rw (o.0, le-leb (length (lines bs)) most_numbers n, o.1)

-- .. and what it turns down is no text of any numbers
pub no-text-exact : (bs : List ℕ) → (words_of bs ≡ no_text) ↔ ((ws : List ℕ) → ¬ IsText bs ws)
no-text-exact bs = (λ e ws x. different ws (sym ((text-exact bs ws).1 x) ∙ e), λ h. go (words_of bs) refl h)
  where
    different : (ws : List ℕ) → read_words ws ≡ no_text → ⊥
    different ws e = let z : ◌≡◌ {A = ℕ} 0 1 = cc in omega arith

    go : (w : Words) → words_of bs ≡ w → ((ws : List ℕ) → ¬ IsText bs ws) → w ≡ no_text
    go (read_words ws) e h = absurd (h ws ((text-exact bs ws).0 e))
    go no_text e h = refl

-- the longest text: 229 lines of ten digits and a newline
lines-short : {bs ws : List ℕ} → Lines bs ws → length bs ≤ 11 * length ws
lines-short none = omega arith
lines-short (last {l} n) = omega (arith, n.short)
lines-short (line {l} {bs} n t) = let ih = lines-short t in omega (arith, n.short, length-append l (newline ∷ bs))

-- more than 2,519 bytes are no table's text
pub long-refused : (bs : List ℕ) → most_bytes < length bs → words_of bs ≡ no_text
long-refused bs h = (no-text-exact bs).1 (λ ws x. let s = lines-short x.lines in let m = x.most in omega arith)

-- so the first 2,520 bytes of an input are enough
pub first-enough : (bs : List ℕ) (k : ℕ) → most_bytes < k → words_of (take k bs) ≡ words_of bs
first-enough bs k h = go (leb (length bs) k) refl
  where
    go : (t : Bool) → leb (length bs) k ≡ t → words_of (take k bs) ≡ words_of bs
    go true e = rw (take_all k bs (leb-true (length bs) k e))
    go false e =
        let l = leb-false (length bs) k e in
        let n : length (take k bs) ≡ k = length-take-le k bs (omega arith) in
        long-refused (take k bs) (omega arith) ∙ sym (long-refused bs (omega arith))

-- .. for all that is printed
pub output-enough : (bs : List ℕ) → output (take enough_bytes bs) ≡ output bs
unfolding output
output-enough bs = ap output_of (first-enough bs enough_bytes (omega arith))
