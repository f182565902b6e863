-- Reading line by line: the answer for the numbers that were read and the lines that are left.
use mathlib.Core.Bool.{Bool, true, false, ◌&&◌, cond}
use mathlib.Core.List.{List, [], ◌∷◌, ◌++◌, map, append-nil}
use mathlib.Core.Path.{◌≡◌, refl, ap, sym, ◌∙◌}
use Prim.Native.Nat.{ℕ, suc, ◌+◌, ◌-◌, ◌≤◌, ◌<◌}
use native.Mathlib.Omega.{arith}
use lib.ListN.{length, get_or, take, drop, set, replicate, length-append, drop_of_length-le}
use lib.Seq.{append_snoc, drop-cons, drop-drop, set-append_seam}
use lib.Dec.{leb}
use borrow.Author.Tests.{le-leb, lt-leb}
use Rattle.text.specs.Decimal.{all, value}
use Rattle.text.specs.Format.{Words, read_words, no_text, words_of, is_number, lines, most_numbers}
use Rattle.text.specs.Input.{Input, line_length, pad_numbers, input_of}
use Rattle.text.proofs.Lines.{lines-first}

-- the answer where ws have been read and the lines ls are left
unfoldable pub words_from : List ℕ → List (List ℕ) → Words
words_from ws ls = cond (all is_number ls && leb (length ws + length ls) most_numbers) (read_words (ws ++ map value ls)) no_text

-- at the start
pub from_start : (bs : List ℕ) → words_from [] (lines bs) ≡ words_of bs
unfolding words_from words_of
from_start bs = let e : 0 + length (lines bs) ≡ length (lines bs) = omega arith in rw e

-- no line is left
pub from_end : (ws : List ℕ) → length ws ≤ most_numbers → words_from ws [] ≡ read_words ws
unfolding words_from all
from_end ws m = rw (le-leb (length ws + 0) most_numbers (omega arith), append-nil ws)

module _ (ws l : List ℕ) (ls : List (List ℕ)) where
  -- a line that represents no number
  pub from_wrong : is_number l ≡ false → words_from ws (l ∷ ls) ≡ no_text
  unfolding words_from all
  from_wrong e = rw e

  -- a line more, where 229 have been read
  pub from-full : length ws ≡ most_numbers → words_from ws (l ∷ ls) ≡ no_text
  unfolding words_from
  from-full e = rw (lt-leb (length ws + suc (length ls)) most_numbers (omega arith)) (go (all is_number (l ∷ ls)))
    where
      go : (t : Bool) → cond (t && false) (read_words (ws ++ map value (l ∷ ls))) no_text ≡ no_text
      go true = refl
      go false = refl

  -- a line that represents a number
  pub from_more : is_number l ≡ true → words_from ws (l ∷ ls) ≡ words_from (ws ++ (value l ∷ [])) ls
  unfolding words_from all
  from_more e =
      let n : length ws + suc (length ls) ≡ length (ws ++ (value l ∷ [])) + length ls = omega (arith, length-append ws (value l ∷ [])) in
      rw (e, n, ← append_snoc ws (value l) (map value ls))

-- the first line from an index that has a byte, and the lines after it
pub lines_from : (bs : List ℕ) (i : ℕ) → i < length bs → lines (drop i bs) ≡ take (line_length (drop i bs)) (drop i bs) ∷ lines (drop (i + line_length (drop i bs) + 1) bs)
lines_from bs i l =
    let e : drop i bs ≡ get_or bs i 0 ∷ drop (suc i) bs = drop-cons bs i 0 l in
    let f : lines (drop i bs) ≡ take (line_length (drop i bs)) (drop i bs) ∷ lines (drop (suc (line_length (drop i bs))) (drop i bs)) = rw e (lines-first (get_or bs i 0) (drop (suc i) bs)) in
    let n : i + suc (line_length (drop i bs)) ≡ i + line_length (drop i bs) + 1 = omega arith in
    f ∙ ap (λ (r : List ℕ). take (line_length (drop i bs)) (drop i bs) ∷ lines r) (drop-drop (suc (line_length (drop i bs))) i bs ∙ ap (λ (k : ℕ). drop k bs) n)

-- past the last byte there is no line
pub lines-past : (bs : List ℕ) (i : ℕ) → length bs ≤ i → lines (drop i bs) ≡ []
unfolding lines
lines-past bs i l = rw (drop_of_length-le bs l)

-- one more number in its place
pub placed-more : (ws : List ℕ) (w : ℕ) → length ws < most_numbers → set (pad_numbers ws) (length ws) w ≡ pad_numbers (ws ++ (w ∷ []))
placed-more ws w l =
    let n : length (ws ++ (w ∷ [])) ≡ suc (length ws) = length-append ws (w ∷ []) ∙ omega arith in
    let k : most_numbers - length ws ≡ suc (most_numbers - suc (length ws)) = omega arith in
    rw (n, k) (set-append_seam ws 0 (replicate (most_numbers - suc (length ws)) 0) w ∙ sym (append_snoc ws w (replicate (most_numbers - suc (length ws)) 0)))

-- the numbers in their places and their count are the whole answer
pub input-of : (ws places : List ℕ) (count : ℕ) → places ≡ pad_numbers ws → count ≡ length ws → ◌≡◌ {A = Input} (record { accepted = true; count = count; words = places }) (input_of (read_words ws))
input-of ws places count p q = λ i. record { accepted = true; count = q i; words = p i }
