-- The words of a line: its first word, and those after it.
use mathlib.Core.Bool.{Bool, true, false, cond}
use mathlib.Core.List.{List, [], ◌∷◌}
use mathlib.Core.Path.{◌≡◌, refl, ap}
use Prim.Native.Nat.{ℕ, suc, ◌<◌}
use native.Mathlib.Nat.{not-suc-le-zero, le_of_suc-le-suc}
use native.Mathlib.Omega.{arith}
use lib.ListN.{length, take, drop}
use lib.Dec.{eqb}
use Rattle.text.specs.Format.{joined}
use Rattle.text.specs.Input.{length_to}
use Rattle.text.specs.Output.{space}
use Rattle.splitter.specs.Words.{words_in}

-- a text with no space is one word
pub words-one : (l : List ℕ) → length_to space l ≡ length l → words_in l ≡ l ∷ []
unfolding words_in length_to
words-one [] e = refl
words-one (b ∷ l) e = go (eqb b space) e (words-one l)
  where
    go :
        (t : Bool) → cond t 0 (suc (length_to space l)) ≡ suc (length l) → (length_to space l ≡ length l → words_in l ≡ l ∷ [])
        → cond t ([] ∷ words_in l) (joined b (words_in l)) ≡ (b ∷ l) ∷ []
    go true e ih = absurd (omega arith)
    go false e ih = ap (joined b) (ih (omega arith))

-- else it is its first word, and the words after the space
pub words_more : (l : List ℕ) → length_to space l < length l → words_in l ≡ take (length_to space l) l ∷ words_in (drop (suc (length_to space l)) l)
unfolding words_in length_to
words_more [] h = absurd (not-suc-le-zero h)
words_more (b ∷ l) h = go (eqb b space) h (words_more l)
  where
    go :
        (t : Bool) → cond t 0 (suc (length_to space l)) < suc (length l)
        → (length_to space l < length l → words_in l ≡ take (length_to space l) l ∷ words_in (drop (suc (length_to space l)) l))
        → cond t ([] ∷ words_in l) (joined b (words_in l))
        ≡ take (cond t 0 (suc (length_to space l))) (b ∷ l) ∷ words_in (drop (suc (cond t 0 (suc (length_to space l)))) (b ∷ l))
    go true h ih = refl
    go false h ih = ap (joined b) (ih (le_of_suc-le-suc h))
