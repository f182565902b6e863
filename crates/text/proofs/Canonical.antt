-- Numbers written one to a line are parsed to themselves.
use mathlib.Core.List.{List, [], ◌∷◌}
use mathlib.Core.Path.{◌≡◌, subst}
use Prim.Native.Nat.{ℕ, suc, ◌≤◌, ◌<◌}
use native.Mathlib.Omega.{arith}
use lib.ListN.{length, get_or}
use Rattle.text.specs.Decimal.{decimal}
use Rattle.text.specs.Format.{largest, most_numbers, Number, read_words, words_of, Lines, none, line, text_of}
use Rattle.text.proofs.Decimals.{decimal-some, decimal-most, decimal-digits, decimal-value}
use Rattle.text.proofs.Exact.{text-exact}

-- a number up to the largest, in decimal, is a line that represents it
pub number_of : (w : ℕ) → w ≤ largest → Number (decimal w)
number_of w h =
    let e = decimal-value w in
    record { some = decimal-some w; short = decimal-most w (omega arith); digits = decimal-digits w; fits = omega arith }

lines-text : (ws : List ℕ) → ((i : ℕ) → i < length ws → get_or ws i 0 ≤ largest) → Lines (text_of ws) ws
unfolding text_of
lines-text [] h = none
lines-text (w ∷ ws) h =
    subst (λ (v : ℕ). Lines (text_of (w ∷ ws)) (v ∷ ws)) (decimal-value w)
    (line (number_of w (h 0 (omega arith))) (lines-text ws (λ i l. h (suc i) (omega arith))))

-- at most 229 numbers, each up to 4,294,967,295, are read back from their text
pub text-read : (ws : List ℕ) → length ws ≤ most_numbers → ((i : ℕ) → i < length ws → get_or ws i 0 ≤ largest) → words_of (text_of ws) ≡ read_words ws
text-read ws m h = (text-exact (text_of ws) ws).1 (record { lines = lines-text ws h; most = m })
