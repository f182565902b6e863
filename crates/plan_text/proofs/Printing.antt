-- The length of a line of a word and a number.
use mathlib.Core.List.{List, [], ◌∷◌}
use Prim.Native.Nat.{◌+◌, ◌^◌, ◌<◌, ℕ, ◌≤◌}
use native.Mathlib.Omega.{arith}
use lib.ListN.{length, length-append}
use Rattle.text.proofs.RowText.{line-bytes}
use Rattle.text.proofs.Decimals.{count_most, decimal-length}
use Rattle.text.specs.Decimal.{decimal}
use Rattle.text.specs.Output.{fields, line_of}

-- of at most ten digits
pub one_length : (w : List ℕ) (n : ℕ) → n < 10 ^ 10 → length (line_of w (n ∷ [])) ≤ length w + 12
unfolding fields
one_length w n h = omega (arith, line-bytes w (n ∷ []), length-append (decimal n) [], decimal-length n, count_most 9 n h)
