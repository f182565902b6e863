-- What is left has k digits fewer than the number, and those that are written come after them.
use Rattle.std.proofs.Common.{List, ◌++◌, ◌≡◌, ◌+◌, ℕ, length}
use Rattle.text.specs.Decimal.{last_digits, decimal}
use Rattle.text.specs.Written.{written}
use Rattle.text.proofs.decimal.put.Given as goal

abbrev pub invariant-loop-k : goal.invariant-loop-k
invariant-loop-k l =
    (s : List ℕ) × (l.line ≡ written l.fn.line (l.at + l.k) s) × (last_digits l.k l.left ++ s ≡ decimal l.number) × (length l.line ≡ length l.fn.line)
