-- The value so far is that of the digits so far.
use Rattle.std.proofs.Common.{◌≡◌, true, take}
use Rattle.text.specs.Decimal.{all, is_digit, value}
use Rattle.text.proofs.line.number.Given as goal

abbrev pub invariant-loop-byte : goal.invariant-loop-byte
invariant-loop-byte l = (l.value ≡ value (take l.byte-index l.line)) × (all is_digit (take l.byte-index l.line) ≡ true)
