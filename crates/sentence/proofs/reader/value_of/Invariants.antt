-- The value so far is that of the digits so far.
use Rattle.std.proofs.Common.{◌≡◌, ◌<◌, take}
use Rattle.text.specs.Decimal.{value}
use Rattle.sentence.specs.Facts.{limit}
use Rattle.sentence.proofs.reader.value_of.Given as goal

abbrev pub invariant-loop-byte : goal.invariant-loop-byte
invariant-loop-byte l = record { so_far : l.value ≡ value (take l.byte-index l.digits); small : l.value < limit }
