-- What holds of the places that have lent.
use Rattle.std.proofs.Common.{take}
use Rattle.rule.specs.Widths.{widths_in}
use Rattle.rule.proofs.Lending.{Lending}
use Rattle.rule.proofs.lend.Given as goal

abbrev pub invariant-loop-place : goal.invariant-loop-place
invariant-loop-place l = Lending (take l.count (widths_in l.even l.widths)) l.reserved l.holders l.fn.seekers l.count l.sets l.seeking l.place
