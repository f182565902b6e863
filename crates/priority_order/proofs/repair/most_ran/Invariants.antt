-- The most of what is left is the most of all.
use Rattle.std.proofs.Common.{◌≡◌, drop}
use Rattle.sentence.specs.Facts.{named, named_from}
use Rattle.priority_order.specs.Repair.{most_from, position_in}
use Rattle.priority_order.proofs.repair.most_ran.Given as goal

abbrev pub invariant-loop-i : goal.invariant-loop-i
invariant-loop-i l =
    most_from (record { position = position_in l.place; count = l.most }) (named_from l.i (drop l.i l.count-items))
    ≡ most_from (record { position = 0; count = 0 }) (named l.count-items)
