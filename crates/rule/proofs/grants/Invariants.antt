use lib.ListN.{take}
use Rattle.model.specs.Task.{rule_of}
use Rattle.rule.specs.Widths.{widths_in}
use Rattle.rule.proofs.Serving.{Held}
use Rattle.rule.proofs.grants.Given as goal

abbrev pub invariant-loop-place : goal.invariant-loop-place
invariant-loop-place l =
    Held (rule_of l.rule) (take l.count (widths_in l.even l.widths)) l.claims l.free l.count l.sets l.place-iterator.rest l.set
