-- What is chosen, and what the places that are left are given, is what all are given.
use Rattle.std.proofs.Common.{◌≡◌, ◌||◌, ◌<◌, ◌^◌, ℕ}
use Rattle.model.specs.Grants.{claimants}
use Rattle.model.specs.Search.{bit}
use Rattle.model.specs.Task.{rule_of}
use Rattle.cores.specs.Cores.{cores}
use Rattle.rule.specs.Granted.{granted}
use Rattle.rule.specs.Widths.{widths_in}
use Rattle.rule.proofs.Choosing.{places}
use Rattle.rule.proofs.choose.Given as goal

abbrev pub invariant-loop-rest : goal.invariant-loop-rest
invariant-loop-rest l =
    (l.rest < 2 ^ 32)
    × ((p : ℕ)
    → bit l.chosen p || places (rule_of l.rule) (widths_in l.even l.widths) l.rest l.left p
    ≡ granted (rule_of l.rule) (claimants (widths_in l.even l.widths) (bit l.claims)) (cores l.free) p)

abbrev pub decreases-loop-rest : goal.decreases-loop-rest
decreases-loop-rest l = l.rest
