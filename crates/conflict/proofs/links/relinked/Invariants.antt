use Prim.Native.Nat.{◌-◌}
use Rattle.table.specs.Words.{count}
use Rattle.conflict.proofs.Linking.{Linking}
use Rattle.conflict.proofs.links.relinked.Given as goal

-- the records kept from this place on are yet to be linked
abbrev pub invariant-loop-number : goal.invariant-loop-number
invariant-loop-number l = Linking l.fn.words l.fn.kept l.chain.words l.chain.link l.place l.number

abbrev pub decreases-loop-number : goal.decreases-loop-number
decreases-loop-number l = count l.fn.words - l.place
