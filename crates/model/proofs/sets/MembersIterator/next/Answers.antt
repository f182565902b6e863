use native.Mathlib.Omega.{arith}
use mathlib.Core.Path.{ap}
use lib.ListN.{length}
use Rattle.model.proofs.Members.{members-none, members-next}
use Rattle.model.proofs.sets.MembersIterator.next.Goals as goal

pub returns-then-self-eq0-clause-steps : goal.returns-then-self-eq0-clause-steps
returns-then-self-eq0-clause-steps c = let e = members-none c.args.self.now.rest c.if-self-eq0.true in (e, e)

pub returns-clause-steps : goal.returns-clause-steps
returns-clause-steps c = members-next c.args.self.now.rest (omega arith) (omega arith)

pub returns-clause-goes : goal.returns-clause-goes
returns-clause-goes c =
    let e = ap length (members-next c.args.self.now.rest (omega arith) (omega arith)) in
    record { on = λ _. (tt, tt, omega arith); keeps = tt; rests = λ _. tt }
