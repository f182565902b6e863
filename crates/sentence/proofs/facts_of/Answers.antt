use Rattle.std.proofs.Common.{refl}
use Rattle.sentence.proofs.Finding.{facts-found, facts-none, no-parts, whole}
use Rattle.sentence.proofs.facts_of.Goals as goal

pub returns-in_err-head : goal.returns-in_err-head
returns-in_err-head c = rw c.from_residual.ensures (facts-none c.args.bytes.now _ refl c.in_err-head.ensures)

pub returns-in_err-ran : goal.returns-in_err-ran
returns-in_err-ran c =
    rw c.from_residual-in_err-ran.ensures
    (facts-none c.args.bytes.now _ refl (no-parts c.args.bytes.now (c.in_ok-head.head, c.in_ok-head.parts) c.in_ok-head.ensures c.in_err-ran.ensures))

pub returns : goal.returns
returns c =
    facts-found c.args.bytes.now _ refl
    (whole c.args.bytes.now (c.in_ok-head.head, c.in_ok-head.parts) c.in_ok-head.ensures c.in_ok-ran.ran c.in_ok-ran.ensures)
