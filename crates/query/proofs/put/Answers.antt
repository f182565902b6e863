-- The answer is at the front, or the refusal is written there.
use Rattle.std.proofs.Common.{◌∙◌, subst}
use Rattle.query.specs.Query.{PutOf, answer_to}
use Rattle.query.proofs.put.Goals as goal

pub returns-in-Ok : goal.returns-in-Ok
returns-in-Ok c = subst (PutOf (answer_to c.args.question c.args.words.now) c.put_given.new.lines) c.in-Ok.is c.put_given.ensures

pub returns-in-Err : goal.returns-in-Err
returns-in-Err c =
    let p = subst (PutOf (answer_to c.args.question c.args.words.now) c.put_given.new.lines) c.in-Err.is c.put_given.ensures in
    (c.put_refusal.ensures.0, c.put_refusal.ensures.1 ∙ p.1)
