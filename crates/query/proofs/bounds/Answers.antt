-- What `response_bounds` answers decides between a line for each task, none, and the refusal.
use Rattle.std.proofs.Common.{rules, arith, sym, subst, ◌∙◌}
use Rattle.text.proofs.Writing.{put_front}
use Rattle.model.proofs.Exits.{err-as}
use Rattle.query.specs.Query.{PutOf, bounds_text}
use Rattle.query.proofs.Figures.{bounds-err, bounds-no, bounds-some}
use Rattle.query.proofs.bounds.Goals as goal

pub returns-in_err-tested : goal.returns-in_err-tested
returns-in_err-tested c =
    let r = c.response_bounds in
    let e = c.in_err-tested.field-0.0 in
    subst (PutOf (bounds_text c.args.words.now) c.args.lines.now) (sym (err-as c.from_residual.result e c.from_residual.ensures.1))
    (search rules, bounds-err c.args.words.now r.result r.ensures e c.in_err-tested.was)

pub put_answer-requires : goal.put_answer-requires
put_answer-requires c =
    let r = c.response_bounds in
    (bounds-some c.args.words.now r.result r.ensures c.in_ok-tested.tested c.in_ok-tested.was c.in-Some.figures c.in-Some.is).0

pub returns-in-Some : goal.returns-in-Some
returns-in-Some c =
    let r = c.response_bounds in
    subst (λ text. PutOf text c.put_answer.new.lines c.put_answer.result)
    (bounds-some c.args.words.now r.result r.ensures c.in_ok-tested.tested c.in_ok-tested.was c.in-Some.figures c.in-Some.is).1 c.put_answer.ensures

pub returns-in-None : goal.returns-in-None
returns-in-None c =
    let r = c.response_bounds in
    let p = c.put.ensures in
    (omega (arith, p.ends), put_front p ∙ bounds-no c.args.words.now r.result r.ensures c.in_ok-tested.tested c.in_ok-tested.was c.in-None.is)
