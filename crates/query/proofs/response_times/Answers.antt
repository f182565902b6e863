-- The answer of `response_times` gives a line for each task, or the refusal.
use Rattle.std.proofs.Common.{rules, sym, subst}
use Rattle.model.proofs.Exits.{err-as}
use Rattle.query.specs.Query.{PutOf, response_times_text}
use Rattle.query.proofs.Figures.{response-times-err, response-times-ok}
use Rattle.query.proofs.response_times.Goals as goal

pub returns-in_err-figures : goal.returns-in_err-figures
returns-in_err-figures c =
    let r = c.response_times in
    let e = c.in_err-figures.field-0.0 in
    subst (PutOf (response_times_text c.args.words.now) c.args.lines.now) (sym (err-as c.from_residual.result e c.from_residual.ensures.1))
    (search rules, response-times-err c.args.words.now r.result r.ensures e c.in_err-figures.was)

pub put_answer-requires : goal.put_answer-requires
put_answer-requires c =
    let r = c.response_times in
    (response-times-ok c.args.words.now r.result r.ensures c.in_ok-figures.figures c.in_ok-figures.was).0

pub returns : goal.returns
returns c =
    let r = c.response_times in
    subst (λ text. PutOf text c.put_answer.new.lines c.put_answer.result)
    (response-times-ok c.args.words.now r.result r.ensures c.in_ok-figures.figures c.in_ok-figures.was).1 c.put_answer.ensures
