-- The answer of `conflict` gives the positions kept, or the refusal.
use Rattle.std.proofs.Common.{rules, sym, subst, ◌∙◌}
use Rattle.model.proofs.Exits.{err-as}
use Rattle.text.proofs.Writing.{put_front}
use Rattle.query.specs.Query.{PutOf, conflict_text}
use Rattle.query.proofs.Positions.{conflict-err, conflict-ok}
use Rattle.query.proofs.conflict.Goals as goal

pub returns-in_err-kept : goal.returns-in_err-kept
returns-in_err-kept c =
    let r = c.conflict in
    let e = c.in_err-kept.field-0.0 in
    subst (PutOf (conflict_text c.args.words.now) c.args.line.now) (sym (err-as c.from_residual.result e c.from_residual.ensures.1))
    (search rules, conflict-err c.args.words.now r.result r.ensures e c.in_err-kept.was)

pub returns : goal.returns
returns c =
    let r = c.conflict in
    let p = c.put_positions.ensures in
    (p.1, put_front p.0 ∙ conflict-ok c.args.words.now r.result r.ensures c.in_ok-kept.kept c.in_ok-kept.was)
