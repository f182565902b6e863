-- A sentence is followed by a newline, or the refusal is returned.
use Rattle.std.proofs.Common.{◌≡◌, arith, length, rules, sym, subst}
use Rattle.model.proofs.Exits.{err-as}
use Rattle.query.specs.Query.{PutOf, answer_room, why_of}
use Rattle.query.proofs.Asking.{ends-inside, why-err, why-ok}
use Rattle.query.proofs.why.Goals as goal

pub returns-in_err-length : goal.returns-in_err-length
returns-in_err-length c =
    let s = c.sentence in
    let long : length c.args.line.now ≡ answer_room = search rules in
    let e = c.in_err-length.field-0.0 in
    subst (PutOf (why_of c.args.words.now) s.new.buffer) (sym (err-as c.from_residual.result e c.from_residual.ensures.1))
    (why-err c.args.words.now c.args.line.now s.new.buffer s.result s.ensures long e c.in_err-length.was)

pub bounds-line-length : goal.bounds-line-length
bounds-line-length c =
    let s = c.sentence in
    let long : length c.args.line.now ≡ answer_room = search rules in
    let h = ends-inside c.args.words.now c.args.line.now s.new.buffer s.result s.ensures long c.in_ok-length.length c.in_ok-length.was in
    omega (arith, h, s.ensures.size, long)

pub overflow_add-result : goal.overflow_add-result
overflow_add-result c =
    let s = c.sentence in
    let long : length c.args.line.now ≡ answer_room = search rules in
    let w = why-ok c.args.words.now c.args.line.now s.new.buffer s.result s.ensures long c.in_ok-length.length c.in_ok-length.was in
    omega (arith, w.0)

pub returns : goal.returns
returns c =
    let s = c.sentence in
    let long : length c.args.line.now ≡ answer_room = search rules in
    why-ok c.args.words.now c.args.line.now s.new.buffer s.result s.ensures long c.in_ok-length.length c.in_ok-length.was
