use Rattle.std.proofs.Common.{◌-◌, arith, ap, sym, ◌∙◌}
use Rattle.table.specs.Words.{table_of}
use Rattle.conflict.specs.Conflict.{pass}
use Rattle.conflict.proofs.Dropping.{pass-none, pass_step}
use Rattle.conflict.proofs.passes.pass.Goals as goal

pub loop-place-preserved : goal.loop-place-preserved
loop-place-preserved c =
    let l = c.loop-place in
    let s = table_of c.args.whole.words.now in
    ap (pass s (l.place - 1)) c.dropped-left.ensures ∙ (pass_step s l.place l.left c.loop-place-test.true ∙ l.invariant)

pub returns : goal.returns
returns c =
    let l = c.loop-place in
    let s = table_of c.args.whole.words.now in
    sym (pass-none s l.place l.left (omega (arith, c.loop-place-test.false))) ∙ l.invariant
