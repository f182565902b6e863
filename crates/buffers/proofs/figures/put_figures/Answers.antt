-- `buffers::figures::put_figures`: one number more is written.
use Rattle.std.proofs.Common.{◌≡◌, length, get_or, ap, ◌∙◌, arith, rules}
use Rattle.std.proofs.Math.ListN.{set}
use Rattle.model.specs.Sizes.{most_tasks}
use Rattle.run.proofs.Written.{front-more}
use Rattle.buffers.proofs.figures.put_figures.Goals as goal

pub loop-i-preserved : goal.loop-i-preserved
loop-i-preserved g c =
    let a = c.args in
    let i = c.loop-i.i in
    let d = c.index-figures-i.result in
    let len : length a.figures ≡ most_tasks = search rules in
    ap (λ l. set l i (get_or a.figures i d)) c.loop-i.invariant ∙ front-more a.figures a.words.now i d (omega arith) (omega arith)
