-- The table passes, and has as many tasks as were loaded.
use Rattle.std.proofs.Common.{◌∙◌, arith}
use lib.ListN.{length-take}
use Rattle.text.proofs.Writing.{put_front}
use Rattle.table.proofs.Contract.{load-err, load-ok}
use Rattle.query.proofs.Figures.{lines-text}
use Rattle.query.proofs.put_answer.Goals as goal

pub returns-in_err-table : goal.returns-in_err-table
returns-in_err-table c =
    let (says, first) = load-err c.args.words.now c.load.result c.load.ensures c.in_err-table.field-0.0 c.in_err-table.was in
    absurd (c.requires _ _ first.0)

pub put_figures-requires : goal.put_figures-requires
put_figures-requires c =
    let (h, none, e) = load-ok c.args.words.now c.load.result c.load.ensures c.in_ok-table.table c.in_ok-table.was in
    omega (arith, h.count-from.1, length-take c.in_ok-table.table.count c.args.figures)

pub returns : goal.returns
returns c =
    let (h, none, e) = load-ok c.args.words.now c.load.result c.load.ensures c.in_ok-table.table c.in_ok-table.was in
    let p = c.put_figures.ensures in
    (p.1, put_front p.0 ∙ lines-text c.args.words.now c.in_ok-table.table h c.args.figures)
