-- Each iteration puts together what one place borrows and what no place borrows of its own.
use Rattle.std.proofs.Common.{refl, arith}
use Rattle.model.proofs.Lists.{get_d-zeros}
use Rattle.rule.proofs.Showing.{shows_more}
use Rattle.rule.proofs.shown.Goals as goal

pub loop-i-init : goal.loop-i-init
loop-i-init c = record { size = refl; below = λ p h. absurd (omega arith); above = λ p h. get_d-zeros 32 p }

pub loop-i-preserved : goal.loop-i-preserved
loop-i-preserved c =
    let a = c.args in
    let l = c.loop-i in
    shows_more a.reserved.now a.borrowed.now a.count l.sets l.i c.union-lent.result c.difference.result l.invariant (omega arith) c.union-lent.ensures c.difference.ensures c.requires.fact_2
