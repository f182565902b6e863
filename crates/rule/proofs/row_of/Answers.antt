-- Each iteration marks one position.
use Rattle.std.proofs.Common.{◌≡◌, sym, ◌∙◌, ◌+◌, suc, drop, map, add-one, arith}
use Rattle.cores.specs.Cores.{cores}
use Rattle.rule.specs.Marked.{shown_bytes}
use Rattle.rule.proofs.Rows.{shown-next, shown-end}
use Rattle.rule.proofs.row_of.Goals as goal

pub loop-i-preserved : goal.loop-i-preserved
loop-i-preserved c =
    let a = c.args in
    let l = c.loop-i in
    let ss = a.sets.now in
    let p : a.first + (l.i + 1) ≡ suc (a.first + l.i) = omega arith in
    let next : shown_bytes l.out (a.first + l.i) (map cores (drop l.i ss)) ≡ shown_bytes c.mark.new.row (a.first + (l.i + 1)) (map cores (drop (l.i + 1) ss)) =
    shown-next l.out (a.first + l.i) l.i ss ∙ cc (p, add-one l.i, c.mark.ensures) in
    sym next ∙ l.invariant

pub returns : goal.returns
returns c =
    let a = c.args in
    let l = c.loop-i in
    sym (shown-end l.out (a.first + l.i) l.i (a.sets.now) (omega arith)) ∙ l.invariant
