-- `buffers::plan_buffer::put_plan`: the run, the tick, and the notes where they are to be written.
use Rattle.std.proofs.Common.{Bool, sym, ap, ◌∙◌, arith}
use Rattle.buffers.specs.Supplied.{plan_over}
use Rattle.buffers.proofs.Supplying.{tick-over, over-noted, over_plain}
use Rattle.buffers.proofs.plan_buffer.put_plan.Goals as goal

pub returns-then-noting : goal.returns-then-noting
returns-then-noting c =
    let a = c.args in
    over-noted a.shown a.plan a.words.now
    (tick-over a.shown a.plan a.words.now c.put_run.ensures (omega (arith, c.requires.1)))
    c.put_notes.ensures
    ∙ ap (λ (t : Bool). plan_over t a.shown a.plan a.words.now) (sym c.if-noting.true)

pub returns-else-noting : goal.returns-else-noting
returns-else-noting c =
    let a = c.args in
    over_plain a.shown a.plan a.words.now
    (tick-over a.shown a.plan a.words.now c.put_run.ensures (omega (arith, c.requires.1)))
    ∙ ap (λ (t : Bool). plan_over t a.shown a.plan a.words.now) (sym c.if-noting.false)
