-- The first line is written, and the run is before tick 0 with the text of no claimants.
use mathlib.Core.Path.{ap}
use Rattle.simulation.specs.TickState.{Numbers}
use Rattle.printer.proofs.Made.{start-of}
use Rattle.printer.proofs.start.Goals as goal

pub returns : goal.returns
returns c =
    let a = c.args in
    let machine = c.start-machine in
    let columns = c.columns_of-columns in
    let text = c.put_allocation-size in
    let line = c.put_first-ready in
    start-of a.table a.end a.verdict machine.result.registers machine.result.places machine.ensures.0 columns.result.widths
    (ap (λ (n : Numbers). n.widths) columns.ensures) text.new.text line.new.line text.result line.result text.ensures line.ensures
