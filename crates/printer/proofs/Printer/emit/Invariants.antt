-- What has been written and what is left make up what there was.
use Rattle.std.proofs.Common.{◌-◌}
use Rattle.printer.proofs.Emitting.{Emitting}
use Rattle.printer.proofs.Printer.emit.Given as goal

abbrev pub invariant-loop-given : goal.invariant-loop-given
invariant-loop-given l =
    Emitting l.fn.self
    (record { table = l.table; end = l.end; places = l.places; stage = l.stage; row = l.text; line = l.line; given = l.given }) l.fn.buffer l.buffer l.at

abbrev pub decreases-loop-given : goal.decreases-loop-given
decreases-loop-given l = l.end - l.stage.registers.tick
