-- It stops where the buffer is full, or where the line is at its end and no row is to come. Each iteration but the last makes a row's line.
use Rattle.std.proofs.Common.{◌≡◌, ◌+◌, ◌<◌, length, rules, arith}
use Rattle.simulation.proofs.Parts.{sized_of}
use Rattle.simulation.proofs.Steps.{tick-on}
use Rattle.text.specs.Output.{longest_cells, longest_line}
use Rattle.printer.specs.declared.Printer.{Printer}
use Rattle.printer.proofs.Emitting.{Emitting, at-given, emit-start, emit-part, part-fills, emit-step, emit-full, emit-done, stepping-of}
use Rattle.printer.proofs.Limits.{valid-limits}
use Rattle.printer.proofs.Printer.emit.Goals as goal
use Rattle.printer.proofs.Printer.emit.Goals.{After-copy-at, Else-stage-end}

-- the printer that the loop has come to
abbrev now : After-copy-at → Printer
now c =
    let l = c.loop-given in
    record { table = c.args.self.table; end = c.args.self.end; places = l.places; stage = l.stage; row = l.text; line = l.line; given = l.given }

-- .. after a part of its line
abbrev after-part : After-copy-at → Printer
after-part c = at-given (now c) (c.loop-given.given + c.min-part.result)

written : (c : After-copy-at) → Emitting c.args.self (after-part c) c.args.buffer.now c.copy-at.new.to c.copy-at.result
written c =
    emit-part c.args.self (now c) c.args.buffer.now c.loop-given.buffer c.copy-at.new.to c.loop-given.at c.copy-at.result c.min-part.result c.loop-given.invariant
    c.min-part.ensures c.copy-at.ensures

-- a row is to come
early : (c : Else-stage-end) → c.loop-given.stage.registers.tick < c.args.self.end
early c = omega (arith, (written (goal.at.Else-stage-end c).After-copy-at).limits.tick, c.if-stage-end.false)

pub loop-given-init : goal.loop-given-init
loop-given-init c =
    let p = c.args.self in
    let places : length p.places ≡ 96 = search rules in
    let row : length p.row ≡ longest_cells = search rules in
    let line : length p.line ≡ longest_line = search rules in
    emit-start p c.args.buffer.now (valid-limits p c.requires) (record { sized = sized_of p.places p.stage.registers.claiming places; wide = row; long = line })

pub next_line-stage-requires : goal.next_line-stage-requires
next_line-stage-requires c =
    let a = (goal.at.next_line-stage-requires c).After-copy-at in
    stepping-of (after-part a) _ c.columns_of-columns.ensures (written a).limits (written a).arrays (early (goal.at.next_line-stage-requires c).Else-stage-end)

pub loop-given-smaller : goal.loop-given-smaller
loop-given-smaller c = omega (arith, tick-on _ _ _ c.next_line-stage.ensures.state, early (goal.at.loop-given-smaller c).Else-stage-end)

pub loop-given-preserved : goal.loop-given-preserved
loop-given-preserved c =
    let a = (goal.at.loop-given-preserved c).After-copy-at in
    emit-step c.args.self (after-part a) c.args.buffer.now _ _ (written a) c.if-given-stage.false (early (goal.at.loop-given-preserved c).Else-stage-end) _
    c.columns_of-columns.ensures _ _ _ _ c.next_line-stage.ensures

pub returns-then-given-stage : goal.returns-then-given-stage
returns-then-given-stage c =
    let a = (goal.at.returns-then-given-stage c).After-copy-at in
    emit-full c.args.self (after-part a) c.args.buffer.now _ _ c.requires (written a)
    (part-fills c.args.self (now a) c.args.buffer.now c.loop-given.buffer _ c.loop-given.at _ _ c.loop-given.invariant c.min-part.ensures c.copy-at.ensures
    c.if-given-stage.true)

pub returns-then-stage-end : goal.returns-then-stage-end
returns-then-stage-end c =
    let a = (goal.at.returns-then-stage-end c).After-copy-at in
    emit-done c.args.self (after-part a) c.args.buffer.now _ _ c.requires (written a) c.if-given-stage.false c.if-stage-end.true
