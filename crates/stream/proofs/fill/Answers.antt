-- Each read comes after those before it, and the last one ends what the buffer holds.
use Rattle.stream.proofs.Moving.{read-all, read-failed, read-on}
use Rattle.stream.proofs.fill.Goals as goal

pub returns-in_err-next : goal.returns-in_err-next
returns-in_err-next g c =
    let l = c.loop-end in
    read-failed c.args.held l.end c.args.buffer.now l.buffer c.read.new.buffer l.invariant c.read.result c.read.ensures _ c.in_err-next.was c.from_residual.result c.from_residual.ensures.0

pub returns-then-next-end : goal.returns-then-next-end
returns-then-next-end g c =
    let l = c.loop-end in
    read-all c.args.held l.end c.args.buffer.now l.buffer c.read.new.buffer l.invariant c.read.result c.read.ensures c.in_ok-next.next c.in_ok-next.was c.if-next-end.true

pub loop-end-preserved : goal.loop-end-preserved
loop-end-preserved g c =
    let l = c.loop-end in
    read-on c.args.held l.end c.args.buffer.now l.buffer c.read.new.buffer l.invariant c.read.result c.read.ensures c.in_ok-next.next c.in_ok-next.was
