-- The line has ended, or all bytes are of it.
use native.Mathlib.Omega.{arith}
use Rattle.splitter.proofs.Lines.{line-ended, line-whole, line-waits, end-within}
use Rattle.splitter.proofs.line.Goals as goal

pub returns-then-end-bytes : goal.returns-then-end-bytes
returns-then-end-bytes c = line-ended c.args.bytes.now _ _ _ c.end_from-end.ensures c.if-end-bytes.true

pub returns-then-ended-end : goal.returns-then-ended-end
returns-then-ended-end c =
    let a = c.args in
    let q = c.end_from-end.ensures in
    line-whole a.bytes.now _ a.most a.ended q (omega (arith, c.if-end-bytes.false, end-within a.bytes.now _ a.most a.ended q)) c.if-ended-end.true

pub returns : goal.returns
returns c =
    let a = c.args in
    let q = c.end_from-end.ensures in
    line-waits a.bytes.now _ a.most a.ended q (omega (arith, c.if-end-bytes.false, end-within a.bytes.now _ a.most a.ended q)) c.if-ended-end.false
