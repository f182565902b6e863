use Rattle.std.proofs.Common.{arith}
use Rattle.table.specs.Fit.{loaded_table}
use Rattle.interference.proofs.Finding.{halving-done, halving-met, halving-next, halving-start}
use Rattle.interference.proofs.Sums.{place-limits}
use Rattle.interference.proofs.search.Search.bound.Goals as goal

pub loop-init : goal.loop-init
loop-init c =
    let a = c.args.self.now in
    let first = c.first_window-high in
    let lim = place-limits a.table c.args.self.now.sought.fit a.place c.args.self.now.sought.inside in
    rw lim.0 at (halving-start (loaded_table a.table) a.ends a.place first.result first.ensures)

pub returns-then-high-low : goal.returns-then-high-low
returns-then-high-low c =
    let l = c.loop in
    halving-met (loaded_table c.args.self.now.table) c.args.self.now.ends c.args.self.now.place l.counter l.low l.high l.invariant c.if-high-low.true

pub loop-preserved : goal.loop-preserved
loop-preserved c =
    let a = c.args.self.now in
    let l = c.loop in
    let halves = c.halve-next.ensures in
    halving-next (loaded_table a.table) a.ends a.place l.counter l.low l.high _ _ l.invariant (omega arith) (omega arith) halves.0 halves.1

pub returns : goal.returns
returns c =
    let l = c.loop in
    halving-done (loaded_table c.args.self.now.table) c.args.self.now.ends c.args.self.now.place l.counter l.low l.high l.invariant (omega arith)
