use Rattle.std.proofs.Common.{◌≡◌, ◌≤◌, arith}
use Rattle.interference.proofs.Sums.{summed-all, summed-more, summed-none}
use Rattle.interference.proofs.search.Search.interference_in.Goals as goal

pub loop-i-init : goal.loop-i-init
loop-i-init c = let s = c.args.self.now in summed-none s.table.tasks s.ends c.args.window c.args.waits

pub loop-i-preserved : goal.loop-i-preserved
loop-i-preserved c =
    let a = c.args in
    let s = a.self.now in
    let l = c.loop-i in
    let cores = c.cores_in-sum in
    summed-more s.table.tasks s.ends a.window a.waits l.sum l.i cores.result l.invariant cores.ensures.0 cores.ensures.1

pub returns : goal.returns
returns c =
    let a = c.args in
    let s = a.self.now in
    let k = s.sought in
    let l = c.loop-i in
    let inside : s.place ≤ s.table.count = omega (arith, k.inside) in
    let e : l.i ≡ s.place = omega arith in
    let all = rw e at l.invariant in (
      summed-all s.table k.fit s.ends s.place a.window a.waits l.sum inside all,
      omega (arith, all.most, k.fit.few, inside),
    )
