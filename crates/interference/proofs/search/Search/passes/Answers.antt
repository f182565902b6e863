use Rattle.std.proofs.Common.{arith}
use Rattle.table.specs.Fit.{loaded_table}
use Rattle.interference.proofs.Finding.{test-value}
use Rattle.interference.proofs.Sums.{place-limits}
use Rattle.interference.proofs.search.Search.passes.Goals as goal

pub returns : goal.returns
returns c =
    let a = c.args.self.now in
    let k = a.sought in
    let given = c.interference_in-given in
    let lim = place-limits a.table k.fit a.place k.inside in
    test-value (loaded_table a.table) a.ends a.place c.args.window given.result _ a.wanted c.requires.1 (omega (arith, lim.0)) given.ensures.0 k.needed
