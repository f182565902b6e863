use Rattle.std.proofs.Common.{◌<◌, refl, arith}
use Rattle.interference.specs.Bounds.{not_met}
use Rattle.interference.proofs.Sums.{place-limits}
use Rattle.interference.proofs.Passing.{above, needed, open-few, reached-more, reached-none, stopped, tested, untested, wider-more}
use Rattle.interference.proofs.test.Goals as goal

pub loop-place-init : goal.loop-place-init
loop-place-init c = reached-none c.args.table c.requires

pub need_of-need-requires : goal.need_of-need-requires
need_of-need-requires c = omega (arith, open-few c.args.table.fence c.args.table.cores, c.unfenced_count-open.ensures)

pub invariant_of-search : goal.invariant_of-search
invariant_of-search c =
    let t = c.args.table in
    let fit = c.requires in
    let l = c.loop-place in
    let inside : l.place < t.count = omega arith in
    let own = c.max-own in
    let wide = c.max-widest in
    record {
      sought = record {
        fit = fit;
        inside = inside;
        above = above t fit l.bounds l.widest l.place l.invariant;
        needed =
            needed t fit l.place c.unfenced_count-open.result own.result wide.result c.refused_width-refused.result c.need_of-need.result
            c.unfenced_count-open.ensures inside own.ensures
            (wider-more t fit l.bounds l.widest l.place l.invariant own.result wide.result inside own.ensures wide.ensures)
            c.ends_choosing-ends_choosing.result c.ends_choosing-ends_choosing.ensures c.refused_width-refused.ensures c.need_of-need.ensures.0;
        few = c.need_of-need.ensures.1;
      };
    }

pub loop-place-preserved : goal.loop-place-preserved
loop-place-preserved c =
    let t = c.args.table in
    let l = c.loop-place in
    let bound = c.bound-bound in
    let lim = place-limits t c.requires l.place (omega arith) in
    reached-more t c.requires l.bounds l.widest l.place l.invariant c.max-own.result c.max-widest.result bound.result (omega arith)
    c.max-own.ensures c.max-widest.ensures bound.ensures (omega (arith, lim.1))

pub returns : goal.returns
returns c = let l = c.loop-place in tested c.args.table c.requires l.bounds l.widest l.place l.invariant (omega arith)

pub returns-then-task-bound : goal.returns-then-task-bound
returns-then-task-bound c =
    let t = c.args.table in
    let l = c.loop-place in
    let bound = c.bound-bound in
    let lim = place-limits t c.requires l.place (omega arith) in
    untested t c.requires not_met refl
    (stopped t c.requires l.bounds l.widest l.place l.invariant bound.result (omega arith) bound.ensures (omega (arith, lim.1, c.if-task-bound.true)))
