use Rattle.std.proofs.Common.{◌≡◌, ◌<◌, ◌+◌, ◌++◌, ℕ, List, map, get_or, length, set, rules, arith, refl, sym, ap, ap₂, ◌∙◌, length-set}
use Rattle.table.specs.declared.Task.{Task}
use Rattle.table.specs.Task.{no_task}
use Rattle.simulation.specs.Places.{segment}
use Rattle.simulation.specs.Machine.{Machine}
use Rattle.simulation.proofs.Fields.{Filled, filled_none, filled_more, filled-all}
use Rattle.simulation.proofs.Parts.{pair-first, pair-second, pair_parts, stored-all}
use Rattle.simulation.proofs.columns.columns_of.Goals as goal

pub loop-i-init : goal.loop-i-init
unfolding segment
loop-i-init c =
    let ts = c.args.table.tasks in
    let all : length ts ≡ 32 = search rules in
    record {
      size = refl;
      width = filled_none (λ t. t.width) ts all;
      second = filled_none (λ t. t.second) ts all;
      lengths = filled_none (λ t. t.length) ts all;
      deadlines = filled_none (λ t. t.deadline) ts all;
      periods = filled_none (λ t. t.period) ts all;
    }

pub loop-i-preserved : goal.loop-i-preserved
loop-i-preserved c =
    let l = c.loop-i in
    let ts = c.args.table.tasks in
    let all : length ts ≡ 32 = search rules in
    let inside : l.i < 32 = omega arith in
    let x = get_or ts l.i no_task in
    let stored = stored-all l.times 0 l.i x.length x.deadline x.period inside in
    let more : (f : Task → ℕ) (xs : List ℕ) → Filled f ts l.i xs → Filled f ts (l.i + 1) (set xs l.i (f (get_or ts l.i no_task))) =
    λ f xs h. filled_more f ts all l.i xs inside h in
    record {
      size = simp length-set l.invariant.size;
      width = rw (pair-first l.widths l.i x.width x.second inside) (more (λ t. t.width) (segment 0 l.widths) l.invariant.width);
      second = rw (pair-second l.widths l.i x.width x.second inside) (more (λ t. t.second) (segment 32 l.widths) l.invariant.second);
      lengths = rw (ap (λ (m : Machine). m.left) stored) (more (λ t. t.length) (segment 0 l.times) l.invariant.lengths);
      deadlines = rw (ap (λ (m : Machine). m.event) stored) (more (λ t. t.deadline) (segment 32 l.times) l.invariant.deadlines);
      periods = rw (ap (λ (m : Machine). m.next) stored) (more (λ t. t.period) (segment 64 l.times) l.invariant.periods);
    }

pub returns : goal.returns
returns c =
    let t = c.args.table in
    let l = c.loop-i in
    let all : length t.tasks ≡ 32 = search rules in
    let e : l.i ≡ 32 = omega arith in
    let whole : (f : Task → ℕ) (xs : List ℕ) → Filled f t.tasks l.i xs → xs ≡ map f t.tasks =
    λ f xs h. filled-all f t.tasks all xs (rw e at h) in
    let both : l.widths ≡ map (λ x. x.width) t.tasks ++ map (λ x. x.second) t.tasks =
    sym (pair_parts l.widths l.invariant.size)
    ∙ ap₂ (λ (a b : List ℕ). a ++ b) (whole (λ x. x.width) (segment 0 l.widths) l.invariant.width) (whole (λ x. x.second) (segment 32 l.widths) l.invariant.second) in
    λ j. record {
      rule = t.rule;
      cores = t.cores;
      fence = t.fence;
      count = t.count;
      paired = c.paired_in.ensures j;
      widths = both j;
      lengths = whole (λ x. x.length) (segment 0 l.times) l.invariant.lengths j;
      deadlines = whole (λ x. x.deadline) (segment 32 l.times) l.invariant.deadlines j;
      periods = whole (λ x. x.period) (segment 64 l.times) l.invariant.periods j;
    }
