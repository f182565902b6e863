-- No core passed shows an unknown position, and the bytes of the cores passed are counted.
use Rattle.std.proofs.Common.{◌≡◌, ◌+◌, ◌∙◌, ap, sym, subst, ℕ, List, length, take, arith, below_more}
use Rattle.std.proofs.Math.Seq.{take_all}
use mathlib.Core.Bool.{true≢false}
use Rattle.model.proofs.Search.{any_of, none_any}
use Rattle.plan_check.specs.Plan as plan
use Rattle.plan_check.specs.Row.{unknown_byte_at, any_unknown_byte}
use Rattle.plan_check.proofs.Counting.{Counted, counted-more, counted-most, counted_none}
use Rattle.plan_check.proofs.rows.counted.Goals as goal

pub loop-core-init : goal.loop-core-init
loop-core-init c = record { known = λ k h. absurd (omega arith); counts = counted_none }

pub returns-then-unknown_byte : goal.returns-then-unknown_byte
unfolding any_unknown_byte
returns-then-unknown_byte c =
    let a = c.args in
    record {
      unknown =
          sym (any_of (length a.row.now) (unknown_byte_at a.fence a.count a.row.now) c.loop-core.core (omega arith)
          (sym c.unknown_byte.ensures ∙ c.if-unknown_byte.true));
      counted = λ e. absurd (true≢false e);
    }

pub add-requires : goal.add-requires
add-requires c = λ b w. omega (arith, counted-most c.loop-core.cells c.args.row.now c.loop-core.core b c.loop-core.invariant.counts w (omega arith))

pub loop-core-preserved : goal.loop-core-preserved
loop-core-preserved c =
    let row = c.args.row.now in
    let i = c.loop-core.core in
    record {
      known = below_more _ _ c.loop-core.invariant.known (sym c.unknown_byte.ensures ∙ c.if-unknown_byte.false);
      counts =
          subst (λ (ns : List ℕ). Counted ns (take (i + 1) row)) (sym c.add.ensures.1)
          (counted-more c.loop-core.cells row i (omega arith) c.add.ensures.0 c.loop-core.invariant.counts);
    }

pub returns : goal.returns
unfolding any_unknown_byte
returns c =
    let a = c.args in
    let row = a.row.now in
    let e : c.loop-core.core ≡ length row = omega arith in
    record {
      unknown = sym (none_any (length row) (unknown_byte_at a.fence a.count row) (rw e at c.loop-core.invariant.known));
      counted = λ _ b w. c.loop-core.invariant.counts.each b w ∙ ap (plan.cell_count b) (take_all c.loop-core.core row (omega arith));
    }
