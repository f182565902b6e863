use Prim.Native.Nat.{ℕ}
use mathlib.Core.Path.{◌≡◌, sym, ap, ◌∙◌}
use native.Mathlib.Omega.{arith}
use Rattle.model.specs.Members.{members}
use Rattle.model.proofs.Members.{turn}
use Rattle.cores.proofs.Cores.{cores-members}
use Rattle.rule.specs.Marked.{marked}
use Rattle.rule.proofs.Rows.{marked-none, marked_more}
use Rattle.rule.proofs.mark.Goals as goal

pub loop-core-init : goal.loop-core-init
loop-core-init c =
    let e : c.into_iter-core-iterator.result.rest ≡ c.args.set = cc in
    (omega arith, ap (λ (n : ℕ). marked c.args.row.now c.args.mark (members n)) e)

pub bounds-row-core : goal.bounds-row-core
bounds-row-core c = (turn _ _ _ c.in-Some.ensures.steps).below 64 c.loop-core.invariant.0

pub loop-core-preserved : goal.loop-core-preserved
loop-core-preserved c =
    let l = c.loop-core in (
      omega (arith, (turn _ _ _ c.in-Some.ensures.steps).falls, l.invariant.0),
      sym (marked_more l.row c.args.mark c.in-Some.core (members c.next.new.self.rest))
          ∙ ap (marked l.row c.args.mark) (sym c.in-Some.ensures.steps) ∙ l.invariant.1,
    )

pub returns : goal.returns
returns c =
    let l = c.loop-core in
    sym (ap (marked l.row c.args.mark) c.in-None.ensures.steps.0 ∙ marked-none l.row c.args.mark)
    ∙ l.invariant.1 ∙ ap (marked c.args.row.now c.args.mark) (sym (cores-members c.args.set c.ranges.set.fits))
