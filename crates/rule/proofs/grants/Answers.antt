-- In each iteration the lowest place that is left is the first claimant, and the rule's answer to it is one iteration of `Serving`.
use native.Mathlib.Omega.{arith}
use mathlib.Core.Path.{◌≡◌, sym, ap, ◌∙◌, subst}
use Prim.Native.Nat.{ℕ, ◌<◌}
use lib.Count.{ones}
use lib.ListN.{get_or, take, length-take}
use lib.Seq.{get_or-take}
use Rattle.model.specs.Task.{rule_of}
use Rattle.model.proofs.Members.{Turn, turn, ended}
use Rattle.rule.specs.Granted.{selection}
use Rattle.rule.specs.Widths.{widths_in}
use Rattle.cores.proofs.Cores.{front-le}
use Rattle.rule.proofs.Serving.{Held, begun, taken, passed_over, over, skipped, all-granted}
use Rattle.rule.proofs.Widths.{widths-length}
use Rattle.rule.proofs.grants.Goals as goal
use Rattle.rule.proofs.grants.Goals.{In-Some, After-select}

pub loop-place-init : goal.loop-place-init
loop-place-init c =
    let a = c.args in
    let e : c.into_iter-place-iterator.result.rest ≡ a.claims = cc in
    subst (λ (x : ℕ). Held (rule_of a.rule) (take a.count (widths_in a.even a.widths.now)) a.claims a.free a.count _ x a.free) (sym e)
    (begun (rule_of a.rule) (take a.count (widths_in a.even a.widths.now)) a.claims a.free a.count c.ranges.claims.fits c.ranges.free.fits)

at : (c : In-Some) → Turn c.loop-place.place-iterator.rest c.in-Some.place c.next.new.self.rest
at c = turn _ _ _ c.in-Some.ensures.steps

below : (c : In-Some) → c.in-Some.place < 32
below c = (at c).below 32 c.loop-place.invariant.fit

-- the width of the place, and the rule's answer to it
read : (c : After-select) → get_or (take c.args.count (widths_in c.args.even c.args.widths.now)) c.in-Some.place 0 ≡ c.width_at-width.result
read c =
    get_or-take c.args.count (widths_in c.args.even c.args.widths.now) c.in-Some.place 0 c.if-place-count.true
    ∙ sym c.width_at-width.ensures

said : (c : After-select)
    → selection (rule_of c.args.rule) (ones c.loop-place.set) (get_or (take c.args.count (widths_in c.args.even c.args.widths.now)) c.in-Some.place 0)
    ≡ c.select.result
said c = ap (selection (rule_of c.args.rule) (ones c.loop-place.set)) (read c) ∙ sym c.select.ensures

pub overflow_cast-place : goal.overflow_cast-place
overflow_cast-place c = omega (arith, below (goal.at.overflow_cast-place c).In-Some)

pub width_at-width-requires : goal.width_at-width-requires
width_at-width-requires c = below (goal.at.width_at-width-requires c).In-Some

pub offset_bounds-sets-place : goal.offset_bounds-sets-place
offset_bounds-sets-place c = omega (arith, below (goal.at.offset_bounds-sets-place c).In-Some)

pub bounds-sets-place : goal.bounds-sets-place
bounds-sets-place c = below (goal.at.bounds-sets-place c).In-Some

pub overflow_sub-set : goal.overflow_sub-set
overflow_sub-set c =
    front-le c.loop-place.set c.width_at-width.result c.lowest-taken.result c.loop-place.invariant.whole (omega (arith, c.lowest-taken.type_inv)) c.lowest-taken.ensures

pub loop-place-preserved-in-Takes : goal.loop-place-preserved-in-Takes
loop-place-preserved-in-Takes c =
    let t = (goal.at.loop-place-preserved-in-Takes c).In-Some in
    let n = (goal.at.loop-place-preserved-in-Takes c).After-select in
    let a = c.args in
    let l = c.loop-place in
    let w = read n in
    taken (rule_of a.rule) (take a.count (widths_in a.even a.widths.now)) a.claims a.free a.count l.sets l.place-iterator.rest l.set
    c.in-Some.place c.next.new.self.rest l.invariant (at t).lowest (at t).after c.if-place-count.true c.lowest-taken.result (omega (arith, c.lowest-taken.type_inv))
    (rw w c.lowest-taken.ensures) (said n ∙ c.in-Takes.is) (below t)

pub loop-place-preserved-in-Passed : goal.loop-place-preserved-in-Passed
loop-place-preserved-in-Passed c =
    let t = (goal.at.loop-place-preserved-in-Passed c).In-Some in
    let n = (goal.at.loop-place-preserved-in-Passed c).After-select in
    let a = c.args in
    let l = c.loop-place in
    passed_over (rule_of a.rule) (take a.count (widths_in a.even a.widths.now)) a.claims a.free a.count l.sets l.place-iterator.rest l.set
    c.in-Some.place c.next.new.self.rest l.invariant (at t).lowest (at t).after (said n ∙ c.in-Passed.is)

pub returns-in-Ends : goal.returns-in-Ends
returns-in-Ends c =
    let t = (goal.at.returns-in-Ends c).In-Some in
    let n = (goal.at.returns-in-Ends c).After-select in
    let a = c.args in
    let l = c.loop-place in
    let h = over (rule_of a.rule) (take a.count (widths_in a.even a.widths.now)) a.claims a.free a.count l.sets l.place-iterator.rest l.set
    c.in-Some.place c.next.new.self.rest l.invariant (at t).lowest (at t).after (said n ∙ c.in-Ends.is) in
    all-granted (rule_of a.rule) (widths_in a.even a.widths.now) a.claims a.free a.count l.sets l.set (widths-length a.even a.widths.now) h

pub loop-place-preserved : goal.loop-place-preserved
loop-place-preserved c =
    let t = (goal.at.loop-place-preserved c).In-Some in
    let a = c.args in
    let l = c.loop-place in
    skipped (rule_of a.rule) (take a.count (widths_in a.even a.widths.now)) a.claims a.free a.count l.sets l.place-iterator.rest l.set
    c.in-Some.place c.next.new.self.rest l.invariant (at t).lowest (at t).after
    (omega (arith, length-take a.count (widths_in a.even a.widths.now), c.if-place-count.false))

pub returns : goal.returns
returns c =
    let a = c.args in
    let l = c.loop-place in
    let z = ended l.place-iterator.rest c.in-None.ensures.steps.0 in
    let h : Held (rule_of a.rule) (take a.count (widths_in a.even a.widths.now)) a.claims a.free a.count l.sets 0 l.set = rw (← z) l.invariant in
    all-granted (rule_of a.rule) (widths_in a.even a.widths.now) a.claims a.free a.count l.sets l.set (widths-length a.even a.widths.now) h
