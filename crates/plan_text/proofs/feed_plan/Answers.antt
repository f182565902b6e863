-- Each line is taken, waited for, or the last (Feeding).
use Rattle.std.proofs.Common.{refl, arith}
use Rattle.plan_text.proofs.Feeding.{line-ends, moves, next-within, plan-ended, plan-waits, taken_next, taken-over, taken-waits}
use Rattle.plan_text.proofs.Answers.{last-ends}
use Rattle.plan_text.proofs.feed_plan.Goals as goal

pub loop-at-init : goal.loop-at-init
loop-at-init c = ((c.requires, λ e more _. refl), c.extent_of-extent.ensures)

pub returns-in_default : goal.returns-in_default
returns-in_default c =
    let a = c.args in
    let l = c.loop-at in
    taken-waits a.start a.from a.ended a.bytes.now l.rows l.at _ l.invariant.0 c.in_default.ensures refl c.loop-at-test.true

pub overflow_add-at : goal.overflow_add-at
overflow_add-at c =
    let a = c.args in
    let l = c.loop-at in
    omega (arith, line-ends a.start a.from a.ended a.bytes.now l.rows l.at _ l.invariant.0 c.in-Some.ensures)

pub slice_bounds-step-end : goal.slice_bounds-step-end
slice_bounds-step-end c =
    let a = c.args in
    let l = c.loop-at in
    omega (arith, line-ends a.start a.from a.ended a.bytes.now l.rows l.at _ l.invariant.0 c.in-Some.ensures)

pub step-requires : goal.step-requires
step-requires c = c.loop-at.invariant.1

pub returns-in-Err : goal.returns-in-Err
returns-in-Err c =
    let a = c.args in
    let l = c.loop-at in
    taken-over a.start a.from a.ended a.bytes.now l.rows l.at _ l.invariant.0 c.in-Some.ensures _ _ refl c.in-Err.ensures.0 (last-ends c.in-Err.answer)

pub loop-at-smaller : goal.loop-at-smaller
loop-at-smaller c =
    let a = c.args in
    let l = c.loop-at in
    omega (
      arith,
      next-within a.start a.from a.ended a.bytes.now l.rows l.at _ l.invariant.0 c.in-Some.ensures,
      moves a.start a.from a.ended a.bytes.now l.rows l.at _ l.invariant.0 c.in-Some.ensures c.loop-at-test.true,
    )

pub loop-at-preserved : goal.loop-at-preserved
loop-at-preserved c =
    let a = c.args in
    let l = c.loop-at in (
      taken_next a.start a.from a.ended a.bytes.now l.rows l.at _ l.invariant.0 c.in-Some.ensures _ refl c.in-Ok.ensures.0 refl,
      c.in-Ok.ensures.1,
    )

pub returns-then-ended : goal.returns-then-ended
returns-then-ended c =
    let a = c.args in
    let l = c.loop-at in
    plan-ended a.start a.from a.ended a.bytes.now l.rows l.at l.invariant.0 (omega (arith, c.loop-at-test.false)) _ _ c.if-ended.true c.end_rows.ensures

pub returns-else-ended : goal.returns-else-ended
returns-else-ended c =
    let a = c.args in
    let l = c.loop-at in
    plan-waits a.start a.from a.ended a.bytes.now l.rows l.at l.invariant.0 (omega (arith, c.loop-at-test.false)) c.if-ended.false
