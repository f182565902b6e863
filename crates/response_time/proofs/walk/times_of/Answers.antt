-- After each jump the run represents the table's full-length run, and the longest times so far are recorded (`Noted`). A due claimant with ticks left is a miss;
-- past the horizon what is recorded are the response times.
use mathlib.Core.Path.{sym, ◌∙◌, subst}
use native.Mathlib.Omega.{arith}
use lib.ListN.{replicate}
use Rattle.simulation.specs.TickState.{numbers_of}
use Rattle.simulation.specs.EventState.{EventState, event_state_of, StateRepresents}
use Rattle.simulation.specs.Jump.{JumpStarts, JumpOf}
use Rattle.simulation.proofs.AreEvents.{initial-represents}
use Rattle.judge.proofs.OneStep.{one-jump}
use Rattle.response_time.proofs.Jumping.{Noted, jump-recorded, jump_small}
use Rattle.response_time.proofs.Walked.{noted-start, late-misses, none-misses, missed-answer, met-answer}
use Rattle.response_time.proofs.walk.times_of.Goals as goal
use Rattle.response_time.proofs.walk.times_of.Goals.{Else-any_left, After-run_on-on}

-- where no task is late a jump may begin
begins : (c : Else-any_left) → let r = c.columns_of-columns.result in
    JumpStarts c.args.fitting.loaded (numbers_of r) (event_state_of c.loop-registers.registers c.loop-registers.places)
begins c =
    let l = c.loop-registers in
    record {
      fit = c.args.fitting.fit;
      numbers = c.columns_of-columns.ensures;
      represents = l.invariant.0;
      met = none-misses c.args.fitting.loaded c.args.fitting.fit (event_state_of l.registers l.places) l.invariant.0 (sym c.if-any_left.false ∙ c.any_left.ensures);
      early = c.loop-registers-test.true;
    }

-- one jump is taken
jump-of : (c : After-run_on-on) → let r = c.columns_of-columns.result in
    JumpOf (numbers_of r) (event_state_of c.loop-registers.registers c.loop-registers.places)
    (event_state_of c.run_on-on.result.registers c.run_on-on.new.places)
jump-of c =
    let r = c.columns_of-columns.result in
    one-jump c.args.fitting.loaded (numbers_of r) (event_state_of c.loop-registers.registers c.loop-registers.places) _ _
    (begins (goal.at.After-run_on-on c).Else-any_left) c.run_on-on.ensures

pub loop-registers-init : goal.loop-registers-init
loop-registers-init c =
    let t = c.args.fitting.loaded in
    let e = c.start-machine.ensures in (
      subst (StateRepresents t) (sym e) (initial-represents t c.args.fitting.fit),
      subst (λ (s : EventState). Noted t s.tick (replicate 32 0)) (sym e) (noted-start t c.args.fitting.fit),
    )

pub returns-then-any_left : goal.returns-then-any_left
returns-then-any_left c =
    let l = c.loop-registers in
    let late = late-misses c.args.fitting.loaded c.args.fitting.fit (event_state_of l.registers l.places) l.invariant.0 (sym c.if-any_left.true ∙ c.any_left.ensures) in
    missed-answer c.args.fitting.loaded c.args.fitting.fit late.0 l.registers.tick c.loop-registers-test.true late.1

pub record_ends-requires : goal.record_ends-requires
record_ends-requires c =
    let a = (goal.at.record_ends-requires c).After-run_on-on in
    let r = c.columns_of-columns.result in
    let l = c.loop-registers in
    jump_small c.args.fitting.loaded (numbers_of r) (event_state_of l.registers l.places) (event_state_of c.run_on-on.result.registers _)
    (begins (goal.at.record_ends-requires c).Else-any_left) (jump-of a).value

pub loop-registers-smaller : goal.loop-registers-smaller
loop-registers-smaller c =
    let a = (goal.at.loop-registers-smaller c).After-run_on-on in
    omega (arith, c.loop-registers-test.true, ((jump-of a).lands _ (begins (goal.at.loop-registers-smaller c).Else-any_left)).next.after)

pub loop-registers-preserved : goal.loop-registers-preserved
loop-registers-preserved c =
    let a = (goal.at.loop-registers-preserved c).After-run_on-on in
    let b = begins (goal.at.loop-registers-preserved c).Else-any_left in
    let r = c.columns_of-columns.result in
    let l = c.loop-registers in (
      ((jump-of a).lands c.args.fitting.loaded b).represents,
      jump-recorded c.args.fitting.loaded (numbers_of r) (event_state_of l.registers l.places) (event_state_of c.run_on-on.result.registers _) b
          (jump-of a).value l.responses l.invariant.1 _ c.record_ends.ensures,
    )

pub returns : goal.returns
returns c =
    let l = c.loop-registers in
    met-answer c.args.fitting.loaded c.args.fitting.fit l.registers.tick c.loop-registers-test.false l.invariant.0.met l.responses l.invariant.1
