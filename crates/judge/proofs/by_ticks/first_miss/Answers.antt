-- The run begins with the machine before tick 0.
use native.Mathlib.Omega.{arith}
use mathlib.Core.Path.{◌≡◌, sym, ap, subst}
use Rattle.simulation.specs.TickState.{numbers_of, TickState, tick_state_of}
use Rattle.simulation.proofs.RefinesTick.{RefinesTick, refines-start}
use Rattle.judge.specs.RunOn.{TicksBegin}
use Rattle.judge.proofs.by_ticks.first_miss.Goals as goal
use Rattle.judge.proofs.by_ticks.first_miss.Goals.{After-start-machine}

-- where the run begins
begins : (c : After-start-machine) → let m = c.start-machine.result in
    TicksBegin c.args.table (numbers_of c.columns_of-columns.result) (tick_state_of m.registers m.places) c.args.end
begins c =
    let zero : c.start-machine.result.registers.tick ≡ 0 = ap (λ (y : TickState). y.tick) c.start-machine.ensures.0 in
    record {
      fit = c.requires.0;
      numbers = c.columns_of-columns.ensures;
      refines = subst (RefinesTick c.args.table) (sym c.start-machine.ensures.0) (refines-start c.args.table c.requires.0);
      within = omega arith;
      early = c.requires.1;
    }

pub run_on-requires : goal.run_on-requires
run_on-requires c = (c.args.table, begins (goal.at.run_on-requires c).After-start-machine)

pub returns : goal.returns
returns c = c.run_on.ensures.missed c.args.table (begins (goal.at.returns c).After-start-machine)
