-- The run begins before tick 0.
use mathlib.Core.Path.{sym, subst}
use Rattle.simulation.specs.TickState.{numbers_of}
use Rattle.simulation.specs.EventState.{event_state_of, StateRepresents}
use Rattle.simulation.proofs.AreEvents.{initial-represents}
use Rattle.judge.specs.RunOn.{JumpsBegin}
use Rattle.judge.proofs.ByJumps.{as-jumps}
use Rattle.judge.proofs.by_events.first_miss.Goals as goal
use Rattle.judge.proofs.by_events.first_miss.Goals.{After-start-machine}

-- where the run begins
begins : (c : After-start-machine) → let m = c.start-machine.result in
    JumpsBegin c.args.table (numbers_of c.columns_of-columns.result) (event_state_of m.registers m.places) c.args.end
begins c = record {
  fit = c.requires.0;
  numbers = c.columns_of-columns.ensures;
  represents = subst (StateRepresents c.args.table) (sym c.start-machine.ensures) (initial-represents c.args.table c.requires.0);
  early = c.requires.1;
}

pub run_on-requires : goal.run_on-requires
run_on-requires c = (c.args.table, begins (goal.at.run_on-requires c).After-start-machine)

pub returns : goal.returns
returns c = as-jumps c.args.table c.requires.0 _ _ (c.run_on.ensures.missed c.args.table (begins (goal.at.returns c).After-start-machine))
