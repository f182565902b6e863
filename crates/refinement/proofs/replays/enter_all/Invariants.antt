-- the run is the one after the entries passed, and their answers are written
use Rattle.std.proofs.Common.{◌≡◌, ◌++◌, map, drop}
use Rattle.model.specs.Search.{up_from}
use Rattle.refinement.specs.Entries.{run_after_list}
use Rattle.refinement.specs.Listing.{entry_at}
use Rattle.refinement.specs.Replay.{codes}
use Rattle.refinement.proofs.replays.enter_all.Given as goal

abbrev pub invariant-loop-i : goal.invariant-loop-i
invariant-loop-i l = record {
  after : l.run ≡ run_after_list l.fn.run (map (entry_at l.entries) (up_from 0 l.i));
  written : l.numbers ≡ codes l.fn.run (map (entry_at l.entries) (up_from 0 l.i)) ++ drop l.i l.initial.numbers;
}
