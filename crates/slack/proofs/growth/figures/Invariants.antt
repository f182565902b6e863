-- the array has the slack of the places so far, and zeros after them
use Rattle.table.specs.Fit.{loaded_table}
use Rattle.slack.proofs.Listed.{Filled}
use Rattle.slack.proofs.growth.figures.Given as goal

abbrev pub invariant-loop-place : goal.invariant-loop-place
invariant-loop-place l = Filled (loaded_table l.table.loaded) l.figures l.place
