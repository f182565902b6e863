-- one growth is accepted, the other misses
use Rattle.std.proofs.Common.{◌-◌}
use Rattle.table.specs.Fit.{loaded_table}
use Rattle.slack.proofs.Bisection.{Between}
use Rattle.slack.proofs.growth.slack_at.Given as goal

abbrev pub invariant-loop-fits : goal.invariant-loop-fits
invariant-loop-fits l = Between (loaded_table l.table.loaded) l.place l.fits l.late

abbrev pub decreases-loop-fits : goal.decreases-loop-fits
decreases-loop-fits l = l.late - l.fits
