-- The slack of a task (request 111): how much longer it alone may become with the table still accepted. It is not slack reclaiming (lending).
use Rattle.std.specs.Prelude.{Bool, ◌⊎◌, ℕ, suc, ◌+◌, ◌-◌, ◌<◌, ◌≤◌}
use Rattle.model.specs.Lists.{Missed, NeverMissed}
use Rattle.model.specs.Horizon.{horizon}
use Rattle.model.specs.Search.{any, least}
use Rattle.model.specs.Task.{Table, task}
use Rattle.model.specs.Verdict.{missed_in}
use Rattle.table.specs.Limits.{most_time}
use Rattle.slack.specs.Longer.{grown}

-- the table is not accepted: a deadline up to and including the horizon is missed (`misses-exact`: a deadline is missed at some tick)
unfoldable pub misses : Table → Bool
misses s = any (suc (horizon s)) (missed_in s)

-- THE SLACK of place p: the least growth after which one tick more misses, or that which takes C to the deadline, since no longer job ever ends by then
unfoldable pub slack : Table → ℕ → ℕ
slack s p = least ((task s p).deadline - (task s p).length) (λ g. misses (grown s p (suc g)))

-- the claims about the slack g of place p, over all ticks (`slack-exact` shows them of `slack`, `slack-only` that no other number has them)
pub record Slack (s : Table) (p g : ℕ) : Type 0 where
  -- this growth and every smaller one is accepted
  pub accepted : (h : ℕ) → h ≤ g → NeverMissed (grown s p h)
  -- C stays within the largest length
  pub within : (task s p).length + g ≤ most_time
  -- one tick more misses a deadline at some tick, or takes C past 1,000,000
  pub no_more : ((q t : ℕ) × Missed (grown s p (suc g)) q t) ⊎ (most_time < (task s p).length + suc g)
