-- Bisection between a growth that is accepted and one that misses: where they are next to each other, the lower one is the slack.
use mathlib.Core.Bool.{false, true}
use mathlib.Core.Path.{◌≡◌, subst}
use Prim.Native.Nat.{ℕ, suc, ◌+◌, ◌-◌, ◌<◌, ◌≤◌}
use native.Mathlib.Omega.{arith}
use lib.ListN.{length}
use Rattle.model.specs.Task.{AllValid, Table, task}
use Rattle.table.specs.Limits.{most_time}
use Rattle.slack.specs.Answer.{has_slack}
use Rattle.slack.specs.Longer.{grown}
use Rattle.slack.specs.Slack.{misses, slack}
use Rattle.slack.proofs.Figure.{none-fits, past-deadline, slack-found}
use Rattle.slack.proofs.Misses.{within-deadline}
use Rattle.slack.proofs.Ordered.{gives-exact}

-- the lower growth is accepted, the upper one misses, and it takes C past the deadline by one tick at most
pub record Between (s : Table) (p fits late : ℕ) : Type 0 where
  pub accepted : misses (grown s p fits) ≡ false
  pub missed : misses (grown s p late) ≡ true
  pub apart : fits < late
  pub near : (task s p).length + late ≤ suc (task s p).deadline

module _ (s : Table) (ok : AllValid s) (e : has_slack s ≡ true) (p : ℕ) (l : p < length s.tasks) (short : (task s p).deadline ≤ most_time) where
  -- the table is accepted, so C is within the deadline
  pub length-short : (task s p).length ≤ (task s p).deadline
  length-short = within-deadline s ((gives-exact s ok).0 e).0 p l

  -- from no growth, and from one tick past the deadline
  pub between_start : Between s p 0 ((task s p).deadline - (task s p).length + 1)
  between_start = record {
    accepted = none-fits s ok p l ((gives-exact s ok).0 e).0 short;
    missed = past-deadline s ok p l ((task s p).deadline - (task s p).length + 1) (omega (arith, length-short));
    apart = omega arith;
    near = omega (arith, length-short);
  }

  -- to the slack
  pub between-end : (fits late : ℕ) → Between s p fits late → late ≤ fits + 1 → fits ≡ slack s p
  between-end fits late b h =
      slack-found s ok p l ((gives-exact s ok).0 e).0 short ((gives-exact s ok).0 e).1 fits b.accepted
      (subst (λ (n : ℕ). misses (grown s p n) ≡ true) (omega (arith, b.apart)) b.missed)
