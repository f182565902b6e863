-- Number 14 of a state: the tests in the order in which code tests, and how many tasks a run that passes has.
use mathlib.Core.Bool.{false, true}
use mathlib.Core.Path.{◌≡◌}
use Prim.Native.Nat.{◌≤◌}
use borrow.Author.Tests.{eq-eqb, ne_eqb}
use Rattle.model.specs.Search.{any}
use Rattle.model.specs.Sizes.{most_tasks}
use Rattle.run.proofs.Limits.{passes-runs}
use Rattle.run.proofs.RunOut as run_tests
use Rattle.run.specs.Numbers.{run_out}
use Rattle.run.specs.Run.{phase_at}
use Rattle.run.specs.declared.Run.{Run}
use Rattle.plan_check.specs.Numbers.{unreachable_phase, state_out}
use Rattle.plan_check.proofs.Passing.{state-if}

module _ (r : Run) where
  pub out-run : run_out r ≡ true → state_out r ≡ true
  unfolding state_out
  out-run e = rw e

  pub out-withdrawn : run_out r ≡ false → ¬ (r.withdrawn ≡ 0) → state_out r ≡ true
  unfolding state_out
  out-withdrawn e w = rw (e, ne_eqb r.withdrawn 0 w)

  pub out-unreachable : run_out r ≡ false → r.withdrawn ≡ 0 → state_out r ≡ any r.count (λ p. unreachable_phase (phase_at r p))
  unfolding state_out
  out-unreachable e w = rw (e, eq-eqb r.withdrawn 0 w)

  pub passes-run : state_out r ≡ false → run_out r ≡ false
  passes-run e = passes-runs r (state-if r e).run

  pub few : state_out r ≡ false → r.count ≤ most_tasks
  few e = run_tests.few r (passes-run e)
