use native.Mathlib.Nat.{mul-le-mul}
use native.Mathlib.Omega.{arith}
use Prim.Native.Nat.{ℕ, ◌*◌, ◌≤◌}
use mathlib.Core.Path.{ap}
use Rattle.judge.specs.Cost.{tick_cost}
use Rattle.judge.proofs.cost.tick_cost.Goals as goal

-- two numbers of 32 digits at most
small : (n l : ℕ) → n ≤ 1000000 → l ≤ 4294967296 → n * l ≤ 4294967296000000
small n l a b = mul-le-mul a b

pub returns : goal.returns
unfolding tick_cost
returns c = let e = c.jobs_of-jobs.ensures in (ap (λ (k : ℕ). k * c.args.task.length) e.0, small _ _ e.1 (omega arith))
