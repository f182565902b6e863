-- The words of a record off the chain change neither the plan's answer nor the buffer afterwards.
use mathlib.Core.List.{List}
use mathlib.Core.Path.{◌≡◌, refl}
use Prim.Native.Nat.{ℕ}
use lib.ListN.{length}
use Rattle.model.specs.Task.{Table}
use Rattle.table.specs.Answer.{Answer}
use Rattle.table.specs.OffChain.{SameOnChain}
use Rattle.table.specs.Words.{table_of}
use Rattle.table.proofs.OffChain.{off-chain-by}
use Rattle.plan.specs.Plan.{by_plan, planned_by, planned_of, plan_meaning, buffer_of}

-- two tables that agree on the header and on every record that the walk meets have the same plan, answer and buffer
pub off-chain-plan :
    (ws us : List ℕ) → SameOnChain ws us → (a b : ℕ) (old : List ℕ)
    → (planned_of ws a b (length old) ≡ planned_of us a b (length old))
    × (buffer_of (plan_meaning (planned_of ws a b (length old))) (table_of ws) a b old ≡ buffer_of (plan_meaning (planned_of us a b (length old))) (table_of us) a b old)
unfolding planned_of
off-chain-plan ws us same a b old = (
  off-chain-by ws us same (λ (x : Answer) (s : Table). planned_by x (by_plan s a b (length old))) (λ n p s t. refl),
  off-chain-by ws us same (λ (x : Answer) (s : Table). buffer_of (plan_meaning (planned_by x (by_plan s a b (length old)))) s a b old) (λ n p s t. refl),
)
