-- The words of a record off the chain change no beginning of a supplied plan, neither its answer nor its state.
use mathlib.Core.List.{List}
use mathlib.Core.Path.{◌≡◌, refl, ap, ◌∙◌}
use Prim.Native.Nat.{ℕ}
use native.Mathlib.Omega.{arith}
use Rattle.model.specs.Task.{Table}
use Rattle.table.specs.Answer.{Answer}
use Rattle.table.specs.Answer.{answer_of}
use Rattle.table.specs.OffChain.{SameOnChain}
use Rattle.table.specs.Words.{rule, table_of}
use Rattle.table.proofs.OffChain.{off-chain-by}
use Rattle.run.specs.Start.{started_run}
use Rattle.plan_check.specs.Begin.{Begun}
use Rattle.plan_check.specs.Begin.{begin_of, begun_by}
use Rattle.plan_check.specs.State.{blank, state_at}

-- a beginning by the rule's number, the table's answer and the table
abbrev begin_by : ℕ → Answer → Table → Begun
begin_by n a s = begun_by a (state_at (started_run n s) 0 blank)

-- two tables that agree on the header and on every record that the walk meets have the same beginning
pub off-chain-begin : (ws us : List ℕ) → SameOnChain ws us → begin_of ws ≡ begin_of us
unfolding begin_of
off-chain-begin ws us same =
    ap (λ (n : ℕ). begin_by n (answer_of ws) (table_of ws)) (same.header 2 (omega arith)) ∙ off-chain-by ws us same (begin_by (rule us)) (λ n p s t. refl)
