-- The words of a record off the chain change no start, neither its answer nor its run.
use mathlib.Core.List.{List}
use mathlib.Core.Path.{◌≡◌, refl, ap, ◌∙◌}
use Prim.Native.Nat.{ℕ}
use native.Mathlib.Omega.{arith}
use Rattle.model.specs.Task.{Table}
use Rattle.table.specs.Answer.{Answer}
use Rattle.table.specs.OffChain.{SameOnChain}
use Rattle.table.specs.Words.{rule}
use Rattle.table.proofs.OffChain.{off-chain-by}
use Rattle.judge.specs.JudgeAnswer.{verdict_case}
use Rattle.judge.specs.Judged.{judged_by, verdict_of}
use Rattle.table.specs.Answer.{answer_of}
use Rattle.table.specs.Words.{table_of}
use Rattle.run.specs.Start.{Started}
use Rattle.run.specs.Answer.{by_answer}
use Rattle.run.specs.Start.{started_run, empty_run, by_verdict, start_answer, start_of}

-- a start by the rule's number, the table's answer and the table
abbrev start_by : ℕ → Answer → Table → Started
start_by n a s = record {
  answer = by_verdict (verdict_case (judged_by a s));
  run = by_answer (by_verdict (verdict_case (judged_by a s))) (started_run n s) empty_run;
}

-- two tables that agree on the header and on every record that the walk meets have the same start
pub off-chain-start : (ws us : List ℕ) → SameOnChain ws us → start_of ws ≡ start_of us
unfolding start_of start_answer verdict_of
off-chain-start ws us same =
    ap (λ (n : ℕ). start_by n (answer_of ws) (table_of ws)) (same.header 2 (omega arith)) ∙ off-chain-by ws us same (start_by (rule us)) (λ n p s t. refl)
