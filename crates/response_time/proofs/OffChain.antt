-- The words of a record off the chain change no response time.
use mathlib.Core.List.{List}
use mathlib.Core.Path.{◌≡◌, refl}
use Prim.Native.Nat.{ℕ}
use Rattle.model.specs.Task.{Table}
use Rattle.table.specs.Answer.{Answer}
use Rattle.table.specs.OffChain.{SameOnChain}
use Rattle.table.proofs.OffChain.{off-chain-by}
use Rattle.judge.specs.JudgeAnswer.{verdict_case}
use Rattle.judge.specs.Judged.{judged_by, verdict_of}
use Rattle.response_time.specs.ResponseTimes.{response_times_by, response_times_in, response_times_of}

-- two tables that agree on the header and on every record that the walk meets have the same response times
pub off-chain-response-times : (ws us : List ℕ) → SameOnChain ws us → response_times_of ws ≡ response_times_of us
unfolding response_times_of verdict_of
off-chain-response-times ws us same =
    off-chain-by ws us same (λ (a : Answer) (s : Table). response_times_by (verdict_case (judged_by a s)) (response_times_in s)) (λ n p s t. refl)
