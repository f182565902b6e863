-- The words of a record off the chain change no verdict.
use mathlib.Core.List.{List}
use mathlib.Core.Path.{◌≡◌, refl}
use Prim.Native.Nat.{ℕ}
use Rattle.model.specs.Task.{Table}
use Rattle.table.specs.Answer.{Answer}
use Rattle.table.specs.OffChain.{SameOnChain}
use Rattle.table.proofs.OffChain.{off-chain-by}
use Rattle.judge.specs.JudgeAnswer.{verdict_case}
use Rattle.judge.specs.Judged.{judged_by, verdict_of}

-- two tables that agree on the header and on every record that the walk meets have the same verdict
pub off-chain-verdict : (ws us : List ℕ) → SameOnChain ws us → verdict_of ws ≡ verdict_of us
unfolding verdict_of
off-chain-verdict ws us same = off-chain-by ws us same (λ (a : Answer) (s : Table). verdict_case (judged_by a s)) (λ n p s t. refl)
