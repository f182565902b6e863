-- The words of a record off the chain change no conflict.
use mathlib.Core.List.{List}
use mathlib.Core.Path.{◌≡◌, refl}
use Prim.Native.Nat.{ℕ}
use Rattle.model.specs.Task.{Table}
use Rattle.table.specs.Answer.{Answer}
use Rattle.table.specs.OffChain.{SameOnChain}
use Rattle.table.proofs.OffChain.{off-chain-by}
use Rattle.judge.specs.JudgeAnswer.{verdict_case}
use Rattle.judge.specs.Judged.{judged_by, verdict_of}
use Rattle.conflict.specs.Answer.{conflict_by, conflict_of}
use Rattle.conflict.specs.Conflict.{conflict_set}

-- two tables that agree on the header and on every record that the walk meets have the same tasks in conflict
pub off-chain-conflict : (ws us : List ℕ) → SameOnChain ws us → conflict_of ws ≡ conflict_of us
unfolding conflict_of verdict_of
off-chain-conflict ws us same =
    off-chain-by ws us same (λ (a : Answer) (s : Table). conflict_by (verdict_case (judged_by a s)) (conflict_set s)) (λ n p s t. refl)
