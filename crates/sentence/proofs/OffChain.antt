-- The words of a record off the chain change neither the sentence's answer nor the buffer afterwards.
use mathlib.Core.List.{List}
use mathlib.Core.Path.{◌≡◌, refl}
use Prim.Native.Nat.{ℕ}
use lib.ListN.{length}
use Rattle.model.specs.Task.{Table}
use Rattle.table.specs.Answer.{Answer}
use Rattle.table.specs.OffChain.{SameOnChain}
use Rattle.table.proofs.OffChain.{off-chain-by}
use Rattle.sentence.specs.SentenceAnswer.{by_table, left_in, sentence_answer_by, sentence_answer_of, sentence_meaning}
use Rattle.sentence.specs.Waiting.{facts_in, facts_of}

-- two tables that agree on the header and on every record that the walk meets have the same sentence, answer and buffer
pub off-chain-sentence :
    (ws us : List ℕ) → SameOnChain ws us → (old : List ℕ)
    → (sentence_answer_of ws (length old) ≡ sentence_answer_of us (length old))
    × (left_in (sentence_meaning (sentence_answer_of ws (length old))) (facts_of ws) old ≡ left_in (sentence_meaning (sentence_answer_of us (length old))) (facts_of us) old)
unfolding sentence_answer_of
off-chain-sentence ws us same old = (
  off-chain-by ws us same (λ (a : Answer) (s : Table). sentence_answer_by a (by_table s (length old))) (λ n p s t. refl),
  off-chain-by ws us same (λ (a : Answer) (s : Table). left_in (sentence_meaning (sentence_answer_by a (by_table s (length old)))) (facts_in s) old) (λ n p s t. refl),
)
