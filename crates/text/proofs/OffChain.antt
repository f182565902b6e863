-- The words of a record off the chain change nothing of what the program prints.
use mathlib.Core.List.{List}
use mathlib.Core.Path.{◌≡◌, refl, sym, ap, ◌∙◌}
use Prim.Native.Nat.{ℕ}
use Rattle.table.specs.OffChain.{SameOnChain}
use Rattle.table.proofs.OffChain.{off-chain-by}
use Rattle.text.specs.Format.{read_words, words_of}
use Rattle.text.specs.Output.{output, output_of, printed_by}

-- two texts whose tables agree on the header and on every record that the walk meets have the same output
pub off-chain-output :
    (bs cs ws us : List ℕ) → words_of bs ≡ read_words ws → words_of cs ≡ read_words us → SameOnChain ws us → output bs ≡ output cs
unfolding output
off-chain-output bs cs ws us b c same = ap output_of b ∙ off-chain-by ws us same printed_by (λ n p s t. refl) ∙ sym (ap output_of c)
