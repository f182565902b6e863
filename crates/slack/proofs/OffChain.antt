-- The words of a record off the chain change no slack.
use mathlib.Core.List.{List}
use mathlib.Core.Path.{◌≡◌, refl}
use Prim.Native.Nat.{ℕ}
use Rattle.table.specs.OffChain.{SameOnChain}
use Rattle.table.proofs.OffChain.{off-chain-by}
use Rattle.slack.specs.Answer.{slack_by, slack_of}

-- two tables that agree on the header and on every record that the walk meets have the same slack
pub off-chain-slack : (ws us : List ℕ) → SameOnChain ws us → slack_of ws ≡ slack_of us
unfolding slack_of
off-chain-slack ws us same = off-chain-by ws us same slack_by (λ n p s t. refl)
