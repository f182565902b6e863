-- The words of a record off the chain change no replay, neither its answer nor what it writes.
use mathlib.Core.List.{List}
use mathlib.Core.Path.{◌≡◌, ap}
use Prim.Native.Nat.{ℕ}
use Rattle.table.specs.OffChain.{SameOnChain}
use Rattle.run.specs.Start.{Started}
use Rattle.run.proofs.OffChain.{off-chain-start}
use Rattle.refinement.specs.Replay.{by_start, replay_of, replayed_run}

-- two tables that agree on the header and on every record that the walk meets have the same replay
pub off-chain-replay :
    (ws us : List ℕ) → SameOnChain ws us → (es numbers bytes : List ℕ) → replay_of ws es numbers bytes ≡ replay_of us es numbers bytes
unfolding replay_of
off-chain-replay ws us same es numbers bytes =
    ap (λ (s : Started). by_start s.answer (replayed_run s.run es numbers bytes) numbers bytes) (off-chain-start ws us same)
