-- The words of a record off the chain change no bound.
use mathlib.Core.List.{List}
use mathlib.Core.Path.{◌≡◌, refl}
use Prim.Native.Nat.{ℕ}
use Rattle.table.specs.OffChain.{SameOnChain}
use Rattle.table.proofs.OffChain.{off-chain-by}
use Rattle.interference.specs.Bounds.{bounds_by, bounds_of}

-- two tables that agree on the header and on every record that the walk meets have the same bounds
pub off-chain-bounds : (ws us : List ℕ) → SameOnChain ws us → bounds_of ws ≡ bounds_of us
unfolding bounds_of
off-chain-bounds ws us same = off-chain-by ws us same bounds_by (λ n p s t. refl)
