-- The code's arithmetic is `since`, the ticks since the offset, cut off at 0, rounded up to whole periods: what `releases-counted` computes.
use Prim.Native.Nat.{ℕ, ◌+◌, ◌*◌, ◌-◌, ◌/◌}
use mathlib.Core.Path.{ap}
use native.Mathlib.Omega.{arith}
use Rattle.table.proofs.Starts.{since-difference}
use Rattle.table.proofs.start.release_from.Goals as goal

pub returns : goal.returns
returns c =
    let τ = c.args.task in
    ap (λ (ticks : ℕ). τ.offset + (ticks + (τ.period - 1)) / τ.period * τ.period) (since-difference c.args.t τ.offset (omega arith) (omega arith))
