-- The answers to a call: what is taken is not refused.
use mathlib.Core.Path.{◌≡◌}
use Prim.Native.Nat.{ℕ}
use native.Mathlib.Omega.{arith}
use Rattle.model.specs.Refusals.{refused, taken}

pub taken_refused : {n p : ℕ} → taken ≡ refused n p → ⊥
taken_refused e = let z : ◌≡◌ {A = ℕ} 0 1 = cc in omega arith
