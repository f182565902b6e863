-- The greatest common divisor, from which the least common multiple of the periods is computed (scope, 'Look-ahead and verdict').
use Rattle.std.specs.Prelude.{ℕ}
use Rattle.std.specs.Int.{◌∣◌}

-- g is the greatest common divisor of a and b: it divides both, and every common divisor divides it
pub record Gcd (a b g : ℕ) : Type 0 where
  pub left : g ∣ a
  pub right : g ∣ b
  pub greatest : (d : ℕ) → d ∣ a → d ∣ b → d ∣ g
