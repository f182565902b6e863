-- The buffer after bytes are written into it.
use Rattle.std.specs.Prelude.{List, ◌++◌, ◌≡◌, ℕ, ◌+◌, length, take, drop}

-- the buffer with the bytes s from place i on; all else is as it was
abbrev pub written : List ℕ → ℕ → List ℕ → List ℕ
written buffer i s = take i buffer ++ (s ++ drop (i + length s) buffer)

-- the bytes s were written into the buffer from place i on, and end at the place that is returned
pub record Put (before : List ℕ) (i : ℕ) (s after : List ℕ) (end : ℕ) : Type 0 where
  pub bytes : after ≡ written before i s
  pub ends : end ≡ i + length s
