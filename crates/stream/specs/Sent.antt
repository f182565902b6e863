-- The number of bytes passed to writes that took them.
use Rattle.std.specs.Prelude.{Bool, true, false, Result, Ok, Err, List, [], ◌∷◌, ◌++◌, ◌≡◌, ℕ, ◌+◌, ◌<◌, min, length}
use Prim.Native.Char.{code}
use Prim.Native.String.{String}
use Rattle.stream.specs.declared.Cut.{Cut}

-- the number of bytes that writes have taken, and whether they took all that they were last passed
pub record Sent : Type 0 where
  pub count : ℕ
  pub whole : Bool

-- as code returns it
abbrev pub sent_of : Result ℕ Cut → Sent
sent_of (Ok n) = record { count = n; whole = true }
sent_of (Err e) = record { count = e.0; whole = false }

-- a count that stops at the largest number that it can be
abbrev pub saturated : ℕ → ℕ
saturated n = min n 18446744073709551615

-- the bytes of a text of plain letters; as `letters` in text/specs/Output
abbrev letters : String → List ℕ
letters String.[] = []
letters (String.◌∷◌ c s) = code c ∷ letters s

-- what the program of this name writes to standard error where its input could not be read
abbrev pub unread_by : List ℕ → List ℕ
unread_by name = name ++ letters ": standard input could not be read\n"

-- after n bytes these were passed to writes: they took all of them; or they took a number of them, and not the rest
pub record SentOf (n : ℕ) (bytes : List ℕ) (r : Sent) : Type 0 where
  pub all : r.whole ≡ true → r.count ≡ saturated (n + length bytes)
  pub part : r.whole ≡ false → (k : ℕ) × (k < length bytes) × (r.count ≡ saturated (n + k))
