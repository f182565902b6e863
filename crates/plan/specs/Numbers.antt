-- The table's numbers, and 10 to 12, for what the plan turns down (scope, 'Numbers for what is turned down'): when each applies, and which is the first.
use Rattle.std.specs.Prelude.{List, ◌⊎◌, ℕ, ◌-◌, ◌*◌, ◌<◌}
use Rattle.model.specs.Task.{Table}
use Rattle.model.specs.Horizon.{horizon}
use Rattle.model.specs.Verdict.{FirstMiss}
use Rattle.table.specs.Words.{table_of}
use Rattle.table.specs.Numbers.{FirstOf, NoneOf}
use Rattle.table.specs.Numbers as table

-- a is above b, or b is above the horizon
abbrev pub RangeOut : Table → ℕ → ℕ → Type 0
RangeOut s a b = (b < a) ⊎ (horizon s < b)

-- a lent buffer of this number of bytes has fewer than (b − a) × cores
abbrev pub BufferShort : Table → ℕ → ℕ → ℕ → Type 0
BufferShort s a b bytes = bytes < (b - a) * s.cores

-- b is above the tick of the first miss
abbrev pub MissBefore : Table → ℕ → Type 0
MissBefore s b = (t : ℕ) × (p : ℕ) × FirstMiss s t p × (t < b)

-- number n applies, with position p, to the words, a, b and a buffer of this number of bytes. As in table/specs/Numbers: `Applies`, `First`, `NoneApplies`
pub data Applies (ws : List ℕ) (a b bytes : ℕ) : ℕ → ℕ → Type 0 where
  -- those of the table
  words : (n p : ℕ) → table.Applies ws n p → Applies ws a b bytes n p
  -- 10. Plan: a is above b, or b is above the horizon.
  ten : RangeOut (table_of ws) a b → Applies ws a b bytes 10 0
  -- 11. Plan: the lent buffer has fewer bytes than (b−a) × cores.
  eleven : BufferShort (table_of ws) a b bytes → Applies ws a b bytes 11 0
  -- 12. Plan: b is above the tick of the first miss.
  twelve : MissBefore (table_of ws) b → Applies ws a b bytes 12 0

-- number n is the first that applies, with position p
abbrev pub First : List ℕ → ℕ → ℕ → ℕ → ℕ → ℕ → Type 0
First ws a b bytes n p = FirstOf (Applies ws a b bytes) n p

-- no number applies
abbrev pub NoneApplies : List ℕ → ℕ → ℕ → ℕ → Type 0
NoneApplies ws a b bytes = NoneOf (Applies ws a b bytes)
