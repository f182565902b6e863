-- Numbers for what `conflict` turns down: the table's, then 17 (request 110); when each applies, and which is the first.
use Rattle.std.specs.Prelude.{List, ℕ}
use Rattle.model.specs.Lists.{NeverMissed}
use Rattle.table.specs.Numbers.{FirstOf, NoneOf}
use Rattle.table.specs.Numbers as table
use Rattle.table.specs.Words.{table_of}

-- number n applies to the words, with position p. As in table/specs/Numbers: `Applies`, `First`, `NoneApplies`
pub data Applies (ws : List ℕ) : ℕ → ℕ → Type 0 where
  -- those of the table
  words : (n p : ℕ) → table.Applies ws n p → Applies ws n p
  -- 17. The table has no miss, after 9.
  seventeen : NeverMissed (table_of ws) → Applies ws 17 0

-- number n is the first that applies, with position p
abbrev pub First : List ℕ → ℕ → ℕ → Type 0
First ws n p = FirstOf (Applies ws) n p

-- no number applies
abbrev pub NoneApplies : List ℕ → Type 0
NoneApplies ws = NoneOf (Applies ws)
