-- Numbers for what the sentence turns down: the table's, 17 and 18 (request 'the miss in a sentence'); when each applies, and which is the first.
use Rattle.std.specs.Prelude.{List, ℕ, ◌<◌, length}
use Rattle.model.specs.Lists.{NeverMissed}
use Rattle.table.specs.Words.{table_of}
use Rattle.table.specs.Numbers.{FirstOf, NoneOf}
use Rattle.table.specs.Numbers as table
use Rattle.sentence.specs.Sentence.{sentence_text}
use Rattle.sentence.specs.Waiting.{facts_of}

-- number n applies, with position p, to the words and a buffer of this number of bytes. As in table/specs/Numbers: `Applies`, `First`, `NoneApplies`
pub data Applies (ws : List ℕ) (bytes : ℕ) : ℕ → ℕ → Type 0 where
  -- those of the table
  words : (n p : ℕ) → table.Applies ws n p → Applies ws bytes n p
  -- 17. The table has no miss, after 9.
  seventeen : NeverMissed (table_of ws) → Applies ws bytes 17 0
  -- 18. The buffer is shorter than the sentence, after 17.
  eighteen : bytes < length (sentence_text (facts_of ws)) → Applies ws bytes 18 0

-- number n is the first that applies, with position p
abbrev pub First : List ℕ → ℕ → ℕ → ℕ → Type 0
First ws bytes n p = FirstOf (Applies ws bytes) n p

-- no number applies
abbrev pub NoneApplies : List ℕ → ℕ → Type 0
NoneApplies ws bytes = NoneOf (Applies ws bytes)
