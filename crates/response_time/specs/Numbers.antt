-- Numbers for what `response_times` turns down: the table's, then 13 (request 107); when each applies, and which is the first.
use Rattle.std.specs.Prelude.{List, ◌≡◌, ℕ}
use Rattle.model.specs.Verdict as verdict
use Rattle.table.specs.Numbers.{FirstOf, NoneOf}
use Rattle.table.specs.Numbers as table
use Rattle.judge.specs.JudgeAnswer.{judged, verdict_meaning}
use Rattle.judge.specs.Judged.{verdict_of}

-- number n applies to the words, with position p. As in table/specs/Numbers: `Applies`, `First`, `NoneApplies`
pub data Applies (ws : List ℕ) : ℕ → ℕ → Type 0 where
  -- those of the table
  words : (n p : ℕ) → table.Applies ws n p → Applies ws n p
  -- 13. The verdict is Miss, after 9.
  thirteen : (t p : ℕ) → verdict_meaning (verdict_of ws) ≡ judged (verdict.Miss t p) → Applies ws 13 0

-- number n is the first that applies, with position p
abbrev pub First : List ℕ → ℕ → ℕ → Type 0
First ws n p = FirstOf (Applies ws) n p

-- no number applies
abbrev pub NoneApplies : List ℕ → Type 0
NoneApplies ws = NoneOf (Applies ws)
