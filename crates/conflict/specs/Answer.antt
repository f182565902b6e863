-- The answer of `conflict`, and its contract (request 110).
use Rattle.std.specs.Prelude.{Result, Ok, Err, false, List, ◌↔◌, ◌≡◌, ℕ, ◌<◌, ◌≤◌, length}
use Rattle.model.specs.Refusals as book
use Rattle.model.specs.Search.{bit}
use Rattle.table.specs.Answer as table
use Rattle.table.specs.Load.{load_meaning}
use Rattle.table.specs.Numbers as table-numbers
use Rattle.table.specs.Words.{table_of}
use Rattle.judge.specs.declared.Verdict.{Verdict}
use Rattle.judge.specs.declared.Verdict.TheVariants.{Firm, Full, Miss, Refused}
use Rattle.judge.specs.Judged.{verdict_of}
use Rattle.model.specs.declared.refusal.Refusal.{Refusal}
use Rattle.model.specs.Refusal.{number_of, position_of}
use Rattle.conflict.specs.Conflict.{conflict_set, Minimal}
use Rattle.conflict.specs.Numbers.{First, NoneApplies}
use Rattle.conflict.specs.SubTable.{sub_table}
use Rattle.conflict.specs.Relinked.{relinked}

-- the answer, and the set of positions kept, bit 0 for position 1
pub record ConflictAnswer : Type 0 where
  pub answer : table.Answer
  pub kept : ℕ

-- the set of positions kept is given; or it is turned down with number and position, and the set is empty
abbrev pub given_conflict : ℕ → ConflictAnswer
given_conflict x = record { answer = table.Passed; kept = x }

abbrev pub no_conflict : ℕ → ℕ → ConflictAnswer
no_conflict n p = record { answer = table.Refused n p; kept = 0 }

-- as code returns it
abbrev pub answered : Result ℕ Refusal → ConflictAnswer
answered (Ok x) = given_conflict x
answered (Err e) = no_conflict (number_of e) (position_of e)

-- by the judge's verdict: given for a miss, 17 where there is none, and the table's numbers unchanged
abbrev pub conflict_by : Verdict → ℕ → ConflictAnswer
conflict_by (Firm a b) x = no_conflict 17 0
conflict_by (Full a b) x = no_conflict 17 0
conflict_by (Miss t p) x = given_conflict x
conflict_by (Refused n p) x = no_conflict n p

-- the answer of `conflict` to the words
unfoldable pub conflict_of : List ℕ → ConflictAnswer
conflict_of ws = conflict_by (verdict_of ws) (conflict_set (table_of ws))

-- the contract of the answer r to the words
pub record ConflictOf (ws : List ℕ) (r : ConflictAnswer) : Type 0 where
  -- its value: what the passes leave
  pub value : r ≡ conflict_of ws
  -- refused with n and p exactly if n is the first number that applies, at p; given exactly if none applies
  pub refused : (n p : ℕ) → (load_meaning r.answer ≡ book.refused n p) ↔ First ws n p
  pub passed : (load_meaning r.answer ≡ book.taken) ↔ NoneApplies ws
  -- given: the tasks kept miss a deadline, and without any one of them the others never do, at any tick
  pub minimal : load_meaning r.answer ≡ book.taken → Minimal (table_of ws) r.kept
  -- and the words of every part that is not empty, the chain linked over the other records, represent that part and pass all of the table's numbers
  pub words :
      load_meaning r.answer ≡ book.taken → (x : ℕ) → 0 < length (sub_table (table_of ws) x).tasks
      → table-numbers.NoneApplies (relinked ws x) × (table_of (relinked ws x) ≡ sub_table (table_of ws) x)
  -- no position past the count is kept, and in a refusal none at all
  pub past : (p : ℕ) → length (table_of ws).tasks ≤ p → bit r.kept p ≡ false
  pub zeros : (n p : ℕ) → load_meaning r.answer ≡ book.refused n p → r.kept ≡ 0
