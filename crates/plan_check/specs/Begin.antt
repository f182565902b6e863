-- The beginning of a supplied plan, for any table that passes 9, with any verdict (request 112).
use Rattle.std.specs.Prelude.{Result, Ok, Err, List, ◌↔◌, ◌≡◌, ℕ}
use Rattle.model.specs.Refusals as book
use Rattle.table.specs.Answer.{Answer}
use Rattle.table.specs.Answer.{Passed, Refused}
use Rattle.table.specs.Answer.{answer_of}
use Rattle.table.specs.Load.{load_meaning}
use Rattle.table.specs.Numbers.{First, NoneApplies}
use Rattle.table.specs.Words.{rule, table_of}
use Rattle.run.specs.Start.{empty_run, started_run}
use Rattle.model.specs.declared.refusal.Refusal.{Refusal}
use Rattle.model.specs.Refusal.{number_of, position_of}
use Rattle.plan_check.specs.declared.SuppliedPlan.{SuppliedPlan}
use Rattle.plan_check.specs.Numbers.{StateOut}
use Rattle.plan_check.specs.State.{state_at, blank}

-- the table of the words as a run starts, at tick 0: where the last S is 0 its phases are recorded at once
abbrev pub first_state : List ℕ → SuppliedPlan
first_state ws = state_at (started_run (rule ws) (table_of ws)) 0 blank

-- all zeros and Resting(0), which 14 turns down
abbrev pub empty_state : SuppliedPlan
empty_state = record { run = empty_run; tick = 0; noted = blank }

-- the table's answer, and the state
pub record Begun : Type 0 where
  pub answer : Answer
  pub plan : SuppliedPlan

-- as code returns it: all zeros in a refusal
abbrev pub beginning : Result SuppliedPlan Refusal → Begun
beginning (Ok w) = record { answer = Passed; plan = w }
beginning (Err e) = record { answer = Refused (number_of e) (position_of e); plan = empty_state }

-- by the table's answer
abbrev pub begun_by : Answer → SuppliedPlan → Begun
begun_by Passed w = record { answer = Passed; plan = w }
begun_by (Refused n p) w = record { answer = Refused n p; plan = empty_state }

-- 1 to 9 and 19; else the state at tick 0
unfoldable pub begin_of : List ℕ → Begun
begin_of ws = begun_by (answer_of ws) (first_state ws)

-- the contract of a beginning from the words
pub record BeginOf (ws : List ℕ) (b : Begun) : Type 0 where
  -- its value
  pub value : b ≡ begin_of ws
  -- refused with n and p exactly if number n applies with position p and no earlier one does; begun exactly if none applies
  pub refused : (n p : ℕ) → (load_meaning b.answer ≡ book.refused n p) ↔ First ws n p
  pub passed : (load_meaning b.answer ≡ book.taken) ↔ NoneApplies ws
  -- begun: the state at tick 0
  pub begun : load_meaning b.answer ≡ book.taken → b.plan ≡ first_state ws
  -- refused: all zeros
  pub zeros : (n p : ℕ) → load_meaning b.answer ≡ book.refused n p → b.plan ≡ empty_state
  -- a state that begins passes 14; the state of all zeros does not
  pub passes : load_meaning b.answer ≡ book.taken → ¬ StateOut b.plan.run
  pub out : (n p : ℕ) → load_meaning b.answer ≡ book.refused n p → StateOut b.plan.run
