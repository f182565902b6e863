-- The answer to a row of a supplied plan (request 112), in the paper's numbers and values.
use Rattle.std.specs.Prelude.{ℕ, Result, Ok, Err}
use Rattle.model.specs.declared.refusal.Refusal.{Refusal}
use Rattle.model.specs.Refusal.{number_of, position_of}
use Rattle.plan_check.specs.declared.Progress.{Progress}
use Rattle.plan_check.specs.declared.Progress.TheVariants as code
use Rattle.plan_check.specs.declared.SuppliedPlan.{SuppliedPlan}

-- taken; taken as the last, and the plan accepted; or refused with number and tick
pub data Answer : Type 0 where
  Taken Accepted : Answer
  Refused : ℕ → ℕ → Answer

-- the answer, and the next state
pub record Entered : Type 0 where
  pub answer : Answer
  pub plan : SuppliedPlan

-- what a result answers in these words
abbrev pub progress_answer : Progress → Answer
progress_answer code.Taken = Taken
progress_answer code.Accepted = Accepted

abbrev pub answer_in : Result Progress Refusal → Answer
answer_in (Ok p) = progress_answer p
answer_in (Err e) = Refused (number_of e) (position_of e)

-- what the result of a row taken from state w is in these words: in a refusal the state as given
abbrev pub entered_in : SuppliedPlan → Result (Progress × SuppliedPlan) Refusal → Entered
entered_in w (Ok x) = record { answer = progress_answer x.0; plan = x.1 }
entered_in w (Err e) = record { answer = Refused (number_of e) (position_of e); plan = w }

-- taken, or taken as the last and the plan accepted, or refused with number and tick: 24 to 26 have their tick, all else 0.
-- `taken` and `refused` as in the model's `Answer`
pub data RowAnswer : Type 0 where
  taken accepted : RowAnswer
  refused : ℕ → ℕ → RowAnswer

-- the meaning of each case
abbrev pub row_answer_meaning : Answer → RowAnswer
row_answer_meaning Taken = taken
row_answer_meaning Accepted = accepted
row_answer_meaning (Refused n t) = refused n t

-- of two states, the first where the row is taken, the second where it is refused
abbrev pub state_by_answer : Answer → SuppliedPlan → SuppliedPlan → SuppliedPlan
state_by_answer Taken a b = a
state_by_answer Accepted a b = a
state_by_answer (Refused n t) a b = b
