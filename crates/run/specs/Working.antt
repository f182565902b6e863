-- The positions that work in a run's present tick (issue 47): those whose job has cores, its own or lent ones, and is Working, so that a report bit is
-- admitted for them. Sets do not tell them from positions that hold cores.
use Rattle.std.specs.Prelude.{Result, Ok, Err, ◌≡◌, true, [], ◌∷◌, ◌↔◌, ℕ}
use Rattle.model.specs.Refusals as model
use Rattle.model.specs.declared.refusal.Refusal.{Refusal}
use Rattle.model.specs.Refusal.{number_of, position_of}
use Rattle.model.specs.Search.{bit}
use Rattle.model.specs.Working.{set_where}
use Rattle.table.specs.Numbers.{FirstOf, NoneOf}
use Rattle.run.specs.declared.Run.{Run}
use Rattle.run.specs.Advance.{advance_of}
use Rattle.run.specs.Answer.{Answer, Taken, Refused, answer_meaning, by_answer, shown_by}
use Rattle.run.specs.Numbers.{RowApplies, reportable_at}
use Rattle.run.specs.Row.{row_answer}

-- the result of asking who works: the answer, and the set of the positions that do, bit 0 for position 1
pub record WorkingPositions : Type 0 where
  pub answer : Answer
  pub set : ℕ

-- as code returns it: a refusal has the empty set
abbrev pub working_asked : Result ℕ Refusal → WorkingPositions
working_asked (Ok set) = record { answer = Taken; set = set }
working_asked (Err e) = record { answer = Refused (number_of e) (position_of e); set = 0 }

-- the set of the places below the count whose task may be reported
abbrev pub working_in : Run → ℕ → ℕ
working_in r e = set_where r.count (reportable_at r e)

-- this set; where refused, the empty one. It has the numbers of a row
unfoldable pub working_of : Run → ℕ → WorkingPositions
working_of r e = record { answer = row_answer r e; set = by_answer (row_answer r e) (working_in r e) 0 }

-- its meaning: the set alone, or the refusal
abbrev pub working_meaning : WorkingPositions → model.Asked
working_meaning w = shown_by w.answer (w.set ∷ [])

-- what asking run r with empties e who works guarantees
pub record WorkingOf (r : Run) (e : ℕ) (w : WorkingPositions) : Type 0 where
  -- its value
  pub value : w ≡ working_of r e
  -- refused with n and p exactly if number n applies with position p and no earlier one does; taken exactly if none applies
  pub refused : (n p : ℕ) → (answer_meaning w.answer ≡ model.refused n p) ↔ FirstOf (RowApplies r e) n p
  pub taken : (answer_meaning w.answer ≡ model.taken) ↔ NoneOf (RowApplies r e)
  -- taken: a place is in the set exactly if its task is Working, and is given or borrows cores
  pub each : answer_meaning w.answer ≡ model.taken → (p : ℕ) → bit w.set p ≡ reportable_at r e p
  -- refused: the empty set
  pub empty : (n p : ℕ) → answer_meaning w.answer ≡ model.refused n p → w.set ≡ 0
  -- taken: an advance with the same empties is taken exactly if all its reports are in the set
  pub reports :
      answer_meaning w.answer ≡ model.taken → (x : ℕ)
      → (answer_meaning (advance_of r x e).answer ≡ model.taken) ↔ ((p : ℕ) → bit x p ≡ true → bit w.set p ≡ true)
