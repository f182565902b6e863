-- An advance (scope: advance; the field: a step of one tick with its reports; request 105): a run, a set of reports (the field: early completions) and a set of
-- empty jobs, bit 0 for position 1, give the run one tick on.
use Rattle.std.specs.Prelude.{Result, Ok, Err, ◌≡◌, ◌↔◌, cond, ℕ, suc, drop, ltb}
use Rattle.model.specs.Search.{bit}
use Rattle.model.specs.Refusals as model
use Rattle.model.specs.declared.refusal.Refusal.{Refusal}
use Rattle.model.specs.Refusal.{number_of, position_of}
use Rattle.table.specs.Numbers.{FirstOf, NoneOf}
use Rattle.run.specs.declared.Run.{Run}
use Rattle.run.specs.Answer.{Answer}
use Rattle.run.specs.Answer.{Taken, Refused}
use Rattle.run.specs.Run.{moved}
use Rattle.run.specs.Answer.{answer_meaning, by_answer}
use Rattle.run.specs.Numbers.{RunOut, AdvanceApplies, run_out, first_late_in, wrong_empties_in, wrong_reports_in}

-- the result of an advance or a withdrawal: the answer, and the next run
pub record Advanced : Type 0 where
  pub answer : Answer
  pub run : Run

-- as code returns it: a refusal leaves the run as given
abbrev pub advanced : Run → Result Run Refusal → Advanced
advanced r (Ok next) = record { answer = Taken; run = next }
advanced r (Err e) = record { answer = Refused (number_of e) (position_of e); run = r }

-- 14, then 15 with the lowest late position, then 20, then 16; else taken
unfoldable pub advance_answer : Run → ℕ → ℕ → Answer
advance_answer r x e =
    cond (run_out r) (Refused 14 0)
    (cond (ltb (first_late_in r) r.count) (Refused 15 (suc (first_late_in r)))
    (cond (wrong_empties_in r e) (Refused 20 0)
    (cond (wrong_reports_in r e x) (Refused 16 0) Taken)))

-- the run one tick on; where refused, the run as given
unfoldable pub advance_of : Run → ℕ → ℕ → Advanced
advance_of r x e = record { answer = advance_answer r x e; run = by_answer (advance_answer r x e) (moved (bit x) e r) r }

-- what an advance of run r with reports x and empties e guarantees
pub record AdvanceOf (r : Run) (x e : ℕ) (a : Advanced) : Type 0 where
  -- its value
  pub value : a ≡ advance_of r x e
  -- refused with n and p exactly if number n applies with position p and no earlier one does; taken exactly if none applies
  pub refused : (n p : ℕ) → (answer_meaning a.answer ≡ model.refused n p) ↔ FirstOf (AdvanceApplies r x e) n p
  pub taken : (answer_meaning a.answer ≡ model.taken) ↔ NoneOf (AdvanceApplies r x e)
  -- taken: the run one tick on
  pub on : answer_meaning a.answer ≡ model.taken → a.run ≡ moved (bit x) e r
  -- refused: the run as given
  pub as-given : (n p : ℕ) → answer_meaning a.answer ≡ model.refused n p → a.run ≡ r
  -- the run after a taken advance passes 14 again
  pub passes : answer_meaning a.answer ≡ model.taken → ¬ RunOut a.run
  -- places past the count are as given
  pub past : drop r.count a.run.tasks ≡ drop r.count r.tasks
