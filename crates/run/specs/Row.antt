-- The row of a run (scope: row; the field: the schedule at a tick, an allocation; request 105): it shows the present tick with a set of empty jobs, held cores
-- with the holder's position, lent ones with the borrower's (request 109), fenced ones with 255.
use Rattle.std.specs.Prelude.{Result, Ok, Err, ◌≡◌, ◌↔◌, cond, List, ℕ, suc, replicate, ltb}
use Rattle.model.specs.Row.{row}
use Rattle.model.specs.Refusals as model
use Rattle.model.specs.declared.refusal.Refusal.{Refusal}
use Rattle.model.specs.Refusal.{number_of, position_of}
use Rattle.model.specs.Sizes.{most_cores}
use Rattle.table.specs.Numbers.{FirstOf, NoneOf}
use Rattle.run.specs.declared.Run.{Run}
use Rattle.run.specs.Answer.{Answer}
use Rattle.run.specs.Answer.{Taken, Refused}
use Rattle.run.specs.Answer.{Row}
use Rattle.run.specs.Run.{shown_in}
use Rattle.run.specs.Answer.{answer_meaning, by_answer, in64}
use Rattle.run.specs.Numbers.{RowApplies, run_out, first_late_in, wrong_empties_in}

-- 14, then 15 with the lowest late position, then 20; else taken
unfoldable pub row_answer : Run → ℕ → Answer
row_answer r e =
    cond (run_out r) (Refused 14 0)
    (cond (ltb (first_late_in r) r.count) (Refused 15 (suc (first_late_in r)))
    (cond (wrong_empties_in r e) (Refused 20 0) Taken))

-- the row of the present tick in 64 bytes
unfoldable pub bytes_in : Run → ℕ → List ℕ
bytes_in r e = in64 (row r.fence r.cores (shown_in r e))

-- 64 zeros
abbrev pub no_bytes : List ℕ
no_bytes = replicate most_cores 0

-- a row as code returns it: a refusal has no bytes
abbrev pub row_asked : Result (List ℕ) Refusal → Row
row_asked (Ok bytes) = record { answer = Taken; bytes = bytes }
row_asked (Err e) = record { answer = Refused (number_of e) (position_of e); bytes = no_bytes }

-- the row; where refused, all zeros
unfoldable pub row_of : Run → ℕ → Row
row_of r e = record { answer = row_answer r e; bytes = by_answer (row_answer r e) (bytes_in r e) no_bytes }

-- what a row asked of run r with empties e guarantees
pub record RowOf (r : Run) (e : ℕ) (w : Row) : Type 0 where
  -- its value
  pub value : w ≡ row_of r e
  -- refused with n and p exactly if number n applies with position p and no earlier one does; taken exactly if none applies
  pub refused : (n p : ℕ) → (answer_meaning w.answer ≡ model.refused n p) ↔ FirstOf (RowApplies r e) n p
  pub taken : (answer_meaning w.answer ≡ model.taken) ↔ NoneOf (RowApplies r e)
  -- taken: the row
  pub bytes : answer_meaning w.answer ≡ model.taken → w.bytes ≡ bytes_in r e
  -- refused: all zeros
  pub zeros : (n p : ℕ) → answer_meaning w.answer ≡ model.refused n p → w.bytes ≡ no_bytes
