-- A withdrawal, of a position (request 106) or of several together (request 113), at any time (scope: withdraw; the field: task removal). A job released before
-- the present tick goes on; one released in this tick, and all later ones, are empty (`empty_at`).
use Rattle.std.specs.Prelude.{◌≡◌, ◌↔◌, Bool, cond, List, [], ◌∷◌, ℕ, suc, drop, length, replicate}
use Rattle.model.specs.Advance as entries
use Rattle.model.specs.Refusals as answers
use Rattle.model.specs.WithdrawSet.{Enumerates, SetBelow}
use Rattle.table.specs.Numbers.{FirstOf, NoneOf}
use Rattle.run.specs.declared.Run.{Run}
use Rattle.run.specs.Answer.{Answer}
use Rattle.run.specs.Answer.{Taken, Refused}
use Rattle.run.specs.Advance.{Advanced}
use Rattle.run.specs.Run.{firm_in, withdrawn_in}
use Rattle.run.specs.Answer.{answer_meaning, by_answer}
use Rattle.run.specs.Numbers.{RunOut, WithdrawApplies, NoSuchPosition, PastCount, run_out, unknown_in, past_count}

-- 14, then 21, then 22 where one of its positions is not in the run; else taken. 15 is not tested
unfoldable pub withdraw_answer : Run → Bool → Answer
withdraw_answer r unknown = cond (run_out r) (Refused 14 0) (cond (firm_in r) (cond unknown (Refused 22 0) Taken) (Refused 21 0))

-- the run with position p withdrawn; where refused, the run as given
unfoldable pub withdraw_of : Run → ℕ → Advanced
withdraw_of r p = record {
  answer = withdraw_answer r (unknown_in r p);
  run = by_answer (withdraw_answer r (unknown_in r p)) (withdrawn_in (entries.singleton p) r) r;
}

-- the run with all positions of a set withdrawn; where refused, the run as given
unfoldable pub withdraw_all_of : Run → ℕ → Advanced
withdraw_all_of r x = record {
  answer = withdraw_answer r (past_count r.count x);
  run = by_answer (withdraw_answer r (past_count r.count x)) (withdrawn_in x r) r;
}

-- what a withdrawal of the positions of set x from run r guarantees; `unknown_position` is the statement that one of them is not in the run
pub record WithdrawnOf (r : Run) (unknown : Type 0) (x : ℕ) (a : Advanced) : Type 0 where
  -- refused with n and p exactly if number n applies with position p and no earlier one does; taken exactly if none applies
  pub refused : (n p : ℕ) → (answer_meaning a.answer ≡ answers.refused n p) ↔ FirstOf (WithdrawApplies r unknown) n p
  pub taken : (answer_meaning a.answer ≡ answers.taken) ↔ NoneOf (WithdrawApplies r unknown)
  -- taken: only the withdrawn set changes
  pub on : answer_meaning a.answer ≡ answers.taken → a.run ≡ withdrawn_in x r
  -- refused: the run as given
  pub as-given : (n p : ℕ) → answer_meaning a.answer ≡ answers.refused n p → a.run ≡ r
  -- the run after a taken withdrawal passes 14 again
  pub passes : answer_meaning a.answer ≡ answers.taken → ¬ RunOut a.run
  -- places past the count are as given
  pub past : drop r.count a.run.tasks ≡ drop r.count r.tasks

-- what the withdrawal of position p guarantees
pub record WithdrawOf (r : Run) (p : ℕ) (a : Advanced) : Type 0 where
  -- its value
  pub value : a ≡ withdraw_of r p
  -- and the meaning of it
  pub exact : WithdrawnOf r (NoSuchPosition r p) (entries.singleton p) a

-- SEVERAL TOGETHER

-- the positions of a list of places withdrawn one after another: the run after them ..
unfoldable pub withdraw_each : Run → List ℕ → Run
withdraw_each r [] = r
withdraw_each r (q ∷ qs) = withdraw_each (withdraw_of r (suc q)).run qs

-- .. and the answer to each
unfoldable pub each_answer : Run → List ℕ → List Answer
each_answer r [] = []
each_answer r (q ∷ qs) = (withdraw_of r (suc q)).answer ∷ each_answer (withdraw_of r (suc q)).run qs

-- what the withdrawal of the positions of set x together guarantees
pub record WithdrawAllOf (r : Run) (x : ℕ) (a : Advanced) : Type 0 where
  -- its value
  pub value : a ≡ withdraw_all_of r x
  -- and the meaning of it: 22 where a position of x is past the count
  pub exact : WithdrawnOf r (PastCount r.count x) x a
  -- where all positions are within the count, the run after it is that after single withdrawals, for every list that holds just these, in any order ..
  pub singles : SetBelow r.count x → (qs : List ℕ) → Enumerates x qs → a.run ≡ withdraw_each r qs
  -- .. and each of these has the answer of the set: all are taken where it is
  pub each : SetBelow r.count x → (qs : List ℕ) → Enumerates x qs → each_answer r qs ≡ replicate (length qs) a.answer
  -- where one is past the count none is withdrawn
  pub none : PastCount r.count x → a.run ≡ r
