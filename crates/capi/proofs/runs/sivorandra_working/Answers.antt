-- `capi::runs::sivorandra_working`: the set and the answer are written where there is space.
use Rattle.std.proofs.Common.{◌≡◌, refl, ◌≤◌, [], ◌∷◌, arith, drop, length, List, ℕ, Result, Ok, Err, rules}
use Rattle.std.proofs.Math.ListN.{set}
use Rattle.std.specs.Result.{result_unwrap_or}
use Rattle.model.specs.declared.refusal.Refusal.{Refusal}
use Rattle.table.specs.Answer.{answer_in}
use Rattle.run.specs.Working.{working_asked}
use Rattle.buffers.specs.AnswerWords.{of_answer, of_given}
use Rattle.buffers.specs.Encoding.{decode}
use Rattle.buffers.specs.Runs.{working_from}
use Rattle.buffers.proofs.Keeping.{asked-as}
use Rattle.capi.specs.Runs.{working_call}
use Rattle.capi.proofs.Calls.{lending, for-slice}
use Rattle.capi.proofs.runs.sivorandra_working.Goals as goal

-- the first word written
first_set : (l : List ℕ) (x : ℕ) → 1 ≤ length l → set l 0 x ≡ x ∷ drop 1 l
first_set [] x h = absurd (omega arith)
first_set (a ∷ l) x h = refl

-- its answer in words, and the set
answer-of : (r : Result (ℕ) Refusal) → of_given (answer_in r) 0 ≡ of_answer (working_asked r).answer
answer-of (Ok xs) = refl
answer-of (Err e) = refl

found-of : (r : Result (ℕ) Refusal) → result_unwrap_or r (0) ≡ (working_asked r).set
found-of (Ok xs) = refl
found-of (Err e) = refl

pub returns : goal.returns
unfolding working_call
returns c =
    let a = c.args in
    let asked = asked-as working_asked (λ d. working_from d a.empties) (λ r x p. search rules) refl (decode a.run.now) c.ask-shown.ensures in
    lending a.set.now a.answer.now 1 c.answered.ensures.fits c.answered.ensures.short _ _
    (λ e w gave. (search (rules, first_set a.set.now, found-of, asked, for-slice (length a.set.now) 1 a.answer.now e), search (rules, answer-of, asked)))
