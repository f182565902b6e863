-- `capi::runs::sivorandra_row`: the row and the answer are written where there is space.
use Rattle.std.proofs.Common.{◌≡◌, refl, List, ℕ, replicate, Result, Ok, Err, rules}
use Rattle.std.specs.Result.{result_unwrap_or}
use Rattle.model.specs.Sizes.{most_cores}
use Rattle.model.specs.declared.refusal.Refusal.{Refusal}
use Rattle.table.specs.Answer.{answer_in}
use Rattle.run.specs.Row.{row_asked}
use Rattle.buffers.specs.AnswerWords.{of_answer, of_given}
use Rattle.buffers.specs.Encoding.{decode}
use Rattle.buffers.specs.Runs.{row_from}
use Rattle.buffers.proofs.Keeping.{asked-as}
use Rattle.capi.specs.Runs.{row_call}
use Rattle.capi.proofs.Calls.{lending}
use Rattle.capi.proofs.runs.sivorandra_row.Goals as goal

-- its answer in words, and the bytes
answer-of : (r : Result (List ℕ) Refusal) → of_given (answer_in r) 0 ≡ of_answer (row_asked r).answer
answer-of (Ok xs) = refl
answer-of (Err e) = refl

found-of : (r : Result (List ℕ) Refusal) → result_unwrap_or r (replicate most_cores 0) ≡ (row_asked r).bytes
found-of (Ok xs) = refl
found-of (Err e) = refl

pub returns : goal.returns
unfolding row_call
returns c =
    let a = c.args in
    let asked = asked-as row_asked (λ d. row_from d a.empties) (λ r x p. search rules) refl (decode a.run.now) c.ask-shown.ensures in
    lending a.row.now a.answer.now most_cores c.answered.ensures.fits c.answered.ensures.short _ _
    (λ e w gave. (search (rules, found-of, asked), search (rules, answer-of, asked)))
