-- `capi::figures::sivorandra_response_times`: the figures and the answer are written where there is space.
use Rattle.std.proofs.Common.{◌≡◌, refl, List, ℕ, replicate, Result, Ok, Err, rules}
use Rattle.std.specs.Result.{result_unwrap_or}
use Rattle.model.specs.Sizes.{most_tasks}
use Rattle.model.specs.declared.refusal.Refusal.{Refusal}
use Rattle.table.specs.Answer.{answer_in}
use Rattle.response_time.specs.ResponseTimes as called
use Rattle.buffers.specs.AnswerWords.{of_given}
use Rattle.capi.specs.Figures.{figures_call}
use Rattle.capi.proofs.Calls.{lending}
use Rattle.capi.proofs.figures.sivorandra_response_times.Goals as goal

-- its answer in words, and its figures
answer-of : (r : Result (List ℕ) Refusal) → of_given (answer_in r) 0 ≡ of_given (called.answered r).answer 0
answer-of (Ok xs) = refl
answer-of (Err e) = refl

figures-of : (r : Result (List ℕ) Refusal) → result_unwrap_or r (replicate most_tasks 0) ≡ (called.answered r).responses
figures-of (Ok xs) = refl
figures-of (Err e) = refl

pub returns : goal.returns
unfolding figures_call
returns c =
    let a = c.args in
    lending a.figures.now a.answer.now most_tasks c.answered.ensures.fits c.answered.ensures.short _ _
    (λ e w gave. (search (rules, figures-of), search (rules, answer-of)))
