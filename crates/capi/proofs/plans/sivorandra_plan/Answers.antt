-- `capi::plans::sivorandra_plan`: rows and answer are the plan's, and its three words are written where there is space.
use Rattle.std.proofs.Common.{◌≡◌, refl, rules, Result, Ok, Err}
use Rattle.model.specs.declared.refusal.Refusal.{Refusal}
use Rattle.table.specs.Answer.{answer_in}
use Rattle.plan.specs.Plan.{planned}
use Rattle.buffers.specs.AnswerWords.{of_given, of_planned}
use Rattle.capi.specs.Calls.{plan_call}
use Rattle.capi.proofs.Calls.{lending-any}
use Rattle.capi.proofs.plans.sivorandra_plan.Goals as goal

-- its answer in words
answer-of : {T : Type 0} → (r : Result T Refusal) → of_given (answer_in r) 0 ≡ of_planned (planned r)
answer-of (Ok x) = refl
answer-of (Err e) = refl

pub returns : goal.returns
unfolding plan_call
returns c =
    let a = c.args in
    lending-any a.rows.now a.answer.now c.answered.ensures.fits c.answered.ensures.short _ _ (λ w gave. (search rules, search (rules, answer-of)))
