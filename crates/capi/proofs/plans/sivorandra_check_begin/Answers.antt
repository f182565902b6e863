-- `capi::plans::sivorandra_check_begin`: the plan that begin returns and the answer are written where there is space.
use Rattle.std.proofs.Common.{◌≡◌, refl, Result, Ok, Err, rules}
use Rattle.std.specs.Result.{result_unwrap_or}
use Rattle.model.specs.declared.refusal.Refusal.{Refusal}
use Rattle.table.specs.Answer.{answer_in}
use Rattle.plan_check.specs.declared.SuppliedPlan.{SuppliedPlan}
use Rattle.plan_check.specs.Begin.{beginning, empty_state}
use Rattle.buffers.specs.AnswerWords.{of_given}
use Rattle.buffers.specs.Supplied.{plan_words}
use Rattle.capi.specs.CheckRow.{begin_call}
use Rattle.capi.proofs.Calls.{lending}
use Rattle.capi.proofs.plans.sivorandra_check_begin.Goals as goal

-- its answer in words, and the plan
answer-of : (r : Result SuppliedPlan Refusal) → of_given (answer_in r) 0 ≡ of_given (beginning r).answer 0
answer-of (Ok w) = refl
answer-of (Err e) = refl

plan-of : (r : Result SuppliedPlan Refusal) → result_unwrap_or r empty_state ≡ (beginning r).plan
plan-of (Ok w) = refl
plan-of (Err e) = refl

pub returns : goal.returns
unfolding begin_call
returns c =
    let a = c.args in
    lending a.plan.now a.answer.now plan_words c.answered.ensures.fits c.answered.ensures.short _ _
    (λ e w gave. (search (rules, plan-of), search (rules, answer-of)))
