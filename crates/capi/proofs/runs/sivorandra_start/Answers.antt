-- `capi::runs::sivorandra_start`: the run that start returns and the answer are written where there is space.
use Rattle.std.proofs.Common.{◌≡◌, refl, Result, Ok, Err, rules}
use Rattle.std.specs.Result.{result_unwrap_or}
use Rattle.model.specs.declared.refusal.Refusal.{Refusal}
use Rattle.table.specs.Answer.{answer_in}
use Rattle.run.specs.declared.Run.{Run}
use Rattle.run.specs.Start.{started, empty_run}
use Rattle.buffers.specs.AnswerWords.{of_answer, of_given}
use Rattle.buffers.specs.Encoding.{run_words}
use Rattle.capi.specs.Runs.{start_call}
use Rattle.capi.proofs.Calls.{lending}
use Rattle.capi.proofs.runs.sivorandra_start.Goals as goal

-- its answer in words, and the run
answer-of : (r : Result Run Refusal) → of_given (answer_in r) 0 ≡ of_answer (started r).answer
answer-of (Ok x) = refl
answer-of (Err e) = refl

run-of : (r : Result Run Refusal) → result_unwrap_or r empty_run ≡ (started r).run
run-of (Ok x) = refl
run-of (Err e) = refl

pub returns : goal.returns
unfolding start_call
returns c =
    let a = c.args in
    lending a.run.now a.answer.now run_words c.answered.ensures.fits c.answered.ensures.short _ _
    (λ e w gave. (search (rules, run-of), search (rules, answer-of)))
