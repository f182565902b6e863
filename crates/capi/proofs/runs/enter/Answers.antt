-- `capi::runs::enter`: the buffer and the answer are those of the entry, and its three words are written where there is space.
use Rattle.std.proofs.Common.{◌≡◌, refl, sym, ap, ◌∙◌, Result, Ok, Err}
use Rattle.model.specs.declared.refusal.Refusal.{Refusal}
use Rattle.table.specs.Answer as table
use Rattle.run.specs.Answer as run
use Rattle.buffers.specs.AnswerWords.{of_answer, of_given}
use Rattle.buffers.specs.Encoding.{decode}
use Rattle.buffers.specs.Runs.{Entered}
use Rattle.buffers.proofs.Keeping.{entry-done}
use Rattle.capi.specs.Runs.{entry_call}
use Rattle.capi.proofs.Calls.{both, words_of, answered, as-found}
use Rattle.capi.proofs.runs.enter.Goals as goal

-- its answer in words
answer-of : {T : Type 0} → (r : Result T Refusal) → of_given (table.answer_in r) 0 ≡ of_answer (run.answer_in r)
answer-of (Ok x) = refl
answer-of (Err e) = refl

pub returns : goal.returns
unfolding entry_call
returns g c x gives =
    let a = c.args in
    let done = entry-done x gives (decode a.run.now) a.run.now _ c.enter-entered.ensures in
    both
    (ap (λ (v : Entered). v.buffer) done)
    (words_of a.answer.now c.put.ensures
    (c.encoded.ensures ∙ (answer-of c.enter-entered.result ∙ ap (λ (v : Entered). of_answer v.answer) done)))
    ∙ answered _ _ (sym c.fit.ensures ∙ c.if-not-fit.false)

pub returns-then-not-fit : goal.returns-then-not-fit
unfolding entry_call
returns-then-not-fit g c x gives = as-found _ _ (sym c.fit.ensures ∙ c.if-not-fit.true)
