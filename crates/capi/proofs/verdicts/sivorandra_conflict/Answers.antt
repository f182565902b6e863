-- `capi::verdicts::sivorandra_conflict`: the set and the answer are the conflict's, and its three words are written where there is space.
use Rattle.std.proofs.Common.{◌≡◌, refl, ℕ, Result, Ok, Err, rules}
use Rattle.model.specs.declared.refusal.Refusal.{Refusal}
use Rattle.conflict.specs.Answer as called
use Rattle.buffers.specs.AnswerWords.{of_given, of_result}
use Rattle.capi.specs.Calls.{conflict_call}
use Rattle.capi.proofs.Calls.{answering}
use Rattle.capi.proofs.verdicts.sivorandra_conflict.Goals as goal

-- its answer in words
answer-of : (r : Result ℕ Refusal) → of_result r ≡ of_given (called.answered r).answer (called.answered r).kept
answer-of (Ok x) = refl
answer-of (Err e) = refl

pub returns : goal.returns
unfolding conflict_call
returns c = answering c.args.answer.now c.answered.ensures.fits c.answered.ensures.short _ (λ w gave. search (rules, answer-of))
