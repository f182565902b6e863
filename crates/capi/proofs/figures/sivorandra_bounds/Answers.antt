-- `capi::figures::sivorandra_bounds`: the bounds and the answer are written where there is space.
use Rattle.std.proofs.Common.{◌≡◌, refl, List, ℕ, replicate, Option, Some, None, Result, Ok, Err, rules}
use Rattle.std.specs.Option.{is_some, unwrap_or}
use Rattle.std.specs.Result.{result_unwrap_or}
use Rattle.model.specs.Sizes.{most_tasks}
use Rattle.model.specs.declared.refusal.Refusal.{Refusal}
use Rattle.table.specs.Answer.{answer_in}
use Rattle.interference.specs.Bounds as called
use Rattle.buffers.specs.AnswerWords.{of_given, met_word}
use Rattle.capi.specs.Figures.{bounds_call_of}
use Rattle.capi.proofs.Calls.{lending}
use Rattle.capi.proofs.figures.sivorandra_bounds.Goals as goal

-- its answer in words, and the bounds
answer-of : (r : Result (Option (List ℕ)) Refusal) → of_given (answer_in r) (met_word (is_some (result_unwrap_or r None)))
    ≡ of_given (called.answered r).answer (met_word (called.answered r).tested.met)
answer-of (Ok (Some xs)) = refl
answer-of (Ok None) = refl
answer-of (Err e) = refl

bounds-of : (r : Result (Option (List ℕ)) Refusal) → unwrap_or (result_unwrap_or r None) (replicate most_tasks 0) ≡ (called.answered r).tested.bounds
bounds-of (Ok (Some xs)) = refl
bounds-of (Ok None) = refl
bounds-of (Err e) = refl

pub returns : goal.returns
unfolding bounds_call_of
returns c =
    let a = c.args in
    lending a.figures.now a.answer.now most_tasks c.answered.ensures.fits c.answered.ensures.short _ _
    (λ e w gave. (search (rules, bounds-of), search (rules, answer-of)))
