-- The result of a call of the replay, by whether the lent slices fit.
use mathlib.Core.Path.{◌≡◌, refl, sym, ap, ◌∙◌}
use mathlib.Core.Bool.{Bool, true, false, ◌&&◌, cond}
use Rattle.std.proofs.Common.{Some, None}
use Rattle.buffers.specs.declared.answer_words.AnswerWords.{AnswerWords}
use mathlib.Core.List.{List, [], ◌∷◌}
use Prim.Native.Nat.{ℕ}
use native.Mathlib.Omega.{arith}
use lib.ListN.{take}
use Rattle.model.specs.Sizes.{most_cores}
use Rattle.refinement.specs.Replayed.{Replayed}
use Rattle.refinement.specs.Replayed.{Shown, RowRefused, Refused, Unfit}
use Rattle.refinement.specs.Replay.{ReplayOutcome, ReplayOf, replay_meaning}
use Rattle.buffers.specs.AnswerWords.{answer_fits, answer_written}
use Rattle.capi.specs.Calls.{call_result, by_room}
use Rattle.buffers.specs.AnswerWords.{fitted, of_replayed}
use Rattle.capi.specs.Replays.{by_outcome, replay_call}

not-fitted : (v : Replayed) → fitted v ≡ false → v ≡ Unfit
not-fitted Shown e = absurd (let z : ◌≡◌ {A = Bool} true false = e in let n : ◌≡◌ {A = ℕ} 0 1 = cc in omega arith)
not-fitted (RowRefused n p) e = absurd (let z : ◌≡◌ {A = Bool} true false = e in let n : ◌≡◌ {A = ℕ} 0 1 = cc in omega arith)
not-fitted (Refused n p) e = absurd (let z : ◌≡◌ {A = Bool} true false = e in let n : ◌≡◌ {A = ℕ} 0 1 = cc in omega arith)
not-fitted Unfit e = refl

-- an answer in words by whether the slices fit
pub by-some : (t : Bool) (w x : AnswerWords) → cond t (Some w) None ≡ Some x → (t ≡ true) × (x ≡ w)
by-some true w x e = (refl, (cc))
by-some false w x e = absurd (cc)

pub by-none : (t : Bool) (w : AnswerWords) → cond t (Some w) None ≡ None → t ≡ false
by-none true w e = absurd (cc)
by-none false w e = refl

short-by : (t u : Bool) (lent found : List (List ℕ)) → (u ≡ false) → by_room (t && u) lent found ≡ call_result 1 found
short-by true u lent found e = ap (λ (b : Bool). by_room b lent found) e
short-by false u lent found e = refl

module _ (ws es numbers row answer : List ℕ) where
  -- the slice `answer` is too short
  pub replay-narrow : answer_fits answer ≡ false → call_result 1 (numbers ∷ (row ∷ (answer ∷ []))) ≡ replay_call ws es numbers row answer
  unfolding replay_call
  replay-narrow h = sym (simp h)

  module _ (o : ReplayOutcome) (r : ReplayOf ws es numbers row o) where
    -- the call goes by the outcome
    by-outcome : replay_call ws es numbers row answer ≡ by_outcome o numbers row answer
    unfolding replay_call
    by-outcome = ap (λ (q : ReplayOutcome). by_outcome q numbers row answer) (sym r.value)

    -- another lent slice does not fit
    pub replay-unfit : fitted o.answer ≡ false → call_result 1 (o.numbers ∷ (o.bytes ∷ (answer ∷ []))) ≡ replay_call ws es numbers row answer
    replay-unfit e =
        let f = r.unfit-found (ap (λ (v : Replayed). replay_meaning v (take most_cores o.bytes)) (not-fitted o.answer e)) in
        (λ i. call_result 1 (f.0 i ∷ (f.1 i ∷ (answer ∷ []))))
        ∙ sym (by-outcome ∙ short-by (answer_fits answer) (fitted o.answer) _ _ e)

    -- every lent slice fits
    pub replay-room :
        {new : List ℕ} → fitted o.answer ≡ true → answer_fits answer ≡ true → new ≡ answer_written (of_replayed o.answer) answer
        → call_result 0 (o.numbers ∷ (o.bytes ∷ (new ∷ []))) ≡ replay_call ws es numbers row answer
    replay-room e h n =
        ap (λ (l : List ℕ). call_result 0 (o.numbers ∷ (o.bytes ∷ (l ∷ [])))) n ∙ sym (by-outcome ∙ simp (h, e))
