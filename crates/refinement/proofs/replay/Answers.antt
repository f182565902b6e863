-- `refinement::replay`: a refused start leaves everything as found, and a run that has started is taken through the list (`replay-of`).
use Rattle.std.proofs.Common.{◌≡◌, ◌∙◌, Result, Ok, Err, ap, refl, rules, sym}
use Rattle.std.specs.Result.{IsErrAnd, MatchResult}
use Rattle.std.proofs.lemmas.Result.{err_from_is_err_and}
use Rattle.model.specs.declared.refusal.Refusal.{Refusal}
use Rattle.model.specs.Refusal.{number_of, position_of}
use Rattle.model.proofs.Exits.{err-as}
use Rattle.run.specs.declared.Run.{Run}
use Rattle.run.specs.Start.{Started, started, start_of}
use Rattle.refinement.specs.declared.ReplayError.{ReplayError}
use Rattle.refinement.specs.declared.ReplayError.TheVariants.{Start}
use Rattle.refinement.specs.Replay.{replayed_run}
use Rattle.refinement.specs.Replayed.{replayed_in}
use Rattle.refinement.proofs.Outcomes.{replay-refused, replay-taken, replay-of}
use Rattle.refinement.proofs.replay.Goals as goal

-- a start with its refusal as an error: the same run, or the error of its refusal
module _ (post : Refusal → ReplayError → Type 0) (start : Result Run Refusal) (m : Result Run ReplayError) where
  same-run : MatchResult start (λ r. m ≡ Ok r) (λ e. IsErrAnd m (post e)) → (r : Run) → m ≡ Ok r → start ≡ Ok r
  same-run h r is = go start h
    where
      go : (s : Result Run Refusal) → MatchResult s (λ r. m ≡ Ok r) (λ e. IsErrAnd m (post e)) → s ≡ Ok r
      go (Ok q) h = cc
      go (Err e) h = let (y, was, there) = err_from_is_err_and {Q = post e} m h in cc

  same-refusal : MatchResult start (λ r. m ≡ Ok r) (λ e. IsErrAnd m (post e)) → (x : ReplayError) → m ≡ Err x → (e : Refusal) × (start ≡ Err e) × post e x
  same-refusal h x is = go start h
    where
      go : (s : Result Run Refusal) → MatchResult s (λ r. m ≡ Ok r) (λ e. IsErrAnd m (post e)) → (e : Refusal) × (s ≡ Err e) × post e x
      go (Ok q) h = cc
      go (Err e) h = let (y, was, there) = err_from_is_err_and {Q = post e} m h in let same : y ≡ x = cc in (e, refl, rw same at there)

pub returns-in_err-run : goal.returns-in_err-run
returns-in_err-run c =
    let a = c.args in
    let x = c.in_err-run.field-0.0 in
    let is = err-as c.from_residual.result x c.from_residual.ensures.1 in
    let f = same-refusal _ c.start.result c.map_err.result c.map_err.ensures.cases x c.in_err-run.was in
    let e = f.0 in
    let posted = f.2 in
    let same : x ≡ Start e = search rules in
    let answer = sym (ap (λ (s : Started). s.answer) c.start.ensures.value) ∙ ap (λ (s : Result Run Refusal). (started s).answer) f.1 in
    replay-of a.words.now a.entries.now a.numbers.now a.bytes.now _
    (ap (λ r. record { answer = replayed_in r; numbers = a.numbers.now; bytes = a.bytes.now }) (is ∙ ap Err same)
    ∙ sym (replay-refused a.words.now a.entries.now a.numbers.now a.bytes.now (number_of e) (position_of e) answer))

pub returns : goal.returns
returns c =
    let a = c.args in
    let r = c.in_ok-run.run' in
    let is = same-run _ c.start.result c.map_err.result c.map_err.ensures.cases r c.in_ok-run.was in
    let s : started (Ok r) ≡ start_of a.words.now = ap started (sym is) ∙ c.start.ensures.value in
    replay-of a.words.now a.entries.now a.numbers.now a.bytes.now _
    (c.replay_run.ensures
    ∙ (ap (λ (s : Started). replayed_run s.run a.entries.now a.numbers.now a.bytes.now) s
    ∙ sym (replay-taken a.words.now a.entries.now a.numbers.now a.bytes.now (sym (ap (λ (s : Started). s.answer) s)))))
