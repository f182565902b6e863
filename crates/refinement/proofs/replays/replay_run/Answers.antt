-- `refinement::replays::replay_run`: unfit where the lent slices are, and else what `enter_all`, `row` and `put` give.
use Rattle.std.proofs.Common.{◌≡◌, ◌∙◌, ◌++◌, List, ℕ, Ok, Err, ap, drop, sym}
use Rattle.model.specs.Sizes.{most_cores}
use Rattle.run.specs.declared.Run.{Run}
use Rattle.run.specs.Answer.{Row}
use Rattle.run.specs.Row.{row_asked, row_of}
use Rattle.refinement.specs.Entries.{run_after_list}
use Rattle.refinement.specs.Listing.{entries_in}
use Rattle.refinement.specs.Replay.{ReplayOutcome, row_case}
use Rattle.refinement.specs.Replayed.{Replayed}
use Rattle.refinement.proofs.Outcomes.{replayed-unfit, replayed-fit}
use Rattle.refinement.proofs.replays.replay_run.Goals as goal

-- an outcome, part by part
outcome : {x y : Replayed} {k l m n : List ℕ} → x ≡ y → k ≡ l → m ≡ n
    → ◌≡◌ {A = ReplayOutcome} (record { answer = x; numbers = k; bytes = m }) (record { answer = y; numbers = l; bytes = n })
outcome p q s = λ i. record { answer = p i; numbers = q i; bytes = s i }

pub returns-then-not-fits : goal.returns-then-not-fits
returns-then-not-fits c =
    let a = c.args in
    sym (replayed-unfit a.run a.entries.now a.numbers.now a.bytes.now (sym c.fits.ensures ∙ c.if-not-fits.true))

pub returns-in-Ok : goal.returns-in-Ok
returns-in-Ok c =
    let a = c.args in
    let row : row_asked (Ok c.in-Ok.row) ≡ row_of (run_after_list a.run (entries_in a.entries.now)) 0 =
    ap row_asked (sym c.in-Ok.is) ∙ (c.row.ensures.value ∙ ap (λ (r : Run). row_of r 0) c.enter_all-last.ensures.0) in
    outcome
    (ap (λ (q : Row). row_case q.answer) row)
    c.enter_all-last.ensures.1
    (c.put.ensures ∙ ap (λ (q : Row). q.bytes ++ drop most_cores a.bytes.now) row)
    ∙ sym (replayed-fit a.run a.entries.now a.numbers.now a.bytes.now (sym c.fits.ensures ∙ c.if-not-fits.false))

pub returns-in-Err : goal.returns-in-Err
returns-in-Err c =
    let a = c.args in
    let row : row_asked (Err c.in-Err.refusal) ≡ row_of (run_after_list a.run (entries_in a.entries.now)) 0 =
    ap row_asked (sym c.in-Err.is) ∙ (c.row.ensures.value ∙ ap (λ (r : Run). row_of r 0) c.enter_all-last.ensures.0) in
    outcome
    (ap (λ (q : Row). row_case q.answer) row)
    c.enter_all-last.ensures.1
    (c.put-in-Err.ensures ∙ ap (λ (q : Row). q.bytes ++ drop most_cores a.bytes.now) row)
    ∙ sym (replayed-fit a.run a.entries.now a.numbers.now a.bytes.now (sym c.fits.ensures ∙ c.if-not-fits.false))
