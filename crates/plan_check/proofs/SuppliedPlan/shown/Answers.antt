-- Each return is a case of the definition, in its order (`Cases`); the counts represent the bytes (`Working`).
use Rattle.std.proofs.Common.{◌≡◌, ◌≤◌, ◌∙◌, ap, refl, sym, subst, suc, false, List, None, Option, Some, true, ℕ, ◌<◌, length, arith}
use Rattle.model.proofs.Exits.{err-as}
use Rattle.model.specs.Sizes.{most_tasks}
use Rattle.run.proofs.RunOut.{few-cores}
use Rattle.run.specs.declared.Run.{Run}
use Rattle.plan_check.specs.CheckRow.{answer_at, check_row_of}
use Rattle.plan_check.specs.Extent.{Ready}
use Rattle.plan_check.specs.Numbers.{after_row, missed}
use Rattle.plan_check.specs.Row.{faulty}
use Rattle.plan_check.specs.RowAnswer.{Answer, Entered, entered_in, progress_answer, state_by_answer}
use Rattle.plan_check.specs.Shown.{ShownOf, any_wrong, shown_in, worked_with}
use Rattle.plan_check.specs.State.{state_at, horizon_in}
use Rattle.plan_check.specs.declared.Progress.{Progress}
use Rattle.plan_check.specs.declared.Progress.TheVariants as code
use Rattle.plan_check.specs.declared.SuppliedPlan.{SuppliedPlan}
use Rattle.plan_check.proofs.Cases.{take-faulty, take-late, take_on}
use Rattle.plan_check.proofs.StateTests.{few, passes-run}
use Rattle.plan_check.proofs.Working.{counted-count, counted-tasks, fault-found, horizon-kept, worked-counted}
use Rattle.plan_check.proofs.SuppliedPlan.shown.Goals as goal

-- an answer with the state that goes with it
abbrev by : Answer → SuppliedPlan → SuppliedPlan → Entered
by a v w = record { answer = a; plan = state_by_answer a v w }

-- of a row that is taken it is the next
by-taken : (p : Progress) (v w : SuppliedPlan) → record { answer = progress_answer p; plan = v } ≡ by (progress_answer p) v w
by-taken code.Taken v w = refl
by-taken code.Accepted v w = refl

-- an unknown position, or what is wrong by the counts, is what 24 turns down
module _ (r : Run) (row : List ℕ) (o : Option (List ℕ)) (small : r.count ≤ most_tasks) (h : ShownOf r.fence r.count row (shown_in o)) where
  unknown-faulty : o ≡ None → faulty r row ≡ true
  unknown-faulty e = sym (fault-found r row (shown_in None) small (subst (λ o. ShownOf r.fence r.count row (shown_in o)) e h))

  module _ (ns : List ℕ) (e : o ≡ Some ns) where
    shown-some : ShownOf r.fence r.count row (shown_in (Some ns))
    shown-some = subst (λ o. ShownOf r.fence r.count row (shown_in o)) e h

    wrong-faulty : any_wrong r ns ≡ faulty r row
    wrong-faulty = fault-found r row (shown_in (Some ns)) small shown-some

-- a row that is right is answered by the state after it
onward :
    (w : SuppliedPlan) (row : List ℕ) (o : Option (List ℕ)) (start horizon : ℕ) → Ready w.run start horizon → w.tick < horizon → length row ≡ w.run.cores
    → missed w.run ≡ false → ShownOf w.run.fence w.run.count row (shown_in o) → (ns : List ℕ) → o ≡ Some ns → any_wrong w.run ns ≡ false
    → (v : SuppliedPlan) → v ≡ state_at (worked_with w.run ns) (suc w.tick) w.noted → (a : Answer) → a ≡ answer_at v → by a v w ≡ check_row_of w row
onward w row o start horizon ready before size timely h ns is right v then a answer =
    let small = few w.run ready.passes in
    let known = shown-some w.run row o small h ns is in
    let next : v ≡ after_row w row =
    then ∙ ap (λ (r : Run). state_at r (suc w.tick) w.noted) (worked-counted w.run ns row small (known.counted refl)) in
    ap (λ (x : Answer). by x v w) answer
    ∙ (ap (λ (v : SuppliedPlan). by (answer_at v) v w) next
    ∙ sym (take_on w row ready.passes ready.within (omega (arith, before, ready.horizon)) size timely (sym (wrong-faulty w.run row o small h ns is) ∙ right)))

pub missed-requires : goal.missed-requires
missed-requires c = few c.args.self.run c.requires.fact_1.passes

pub returns-then-missed : goal.returns-then-missed
returns-then-missed c =
    let ready = c.requires.fact_1 in
    sym (take-late c.args.self c.args.row.now ready.passes ready.within (omega arith) c.requires.fact_3 (sym c.missed.ensures ∙ c.if-missed.true))

pub counted-requires : goal.counted-requires
counted-requires c = omega (arith, few-cores c.args.self.run (passes-run c.args.self.run c.requires.fact_1.passes))

pub returns-in_default : goal.returns-in_default
returns-in_default c =
    let ready = c.requires.fact_1 in
    let w = c.args.self in
    let row = c.args.row.now in
    sym (take-faulty w row ready.passes ready.within (omega arith) c.requires.fact_3 (sym c.missed.ensures ∙ c.if-missed.false)
    (unknown-faulty w.run row c.counted.result (few w.run ready.passes) c.counted.ensures c.in_default.is))

pub any_wrong-requires : goal.any_wrong-requires
any_wrong-requires c = few c.args.self.run c.requires.fact_1.passes

pub returns-then-any_wrong : goal.returns-then-any_wrong
returns-then-any_wrong c =
    let ready = c.requires.fact_1 in
    let w = c.args.self in
    let row = c.args.row.now in
    let found = wrong-faulty w.run row c.counted.result (few w.run ready.passes) c.counted.ensures c.in-Some.cells c.in-Some.is in
    sym (take-faulty w row ready.passes ready.within (omega arith) c.requires.fact_3 (sym c.missed.ensures ∙ c.if-missed.false)
    (sym found ∙ (sym c.any_wrong.ensures ∙ c.if-any_wrong.true)))

pub after-next-requires-clause-fact_1 : goal.after-next-requires-clause-fact_1
after-next-requires-clause-fact_1 c = passes-run c.args.self.run c.requires.fact_1.passes

pub answer_at-requires-clause-fact_1 : goal.answer_at-requires-clause-fact_1
answer_at-requires-clause-fact_1 c =
    let r = c.args.self.run in
    let ns = c.in-Some.cells in
    let run : c.after-next.result.run ≡ worked_with r ns = ap (λ (w : SuppliedPlan). w.run) c.after-next.ensures in
    omega (arith, ap (λ (r : Run). r.count) run, counted-count r ns, few r c.requires.fact_1.passes)

pub answer_at-requires-clause-fact_2 : goal.answer_at-requires-clause-fact_2
answer_at-requires-clause-fact_2 c =
    let r = c.args.self.run in
    let ns = c.in-Some.cells in
    let run : c.after-next.result.run ≡ worked_with r ns = ap (λ (w : SuppliedPlan). w.run) c.after-next.ensures in
    c.requires.fact_1.horizon ∙ sym (ap horizon_in run ∙ horizon-kept r (worked_with r ns) (counted-tasks r ns))

pub returns-in_err-progress : goal.returns-in_err-progress
returns-in_err-progress c =
    let ready = c.requires.fact_1 in
    let w = c.args.self in
    let row = c.args.row.now in
    ap (entered_in w) (err-as c.from_residual.result c.in_err-progress.field-0.0 c.from_residual.ensures.1)
    ∙ onward w row c.counted.result _ _ ready c.requires.fact_2 c.requires.fact_3 (sym c.missed.ensures ∙ c.if-missed.false) c.counted.ensures
    c.in-Some.cells c.in-Some.is (sym c.any_wrong.ensures ∙ c.if-any_wrong.false) c.after-next.result c.after-next.ensures _ c.in_err-progress.ensures

pub returns : goal.returns
returns c =
    let ready = c.requires.fact_1 in
    let w = c.args.self in
    let row = c.args.row.now in
    by-taken c.in_ok-progress.progress c.after-next.result w
    ∙ onward w row c.counted.result _ _ ready c.requires.fact_2 c.requires.fact_3 (sym c.missed.ensures ∙ c.if-missed.false) c.counted.ensures
    c.in-Some.cells c.in-Some.is (sym c.any_wrong.ensures ∙ c.if-any_wrong.false) c.after-next.result c.after-next.ensures _ c.in_ok-progress.ensures
