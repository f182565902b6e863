-- What is loaded is the table of the words, and its run starts at tick 0 (`Starting`).
use Rattle.std.proofs.Common.{◌≡◌, ◌≤◌, ◌∙◌, ap, sym, subst, ℕ, List, Ok}
use mathlib.Core.Path.{subst⁻¹}
use Rattle.model.specs.Sizes.{most_tasks}
use Rattle.model.specs.Task.{Table}
use Rattle.model.specs.Refusal.{number_of, position_of}
use Rattle.model.proofs.Exits.{err-as}
use Rattle.table.proofs.Contract.{load-ok, load-err}
use Rattle.table.proofs.Fit.{fit, same-table}
use Rattle.table.specs.Fit.{loaded_table}
use Rattle.table.specs.Load.{LoadedAs}
use Rattle.table.specs.Numbers.{NoneApplies}
use Rattle.table.specs.Words.{rule, table_of}
use Rattle.table.specs.declared.Loaded.{Loaded}
use Rattle.run.specs.Start.{started_run}
use Rattle.run.specs.declared.Run.{Run}
use Rattle.plan_check.specs.Begin.{BeginOf, beginning, first_state}
use Rattle.plan_check.specs.State.{state_at, start_in}
use Rattle.plan_check.specs.declared.Note.{Note}
use Rattle.plan_check.specs.declared.SuppliedPlan.{SuppliedPlan}
use Rattle.plan_check.proofs.Starting.{begin-of, begin-passed, begin-refused, loaded-few, loaded-start}
use Rattle.plan_check.proofs.begin.Goals as goal

-- the run of the table that was loaded is that of the words
same-run : (ws : List ℕ) (t : Loaded) → LoadedAs ws t → NoneApplies ws → (r : Run) → r ≡ started_run t.rule (loaded_table t) → r ≡ started_run (rule ws) (table_of ws)
same-run ws t h none r e =
    e ∙ ap (λ (n : ℕ). started_run n (loaded_table t)) h.rule ∙ ap (λ (s : Table). started_run (rule ws) s) (same-table ws t h none)

pub returns-in_err-table : goal.returns-in_err-table
returns-in_err-table c =
    let is = err-as c.from_residual.result c.in_err-table.field-0.0 c.from_residual.ensures.1 in
    let x = c.in_err-table.field-0.0 in
    subst (λ r. BeginOf c.args.words.now (beginning r)) (sym is)
    (begin-of c.args.words.now _ (sym (begin-refused c.args.words.now (number_of x) (position_of x) (load-err c.args.words.now c.load.result c.load.ensures x c.in_err-table.was).0)))

pub begun-run-requires : goal.begun-run-requires
begun-run-requires c =
    let (h, none, e) = load-ok c.args.words.now c.load.result c.load.ensures c.in_ok-table.table c.in_ok-table.was in
    (fit c.args.words.now c.in_ok-table.table h none).few

pub state_at-requires-clause-fact_1 : goal.state_at-requires-clause-fact_1
state_at-requires-clause-fact_1 c =
    let ws = c.args.words.now in
    let t = c.in_ok-table.table in
    let (h, none, e) = load-ok ws c.load.result c.load.ensures t c.in_ok-table.was in
    subst⁻¹ (λ (r : Run). r.count ≤ most_tasks) (same-run ws t h none _ c.begun-run.ensures) (loaded-few ws t h)

pub state_at-requires-clause-fact_2 : goal.state_at-requires-clause-fact_2
state_at-requires-clause-fact_2 c =
    let ws = c.args.words.now in
    let t = c.in_ok-table.table in
    let (h, none, e) = load-ok ws c.load.result c.load.ensures t c.in_ok-table.was in
    loaded-start ws t h ∙ sym (ap start_in (same-run ws t h none _ c.begun-run.ensures))

pub returns : goal.returns
returns c =
    let ws = c.args.words.now in
    let t = c.in_ok-table.table in
    let (h, none, e) = load-ok ws c.load.result c.load.ensures t c.in_ok-table.was in
    let first : c.state_at.result ≡ first_state ws =
    c.state_at.ensures
    ∙ (ap (λ (r : Run). state_at r 0 c.blank.result) (same-run ws t h none _ c.begun-run.ensures)
    ∙ ap (λ (ns : List Note). state_at (started_run (rule ws) (table_of ws)) 0 ns) c.blank.ensures) in
    begin-of ws (beginning (Ok c.state_at.result)) (ap (λ (w : SuppliedPlan). beginning (Ok w)) first ∙ sym (begin-passed ws e))
