-- `table::checks::by_tasks`: a width is measured against the unfenced cores. Where no task is turned down, each is within its limits.
use Rattle.std.proofs.Common.{◌≡◌, ◌∙◌, ◌≤◌, ℕ, min, length, ap, arith, rules}
use Rattle.model.specs.Fence.{unfenced_count}
use Rattle.model.specs.Refusal.{numbered, number_of, position_of}
use Rattle.model.proofs.Exits.{err-as}
use Rattle.table.specs.Task.{tasks_of}
use Rattle.table.specs.Answer.{tasks_answer}
use Rattle.table.specs.Load.{table_with, passing}
use Rattle.table.proofs.Loads.{by-number, by-none, in-limits}
use Rattle.table.proofs.checks.by_tasks.Goals as goal

limit : (m f wide : ℕ) → m ≤ 64 → wide ≡ unfenced_count f (min m 64) → wide ≡ unfenced_count f m
limit m f wide few measured = let all : min m 64 ≡ m = omega arith in measured ∙ ap (unfenced_count f) all

pub returns-in_err-check_tasks : goal.returns-in_err-check_tasks
returns-in_err-check_tasks c =
    let a = c.args in
    let e = c.in_err-check_tasks.field-0.0 in
    let τs = tasks_of a.chain.tasks a.chain.count in
    let s = table_with a.cores a.fence a.rule τs in
    let w = limit a.cores a.fence _ c.requires.cores c.unfenced_count-wide.ensures in
    ap numbered (err-as c.from_residual.result e c.from_residual.ensures.1)
    ∙ by-number s (passing a.rule s) (number_of e) (position_of e) (c.in_err-check_tasks.ensures ∙ ap (λ (m : ℕ). tasks_answer m τs) w)

pub by_horizon-requires-clause-limits : goal.by_horizon-requires-clause-limits
by_horizon-requires-clause-limits c =
    let there : c.args.chain.count ≤ length c.args.chain.tasks = search rules in
    in-limits c.unfenced_count-wide.result c.args.chain.tasks c.args.chain.count there (c.in_ok-check_tasks.ensures)

pub returns : goal.returns
returns c =
    let a = c.args in
    let τs = tasks_of a.chain.tasks a.chain.count in
    let s = table_with a.cores a.fence a.rule τs in
    let w = limit a.cores a.fence _ c.requires.cores c.unfenced_count-wide.ensures in
    c.by_horizon.ensures ∙ by-none s (passing a.rule s) (c.in_ok-check_tasks.ensures ∙ ap (λ (m : ℕ). tasks_answer m τs) w)
