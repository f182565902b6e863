-- `table::checks::by_horizon`: P up to one above the limit decides number 9, and is exact where 9 does not apply.
use Rattle.std.proofs.Common.{◌≡◌, ◌∙◌, ap, sym, length, Ok, arith, rules}
use Rattle.model.specs.Sizes.{most_tasks}
use Rattle.table.specs.Task.{tasks_of}
use Rattle.table.specs.Load.{table_with, passing}
use Rattle.table.proofs.Loads.{horizon-test, by-far, by_near, made}
use Rattle.table.proofs.checks.by_horizon.Goals as goal

pub returns-then-horizon_out : goal.returns-then-horizon_out
returns-then-horizon_out c =
    let s = table_with c.args.cores c.args.fence c.args.rule (tasks_of c.args.chain.tasks c.args.chain.count) in
    let test = horizon-test s _ _ c.last_start-start.ensures c.hyperperiod-period.ensures in
    sym (by-far s (passing c.args.rule s) (sym test ∙ sym c.horizon_out.ensures ∙ c.if-horizon_out.true))

pub returns : goal.returns
returns c =
    let chain = c.args.chain in
    let s = table_with c.args.cores c.args.fence c.args.rule (tasks_of chain.tasks chain.count) in
    let test = horizon-test s _ _ c.last_start-start.ensures c.hyperperiod-period.ensures in
    let near = sym c.horizon_out.ensures ∙ c.if-horizon_out.false in
    let there : length chain.tasks ≡ most_tasks = search rules in
    ap Ok (made c.args.cores c.args.fence c.args.rule chain.tasks chain.count _ _ (omega (arith, c.requires.few)) c.requires.tasks c.last_start-start.ensures c.hyperperiod-period.ensures near)
    ∙ sym (by_near s (passing c.args.rule s) (sym test ∙ near))
