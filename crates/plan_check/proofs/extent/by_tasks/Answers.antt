-- S and P of the tasks that the run has, P up to one above the limit (`PlanExtent`).
use Rattle.std.proofs.Common.{◌≡◌, ◌∙◌, sym, length, length-take, arith, rules}
use Rattle.model.specs.Sizes.{most_tasks}
use Rattle.run.proofs.RunOut.{few}
use Rattle.plan_check.proofs.PlanExtent.{extent-near, extent-refused, horizon-near, horizon-out, number-9, number-none, slice-within, some-tasks}
use Rattle.plan_check.proofs.StateTests.{passes-run}
use Rattle.plan_check.proofs.extent.by_tasks.Goals as goal

pub parameters-parameters-requires : goal.parameters-parameters-requires
parameters-parameters-requires c = few c.args.run (passes-run c.args.run c.requires)

pub slice_bounds-parameters-end : goal.slice_bounds-parameters-end
slice_bounds-parameters-end c =
    let there : length c.parameters-parameters.result ≡ most_tasks = search rules in
    omega (arith, there, few c.args.run (passes-run c.args.run c.requires))

pub slice_bounds-tasks-end : goal.slice_bounds-tasks-end
slice_bounds-tasks-end c =
    let there : length c.parameters-parameters.result ≡ most_tasks = search rules in
    omega (arith, length-take c.args.run.count c.parameters-parameters.result, there, few c.args.run (passes-run c.args.run c.requires))

pub last_start-start-requires : goal.last_start-start-requires
last_start-start-requires c =
    let r = c.args.run in
    let e = passes-run r c.requires in
    let ts = c.parameters-parameters.result in
    let there : length ts ≡ most_tasks = search rules in
    let n = length-take r.count ts in
    record {
      some = omega (arith, n, there, few r e, some-tasks r e);
      few = omega (arith, n, few r e);
      limits = slice-within r e ts c.parameters-parameters.ensures.1;
    }

pub hyperperiod-period-requires : goal.hyperperiod-period-requires
hyperperiod-period-requires c =
    let r = c.args.run in
    slice-within r (passes-run r c.requires) c.parameters-parameters.result c.parameters-parameters.ensures.1

pub returns-then-horizon_out : goal.returns-then-horizon_out
returns-then-horizon_out c =
    let r = c.args.run in
    let far = horizon-out r c.parameters-parameters.result _ _ c.parameters-parameters.ensures.1 c.last_start-start.ensures c.hyperperiod-period.ensures in
    let f = number-9 r c.requires (sym far ∙ (sym c.horizon_out.ensures ∙ c.if-horizon_out.true)) in
    record { value = extent-refused r 9 f (omega arith); number = sym f; ready = λ e. absurd (omega arith) }

pub returns : goal.returns
returns c =
    let r = c.args.run in
    let plain = c.parameters-parameters.ensures.1 in
    let near = sym c.horizon_out.ensures ∙ c.if-horizon_out.false in
    let far = horizon-out r c.parameters-parameters.result _ _ plain c.last_start-start.ensures c.hyperperiod-period.ensures in
    let n = number-none r c.requires (sym far ∙ near) in
    let ready = horizon-near r c.parameters-parameters.result _ _ plain c.last_start-start.ensures c.hyperperiod-period.ensures near c.requires in
    record { value = extent-near r _ _ n ready; number = sym n; ready = λ _. ready }
