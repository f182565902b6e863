-- A row moves no task of the run's table, so the last S stays.
use Rattle.std.proofs.Common.{ap, sym, ◌∙◌}
use Rattle.model.specs.Horizon.{last_s}
use Rattle.run.proofs.RunOut.{few}
use Rattle.run.specs.Run.{tasks_in}
use Rattle.plan_check.proofs.Working.{counted-count, counted-tasks}
use Rattle.plan_check.proofs.SuppliedPlan.after.Goals as goal

pub state_at-requires : goal.state_at-requires
state_at-requires c =
    let r = c.args.self.run in
    let same = ap tasks_in c.worked.ensures ∙ counted-tasks r c.args.cells.now in
    record {
      fact_1 = simp (c.worked.ensures, counted-count) (few r c.requires.fact_1);
      fact_2 = c.requires.fact_2 ∙ sym (ap last_s same);
    }
