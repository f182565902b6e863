-- A check that is over stays so (Feeding).
use Rattle.std.proofs.Common.{ap}
use Rattle.plan_text.specs.Check.{check_in}
use Rattle.plan_text.proofs.Feeding.{fed-done}
use Rattle.plan_text.proofs.Check.feed.Goals as goal

pub returns-in-Over : goal.returns-in-Over
returns-in-Over c = fed-done _ _ _ (ap (λ k. (check_in k).stage) c.in-Over.is)
