-- The count stops at the largest number that it can be.
use Rattle.std.proofs.Common.{arith}
use Rattle.std.proofs.lemmas.Bool.Decides.{nat_tests}
use Rattle.std.proofs.lemmas.Grind.{common_steps}
use Rattle.plan_text.specs.Checked.{next_line}
use Rattle.plan_text.proofs.next_line.Goals as goal

pub returns : goal.returns
unfolding next_line
returns c = grind (arith, nat_tests, common_steps)
