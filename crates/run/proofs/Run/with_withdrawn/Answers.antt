use Rattle.std.proofs.Common.{refl}
use Rattle.run.specs.Run.{withdrawn_in}
use Rattle.run.proofs.Run.with_withdrawn.Goals as goal

pub returns : goal.returns
unfolding withdrawn_in
returns c = refl
