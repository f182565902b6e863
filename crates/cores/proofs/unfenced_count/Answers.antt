-- Ones counts the cores of a set.
use Rattle.std.proofs.Common.{ap, sym, ◌∙◌, length, arith}
use Rattle.cores.proofs.Cores.{cores-length}
use Rattle.cores.proofs.unfenced_count.Goals as goal

pub returns : goal.returns
returns c = sym (cores-length c.unfenced_cores.result (omega (arith, c.unfenced_cores.type_inv))) ∙ ap length c.unfenced_cores.ensures
