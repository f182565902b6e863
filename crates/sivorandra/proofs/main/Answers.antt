-- As many bytes as the buffer holds decide all that is printed.
use Rattle.text.proofs.Exact.{output-enough}
use Rattle.sivorandra.proofs.main.Goals as goal

pub answer-requires : goal.answer-requires
answer-requires c = output-enough
