-- As many bytes as the buffer holds decide all that is printed.
use Rattle.text.proofs.FirstPrinted.{first-line-enough}
use Rattle.verdict.proofs.main.Goals as goal

pub answer-requires : goal.answer-requires
answer-requires c = first-line-enough
