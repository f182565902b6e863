-- As many bytes as the buffer holds decide all that is printed.
use Rattle.query.proofs.Asking.{asked-enough}
use Rattle.query.proofs.main.Goals as goal

pub answer-requires : goal.answer-requires
answer-requires c = asked-enough
