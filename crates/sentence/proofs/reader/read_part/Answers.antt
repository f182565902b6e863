use Rattle.sentence.proofs.Parting.{no-count}
use Rattle.sentence.proofs.reader.read_part.Goals as goal

pub returns-in_err-count : goal.returns-in_err-count
returns-in_err-count c =
    rw c.from_residual-in_err-count.ensures
    (no-count c.args.text.now (c.in_ok-task.task, c.in_ok-task.text) c.in_ok-task.ensures c.in_err-count.ensures)
