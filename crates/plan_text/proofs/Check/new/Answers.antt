-- A check before its first byte reads the table (Lines).
use Rattle.plan_text.proofs.Lines.{new-answer}
use Rattle.plan_text.proofs.Check.new.Goals as goal

pub returns : goal.returns
returns c = λ bs. new-answer bs
