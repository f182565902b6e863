-- The contract of a round of the program: bytes of the input are fed to the check, and its answer is passed to writes.
use Rattle.std.specs.Prelude.{Bool, false, not, true, List, ◌≡◌, ℕ}
use Rattle.splitter.specs.Split.{nothing}
use Rattle.stream.specs.declared.Round.{Round}
use Rattle.stream.specs.Received.{continues}
use Rattle.stream.specs.Sent.{SentOf, sent_of}
use Rattle.plan_text.specs.Check.{Check, FedOf, is_over, check_answer}
use Rattle.plan_text.specs.Printed.{plan_answer_line}

-- bytes were fed to a check, and this is the check after them
pub record RoundOf (c : Check) (ended : Bool) (bytes : List ℕ) (new : Check) (r : Round) : Type 0 where
  pub feeds : FedOf c ended bytes (record { check = new; taken = r.taken })
  -- it reads again unless the answer is known, and then that is passed to writes
  pub again : continues r.flow ≡ not (is_over new.stage)
  pub over : continues r.flow ≡ false → SentOf 0 (plan_answer_line new.answer) (sent_of r.sent)
  -- the input has ended: the answer at its end is passed to writes
  pub end : ended ≡ true → SentOf 0 (plan_answer_line (check_answer c nothing bytes)) (sent_of r.sent) × (continues r.flow ≡ false)
