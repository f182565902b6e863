-- The judge's answer in the scope's words (scope, 'Look-ahead and verdict'): one of four, each with its values.
use Rattle.std.specs.Prelude.{ℕ}
use Rattle.model.specs.Verdict as model
use Rattle.judge.specs.declared.Verdict.{Verdict}
use Rattle.judge.specs.declared.Verdict.TheVariants.{Firm, Full, Miss, Refused}

-- a verdict on a table that passes, Firm or Full with S and P or Miss with tick and position; or refused with number and position, as in the model's `Answer`
pub data JudgeAnswer : Type 0 where
  judged : model.Verdict → JudgeAnswer
  refused : ℕ → ℕ → JudgeAnswer

-- the meaning of each case of the answer
abbrev pub verdict_meaning : Verdict → JudgeAnswer
verdict_meaning (Firm s p) = judged (model.Firm s p)
verdict_meaning (Full s p) = judged (model.Full s p)
verdict_meaning (Miss t p) = judged (model.Miss t p)
verdict_meaning (Refused n p) = refused n p

-- the case with this meaning: the inverse (`meaning-case`, `case-meaning`)
abbrev pub verdict_case : JudgeAnswer → Verdict
verdict_case (judged (model.Firm s p)) = Firm s p
verdict_case (judged (model.Full s p)) = Full s p
verdict_case (judged (model.Miss t p)) = Miss t p
verdict_case (refused n p) = Refused n p
