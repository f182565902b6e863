-- What is sent is the line that was written at the front of the buffer.
use mathlib.Core.List.{List}
use mathlib.Core.Path.{ap, subst, ◌∙◌}
use Prim.Native.Nat.{ℕ}
use Rattle.judge.specs.declared.Verdict.{Verdict}
use Rattle.judge.specs.JudgeAnswer.{verdict_meaning}
use Rattle.text.specs.FirstLine.{first_for}
use Rattle.text.specs.Output.{first_line}
use Rattle.text.proofs.Writing.{put_front}
use Rattle.stream.specs.Sent.{SentOf, sent_of}
use Rattle.verdict.proofs.FirstLineProgram.print.Goals as goal

pub returns : goal.returns
unfolding first_for
returns g c =
    subst (λ (l : List ℕ). SentOf 0 l (sent_of c.send.result))
    (put_front c.put_first-length.ensures.0 ∙ ap (λ (v : Verdict). first_line (verdict_meaning v)) c.verdict_on.ensures) c.send.ensures
