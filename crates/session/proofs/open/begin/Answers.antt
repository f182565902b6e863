-- `session::open::begin`: start's answer is written, and the run that it leaves is returned.
use mathlib.Core.List.{[], ◌∷◌}
use Rattle.std.proofs.Common.{sym, ap, ◌∙◌}
use native.Mathlib.Omega.{arith}
use Rattle.text.specs.Output.{fields, letters}
use Rattle.text.proofs.RowText.{line-bytes}
use Rattle.run.specs.Start.{Started}
use Rattle.session.specs.Operation.{answer_line}
use Rattle.session.specs.Transcript.{start_line}
use Rattle.session.proofs.TextWritten.{text_of, word-line}
use Rattle.session.proofs.open.begin.Goals as goal

pub write_line-requires : goal.write_line-requires
unfolding fields
write_line-requires c = omega (arith, line-bytes (111 ∷ 107 ∷ []) [])

pub returns-in-Ok : goal.returns-in-Ok
unfolding start_line answer_line
returns-in-Ok c = (
  text_of (sym (word-line (letters "ok")) ∙ ap (λ (s : Started). answer_line (letters "ok") s.answer) c.in-Ok.ensures) c.write_line.ensures,
  ap (λ (s : Started). s.run) c.in-Ok.ensures,
)

pub returns-in-Err : goal.returns-in-Err
unfolding start_line answer_line
returns-in-Err c = (
  text_of (ap (λ (s : Started). answer_line (letters "ok") s.answer) c.in-Err.ensures) c.write_refused.ensures,
  c.empty.ensures ∙ ap (λ (s : Started). s.run) c.in-Err.ensures,
)
