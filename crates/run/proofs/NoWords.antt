-- Start from no words at all is turned down with 1, as from what is no table's text: the refusal that a session writes itself for a text that is
-- too long is this one.
use mathlib.Core.List.{[]}
use mathlib.Core.Path.{◌≡◌, refl}
use Rattle.std.proofs.Common.{Err}
use Rattle.model.specs.declared.refusal.Refusal.TheVariants.{NotATable}
use Rattle.table.specs.Answer.{answer_of, header_number}
use Rattle.judge.specs.Judged.{verdict_of}
use Rattle.run.specs.Answer.{Refused}
use Rattle.run.specs.Start.{start_answer, start_of, started}

pub none-started : started (Err NotATable) ≡ start_of []
unfolding start_of start_answer verdict_of answer_of header_number
none-started = refl

pub no_words : (start_of []).answer ≡ Refused 1 0
unfolding start_of start_answer verdict_of answer_of header_number
no_words = refl
