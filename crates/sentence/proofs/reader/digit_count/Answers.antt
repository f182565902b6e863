use Rattle.std.proofs.Common.{◌∙◌, sym, rules}
use Rattle.sentence.proofs.Reading.{digits-first}
use Rattle.sentence.proofs.reader.digit_count.Goals as goal

pub returns : goal.returns
returns c = c.unwrap_or.ensures ∙ sym (digits-first c.args.text.now c.position.result (search rules))
