-- What is no table's text has no numbers, and no words are refused with 1 as it is (Made).
use Rattle.std.proofs.Common.{List, ℕ, Some, None, subst}
use Rattle.text.specs.Input.{read_in}
use Rattle.printer.specs.Printer.{WordsPrinter}
use Rattle.printer.proofs.Made.{bytes-made}
use Rattle.printer.proofs.Printer.new.Goals as goal

pub returns-in-Some : goal.returns-in-Some
returns-in-Some c =
    bytes-made c.args.bytes.now (read_in (Some c.in-Some.words)) c.of_words.result c.in-Some.ensures
    (subst (λ (l : List ℕ). WordsPrinter l c.of_words.result) c.as_slice.ensures c.of_words.ensures)

pub returns-in-None : goal.returns-in-None
returns-in-None c = bytes-made c.args.bytes.now (read_in None) c.of_words-in-None.result c.in-None.ensures c.of_words-in-None.ensures
