use Rattle.std.proofs.Common.{sym, ◌∙◌}
use Rattle.printer.proofs.Emitting.{piece-refused}
use Rattle.printer.proofs.Printer.piece.Goals as goal

pub returns : goal.returns
returns c = piece-refused c.args.self c.args.buffer.now (sym c.valid.ensures ∙ c.if-valid.false)
