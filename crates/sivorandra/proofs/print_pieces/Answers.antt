-- A piece that writes took is before what is left after it; one that they did not take whole is the last.
use Rattle.std.proofs.Common.{arith, refl, subst, sym}
use Rattle.stream.proofs.Moving.{cut-sent}
use Rattle.stream.specs.Sent.{SentOf}
use Rattle.printer.specs.Printer.{rest}
use Rattle.sivorandra.proofs.Printing.{printing-on, printing-stopped}
use Rattle.sivorandra.proofs.print_pieces.Goals as goal

pub returns-in_err-count : goal.returns-in_err-count
returns-in_err-count g c =
    let l = c.loop-buffer in
    subst (SentOf 0 (rest c.args.start)) (sym (cut-sent c.from_residual.result c.in_err-count.field-0.0 c.from_residual.ensures.1))
    (printing-stopped _ l.printer _ _ _ l.count _ l.invariant.0 c.piece-piece.ensures c.in_err-count.ensures refl)

pub loop-buffer-preserved : goal.loop-buffer-preserved
loop-buffer-preserved g c =
    let l = c.loop-buffer in
    (printing-on _ l.printer _ _ _ l.count _ l.invariant.0 c.piece-piece.ensures c.in_ok-count.ensures, omega arith)
