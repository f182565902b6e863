-- The pieces that writes took, put together, are before what the printer has left. What it has left falls.
use Rattle.std.proofs.Common.{◌≡◌, length}
use Rattle.printer.specs.Printer.{rest}
use Rattle.sivorandra.proofs.Printing.{Printing}
use Rattle.sivorandra.proofs.print_pieces.Given as goal

abbrev pub invariant-loop-buffer : goal.invariant-loop-buffer
invariant-loop-buffer g l = Printing (rest l.initial.printer) (rest l.printer) l.count × (length l.buffer ≡ 65536)

abbrev pub decreases-loop-buffer : goal.decreases-loop-buffer
decreases-loop-buffer g l = length (rest l.printer)
