-- What the buffer holds so far was read after the bytes that it held at first. The space that is left falls.
use Rattle.std.proofs.Common.{◌-◌, false, length}
use Rattle.stream.specs.Reading.{ReadAfter}
use Rattle.stream.proofs.fill.Given as goal

abbrev pub invariant-loop-end : goal.invariant-loop-end
invariant-loop-end g l = ReadAfter l.held l.initial.buffer l.buffer (record { held = l.end; ended = false; failed = false })

abbrev pub decreases-loop-end : goal.decreases-loop-end
decreases-loop-end g l = length l.buffer - l.end
