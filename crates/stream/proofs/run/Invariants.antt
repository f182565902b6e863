-- There is space after what is left.
use Rattle.std.proofs.Common.{◌≡◌, ◌<◌, length}
use Rattle.stream.proofs.run.Given as goal

abbrev pub invariant-loop : goal.invariant-loop
invariant-loop g l = (length l.buffer ≡ length l.initial.buffer) × (l.held < length l.buffer)
