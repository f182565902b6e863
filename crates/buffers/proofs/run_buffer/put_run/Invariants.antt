-- `buffers::run_buffer::put_run`: the places passed are written, and the other words are as found.
use Rattle.std.proofs.Common.{◌≡◌}
use Rattle.buffers.specs.Encoding.{overwritten}
use Rattle.buffers.proofs.run_buffer.put_run.Given as goal

abbrev pub invariant-loop-i : goal.invariant-loop-i
invariant-loop-i l = l.words ≡ overwritten l.i l.run l.fn.words
