-- `buffers::plan_buffer::notes_in`: the notes passed are read, and the others are as they were made.
use Rattle.std.proofs.Common.{◌≡◌, ◌++◌, drop, replicate}
use Rattle.phase.specs.declared.Phase.TheVariants.{Resting}
use Rattle.plan_check.specs.State.{note}
use Rattle.buffers.specs.Encoding.{places}
use Rattle.buffers.specs.Supplied.{notes_at, notes_in}
use Rattle.buffers.proofs.plan_buffer.notes_in.Given as goal

abbrev pub invariant-loop-i : goal.invariant-loop-i
invariant-loop-i l = l.noted ≡ notes_in l.i (drop notes_at l.words) ++ drop l.i (replicate places (note (Resting 0)))
