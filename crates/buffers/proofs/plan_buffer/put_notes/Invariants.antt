-- `buffers::plan_buffer::put_notes`: the notes passed are written, and the other words are as found.
use Rattle.std.proofs.Common.{◌≡◌, take}
use Rattle.buffers.specs.Supplied.{notes_at, notes_words, put_at}
use Rattle.buffers.proofs.plan_buffer.put_notes.Given as goal

abbrev pub invariant-loop-i : goal.invariant-loop-i
invariant-loop-i l = l.words ≡ put_at notes_at (notes_words (take l.i l.noted)) l.fn.words
