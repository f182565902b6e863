-- `buffers::plan_buffer::put_notes`: none is written; one note more.
use Rattle.std.proofs.Common.{◌≡◌, length, arith, rules}
use Rattle.buffers.specs.Encoding.{places}
use Rattle.buffers.proofs.Noting.{no-notes, next-note}
use Rattle.buffers.proofs.plan_buffer.put_notes.Goals as goal

pub loop-i-init : goal.loop-i-init
loop-i-init c = no-notes c.args.noted c.args.words.now (omega arith)

pub loop-i-preserved : goal.loop-i-preserved
loop-i-preserved c =
    let a = c.args in
    let len : length a.noted ≡ places = search rules in
    next-note a.noted c.loop-i.i a.words.now c.loop-i.words (omega arith) (omega arith) c.loop-i.invariant c.put_note.ensures
