-- `buffers::plan_buffer::put_note`: the four stores are the note's words.
use Rattle.std.proofs.Common.{◌∙◌, ap}
use Rattle.buffers.specs.declared.run_buffer.PhaseWords.{PhaseWords}
use Rattle.buffers.specs.Supplied.{four_words, put_at}
use Rattle.buffers.proofs.Noting.{note-put}
use Rattle.buffers.proofs.plan_buffer.put_note.Goals as goal

pub returns : goal.returns
returns c =
    let a = c.args in
    let ph = c.from-phase.result in
    note-put a.words.now a.at ph.kind ph.first ph.second ph.third c.requires
    ∙ ap (λ (t : PhaseWords). put_at a.at (four_words t) a.words.now) c.from-phase.ensures
