-- `buffers::run_buffer::put_place`: a store for each word from the front.
use Rattle.std.proofs.Common.{◌≡◌, ◌∙◌, ◌++◌, ℕ, ap₂, drop, arith, rules}
use Rattle.std.proofs.Math.Seq.{sets-eq}
use Rattle.buffers.specs.declared.run_buffer.PhaseWords.{PhaseWords}
use Rattle.buffers.specs.Encoding.{each_words, parity_word, place_with}
use Rattle.buffers.proofs.run_buffer.put_place.Goals as goal

pub returns : goal.returns
returns c =
    let a = c.args in
    let even : c.from.result ≡ parity_word a.task.even = search rules in
    sets-eq (place_with a.task c.from.result c.from-phase.result) a.words.now 0 (omega arith)
    ∙ ap₂ (λ (n : ℕ) (ph : PhaseWords). place_with a.task n ph ++ drop each_words a.words.now) even c.from-phase.ensures
