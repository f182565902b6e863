-- `capi::sentences::sivorandra_sentence`: buffer and answer are the sentence's, and its three words are written where there is space.
use Rattle.std.proofs.Common.{rules}
use Rattle.capi.specs.Sentences.{sentence_call}
use Rattle.capi.proofs.Calls.{lending-any}
use Rattle.capi.proofs.sentences.sivorandra_sentence.Goals as goal

pub returns : goal.returns
unfolding sentence_call
returns c =
    let a = c.args in
    lending-any a.buffer.now a.answer.now c.answered.ensures.fits c.answered.ensures.short _ _ (λ w gave. (search rules, search rules))
