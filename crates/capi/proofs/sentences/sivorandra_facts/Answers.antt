-- `capi::sentences::sivorandra_facts`: the parsed facts and the answer are written where there is space.
use Rattle.std.proofs.Common.{rules}
use Rattle.buffers.specs.Facts.{fact_words}
use Rattle.capi.specs.Sentences.{facts_call}
use Rattle.capi.proofs.Calls.{lending}
use Rattle.capi.proofs.sentences.sivorandra_facts.Goals as goal

pub returns : goal.returns
unfolding facts_call
returns c =
    let a = c.args in
    lending a.facts.now a.answer.now fact_words c.answered.ensures.fits c.answered.ensures.short _ _ (λ e w gave. (search rules, search rules))
