-- `capi::sentences::sentence_in`: the length fits in a word; buffer and answer are the sentence's.
use Rattle.std.proofs.Common.{◌≡◌, ◌≤◌, ◌∙◌, List, ℕ, sym, subst, ap, refl, arith, rules, Result, Ok, Err}
use Rattle.text.specs.Decimal.{digit_count, digits_within}
use Rattle.model.specs.declared.refusal.Refusal.{Refusal}
use Rattle.model.specs.Sizes.{most_word}
use Rattle.sentence.specs.SentenceAnswer.{SentenceAnswer, SentenceOf, sentence_meaning, left_in}
use Rattle.sentence.specs.SentenceAnswer as called
use Rattle.sentence.specs.Waiting.{facts_of}
use Rattle.buffers.specs.AnswerWords.{FitsWord, of_sentence}
use Rattle.capi.proofs.sentences.sentence_in.Goals as goal

-- the length fits in a word
sentence-fits : (ws old new : List ℕ) (v : SentenceAnswer) → SentenceOf ws old new v → FitsWord v
unfolding digit_count digits_within
sentence-fits ws old new v s n e = let l : n ≤ 700 = s.short n e in omega arith

pub overflow_cast-length : goal.overflow_cast-length
overflow_cast-length c =
    let a = c.args in
    let n = c.in-Ok.length in
    let s : SentenceOf a.words.now a.buffer.now c.sentence.new.buffer (called.answered (Ok n)) =
    subst (λ (r : Result ℕ Refusal). SentenceOf a.words.now a.buffer.now c.sentence.new.buffer (called.answered r)) c.in-Ok.is c.sentence.ensures in
    let fits : n ≤ most_word = sentence-fits a.words.now a.buffer.now c.sentence.new.buffer (called.answered (Ok n)) s n refl in
    omega arith
