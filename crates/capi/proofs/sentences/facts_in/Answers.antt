-- `capi::sentences::facts_in`: the parsed facts are written, and whether there are some is the answer.
use Rattle.std.proofs.Common.{◌≡◌, refl, sym, ap, ◌∙◌, ◌++◌, List, ℕ, drop, length, Option, None, Some}
use Rattle.std.specs.Option.{is_some}
use Rattle.model.specs.Sizes.{most_tasks}
use Rattle.sentence.specs.declared.Facts as code
use Rattle.sentence.specs.Parsed.{found_in}
use Rattle.sentence.proofs.Finding.{or_zeros}
use Rattle.buffers.specs.AnswerWords.{of_read_back}
use Rattle.buffers.specs.Facts.{fact_words, in_words}
use Rattle.buffers.proofs.FactWords.{found-words, found-case}
use Rattle.capi.proofs.sentences.facts_in.Goals as goal

-- facts are found where there are some
found-some : (o : Option code.Facts) → is_some o ≡ (found_in o).found
found-some None = refl
found-some (Some f) = refl

pub returns : goal.returns
returns c =
    let a = c.args in
    let r = found_in c.facts_of-found.result in
    let held : c.unwrap_or_default.result ≡ r.facts = or_zeros c.facts_of-found.result c.unwrap_or_default.result c.unwrap_or_default.ensures in
    let size : length r.facts.ran ≡ most_tasks = ap (λ (f : code.Facts). length f.ran) (sym held) ∙ c.put_facts.ensures.1 in
    record {
      left =
          c.put_facts.ensures.0
          ∙ ap (λ (f : code.Facts). in_words f.position f.tick f.had f.length f.ran ++ drop fact_words a.facts.now) held
          ∙ ap (λ (v : List ℕ). v ++ drop fact_words a.facts.now) (found-words a.bytes.now r c.facts_of-found.ensures size);
      answer = c.from.ensures ∙ ap of_read_back (found-some c.facts_of-found.result) ∙ found-case a.bytes.now r c.facts_of-found.ensures;
    }
