-- What head and parts make of a text: the facts of its sentence, or that it is no sentence.
use mathlib.Core.Bool.{Bool, true, false≢true}
use mathlib.Core.List.{List}
use mathlib.Core.Path.{◌≡◌, refl, ap, sym, subst, ◌∙◌}
use Prim.Native.Nat.{ℕ}
use Rattle.std.proofs.Common.{Option, None, Some, Bor, replicate, arith}
use Rattle.std.specs.Array.{AllOfLen}
use Rattle.std.specs.Option.{UnwrapsOrElse}
use Rattle.std.proofs.lemmas.List.{same_lists, get_or-replicate}
use Rattle.model.specs.Sizes.{most_tasks}
use Rattle.sentence.specs.declared.Facts as code
use Rattle.sentence.specs.Facts.{Facts, Ascending, Expressible, named, facts_by}
use Rattle.sentence.specs.Sentence.{sentence_head, sentence_text}
use Rattle.sentence.specs.Parsed.{ParsedFacts, parsed_by, no_facts, found_in, FactsOf}
use Rattle.sentence.specs.Reading.{NoParts, PartsAt, NoSentence, HeadAt, heading}
use Rattle.sentence.specs.declared.reader.Head.{Head}
use Rattle.sentence.proofs.Numbers.{sentence-injective}
use Rattle.sentence.proofs.Exact.{read_back, none-exact}

-- expressible facts whose sentence the text is
pub facts-found : (bs : List ℕ) (r : ParsedFacts) → r.found ≡ true → Expressible (facts_by r.facts) × (bs ≡ sentence_text (facts_by r.facts)) → FactsOf bs r
facts-found bs r e h = record {
  value = ap (λ (b : Bool). parsed_by b (facts_by r.facts)) e ∙ sym ((read_back bs (facts_by r.facts)).1 h);
  zeros = λ q. absurd (false≢true (sym q ∙ e));
  exact = λ f. (λ g. subst (λ (x : Facts). Expressible x × (bs ≡ sentence_text x)) g.1 h, λ g. (e, sentence-injective (facts_by r.facts) f (sym h.1 ∙ g.1)));
  none = (λ q. absurd (false≢true (sym q ∙ e)), λ g. absurd (g (facts_by r.facts) h.0 h.1));
}

-- no facts
pub facts-none : (bs : List ℕ) (r : ParsedFacts) → r ≡ no_facts → ((f : Facts) → Expressible f → ¬ (bs ≡ sentence_text f)) → FactsOf bs r
facts-none bs r e h =
    subst (FactsOf bs) (sym e)
    (record {
      value = sym ((none-exact bs).1 h);
      zeros = λ q. refl;
      exact = λ f. (λ g. absurd (false≢true g.0), λ g. absurd (h f g.0 g.1));
      none = (λ q. h, λ g. refl);
    })

-- the head is there, but not the parts
module _ (bs : List ℕ) (front : Head × Bor (List ℕ)) (read : HeadAt bs front) where
  pub no-parts : NoParts front.1.now front.0.position → NoSentence bs
  no-parts none f s e =
      let u = read.only f s e in
      none f.others (subst (λ (k : ℕ). Ascending 0 k f.others) (sym u.0) s.others) u.1

  -- both are
  pub whole : (ran : List ℕ) → PartsAt front.1.now front.0.position ran →
      let f : Facts = record { position = front.0.position; tick = front.0.tick; had = front.0.had; length = front.0.length; others = named ran } in
      Expressible f × (bs ≡ sentence_text f)
  unfolding sentence_text sentence_head
  whole ran o =
      let s = read.expressible in (
        record { first = s.first; last = s.last; tick = s.tick; short = s.short; length = s.length; others = o.rise },
        read.there ∙ ap (sentence_head (heading front.0)) o.there,
      )

-- the struct's own `default` is all zeros: what a caller has who takes it in place of none
pub or_zeros :
    (o : Option code.Facts) (r : code.Facts)
    → UnwrapsOrElse o (λ f. (f.position ≡ 0) × ((f.tick ≡ 0) × ((f.had ≡ 0) × ((f.length ≡ 0) × AllOfLen (λ n. n ≡ 0) f.ran most_tasks)))) r
    → r ≡ (found_in o).facts
or_zeros None r h =
    let ran : r.ran ≡ replicate most_tasks 0 =
    same_lists r.ran (replicate most_tasks 0) h.1.1.1.1.long
    (λ k d l. h.1.1.1.1.at k d (omega (arith, l, h.1.1.1.1.long)) ∙ sym (get_or-replicate most_tasks k 0 d (omega (arith, l, h.1.1.1.1.long)))) in
    λ i. record { position = h.0 i; tick = h.1.0 i; had = h.1.1.0 i; length = h.1.1.1.0 i; ran = ran i }
or_zeros (Some f) r h = h
