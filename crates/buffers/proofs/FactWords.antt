-- The words of parsed facts are those that the struct of facts has.
use mathlib.Core.Path.{◌≡◌, refl, sym, ap, ◌∙◌}
use mathlib.Core.Bool.{Bool, true, false, cond}
use mathlib.Core.List.{List, [], ◌∷◌}
use Prim.Native.Nat.{ℕ, zero, suc, ◌≤◌, ◌<◌}
use native.Mathlib.Omega.{arith}
use lib.ListN.{length, replicate}
use lib.Dec.{eqb}
use borrow.Author.Tests.{eqb-true, eq-eqb, ne_eqb}
use Rattle.model.specs.Sizes.{most_tasks}
use Rattle.sentence.specs.declared.Facts as code
use Rattle.sentence.specs.Facts.{named_from, facts_by}
use Rattle.sentence.specs.Parsed.{facts, none, parsed, ParsedFacts, parsed_by, FactsOf}
use Rattle.buffers.specs.Facts.{count_of, counts_from, in_words, fact_words_of}
use Rattle.buffers.specs.AnswerWords.{of_read_back, of_parsed}

-- THE COUNTS OF POSITIONS

-- what is named from q on names no position up to q
not_yet : (p q : ℕ) (ns : List ℕ) → p ≤ q → count_of p (named_from q ns) ≡ 0
unfolding count_of named_from
not_yet p q [] l = refl
not_yet p q (n ∷ ns) l = go (eqb n 0) (not_yet p (suc q) ns (omega arith))
  where
    other : eqb (suc q) p ≡ false
    other = ne_eqb (suc q) p (λ e. omega arith)

    go : (t : Bool) → count_of p (named_from (suc q) ns) ≡ 0
        → count_of p (cond t (named_from (suc q) ns) (record { position = suc q; count = n } ∷ named_from (suc q) ns)) ≡ 0
    go true ih = ih
    go false ih = unfold count_of in ap (λ (b : Bool). cond b n (count_of p (named_from (suc q) ns))) other ∙ ih

-- the parts in front that name an earlier position do not count
pass : (q k : ℕ) (n : ℕ) (ns : List ℕ) → suc q < k → count_of k (named_from q (n ∷ ns)) ≡ count_of k (named_from (suc q) ns)
unfolding count_of named_from
pass q k n ns l = go (eqb n 0)
  where
    other : eqb (suc q) k ≡ false
    other = ne_eqb (suc q) k (λ e. omega arith)

    go : (t : Bool) → count_of k (cond t (named_from (suc q) ns) (record { position = suc q; count = n } ∷ named_from (suc q) ns)) ≡ count_of k (named_from (suc q) ns)
    go true = refl
    go false = unfold count_of in ap (λ (b : Bool). cond b n (count_of k (named_from (suc q) ns))) other

-- the count that is first
here : (q n : ℕ) (ns : List ℕ) → count_of (suc q) (named_from q (n ∷ ns)) ≡ n
unfolding count_of named_from
here q n ns = go (eqb n 0) refl
  where
    same : eqb (suc q) (suc q) ≡ true
    same = eq-eqb (suc q) (suc q) refl

    go : (t : Bool) → eqb n 0 ≡ t → count_of (suc q) (cond t (named_from (suc q) ns) (record { position = suc q; count = n } ∷ named_from (suc q) ns)) ≡ n
    go true e = not_yet (suc q) (suc q) ns (omega arith) ∙ sym (eqb-true n 0 e)
    go false e = unfold count_of in ap (λ (b : Bool). cond b n (count_of (suc q) (named_from (suc q) ns))) same

-- counts from a later position on do not see a part in front
passed : (m i q n : ℕ) (ns : List ℕ) → suc q ≤ i → counts_from i m (named_from q (n ∷ ns)) ≡ counts_from i m (named_from (suc q) ns)
unfolding counts_from
passed zero i q n ns l = refl
passed (suc m) i q n ns l = λ j. pass q (suc i) n ns (omega arith) j ∷ passed m (suc i) q n ns (omega arith) j

-- the counts of what counts name are these counts
pub counts-named : (q : ℕ) (ns : List ℕ) → counts_from q (length ns) (named_from q ns) ≡ ns
unfolding counts_from
counts-named q [] = refl
counts-named q (n ∷ ns) = λ j. here q n ns j ∷ (passed (length ns) (suc q) q n ns (omega arith) ∙ counts-named (suc q) ns) j

-- THE FACTS IN WORDS

-- the words of a struct of 32 counts are those of its facts
struct-words : (f : code.Facts) → length f.ran ≡ most_tasks → in_words f.position f.tick f.had f.length f.ran ≡ fact_words_of (facts (facts_by f))
unfolding fact_words_of
struct-words f e =
    ap (in_words f.position f.tick f.had f.length) (sym (counts-named 0 f.ran) ∙ ap (λ (n : ℕ). counts_from 0 n (named_from 0 f.ran)) e)

-- what is written of an answer of `facts_of`
pub found-words :
    (bs : List ℕ) (r : ParsedFacts) → FactsOf bs r → length r.facts.ran ≡ most_tasks
    → in_words r.facts.position r.facts.tick r.facts.had r.facts.length r.facts.ran ≡ fact_words_of (parsed bs)
found-words bs r h e = go r.found refl
  where
    go : (t : Bool) → r.found ≡ t → in_words r.facts.position r.facts.tick r.facts.had r.facts.length r.facts.ran ≡ fact_words_of (parsed bs)
    go true q = struct-words r.facts e ∙ ap fact_words_of (ap (λ (b : Bool). parsed_by b (facts_by r.facts)) (sym q) ∙ h.value)
    go false q =
        ap (λ (v : ParsedFacts). in_words v.facts.position v.facts.tick v.facts.had v.facts.length v.facts.ran) (h.zeros q)
        ∙ (zeros ∙ ap fact_words_of (ap (λ (b : Bool). parsed_by b (facts_by r.facts)) (sym q) ∙ h.value))
      where
        zeros : in_words 0 0 0 0 (replicate most_tasks 0) ≡ fact_words_of none
        zeros = unfold fact_words_of in refl

-- the case of an answer
pub found-case : (bs : List ℕ) (r : ParsedFacts) → FactsOf bs r → of_read_back r.found ≡ of_parsed (parsed bs)
found-case bs r h = go r.found refl
  where
    go : (t : Bool) → r.found ≡ t → of_read_back r.found ≡ of_parsed (parsed bs)
    go true q = ap of_read_back q ∙ ap of_parsed (ap (λ (b : Bool). parsed_by b (facts_by r.facts)) (sym q) ∙ h.value)
    go false q = ap of_read_back q ∙ ap of_parsed (ap (λ (b : Bool). parsed_by b (facts_by r.facts)) (sym q) ∙ h.value)
