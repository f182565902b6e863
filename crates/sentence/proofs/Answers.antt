-- THE ANSWER OF THE SENTENCE is the first number that applies, and the sentence's length where none does.
use native.Mathlib.Omega.{arith}
use mathlib.Core.Path.{◌≡◌, refl, sym, ap, ◌∙◌}
use mathlib.Core.Bool.{Bool, true, false, cond, true≢false}
use mathlib.Core.List.{List}
use mathlib.Core.Logic.{◌↔◌, inl, inr}
use Prim.Native.Nat.{ℕ, suc, ◌≤◌, ◌<◌}
use lib.Dec.{ltb}
use lib.ListN.{length}
use borrow.Author.Tests.{ltb-true, ltb-false}
use Rattle.model.specs.Search.{any}
use Rattle.model.specs.Task.{Table, AllValid}
use Rattle.model.specs.Lists.{NeverMissed}
use Rattle.model.specs.Horizon.{horizon, last_s, hyperperiod}
use Rattle.model.specs.Firm.{firm}
use Rattle.model.specs.Verdict.{Firm, Full, Miss, verdict, first_miss, missed_in, FirstMiss}
use Rattle.model.proofs.Verdict.{verdict-exact}
use Rattle.model.proofs.Search.{least-below}
use Rattle.table.specs.Answer.{Answer}
use Rattle.table.specs.Answer as answer
use Rattle.table.specs.Words.{table_of}
use Rattle.table.specs.Numbers.{place, Earlier}
use Rattle.table.specs.Numbers as table
use Rattle.table.specs.Answer.{answer_of}
use Rattle.table.proofs.Order.{not-before-itself, later, number-most, first-only}
use Rattle.table.proofs.Exact.{refusal-exact, passed-exact}
use Rattle.table.proofs.Passed.{passed-valid}
use Rattle.judge.proofs.FirstMiss.{none-missed}
use Rattle.sentence.specs.Sentence.{sentence_text}
use Rattle.sentence.specs.Waiting.{facts_at, miss_place, facts_in, facts_of}
use Rattle.sentence.specs.Numbers.{Applies, words, seventeen, eighteen, First, NoneApplies}
use Rattle.sentence.specs.SentenceAnswer.{by_buffer, by_table, sentence_answer_by, sentence_answer_of}
use Rattle.sentence.specs.SentenceAnswer.{SentenceAnswer}
use Rattle.sentence.specs.SentenceAnswer.{Length, Refused}

-- THE RESULT OF THE SEARCH IN THE TABLE

module _ (s : Table) (ok : AllValid s) where
  -- where it finds nothing no deadline is ever missed
  pub never : any (suc (horizon s)) (missed_in s) ≡ false → NeverMissed s
  unfolding verdict
  never e = go (firm s.rule s.tasks) refl
    where
      is : (b : Bool) → firm s.rule s.tasks ≡ b → verdict s ≡ cond b (Firm (last_s s.tasks) (hyperperiod s.tasks)) (Full (last_s s.tasks) (hyperperiod s.tasks))
      is b q = rw (e, q)

      go : (b : Bool) → firm s.rule s.tasks ≡ b → NeverMissed s
      go true q = (verdict-exact s ok).accepted.0 (last_s s.tasks, hyperperiod s.tasks, inl (is true q))
      go false q = (verdict-exact s ok).accepted.0 (last_s s.tasks, hyperperiod s.tasks, inr (is false q))

  -- where it finds one it is the first miss
  pub first_found : any (suc (horizon s)) (missed_in s) ≡ true → FirstMiss s (first_miss s) (suc (miss_place s))
  first_found e = ((verdict-exact s ok).miss (first_miss s) (suc (miss_place s))).0 is
    where
      is : verdict s ≡ Miss (first_miss s) (suc (miss_place s))
      is = unfold verdict miss_place in rw e

  -- THE LAW: the facts are those of the first miss
  pub facts-first : (t p : ℕ) → FirstMiss s t (suc p) → facts_in s ≡ facts_at s t p
  unfolding verdict facts_in miss_place
  facts-first t p f = go (any (suc (horizon s)) (missed_in s)) refl (((verdict-exact s ok).miss t (suc p)).1 f)
    where
      go : (b : Bool) → any (suc (horizon s)) (missed_in s) ≡ b → verdict s ≡ Miss t (suc p) → facts_at s (first_miss s) (miss_place s) ≡ facts_at s t p
      go false e q = absurd (never e f.place.0 t f.missed)
      go true e q =
          let x : Miss (first_miss s) (suc (miss_place s)) ≡ Miss t (suc p) = rw e at q in
          let i : first_miss s ≡ t = cc in
          let j : suc (miss_place s) ≡ suc p = cc in
          let k : miss_place s ≡ p = omega arith in
          ap (λ (u : ℕ). facts_at s u (miss_place s)) i ∙ ap (facts_at s t) k

  pub first-within : any (suc (horizon s)) (missed_in s) ≡ true → first_miss s ≤ horizon s
  unfolding first_miss
  first-within e = omega (arith, least-below (suc (horizon s)) (missed_in s) e)

-- WHAT IS RIGHT OF AN ANSWER

module _ (ws : List ℕ) (bytes : ℕ) where
  abbrev s : Table
  s = table_of ws

  abbrev Right : SentenceAnswer → Type 0
  Right (Length n) = NoneApplies ws bytes × (n ≡ length (sentence_text (facts_of ws)))
  Right (Refused n p) = First ws bytes n p

  -- a number of the table
  by-words : (n p : ℕ) → table.First ws n p → First ws bytes n p
  unfolding place
  by-words n p f = (words n p f.0, none)
    where
      most : place n < 10
      most = number-most ws n p f.0

      none : (m q : ℕ) → Earlier m q n p → ¬ Applies ws bytes m q
      none m q e (words _ _ x) = f.1 m q e x
      none _ _ e (seventeen x) = later 17 0 n p (omega (arith, most)) e
      none _ _ e (eighteen x) = later 18 0 n p (omega (arith, most)) e

  module _ (passed : table.NoneApplies ws) where
    is-seventeen : NeverMissed s → First ws bytes 17 0
    unfolding place
    is-seventeen y = (seventeen y, none)
      where
        none : (m q : ℕ) → Earlier m q 17 0 → ¬ Applies ws bytes m q
        none m q e (words _ _ x) = passed m q x
        none _ _ e (seventeen x) = not-before-itself 17 0 e
        none _ _ e (eighteen x) = later 18 0 17 0 (omega arith) e

    is-eighteen : (¬ NeverMissed s) → bytes < length (sentence_text (facts_of ws)) → First ws bytes 18 0
    is-eighteen h y = (eighteen y, none)
      where
        none : (m q : ℕ) → Earlier m q 18 0 → ¬ Applies ws bytes m q
        none m q e (words _ _ x) = passed m q x
        none _ _ e (seventeen x) = h x
        none _ _ e (eighteen x) = not-before-itself 18 0 e

    is_none : (¬ NeverMissed s) → (¬ (bytes < length (sentence_text (facts_of ws)))) → NoneApplies ws bytes
    is_none h k m q (words _ _ x) = passed m q x
    is_none h k _ _ (seventeen x) = h x
    is_none h k _ _ (eighteen x) = k x

    -- one that is found is missed
    some : any (suc (horizon s)) (missed_in s) ≡ true → ¬ NeverMissed s
    some e nm = true≢false (sym e ∙ none-missed s (passed-valid ws passed) (suc (horizon s)) (λ p t l. nm p t))

    right-table : Right (by_table s bytes)
    unfolding by_table by_buffer
    right-table = go (any (suc (horizon s)) (missed_in s)) refl (ltb bytes (length (sentence_text (facts_of ws)))) refl
      where
        go : (a : Bool) → any (suc (horizon s)) (missed_in s) ≡ a → (b : Bool) → ltb bytes (length (sentence_text (facts_of ws))) ≡ b
            → Right (cond a (cond b (Refused 18 0) (Length (length (sentence_text (facts_of ws))))) (Refused 17 0))
        go false e b q = is-seventeen (never s (passed-valid ws passed) e)
        go true e true q = is-eighteen (some e) (ltb-true bytes (length (sentence_text (facts_of ws))) q)
        go true e false q = (is_none (some e) (λ l. let g = ltb-false bytes (length (sentence_text (facts_of ws))) q in omega arith), refl)

  right : Right (sentence_answer_of ws bytes)
  unfolding sentence_answer_of
  right = go (answer_of ws) refl
    where
      go : (x : Answer) → answer_of ws ≡ x → Right (sentence_answer_by x (by_table s bytes))
      go answer.Passed e = right-table ((passed-exact ws).0 e)
      go (answer.Refused n p) e = by-words n p ((refusal-exact ws n p).0 e)

  -- what is right of an answer determines it
  determined : (v : SentenceAnswer) → Right v
      → ((n p : ℕ) → (v ≡ Refused n p) ↔ First ws bytes n p) × ((n : ℕ) → (v ≡ Length n) ↔ (NoneApplies ws bytes × (n ≡ length (sentence_text (facts_of ws)))))
  determined (Length m) r = (λ n p. (λ e. absurd (apart e), λ f. absurd (r.0 n p f.0)), λ n. (λ e. let i : m ≡ n = cc in (r.0, sym i ∙ r.1), λ x. ap Length (r.1 ∙ sym x.1)))
    where
      apart : {n p : ℕ} → Length m ≡ Refused n p → ⊥
      apart e = let z : ◌≡◌ {A = ℕ} 0 1 = cc in omega arith
  determined (Refused m q) r = (λ n p. (λ e. to n p e, λ f. from n p f), λ n. (λ e. absurd (apart e), λ x. absurd (x.0 m q r.0)))
    where
      apart : {n : ℕ} → Refused m q ≡ Length n → ⊥
      apart e = let z : ◌≡◌ {A = ℕ} 0 1 = cc in omega arith

      to : (n p : ℕ) → Refused m q ≡ Refused n p → First ws bytes n p
      to n p e = let i : m ≡ n = cc in let j : q ≡ p = cc in rw (i, j) at r

      from : (n p : ℕ) → First ws bytes n p → Refused m q ≡ Refused n p
      from n p f = let x = first-only (Applies ws bytes) m q n p r f in rw (x.0, x.1)

  -- refused with n and p exactly if number n applies with position p and no earlier one does
  pub refused-exact : (n p : ℕ) → (sentence_answer_of ws bytes ≡ Refused n p) ↔ First ws bytes n p
  refused-exact n p = (determined (sentence_answer_of ws bytes) right).0 n p

  -- and a length exactly if no number applies: the sentence's
  pub length-exact : (n : ℕ) → (sentence_answer_of ws bytes ≡ Length n) ↔ (NoneApplies ws bytes × (n ≡ length (sentence_text (facts_of ws))))
  length-exact n = (determined (sentence_answer_of ws bytes) right).1 n
