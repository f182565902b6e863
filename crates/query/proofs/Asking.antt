-- The output for a question: the answer of `sentence` determines it, and as many bytes of an input as the buffer holds decide it.
-- Assumes nothing.
use mathlib.Core.Bool.{Bool, true, false, ◌&&◌, cond}
use mathlib.Core.List.{List, [], ◌∷◌, ◌++◌}
use mathlib.Core.Path.{◌≡◌, refl, sym, ap, ◌∙◌}
use Prim.Native.Nat.{ℕ, zero, suc, ◌+◌, ◌≤◌, ◌<◌}
use native.Mathlib.Numerals.{add-one}
use native.Mathlib.Omega.{arith}
use lib.ListN.{length, take, drop, get_or, set}
use lib.Dec.{eqb}
use lib.Seq.{drop-cons, take-suc-set, take-nil}
use Rattle.text.specs.Decimal.{digit_count, digits_within}
use Rattle.text.specs.Format.{newline, enough_bytes, Words, words_of, numbers_in}
use Rattle.text.specs.Output.{letters, line_of, first_line}
use Rattle.text.proofs.Exact.{first-enough}
use Rattle.sentence.specs.SentenceAnswer.{SentenceAnswer}
use Rattle.sentence.specs.SentenceAnswer.{Length, Refused}
use Rattle.sentence.specs.Reading.{starts_with}
use Rattle.sentence.specs.SentenceAnswer.{answered as written}
use Rattle.std.specs.Prelude.{Result, Ok, Err}
use Rattle.model.specs.declared.refusal.Refusal.{Refusal}
use Rattle.model.specs.Refusal.{number_of, position_of}
use Rattle.sentence.specs.SentenceAnswer.{sentence_meaning, sentence_answer_of, SentenceOf}
use Rattle.query.specs.declared.Question.{Question}
use Rattle.query.specs.declared.Question.TheVariants.{Why, ResponseTimes, Conflict, Slack, Bounds, Verdict}
use Rattle.query.specs.Query.{answer_room, why_by, why_of, answer_to, word_of, answer_after_word, no_question, query_output_of, questions, query_output, enough_input, refusal_line}

-- THE ANSWER TO `why`

module _ (ws old new : List ℕ) (v : SentenceAnswer) (h : SentenceOf ws old new v) (l : length old ≡ answer_room) where
  -- the answer goes by what `sentence` answers
  by_answer : why_by (sentence_meaning v) ws ≡ why_of ws
  unfolding why_of
  by_answer = ap (λ (w : SentenceAnswer). why_by (sentence_meaning w) ws) (h.value ∙ ap (sentence_answer_of ws) l)

  -- a sentence has space for a newline
  pub leaves-room : (n : ℕ) → v ≡ Length n → n < length new
  unfolding digit_count digits_within
  leaves-room n e = let k : n ≤ 700 = h.short n (ap sentence_meaning e) in let s = h.size in omega arith

  -- the sentence and a newline
  pub why-sentence : (n : ℕ) → v ≡ Length n → (n + 1 ≤ answer_room) × (take (n + 1) (set new n newline) ≡ why_of ws)
  why-sentence n e =
      let k = leaves-room n e in
      let s = h.size in (
        omega arith,
        ap (λ (m : ℕ). take m (set new n newline)) (add-one n)
            ∙ (take-suc-set new n newline k
            ∙ (ap (λ (t : List ℕ). t ++ (newline ∷ [])) (h.sentence n (ap sentence_meaning e))
            ∙ (ap (λ (w : SentenceAnswer). why_by (sentence_meaning w) ws) (sym e) ∙ by_answer))),
      )

  -- the refusal
  pub why-refused : (n p : ℕ) → v ≡ Refused n p → line_of (letters "refused") (n ∷ p ∷ []) ≡ why_of ws
  unfolding first_line
  why-refused n p e = ap (λ (x : SentenceAnswer). why_by (sentence_meaning x) ws) (sym e) ∙ by_answer

-- as code has it
module _ (ws old new : List ℕ) (r : Result ℕ Refusal) (h : SentenceOf ws old new (written r)) (l : length old ≡ answer_room) where
  pub ends-inside : (n : ℕ) → r ≡ Ok n → n < length new
  ends-inside n is = leaves-room ws old new (written r) h l n (ap written is)

  pub why-ok : (n : ℕ) → r ≡ Ok n → (n + 1 ≤ answer_room) × (take (n + 1) (set new n newline) ≡ why_of ws)
  why-ok n is = why-sentence ws old new (written r) h l n (ap written is)

  -- the buffer keeps its length
  pub why-err : (e : Refusal) → r ≡ Err e → (length new ≡ answer_room) × (refusal_line e ≡ why_of ws)
  unfolding first_line
  why-err e is = (h.size ∙ l, why-refused ws old new (written r) h l (number_of e) (position_of e) (ap written is))

-- THE QUESTION

-- the question at a place of the list is answered where its word is in front, ..
pub asked_here :
    (i : ℕ) (bs : List ℕ) → i < length questions → starts_with (word_of (get_or questions i Why)) bs ≡ true → query_output_of (drop i questions) bs ≡ answer_after_word (get_or questions i Why) bs
unfolding query_output_of
asked_here i bs h e =
    let q = get_or questions i Why in
    ap (λ (qs : List Question). query_output_of qs bs) (drop-cons questions i Why h)
    ∙ ap (λ (t : Bool). cond t (answer_after_word q bs) (query_output_of (drop (suc i) questions) bs)) e

-- .. and else skipped
pub asked-on :
    (i : ℕ) (bs : List ℕ) → i < length questions → starts_with (word_of (get_or questions i Why)) bs ≡ false
    → query_output_of (drop i questions) bs ≡ query_output_of (drop (i + 1) questions) bs
unfolding query_output_of
asked-on i bs h e =
    let q = get_or questions i Why in
    ap (λ (qs : List Question). query_output_of qs bs) (drop-cons questions i Why h)
    ∙ (ap (λ (t : Bool). cond t (answer_after_word q bs) (query_output_of (drop (suc i) questions) bs)) e
    ∙ ap (λ (k : ℕ). query_output_of (drop k questions) bs) (sym (add-one i)))

-- no question is left
pub asked-none : (i : ℕ) (bs : List ℕ) → i ≡ length questions → query_output_of (drop i questions) bs ≡ no_question
unfolding query_output_of
asked-none i bs e = ap (λ (k : ℕ). query_output_of (drop k questions) bs) e

-- as many bytes as the word has decide whether a text begins with it
begins-enough : (word : List ℕ) (n : ℕ) (bs : List ℕ) → starts_with word (take (length word + n) bs) ≡ starts_with word bs
unfolding starts_with
begins-enough [] n bs = refl
begins-enough (c ∷ cs) n [] = ap (starts_with (c ∷ cs)) (take-nil (length (c ∷ cs) + n))
begins-enough (c ∷ cs) n (b ∷ bs) =
    let e : suc (length cs) + n ≡ suc (length cs + n) = omega arith in
    ap (λ (m : ℕ). starts_with (c ∷ cs) (take m (b ∷ bs))) e ∙ ap (λ (t : Bool). eqb c b && t) (begins-enough cs n bs)

-- what is after the first k bytes
behind : (k n : ℕ) (bs : List ℕ) → drop k (take (k + n) bs) ≡ take n (drop k bs)
behind zero n bs = let e : 0 + n ≡ n = omega arith in ap (λ (m : ℕ). take m bs) e
behind (suc k) n [] = ap (drop (suc k)) (take-nil (suc k + n)) ∙ sym (take-nil n)
behind (suc k) n (b ∷ bs) = let e : suc k + n ≡ suc (k + n) = omega arith in ap (λ (m : ℕ). drop (suc k) (take m (b ∷ bs))) e ∙ behind k n bs

-- so are those of a word and a table for each question
answer-enough : (q : Question) (n : ℕ) (bs : List ℕ) → enough_bytes ≤ n → answer_after_word q (take (length (word_of q) + n) bs) ≡ answer_after_word q bs
answer-enough q n bs h =
    ap (λ (w : Words). answer_to q (numbers_in w))
    (ap words_of (behind (length (word_of q)) n bs) ∙ first-enough (drop (length (word_of q)) bs) n h)

-- no word is longer than `response_times`
word-most : (q : Question) → (n : ℕ) × (enough_input ≡ length (word_of q) + n) × (enough_bytes ≤ n)
word-most Why = (4 + enough_bytes, refl, omega arith)
word-most ResponseTimes = (enough_bytes, refl, omega arith)
word-most Conflict = (2 + enough_bytes, refl, omega arith)
word-most Slack = (2 + enough_bytes, refl, omega arith)
word-most Bounds = (1 + enough_bytes, refl, omega arith)
word-most Verdict = (enough_bytes, refl, omega arith)

of-enough : (qs : List Question) (bs : List ℕ) → query_output_of qs (take enough_input bs) ≡ query_output_of qs bs
unfolding query_output_of
of-enough [] bs = refl
of-enough (q ∷ qs) bs =
    let m = word-most q in
    let k = length (word_of q) + m.0 in
    let rest : query_output_of qs (take k bs) ≡ query_output_of qs bs = ap (λ (j : ℕ). query_output_of qs (take j bs)) (sym m.1) ∙ of-enough qs bs in
    ap (λ (j : ℕ). query_output_of (q ∷ qs) (take j bs)) m.1
    ∙ (λ i. cond (begins-enough (word_of q) m.0 bs i) (answer-enough q m.0 bs m.2 i) (rest i))

-- THEOREM (asked-enough): the first 2,528 bytes of an input decide all that is printed for it
pub asked-enough : (bs : List ℕ) → query_output (take enough_input bs) ≡ query_output bs
unfolding query_output
asked-enough bs = of-enough questions bs
