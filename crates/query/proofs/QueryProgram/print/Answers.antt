-- The first question whose word is in front is answered, on the table after the word.
use Rattle.std.proofs.Common.{◌≡◌, ℕ, List, refl, sym, ap, subst, ◌∙◌, arith, true, false, length, take, drop, get_or}
use lib.Dec.{eqb}
use Rattle.std.specs.Cmp.Lexicographic.{pointwise}
use Rattle.text.specs.Format.{words_of, numbers_in}
use Rattle.sentence.specs.Reading.{starts_with}
use Rattle.stream.specs.Sent.{SentOf, sent_of}
use Rattle.query.specs.declared.Question.TheVariants.{Why}
use Rattle.query.specs.Query.{answer_to, questions, query_output, word_of}
use Rattle.sentence.proofs.Reading.{front-begins}
use Rattle.query.proofs.Asking.{asked_here, asked-on, asked-none}
use Rattle.query.proofs.QueryProgram.print.Goals as goal

pub loop-question-init : goal.loop-question-init
unfolding query_output
loop-question-init g c = refl

pub returns-in-Some : goal.returns-in-Some
returns-in-Some g c =
    let i = c.loop-question.question-index in
    let bs = c.args.bytes.now in
    let q = get_or questions i Why in
    let w = c.word_of.ensures in
    let h = c.in-Some.ensures.cases in
    let e : starts_with (word_of q) bs ≡ true =
    sym (front-begins (word_of q) bs) ∙ subst (λ (v : List ℕ). pointwise eqb (take (length v) bs) v ≡ true) w h.0 in
    let t : c.in-Some.table.now ≡ drop (length (word_of q)) bs = h.1 ∙ ap (λ (v : List ℕ). drop (length v) bs) w in
    subst (λ (t : List ℕ). SentOf 0 t (sent_of c.send_answer.result))
    (ap (λ (t : List ℕ). answer_to q (numbers_in (words_of t))) t ∙ sym (c.loop-question.invariant ∙ asked_here i bs c.loop-question-test.true e))
    c.send_answer.ensures

pub loop-question-preserved : goal.loop-question-preserved
loop-question-preserved g c =
    let i = c.loop-question.question-index in
    let bs = c.args.bytes.now in
    let q = get_or questions i Why in
    let e : starts_with (word_of q) bs ≡ false =
    sym (front-begins (word_of q) bs)
    ∙ subst (λ (v : List ℕ). pointwise eqb (take (length v) bs) v ≡ false) c.word_of.ensures c.in_default.ensures.cases in
    c.loop-question.invariant ∙ asked-on i bs c.loop-question-test.true e

pub returns : goal.returns
returns g c =
    let l = c.loop-question in
    let over : l.question-index ≡ length questions = omega arith in
    subst (λ (t : List ℕ). SentOf 0 t (sent_of c.send.result)) (sym (l.invariant ∙ asked-none l.question-index _ over)) c.send.ensures
