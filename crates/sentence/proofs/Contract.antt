-- The contract of `sentence` follows from the exactness of its numbers and from what is done with a table that passed.
use native.Mathlib.Omega.{arith}
use mathlib.Core.Path.{◌≡◌, refl, sym, ap, ◌∙◌, subst}
use mathlib.Core.Bool.{true}
use mathlib.Core.List.{List}
use Prim.Native.Nat.{ℕ, suc, ◌+◌, ◌-◌, ◌≤◌, ◌<◌}
use lib.ListN.{length, get_or, take, drop, length-append, length-drop}
use lib.Seq.{take_at, get_or-append-add, get_or-drop}
use Rattle.model.specs.Search.{any}
use Rattle.model.specs.Task.{Table, task}
use Rattle.model.specs.Horizon.{horizon}
use Rattle.model.specs.Verdict.{Miss, missed_in, first_miss}
use Rattle.std.proofs.lemmas.Bool.{true_from_ne_false}
use Rattle.table.specs.Answer.{Answer}
use Rattle.table.specs.declared.Loaded.{Loaded}
use Rattle.table.specs.Limits.{most_time}
use Rattle.table.specs.Words.{table_of}
use Rattle.table.specs.Numbers as table
use Rattle.std.specs.Prelude.{Result, Ok, Err}
use Rattle.model.specs.declared.refusal.Refusal.{Refusal}
use Rattle.model.specs.Refusal.{number_of, position_of}
use Rattle.table.proofs.Contract.{load-ok, load-err}
use Rattle.table.specs.Load.{LoadOf, LoadedAs}
use Rattle.table.proofs.Passed.{passed-count, passed-inside, passed-valid, passed-horizon}
use Rattle.table.specs.Fit.{loaded_table}
use Rattle.table.proofs.Fit.{same-table}
use Rattle.judge.specs.JudgeAnswer.{judged, verdict_meaning}
use Rattle.judge.specs.Judged.{verdict_of}
use Rattle.judge.proofs.Contract.{judged-exact}
use Rattle.sentence.specs.Counting.{LengthsWithin}
use Rattle.sentence.specs.Facts.{Expressible}
use Rattle.sentence.specs.Sentence.{sentence_text}
use Rattle.sentence.specs.Parsed.{parsed}
use Rattle.sentence.specs.Waiting.{miss_place, facts_in, facts_of}
use Rattle.sentence.specs.Numbers.{NoneApplies, words, seventeen, eighteen}
use Rattle.sentence.specs.SentenceAnswer.{by_table, sentence_answer_by, sentence_answer_of, SentenceOutcome, of_length, refused_by, sentence_meaning, front, left_in, SentenceOf}
use Rattle.sentence.specs.SentenceAnswer.{SentenceAnswer}
use Rattle.sentence.specs.SentenceAnswer.{Length, Refused}
use Rattle.sentence.proofs.Exact.{sentence-back}
use Rattle.sentence.proofs.Waiting.{missed_here}
use Rattle.sentence.proofs.Misses.{miss-expressible}
use Rattle.sentence.proofs.LengthsWithin.{sentence-longest}
use Rattle.sentence.proofs.Answers.{never, first_found, first-within, refused-exact, length-exact}

-- the meaning of an answer determines it
meaning-length : (v : SentenceAnswer) (n : ℕ) → sentence_meaning v ≡ of_length n → v ≡ Length n
meaning-length (Length m) n e = cc
meaning-length (Refused m q) n e = absurd (let z : ◌≡◌ {A = ℕ} 0 1 = cc in omega arith)

meaning-refused : (v : SentenceAnswer) (n p : ℕ) → sentence_meaning v ≡ refused_by n p → v ≡ Refused n p
meaning-refused (Length m) n p e = absurd (let z : ◌≡◌ {A = ℕ} 0 1 = cc in omega arith)
meaning-refused (Refused m q) n p e = cc

-- a text at the front of a buffer: after it the bytes as found
front-behind : (w old : List ℕ) (i : ℕ) → length w ≤ i → get_or (front w old) i 0 ≡ get_or old i 0
front-behind w old i l =
    let e : i ≡ length w + (i - length w) = omega arith in
    ap (λ (k : ℕ). get_or (front w old) k 0) e
    ∙ (get_or-append-add w (drop (length w) old) (i - length w) 0 ∙ get_or-drop (length w) old (i - length w) 0 ∙ ap (λ (k : ℕ). get_or old k 0) (sym e))

front-size : (w old : List ℕ) → length w ≤ length old → length (front w old) ≡ length old
front-size w old l = omega (arith, length-append w (drop (length w) old), length-drop (length w) old)

module _ (ws : List ℕ) where
  -- a table that misses has the verdict Miss, with the tick and the position of the facts
  facts-verdict :
      table.NoneApplies ws → any (suc (horizon (table_of ws))) (missed_in (table_of ws)) ≡ true
      → verdict_meaning (verdict_of ws) ≡ judged (Miss (facts_of ws).tick (facts_of ws).position)
  unfolding facts_in
  facts-verdict none e =
      ((judged-exact ws).miss (first_miss (table_of ws)) (suc (miss_place (table_of ws)))).1 (none, first_found (table_of ws) (passed-valid ws none) e)

  -- and its facts are expressible
  facts-expressible : table.NoneApplies ws → any (suc (horizon (table_of ws))) (missed_in (table_of ws)) ≡ true → Expressible (facts_of ws)
  unfolding facts_in
  facts-expressible none e =
      let s = table_of ws in
      let ok = passed-valid ws none in
      let f = first_found s ok e in
      let l = (missed_here s ok (first_miss s) (miss_place s) f).0 in
      miss-expressible s ok (first_miss s) (miss_place s) f (passed-count ws none).1
      (omega (arith, first-within s ok e, passed-horizon ws none)) (omega (arith, (passed-inside ws none (miss_place s) l).length_from.1))

module _ (ws old new : List ℕ) where
  abbrev text : List ℕ
  text = sentence_text (facts_of ws)

  -- where no number applies the table passes and misses, and the sentence has space
  passed : NoneApplies ws (length old) → table.NoneApplies ws
  passed none n p x = none n p (words n p x)

  misses : NoneApplies ws (length old) → any (suc (horizon (table_of ws))) (missed_in (table_of ws)) ≡ true
  misses none =
      true_from_ne_false (any (suc (horizon (table_of ws))) (missed_in (table_of ws)))
      (λ e. none 17 0 (seventeen (never (table_of ws) (passed-valid ws (passed none)) e)))

  room : NoneApplies ws (length old) → length text ≤ length old
  room none = not-less (λ l. none 18 0 (eighteen l))
    where
      not-less : {m n : ℕ} → ¬ (m < n) → n ≤ m
      not-less h = omega arith

  by_value : (v : SentenceAnswer) → v ≡ sentence_answer_of ws (length old) → new ≡ left_in (sentence_meaning v) (facts_of ws) old → SentenceOf ws old new v
  by_value v e f = record {
    value = e;
    refused = λ n p. (λ x. (refused-exact ws (length old) n p).0 (sym e ∙ meaning-refused v n p x), λ x. ap sentence_meaning (e ∙ (refused-exact ws (length old) n p).1 x));
    written = λ n. (none n, λ x. ap sentence_meaning (e ∙ (length-exact ws (length old) n).1 x));
    buffer = f;
    sentence = sentence;
    back = λ n x. ap parsed (sentence n x) ∙ sentence-back (facts_of ws) (facts-expressible ws (passed (none n x).0) (misses (none n x).0));
    behind = λ n i x l. ap (λ (z : List ℕ). get_or z i 0) (text-there n x) ∙ front-behind text old i (omega (arith, (none n x).1));
    size = go v refl;
    miss = λ n x. facts-verdict ws (passed (none n x).0) (misses (none n x).0);
    short = λ n x. omega (arith, (none n x).1, sentence-longest ws (length old) (none n x).0);
    found = found;
  }
    where
      none : (n : ℕ) → sentence_meaning v ≡ of_length n → NoneApplies ws (length old) × (n ≡ length text)
      none n x = (length-exact ws (length old) n).0 (sym e ∙ meaning-length v n x)

      text-there : (n : ℕ) → sentence_meaning v ≡ of_length n → new ≡ front text old
      text-there n x = f ∙ ap (λ (z : SentenceOutcome). left_in z (facts_of ws) old) x

      sentence : (n : ℕ) → sentence_meaning v ≡ of_length n → take n new ≡ text
      sentence n x = ap (take n) (text-there n x) ∙ take_at text (drop (length text) old) n (sym (none n x).1)

      found : (n p : ℕ) → sentence_meaning v ≡ refused_by n p → new ≡ old
      found n p x = f ∙ ap (λ (z : SentenceOutcome). left_in z (facts_of ws) old) x

      go : (w : SentenceAnswer) → v ≡ w → length new ≡ length old
      go (Length n) x = ap length (text-there n (ap sentence_meaning x)) ∙ front-size text old (room (none n (ap sentence_meaning x)).0)
      go (Refused n p) x = ap length (found n p (ap sentence_meaning x))

-- the lengths of a table that passed are within their limit
pub short-table : (ws : List ℕ) (t : Loaded) → LoadedAs ws t → table.NoneApplies ws → LengthsWithin t
short-table ws t h none p b =
    subst (λ (s : Table). p < length s.tasks → (task s p).length ≤ most_time) (sym (same-table ws t h none))
    (λ i. (passed-inside ws none p i).length_from.1)
    (omega (arith, h.count, ap (λ (s : Table). length s.tasks) (same-table ws t h none)))

module _ (ws : List ℕ) (loaded : Result Loaded Refusal) (l : LoadOf ws loaded) (old new : List ℕ) where
  -- what is answered of it is answered of the words
  pub passed-sentence :
      (t : Loaded) → loaded ≡ Ok t → (v : SentenceAnswer)
      → (v ≡ by_table (loaded_table t) (length old)) × (new ≡ left_in (sentence_meaning v) (facts_in (loaded_table t)) old) → SentenceOf ws old new v
  passed-sentence t e v x =
      by_value ws old new v (x.0 ∙ (ap (λ (s : Table). by_table s (length old)) same ∙ sym is))
      (x.1 ∙ ap (λ (s : Table). left_in (sentence_meaning v) (facts_in s) old) same)
    where
      same : loaded_table t ≡ table_of ws
      same = let (h, none, passed) = load-ok ws loaded l t e in same-table ws t h none

      is : sentence_answer_of ws (length old) ≡ by_table (table_of ws) (length old)
      is =
          let (h, none, passed) = load-ok ws loaded l t e in
          unfold sentence_answer_of in ap (λ (y : Answer). sentence_answer_by y (by_table (table_of ws) (length old))) passed

  -- a refusal of the table is that of the sentence, and the buffer is as found
  pub refused-sentence : (x : Refusal) → loaded ≡ Err x → new ≡ old → SentenceOf ws old new (Refused (number_of x) (position_of x))
  refused-sentence x e same = by_value ws old new (Refused (number_of x) (position_of x)) (sym is) same
    where
      is : sentence_answer_of ws (length old) ≡ Refused (number_of x) (position_of x)
      is = unfold sentence_answer_of in ap (λ (y : Answer). sentence_answer_by y (by_table (table_of ws) (length old))) (load-err ws loaded l x e).0
