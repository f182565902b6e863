-- The answer of `sentence`, and the contract of it and of the buffer (request 'the miss in a sentence').
use Rattle.std.specs.Prelude.{Result, Ok, Err, ◌≡◌, cond, List, ◌++◌, ◌↔◌, ℕ, suc, ◌≤◌, ltb, length, get_or, take, drop}
use Rattle.model.specs.Search.{any}
use Rattle.model.specs.Task.{Table}
use Rattle.model.specs.Horizon.{horizon}
use Rattle.model.specs.Verdict.{Miss, missed_in}
use Rattle.table.specs.Answer.{Answer}
use Rattle.table.specs.Answer as table
use Rattle.table.specs.Limits.{most_horizon}
use Rattle.table.specs.Words.{table_of}
use Rattle.table.specs.Answer.{answer_of}
use Rattle.judge.specs.JudgeAnswer.{judged, verdict_meaning}
use Rattle.judge.specs.Judged.{verdict_of}
use Rattle.sentence.specs.Facts.{Facts}
use Rattle.sentence.specs.Sentence.{sentence_text}
use Rattle.sentence.specs.Waiting.{facts_in, facts_of}
use Rattle.sentence.specs.Numbers.{First, NoneApplies}
use Rattle.sentence.specs.Limits.{longest_sentence}
use Rattle.sentence.specs.Parsed.{facts, parsed}
use Rattle.model.specs.declared.refusal.Refusal.{Refusal}
use Rattle.model.specs.Refusal.{number_of, position_of}

-- the answer of `sentence`: the sentence's length, or refused with number and position
pub data SentenceAnswer : Type 0 where
  Length : ℕ → SentenceAnswer
  Refused : ℕ → ℕ → SentenceAnswer

-- as code returns it
abbrev pub answered : Result ℕ Refusal → SentenceAnswer
answered (Ok n) = Length n
answered (Err e) = Refused (number_of e) (position_of e)

-- facts are written into a buffer of this number of bytes: 18 where it is shorter than the sentence, else the sentence's length
unfoldable pub by_buffer : Facts → ℕ → SentenceAnswer
by_buffer f bytes = cond (ltb bytes (length (sentence_text f))) (Refused 18 0) (Length (length (sentence_text f)))

-- for a table that passes: 17 where no deadline is missed up to and including the horizon, else the sentence of the first miss
unfoldable pub by_table : Table → ℕ → SentenceAnswer
by_table s bytes = cond (any (suc (horizon s)) (missed_in s)) (by_buffer (facts_in s) bytes) (Refused 17 0)

-- by the table's answer: a refusal with its number and position, else the answer v by the sentence's own numbers
abbrev pub sentence_answer_by : Answer → SentenceAnswer → SentenceAnswer
sentence_answer_by table.Passed v = v
sentence_answer_by (table.Refused n p) v = Refused n p

-- the answer of `sentence` to the words and a buffer of this number of bytes
unfoldable pub sentence_answer_of : List ℕ → ℕ → SentenceAnswer
sentence_answer_of ws bytes = sentence_answer_by (answer_of ws) (by_table (table_of ws) bytes)

-- the answer in the request's words: the sentence's length, or refused with number and position
pub data SentenceOutcome : Type 0 where
  of_length : ℕ → SentenceOutcome
  refused_by : ℕ → ℕ → SentenceOutcome

-- the meaning of each case
abbrev pub sentence_meaning : SentenceAnswer → SentenceOutcome
sentence_meaning (Length n) = of_length n
sentence_meaning (Refused n p) = refused_by n p

-- a text at the front of a buffer, and the rest as found
abbrev pub front : List ℕ → List ℕ → List ℕ
front text old = text ++ drop (length text) old

-- the buffer afterwards: the sentence at its front, and as found in a refusal
abbrev pub left_in : SentenceOutcome → Facts → List ℕ → List ℕ
left_in (of_length n) f old = front (sentence_text f) old
left_in (refused_by n p) f old = old

-- the contract of the answer v to the words with a buffer that was `old` and is `new`
pub record SentenceOf (ws old new : List ℕ) (v : SentenceAnswer) : Type 0 where
  -- its value
  pub value : v ≡ sentence_answer_of ws (length old)
  -- refused with n and p exactly if n is the first number that applies, at p
  pub refused : (n p : ℕ) → (sentence_meaning v ≡ refused_by n p) ↔ First ws (length old) n p
  -- a length exactly if none applies, and it is the sentence's
  pub written : (n : ℕ) → (sentence_meaning v ≡ of_length n) ↔ (NoneApplies ws (length old) × (n ≡ length (sentence_text (facts_of ws))))
  -- the buffer afterwards
  pub buffer : new ≡ left_in (sentence_meaning v) (facts_of ws) old
  -- its first n bytes are the sentence, which is parsed to the facts
  pub sentence : (n : ℕ) → sentence_meaning v ≡ of_length n → take n new ≡ sentence_text (facts_of ws)
  pub back : (n : ℕ) → sentence_meaning v ≡ of_length n → parsed (take n new) ≡ facts (facts_of ws)
  -- bytes after the sentence are unchanged
  pub behind : (n i : ℕ) → sentence_meaning v ≡ of_length n → n ≤ i → get_or new i 0 ≡ get_or old i 0
  pub size : length new ≡ length old
  -- its tick and its position are those of the verdict, which is Miss
  pub miss : (n : ℕ) → sentence_meaning v ≡ of_length n → verdict_meaning (verdict_of ws) ≡ judged (Miss (facts_of ws).tick (facts_of ws).position)
  -- no sentence is longer than 700 bytes
  pub short : (n : ℕ) → sentence_meaning v ≡ of_length n → n ≤ longest_sentence most_horizon
  -- a refusal leaves the buffer as found
  pub found : (n p : ℕ) → sentence_meaning v ≡ refused_by n p → new ≡ old
