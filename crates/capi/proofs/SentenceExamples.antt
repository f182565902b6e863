-- The result of the call that parses a sentence, computed from the definitions: the words of A2's facts in their order and the case 0;
-- 36 zeros and the case 5 where the bytes are no sentence; everything as found where there is one word too few.
use mathlib.Core.Path.{◌≡◌, refl}
use mathlib.Core.List.{List, [], ◌∷◌, ◌++◌}
use Prim.Native.Nat.{ℕ}
use lib.ListN.{replicate}
use Rattle.text.specs.Decimal.{value, decimal, last_digits, digit_count, digits_within}
use Rattle.text.specs.Output.{letters}
use Rattle.sentence.specs.Facts.{expressible, ascending}
use Rattle.sentence.specs.Sentence.{sentence_text, sentence_head, parts}
use Rattle.sentence.specs.Parsed.{parsed, candidate, numbers_from, paired, same}
use Rattle.capi.specs.Calls.{call_result}
use Rattle.buffers.specs.Facts.{count_of, counts_from, fact_words_of}
use Rattle.capi.specs.Sentences.{facts_call}

-- a number of words as they are lent
abbrev lent : ℕ → List ℕ
lent n = replicate n 77

pub a2-read : facts_call (letters "task 3 misses at tick 5 with 3 of 4 ticks; task 1 ran 2.") (lent 37) (lent 4) ≡ call_result 0 ((3 ∷ 5 ∷ 3 ∷ 4 ∷ 2 ∷ (replicate 31 0 ++ lent 1)) ∷ (0 ∷ 0 ∷ 0 ∷ lent 1) ∷ [])
unfolding facts_call fact_words_of counts_from count_of parsed candidate numbers_from paired same sentence_text sentence_head parts expressible ascending value decimal last_digits digit_count digits_within
a2-read = refl

-- the task at position 31 is the last that can be named
pub last-read : facts_call (letters "task 32 misses at tick 9 with 0 of 8 ticks; task 2 ran 6; task 31 ran 7.") (lent 36) (lent 3)
    ≡ call_result 0 ((32 ∷ 9 ∷ 0 ∷ 8 ∷ 0 ∷ 6 ∷ (replicate 28 0 ++ (7 ∷ 0 ∷ []))) ∷ (0 ∷ 0 ∷ 0 ∷ []) ∷ [])
unfolding facts_call fact_words_of counts_from count_of parsed candidate numbers_from paired same sentence_text sentence_head parts expressible ascending value decimal last_digits digit_count digits_within
last-read = refl

pub none_read : facts_call (letters "task 3") (lent 37) (lent 4) ≡ call_result 0 ((replicate 36 0 ++ lent 1) ∷ (5 ∷ 0 ∷ 0 ∷ lent 1) ∷ [])
unfolding facts_call fact_words_of counts_from count_of parsed candidate numbers_from paired same sentence_text sentence_head parts expressible ascending value decimal last_digits digit_count digits_within
none_read = refl

pub too_few : facts_call (letters "task 3") (lent 35) (lent 3) ≡ call_result 1 (lent 35 ∷ lent 3 ∷ [])
unfolding facts_call
too_few = refl
