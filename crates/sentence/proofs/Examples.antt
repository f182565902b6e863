-- Sentences, and texts with what they are parsed to, computed from the definitions.
use mathlib.Core.List.{List, [], ◌∷◌, map}
use mathlib.Core.Path.{◌≡◌, refl}
use Prim.Native.Nat.{ℕ}
use Prim.Native.String.{String}
use Rattle.text.specs.Decimal.{value, decimal, last_digits, digit_count, digits_within}
use Rattle.text.specs.Output.{letters}
use Rattle.sentence.specs.Facts.{Facts, Part, expressible, ascending}
use Rattle.sentence.specs.Sentence.{parts, sentence_head, sentence_text}
use Rattle.sentence.specs.Parsed.{ParsedSentence, facts, none, parsed, candidate, numbers_from, paired, same}

abbrev miss : ℕ → ℕ → ℕ → ℕ → List Part → Facts
miss position tick had length others = record { position = position; tick = tick; had = had; length = length; others = others }

abbrev ran : ℕ → ℕ → Part
ran position count = record { position = position; count = count }

-- a text and what it is read back to
pub record Case : Type 0 where
  pub text : String
  pub reads : ParsedSentence

abbrev case : String → ParsedSentence → Case
case s u = record { text = s; reads = u }

abbrev pub cases : List Case
cases =
    -- A2 and F
    case "task 3 misses at tick 5 with 3 of 4 ticks; task 1 ran 2." (facts (miss 3 5 3 4 (ran 1 2 ∷ [])))
    ∷ case "task 1 misses at tick 1 with 1 of 2 ticks." (facts (miss 1 1 1 2 []))
    -- `ticks` is never singular, and a task above that did not run is not named
    ∷ case "task 32 misses at tick 7 with 0 of 1 ticks; task 2 ran 10; task 31 ran 1." (facts (miss 32 7 0 1 (ran 2 10 ∷ ran 31 1 ∷ [])))
    ∷ case "task 1 misses at tick 7 with 0 of 1 tick." none
    -- a zero in front
    ∷ case "task 01 misses at tick 1 with 1 of 2 ticks." none
    ∷ case "task 1 misses at tick 0 with 0 of 2 ticks." (facts (miss 1 0 0 2 []))
    ∷ case "task 1 misses at tick 0 with 00 of 2 ticks." none
    -- positions 0 and 33
    ∷ case "task 0 misses at tick 1 with 1 of 2 ticks." none
    ∷ case "task 33 misses at tick 1 with 1 of 2 ticks." none
    -- as many ticks had as C
    ∷ case "task 1 misses at tick 1 with 2 of 2 ticks." none
    -- parts that fall, that are equal, and at or below the late task
    ∷ case "task 3 misses at tick 5 with 3 of 4 ticks; task 2 ran 1; task 1 ran 2." none
    ∷ case "task 3 misses at tick 5 with 3 of 4 ticks; task 1 ran 1; task 1 ran 2." none
    ∷ case "task 3 misses at tick 5 with 3 of 4 ticks; task 3 ran 2." none
    ∷ case "task 3 misses at tick 5 with 3 of 4 ticks; task 4 ran 2." none
    ∷ case "task 3 misses at tick 5 with 3 of 4 ticks; task 0 ran 2." none
    -- a count of 0
    ∷ case "task 3 misses at tick 5 with 3 of 4 ticks; task 1 ran 0." none
    -- 2^64 - 1 and 2^64
    ∷ case "task 2 misses at tick 18446744073709551615 with 3 of 18446744073709551615 ticks; task 1 ran 18446744073709551615." (facts
    (miss 2 18446744073709551615 3 18446744073709551615 (ran 1 18446744073709551615 ∷ [])))
    ∷ case "task 2 misses at tick 18446744073709551616 with 3 of 4 ticks." none
    ∷ case "task 2 misses at tick 5 with 3 of 18446744073709551616 ticks." none
    ∷ case "task 2 misses at tick 5 with 3 of 4 ticks; task 1 ran 18446744073709551616." none
    -- a newline at the end, no full stop, two of them, a space more, and no text
    ∷ case "task 1 misses at tick 1 with 1 of 2 ticks.\n" none
    ∷ case "task 1 misses at tick 1 with 1 of 2 ticks" none
    ∷ case "task 1 misses at tick 1 with 1 of 2 ticks.." none
    ∷ case "task 1 misses at tick 1 with 1 of 2  ticks." none
    ∷ case "" none
    ∷ []

-- the value by the definitions of a text; a case is named by its text
pub read-cases : map (λ c. case c.text (parsed (letters c.text))) cases ≡ cases
unfolding parsed candidate numbers_from paired same sentence_text sentence_head parts expressible ascending value decimal last_digits digit_count digits_within
read-cases = refl

-- the sentence of facts, also of some that are not parsed back
pub record SentenceExample : Type 0 where
  pub of : Facts
  pub text : String

abbrev pub sentence_examples : List SentenceExample
sentence_examples =
    record { of = miss 3 5 3 4 (ran 1 2 ∷ []); text = "task 3 misses at tick 5 with 3 of 4 ticks; task 1 ran 2." }
    ∷ record { of = miss 1 1 1 2 []; text = "task 1 misses at tick 1 with 1 of 2 ticks." }
    ∷ record { of = miss 0 0 0 0 (ran 9 0 ∷ ran 9 0 ∷ []); text = "task 0 misses at tick 0 with 0 of 0 ticks; task 9 ran 0; task 9 ran 0." }
    ∷ []

-- the sentence, and the expected one
pub examples-exact : map (λ s. sentence_text s.of) sentence_examples ≡ map (λ s. letters s.text) sentence_examples
unfolding sentence_text sentence_head parts decimal last_digits digit_count digits_within
examples-exact = refl
