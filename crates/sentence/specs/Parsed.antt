-- A sentence parsed: the facts that its numbers give, if these facts are expressible and their sentence is exactly these bytes.
use Rattle.std.specs.Prelude.{Option, None, Some, Bool, true, false, ◌&&◌, cond, List, [], ◌∷◌, ◌++◌, ◌↔◌, ◌≡◌, ℕ, eqb, drop, get_or, replicate}
use Rattle.text.specs.Decimal.{is_digit, value}
use Rattle.sentence.specs.Facts.{Facts, Part, Expressible, expressible, facts_by}
use Rattle.sentence.specs.Sentence.{sentence_text}
use Rattle.sentence.specs.declared.Facts as code
use Rattle.model.specs.Sizes.{most_tasks}

-- the number that a run of digits represents, before the numbers that follow; a run of no digit gives none
abbrev pub number_before : List ℕ → List ℕ → List ℕ
number_before [] ns = ns
number_before (d ∷ ds) ns = value (d ∷ ds) ∷ ns

-- the numbers in a text, after the digits of a run that is not yet at its end
unfoldable pub numbers_from : List ℕ → List ℕ → List ℕ
numbers_from run [] = number_before run []
numbers_from run (b ∷ bs) = cond (is_digit b) (numbers_from (run ++ (b ∷ [])) bs) (number_before run (numbers_from [] bs))

-- numbers two by two: a position and a count
unfoldable pub paired : List ℕ → List Part
paired [] = []
paired (q ∷ []) = []
paired (q ∷ n ∷ ns) = record { position = q; count = n } ∷ paired ns

-- facts from these numbers in the order of a sentence
abbrev pub arranged : List ℕ → Facts
arranged ns = record { position = get_or ns 0 0; tick = get_or ns 1 0; had = get_or ns 2 0; length = get_or ns 3 0; others = paired (drop 4 ns) }

-- the facts from the numbers in a text (`numbers-sentence`)
unfoldable pub candidate : List ℕ → Facts
candidate bs = arranged (numbers_from [] bs)

-- two texts are the same
unfoldable pub same : List ℕ → List ℕ → Bool
same [] [] = true
same [] (c ∷ cs) = false
same (b ∷ bs) [] = false
same (b ∷ bs) (c ∷ cs) = eqb b c && same bs cs

-- the result of parsing a text
pub data ParsedSentence : Type 0 where
  facts : Facts → ParsedSentence
  none : ParsedSentence

-- the text is parsed to f exactly if f is expressible and the text is f's sentence (`read_back`)
unfoldable pub parsed : List ℕ → ParsedSentence
parsed bs = cond (expressible (candidate bs) && same (sentence_text (candidate bs)) bs) (facts (candidate bs)) none

-- the meaning of an answer
abbrev pub parsed_by : Bool → Facts → ParsedSentence
parsed_by true f = facts f
parsed_by false f = none

-- the result of parsing a text: facts, or none, with zeros for all of them
pub record ParsedFacts : Type 0 where
  pub found : Bool
  pub facts : code.Facts

-- nothing found: all zeros
abbrev pub no_facts : ParsedFacts
no_facts = record { found = false; facts = record { position = 0; tick = 0; had = 0; length = 0; ran = replicate most_tasks 0 } }

-- as code returns it
abbrev pub found_in : Option code.Facts → ParsedFacts
found_in None = no_facts
found_in (Some f) = record { found = true; facts = f }

-- the contract of `facts_of` on the bytes
pub record FactsOf (bs : List ℕ) (r : ParsedFacts) : Type 0 where
  -- its value
  pub value : parsed_by r.found (facts_by r.facts) ≡ parsed bs
  pub zeros : r.found ≡ false → r ≡ no_facts
  -- it is f exactly if f is expressible and the bytes are f's sentence
  pub exact : (f : Facts) → ((r.found ≡ true) × (facts_by r.facts ≡ f)) ↔ (Expressible f × (bs ≡ sentence_text f))
  -- nothing is found exactly if they are the sentence of no expressible facts
  pub none : (r.found ≡ false) ↔ ((f : Facts) → Expressible f → ¬ (bs ≡ sentence_text f))
