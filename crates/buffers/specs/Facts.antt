-- The facts of a miss in words.
use Rattle.std.specs.Prelude.{cond, List, [], ◌∷◌, ℕ, zero, suc, ◌+◌, replicate, eqb}
use Rattle.model.specs.Sizes.{most_tasks}
use Rattle.sentence.specs.Facts.{Part}
use Rattle.sentence.specs.Parsed.{ParsedSentence, facts, none}

-- THE FACTS IN WORDS

-- the count of the part of position p; 0 where there is none
unfoldable pub count_of : ℕ → List Part → ℕ
count_of p [] = 0
count_of p (x ∷ xs) = cond (eqb x.position p) x.count (count_of p xs)

-- the counts of n positions, the first that of position q + 1
unfoldable pub counts_from : ℕ → ℕ → List Part → List ℕ
counts_from q zero ps = []
counts_from q (suc n) ps = count_of (suc q) ps ∷ counts_from (suc q) n ps

-- the words in front of the counts: position, tick, ticks had, and C
abbrev pub fact_head : ℕ
fact_head = 4

-- the words of facts
abbrev pub fact_words : ℕ
fact_words = fact_head + most_tasks

-- four numbers and the counts
abbrev pub in_words : ℕ → ℕ → ℕ → ℕ → List ℕ → List ℕ
in_words p t h c counts = p ∷ (t ∷ (h ∷ (c ∷ counts)))

-- facts in words: position, tick, ticks had, C, and the count of each position from 1 on, 0 for one that has no part; all zeros where there are no facts
unfoldable pub fact_words_of : ParsedSentence → List ℕ
fact_words_of (facts f) = in_words f.position f.tick f.had f.length (counts_from 0 most_tasks f.others)
fact_words_of none = replicate fact_words 0
