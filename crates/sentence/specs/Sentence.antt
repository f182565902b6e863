-- The bytes of a sentence: `task P misses at tick T with H of C ticks`, `; task Q ran N` for each part in its order, and a full stop; no newline.
use Rattle.std.specs.Prelude.{List, [], ◌∷◌, ◌++◌, ℕ}
use Rattle.text.specs.Decimal.{decimal}
use Rattle.text.specs.Output.{letters}
use Rattle.sentence.specs.Facts.{Facts, Part}

-- a word and then a number
abbrev pub word_field : List ℕ → ℕ → List ℕ → List ℕ
word_field word n rest = word ++ (decimal n ++ rest)

-- the parts, and what follows them
unfoldable pub parts : List Part → List ℕ → List ℕ
parts [] rest = rest
parts (p ∷ ps) rest = word_field (letters "; task ") p.position (word_field (letters " ran ") p.count (parts ps rest))

-- all before the parts, and what follows it
unfoldable pub sentence_head : Facts → List ℕ → List ℕ
sentence_head f rest =
    word_field (letters "task ") f.position
    (word_field (letters " misses at tick ") f.tick
    (word_field (letters " with ") f.had (word_field (letters " of ") f.length (letters " ticks" ++ rest))))

-- the sentence (`sentence-injective`, `read_back`)
unfoldable pub sentence_text : Facts → List ℕ
sentence_text f = sentence_head f (parts f.others (letters "."))
