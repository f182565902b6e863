-- The words of a part of a table (request 110): the chain is linked over the records that are dropped, and all else stays. `every-part` shows that they
-- represent that part, and that no number turns them down where it is not empty.
use Rattle.std.specs.Prelude.{List, [], ◌∷◌, ◌++◌, ℕ, ◌+◌, ◌*◌, ◌-◌, length, replicate, set}
use Rattle.model.specs.Search.{bit}
use Rattle.model.specs.Sizes.{most_tasks}
use Rattle.table.specs.Words.{header_words, record_words, chain}
use Rattle.conflict.specs.SubTable.{chosen}

-- the most words that a table has
abbrev pub most_words : ℕ
most_words = header_words + record_words * most_tasks

-- words in an array for the most that a table has: zeros after them
abbrev pub padded : List ℕ → List ℕ
padded ws = ws ++ replicate (most_words - length ws) 0

-- the index of the word with the next of record n
abbrev pub next_word_at : ℕ → ℕ
next_word_at n = header_words + (n - 1) * record_words

-- records linked in a list's order: word i is the number of the first, the next of each is the one after it, and that of the last is zero
unfoldable pub linked : ℕ → List ℕ → List ℕ → List ℕ
linked i [] ws = set ws i 0
linked i (n ∷ ns) ws = linked (next_word_at n) ns (set ws i n)

-- the words of the tasks of a set: from the head on, the records of the chain at its places
unfoldable pub relinked : List ℕ → ℕ → List ℕ
relinked ws x = linked 0 (chosen (bit x) (chain ws)) ws
