-- The words of a table with the C of one task grown (request 111): one word changes. `every-growth` shows that they represent that table, and that no number
-- turns them down as long as C is within its limit.
use Rattle.std.specs.Prelude.{List, ℕ, ◌*◌, ◌+◌, ◌-◌, set}
use Rattle.table.specs.Words.{header_words, visited, record_words, word}

-- the index of the word with the length C of record n
abbrev pub length_at : ℕ → ℕ
length_at n = header_words + (n - 1) * record_words + 3

-- the words with the C of the task at place p grown by g ticks
unfoldable pub grown_words : List ℕ → ℕ → ℕ → List ℕ
grown_words ws p g = set ws (length_at (visited ws p)) (word ws (length_at (visited ws p)) + g)
