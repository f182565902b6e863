-- The sizes that everything shares (scope, 'The table'): the most tasks and cores that a table has, the largest word, and the byte of a fenced core.
use Rattle.std.specs.Prelude.{ℕ}

-- at most 32 records, and so at most 32 tasks
abbrev pub most_tasks : ℕ
most_tasks = 32

-- at most 64 cores
abbrev pub most_cores : ℕ
most_cores = 64

-- words are 32-bit numbers: the largest
abbrev pub most_word : ℕ
most_word = 4294967295

-- what a row shows on a fenced core (request 102)
abbrev pub fenced_byte : ℕ
fenced_byte = 255
