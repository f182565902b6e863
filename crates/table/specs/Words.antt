-- The words of a table (scope, 'The table'): its header, its records, and the chain along which they are read.
use Rattle.std.specs.Prelude.{List, map, ℕ, zero, suc, ◌+◌, ◌-◌, ◌*◌, ◌/◌, ◌^◌, length, get_or, eqb}
use Rattle.model.specs.Search.{least, up_from}
use Rattle.model.specs.Task.{Task, Table, rule_of}

-- the header has five words
abbrev pub header_words : ℕ
header_words = 5

-- a record has seven (request 108)
abbrev pub record_words : ℕ
record_words = 7

-- word i, counted from 0
abbrev pub word : List ℕ → ℕ → ℕ
word ws i = get_or ws i 0

-- word 0 is the head, the number of the record with the highest priority
abbrev pub head : List ℕ → ℕ
head ws = word ws 0

-- word 1 the core count
abbrev pub core_count : List ℕ → ℕ
core_count ws = word ws 1

-- word 2 the rule
abbrev pub rule : List ℕ → ℕ
rule ws = word ws 2

-- words 3 and 4 the fence (request 102; the field: reserved processors), a set of cores as one 64-bit number, low word first
abbrev pub fence_of : ℕ → ℕ → ℕ
fence_of low high = low + high * 2 ^ 32

abbrev pub fence : List ℕ → ℕ
fence ws = fence_of (word ws 3) (word ws 4)

-- records follow: the number of them
abbrev pub records : List ℕ → ℕ
records ws = (length ws - header_words) / record_words

-- word j of record n, records numbered from 1
abbrev pub field : List ℕ → ℕ → ℕ → ℕ
field ws n j = word ws (header_words + (n - 1) * record_words + j)

-- next is the number of the record one priority lower
abbrev pub next : List ℕ → ℕ → ℕ
next ws n = field ws n 0

-- the others are offset O, width v of odd jobs, length C, deadline D, period T, and last width w of even jobs
abbrev pub task_of_record : List ℕ → ℕ → Task
task_of_record ws n =
    record {
      offset = field ws n 1;
      odd_width = field ws n 2;
      length = field ws n 3;
      deadline = field ws n 4;
      period = field ws n 5;
      even_width = field ws n 6;
    }

-- the number that the walk meets at step k: the head, then the next of each record met
unfoldable pub visited : List ℕ → ℕ → ℕ
visited ws zero = head ws
visited ws (suc k) = next ws (visited ws k)

-- zero ends the chain: the number of records on it, searched within as many steps as there are records (`ends_there`: enough where 5 and 6 do not apply)
unfoldable pub count : List ℕ → ℕ
count ws = least (suc (records ws)) (λ k. eqb (visited ws k) 0)

-- the numbers of the records on the chain, highest priority first
unfoldable pub chain : List ℕ → List ℕ
chain ws = map (visited ws) (up_from 0 (count ws))

-- the task of the seven words of a record
abbrev pub task_in : List ℕ → Task
task_in r =
    record {
      offset = get_or r 1 0;
      odd_width = get_or r 2 0;
      length = get_or r 3 0;
      deadline = get_or r 4 0;
      period = get_or r 5 0;
      even_width = get_or r 6 0;
    }

-- a task's position is its place on the chain, from 1, the highest priority (scope: position; the field: rank in fixed task priority order): the task at p
abbrev pub task_at : List ℕ → ℕ → Task
task_at ws p = task_of_record ws (visited ws (p - 1))

-- the table that the words represent
unfoldable pub table_of : List ℕ → Table
table_of ws = record { tasks = map (task_of_record ws) (chain ws); cores = core_count ws; fence = fence ws; rule = rule_of (rule ws) }
