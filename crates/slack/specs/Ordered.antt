-- The rules and widths that slack is given for (request 111): rule 2, and rule 1 in the width order.
use Rattle.std.specs.Prelude.{Bool, true, false, List, ◌⊎◌, ◌≡◌, ℕ}
use Rattle.model.specs.Firm.{ParallelismMonotonic, parallelism_monotonic}
use Rattle.model.specs.Task.{Rule, Table, Task, greedy, idling, lending, limited}
use Rattle.table.specs.Words.{rule, table_of}

-- under these a table that is accepted with longer lengths is accepted with shorter ones (`longer-misses`), under the others not always (`longer-fits`)
abbrev pub Ordered : Table → Type 0
Ordered s = (s.rule ≡ limited) ⊎ ((s.rule ≡ greedy) × ParallelismMonotonic s.tasks)

-- .. as a test (`ordered-exact`)
unfoldable pub ordered : Rule → List Task → Bool
ordered greedy τs = parallelism_monotonic τs
ordered limited τs = true
ordered idling τs = false
ordered lending τs = false

-- .. and by the rule's number, of a table that passes (`ordered_words`)
abbrev pub OrderedWords : List ℕ → Type 0
OrderedWords ws = (rule ws ≡ 2) ⊎ ((rule ws ≡ 1) × ParallelismMonotonic (table_of ws).tasks)
