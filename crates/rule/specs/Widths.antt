-- The widths of a tick: each place has two (request 108), and bit p of a set is set if the job at place p uses its second.
use Rattle.std.specs.Prelude.{cond, List, map, ℕ, ◌+◌, ◌*◌, get_or}
use Rattle.model.specs.Search.{bit, up_from}
use Rattle.model.specs.Sizes.{most_tasks}

-- the length of a list of both widths of the 32 places: the first of every place is before the second of any
abbrev pub pair : ℕ
pair = 2 * most_tasks

-- the width of place p, of such a list: the second where p is in the set, else the first
abbrev pub width_in : ℕ → List ℕ → ℕ → ℕ
width_in even ws p = get_or ws (cond (bit even p) (most_tasks + p) p) 0

-- the widths of the 32 places
unfoldable pub widths_in : ℕ → List ℕ → List ℕ
widths_in even ws = map (width_in even ws) (up_from 0 most_tasks)
