-- The fence is a set of cores kept for others (request 102; scope: fence; the field: reserved processors). The rule gives only cores outside it.
use Rattle.std.specs.Prelude.{cond, not, List, map, ℕ, length, get_or}
use Rattle.model.specs.Search.{bit, filtered, up_from}
use Rattle.model.specs.Sizes.{fenced_byte}
use Rattle.model.specs.Task.{Table}

-- those cores of a list that are not in the fence
abbrev pub outside : ℕ → List ℕ → List ℕ
outside fence cs = filtered (λ c. not (bit fence c)) cs

-- the unfenced cores below the count m, lowest first
abbrev pub unfenced : ℕ → ℕ → List ℕ
unfenced fence m = outside fence (up_from 0 m)

-- the number of unfenced cores below m
abbrev pub unfenced_count : ℕ → ℕ → ℕ
unfenced_count fence m = length (unfenced fence m)

-- the cores that the rule gives from, all of them free as a tick begins
abbrev pub unfenced_cores : Table → List ℕ
unfenced_cores s = unfenced s.fence s.cores

-- the table with just its unfenced cores, and no fence
abbrev pub unfenced_table : Table → Table
unfenced_table s = record { tasks = s.tasks; cores = unfenced_count s.fence s.cores; fence = 0; rule = s.rule }

-- a row of the unfenced cores alone, spread over the m cores: 255 on a fenced one, and on another the byte of its place among the unfenced
unfoldable pub spread : ℕ → ℕ → List ℕ → List ℕ
spread fence m bytes = map (λ c. cond (bit fence c) fenced_byte (get_or bytes (length (unfenced fence c)) 0)) (up_from 0 m)
