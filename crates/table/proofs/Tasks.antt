-- The tasks of a table's words, counted and by place.
use mathlib.Core.Path.{◌≡◌, ap, ◌∙◌}
use mathlib.Core.List.{List}
use Prim.Native.Nat.{ℕ, ◌<◌}
use native.Mathlib.Omega.{arith}
use native.Mathlib.Nat.{zero-add}
use lib.ListN.{length, get_or, length-map}
use Rattle.model.specs.Search.{up_from}
use Rattle.model.specs.Task.{absent_task}
use Rattle.model.proofs.Lists.{up-length, up_at, map_at}
use Rattle.table.specs.Words.{visited, count, chain, task_of_record, table_of}

pub chain_length : (ws : List ℕ) → length (chain ws) ≡ count ws
unfolding chain
chain_length ws = length-map (up_from 0 (count ws)) (visited ws) ∙ up-length 0 (count ws)

pub chain-at : (ws : List ℕ) (k d : ℕ) → k < count ws → get_or (chain ws) k d ≡ visited ws k
unfolding chain
chain-at ws k d l =
    let n : length (up_from 0 (count ws)) ≡ count ws = up-length 0 (count ws) in
    map_at (visited ws) (up_from 0 (count ws)) k d 0 (omega arith) ∙ ap (visited ws) (up_at 0 (count ws) k 0 l ∙ zero-add k)

-- as many tasks as the chain has records
pub table-length : (ws : List ℕ) → length (table_of ws).tasks ≡ count ws
unfolding table_of
table-length ws = length-map (chain ws) (task_of_record ws) ∙ chain_length ws

-- and at each place the task of the record met there
pub table_at : (ws : List ℕ) (k : ℕ) → k < count ws → get_or (table_of ws).tasks k absent_task ≡ task_of_record ws (visited ws k)
unfolding table_of
table_at ws k l =
    let n : length (chain ws) ≡ count ws = chain_length ws in
    map_at (task_of_record ws) (chain ws) k absent_task 0 (omega arith) ∙ ap (task_of_record ws) (chain-at ws k 0 l)
