-- The positions so far are written, four bytes for each at most.
use Rattle.std.proofs.Common.{◌≡◌, ◌≤◌, ◌*◌, take, length}
use Rattle.text.specs.Output.{fields}
use Rattle.text.specs.Written.{Put}
use Rattle.text.proofs.row.put_cells.Given as goal

abbrev pub invariant-loop-position : goal.invariant-loop-position
invariant-loop-position l =
    record { put : Put l.fn.text 0 (fields (take l.position-index (take l.cores l.fn.row))) l.text l.at; most : l.at ≤ 4 * l.position-index; same : length l.text ≡ length l.fn.text }
