-- The numbers so far are in their places, and the row from the start is that of them and of the words left (Reading).
use Rattle.std.proofs.Common.{◌≡◌, ℕ, List, ◌-◌, ◌≤◌, drop, take, length}
use Rattle.plan_text.specs.Line.{words_after, cells_of, most_cells, pad_cells}
use Rattle.plan_text.proofs.Reading.{cells_from}
use Rattle.plan_text.proofs.line.cells_from.Given as goal

abbrev pub invariant-loop-at : goal.invariant-loop-at
invariant-loop-at l =
    (ns : List ℕ) × (l.cells ≡ pad_cells ns) × (l.count ≡ length ns) × (length ns ≤ most_cells) × (l.at ≤ length l.line)
    × (cells_from l.tick ns (words_after (drop l.at l.line)) ≡ cells_of l.tick (take most_cells (words_after (drop l.start l.line))))

abbrev pub decreases-loop-at : goal.decreases-loop-at
decreases-loop-at l = length l.line - l.at
