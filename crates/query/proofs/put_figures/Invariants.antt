-- The lines of the numbers before a place are written, 14 bytes for each at most.
use Rattle.std.proofs.Common.{◌*◌, ◌≤◌, take}
use Rattle.text.specs.Written.{Put}
use Rattle.query.specs.Figures.{figure_lines}
use Rattle.query.proofs.put_figures.Given as goal

abbrev pub invariant-loop-place : goal.invariant-loop-place
invariant-loop-place l = Put l.initial.lines 0 (figure_lines 0 (take l.place l.figures)) l.lines l.at × (l.at ≤ 14 * l.place)
