-- Showing the positions that are left still gives the whole row.
use Rattle.std.proofs.Common.{◌≡◌, ◌+◌, map, drop}
use Rattle.cores.specs.Cores.{cores}
use Rattle.rule.specs.Marked.{shown_bytes}
use Rattle.rule.proofs.row_of.Given as goal

abbrev pub invariant-loop-i : goal.invariant-loop-i
invariant-loop-i l = shown_bytes l.out (l.first + l.i) (map cores (drop l.i l.fn.sets)) ≡ shown_bytes l.fn.start l.first (map cores l.fn.sets)
