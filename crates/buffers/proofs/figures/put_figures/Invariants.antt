-- `buffers::figures::put_figures`: the first words are numbers, and the others are as found.
use Rattle.std.proofs.Common.{◌≡◌, ◌++◌, take, drop}
use Rattle.buffers.proofs.figures.put_figures.Given as goal

abbrev pub invariant-loop-i : goal.invariant-loop-i
invariant-loop-i g l = l.words ≡ take l.i l.figures ++ drop l.i l.fn.words
