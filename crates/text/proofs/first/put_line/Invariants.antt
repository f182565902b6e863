-- The numbers so far are written.
use Rattle.std.proofs.Common.{◌≡◌, ◌++◌, take, length}
use Rattle.text.specs.Output.{fields}
use Rattle.text.specs.Written.{Put}
use Rattle.text.proofs.first.put_line.Given as goal

abbrev pub invariant-loop-number : goal.invariant-loop-number
invariant-loop-number l =
    record { put : Put l.fn.line 0 (l.word ++ fields (take l.number-index l.numbers)) l.line l.at; same : length l.line ≡ length l.fn.line }
