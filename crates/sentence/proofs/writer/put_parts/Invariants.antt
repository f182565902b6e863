-- The parts of the counts so far are in their place.
use Rattle.std.proofs.Common.{◌≡◌, [], take, length}
use Rattle.text.specs.Written.{Put}
use Rattle.sentence.specs.Facts.{named}
use Rattle.sentence.specs.Sentence.{parts}
use Rattle.sentence.proofs.writer.put_parts.Given as goal

abbrev pub invariant-loop-place : goal.invariant-loop-place
invariant-loop-place l =
    record { put : Put l.fn.line l.from (parts (named (take l.place l.fn.ran)) []) l.line l.at; same : length l.line ≡ length l.fn.line }
