-- What is printed is the output of the questions from a place on.
use Rattle.std.proofs.Common.{◌≡◌, drop}
use Rattle.query.specs.Query.{query_output, query_output_of, questions}
use Rattle.query.proofs.QueryProgram.print.Given as goal

abbrev pub invariant-loop-question : goal.invariant-loop-question
invariant-loop-question g l = query_output l.bytes ≡ query_output_of (drop l.question-index questions) l.bytes
