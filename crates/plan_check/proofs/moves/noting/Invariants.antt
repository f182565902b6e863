-- The phases of the places passed are recorded, and the others are as given.
use Rattle.std.proofs.Common.{◌≡◌, ◌++◌, map, take, drop}
use Rattle.plan_check.specs.State.{note_of}
use Rattle.plan_check.proofs.moves.noting.Given as goal

abbrev pub invariant-loop-i : goal.invariant-loop-i
invariant-loop-i l = l.notes ≡ map note_of (take l.i l.run.tasks) ++ drop l.i l.fn.noted
