-- What a firm table guarantees of a worst-case response time in every list of entries (request 107); shown in proofs/EndedWithin.antt.
use Rattle.std.specs.Prelude.{true, List, ◌≡◌, ℕ, ◌+◌, ◌≤◌}
use Rattle.model.specs.Advance.{Entry}
use Rattle.model.specs.Lists.{book}
use Rattle.model.specs.Task.{Table, release, task}

-- in the book of a list xs of entries each job of place p has ended, if r ticks or more have passed since its release
abbrev pub EndedWithin : Table → ℕ → ℕ → List Entry → Type 0
EndedWithin s p r xs = (k : ℕ) → release (task s p) k + r ≤ (book s xs).tick → ((book s xs).job p k).ended ≡ true

-- and in every list: at that tick and at every later one, after taken and refused advances alike
abbrev pub AlwaysEndedWithin : Table → ℕ → ℕ → Type 0
AlwaysEndedWithin s p r = (xs : List Entry) → EndedWithin s p r xs
