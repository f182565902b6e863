-- Which rules and widths are firm (scope: firm; the field: predictable, sustainable): jobs that end early make no job late.
-- Widths that never fall along the chain are parallelism monotonic (Goossens and Berten).
-- The verdict Firm and number 21 of a withdrawal use the same test (scope, 'Look-ahead and verdict').
use Rattle.std.specs.Prelude.{◌&&◌, Bool, true, List, [], ◌∷◌, ◌⊎◌, ◌≡◌, ◌<◌, suc, ℕ, ◌≤◌, leb, get_or, length}
use Rattle.model.specs.Task.{Rule, Table, Task, greedy, idling, lending, limited, narrowest, absent_task, widest}

-- widths never fall along the chain: the larger of each task is at most the smaller of the next; the test (`monotonic-exact`)
unfoldable pub parallelism_monotonic : List Task → Bool
parallelism_monotonic [] = true
parallelism_monotonic (τ ∷ []) = true
parallelism_monotonic (τ ∷ τ' ∷ τs) = leb (widest τ) (narrowest τ') && parallelism_monotonic (τ' ∷ τs)

-- each larger width is at most the next smaller one
abbrev pub ParallelismMonotonic : List Task → Type 0
ParallelismMonotonic τs = (p : ℕ) → suc p < length τs → widest (get_or τs p absent_task) ≤ narrowest (get_or τs (suc p) absent_task)

-- firm is for rules 2, 3 and 4, and for rule 1 where widths never fall: the test (`firm-exact`)
-- (scope: firm; the field: predictable, sustainable)
unfoldable pub firm : Rule → List Task → Bool
firm greedy τs = parallelism_monotonic τs
firm limited τs = true
firm idling τs = true
firm lending τs = true

-- the rule is 2, 3 or 4, or it is 1 and widths never fall
abbrev pub FirmRule : Table → Type 0
FirmRule s = (s.rule ≡ limited) ⊎ ((s.rule ≡ idling) ⊎ ((s.rule ≡ lending) ⊎ ((s.rule ≡ greedy) × ParallelismMonotonic s.tasks)))
