-- The answer to a list of rows, and the meaning of each answer in terms of the rows and the table alone (request 112). `answer-exact` shows it both ways.
use Rattle.std.specs.Prelude.{List, ◌≡◌, ◌<◌, ℕ, ◌≤◌, length}
use Rattle.model.specs.Horizon.{horizon}
use Rattle.model.specs.Task.{Table, due, task}
use Rattle.plan_check.specs.Plan.{Agree, ValidRow, had_in_rows, row_at}

-- the list is accepted; or all its rows are taken, and rows are missing; or the first refusal, at which the rows stop, with its number: 24
-- to 26 with their tick, else 0
pub data PlanOutcome : Type 0 where
  accepts unfinished : PlanOutcome
  refuses : ℕ → ℕ → PlanOutcome

-- a deadline is missed at t: some job due at t has had fewer than C ticks
abbrev pub DeadlineMissed : Table → (ℕ → List ℕ) → ℕ → Type 0
DeadlineMissed s r t = (p k : ℕ) × (p < length s.tasks) × (due (task s p) k ≡ t) × (had_in_rows s r p k t < (task s p).length)

-- before t every row is valid and no deadline is missed
abbrev pub ValidBefore : Table → (ℕ → List ℕ) → ℕ → Type 0
ValidBefore s r t = (u : ℕ) → u < t → ValidRow s r u × (¬ DeadlineMissed s r u)

-- the rows of a list, and the first fault among them
pub data OutcomeFor (s : Table) (rows : List (List ℕ)) : PlanOutcome → Type 0 where
  -- a row for each tick, no fault, and the phases agree
  all_valid :
      length rows ≡ horizon s → ValidBefore s (row_at rows) (horizon s) → ¬ DeadlineMissed s (row_at rows) (horizon s) → Agree s (row_at rows)
      → OutcomeFor s rows accepts
  -- no fault, and rows are missing
  too_few : length rows < horizon s → ValidBefore s (row_at rows) (length rows) → OutcomeFor s rows unfinished
  -- 10: no fault up to the horizon, and there is a row more
  past :
      horizon s < length rows → ValidBefore s (row_at rows) (horizon s) → ¬ DeadlineMissed s (row_at rows) (horizon s) → Agree s (row_at rows)
      → OutcomeFor s rows (refuses 10 0)
  -- 11: the first fault is a row whose length isn't the core count
  size : (t : ℕ) → t < horizon s → t < length rows → ValidBefore s (row_at rows) t → ¬ (length (row_at rows t) ≡ s.cores) → OutcomeFor s rows (refuses 11 0)
  -- 25: the first fault is a deadline missed at t
  missed-deadline :
      (t : ℕ) → t < horizon s → t < length rows → ValidBefore s (row_at rows) t → length (row_at rows t) ≡ s.cores → DeadlineMissed s (row_at rows) t
      → OutcomeFor s rows (refuses 25 t)
  -- 24: the first fault is the row of t, and no deadline is missed at t
  bad :
      (t : ℕ) → t < horizon s → t < length rows → ValidBefore s (row_at rows) t → length (row_at rows t) ≡ s.cores
      → ¬ DeadlineMissed s (row_at rows) t → ¬ ValidRow s (row_at rows) t → OutcomeFor s rows (refuses 24 t)
  -- after the last row 25 and then 26, with the horizon
  late-end : horizon s ≤ length rows → ValidBefore s (row_at rows) (horizon s) → DeadlineMissed s (row_at rows) (horizon s) → OutcomeFor s rows (refuses 25 (horizon s))
  phases :
      horizon s ≤ length rows → ValidBefore s (row_at rows) (horizon s) → ¬ DeadlineMissed s (row_at rows) (horizon s) → ¬ Agree s (row_at rows)
      → OutcomeFor s rows (refuses 26 (horizon s))
