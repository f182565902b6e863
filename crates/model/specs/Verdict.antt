-- The verdict on a table that no number turns down (scope, 'Look-ahead and verdict').
use Rattle.std.specs.Prelude.{◌&&◌, Bool, cond, not, ◌↔◌, ◌⊎◌, ◌≡◌, ◌<◌, suc, ℕ, eqb, length}
use Rattle.model.specs.Lists.{Missed, NeverMissed, full}
use Rattle.model.specs.Firm.{FirmRule, firm}
use Rattle.model.specs.Horizon.{horizon, hyperperiod, last_s}
use Rattle.model.specs.Search.{any, least}
use Rattle.model.specs.Task.{Table, due, task}

-- place p of the table misses a deadline at tick t of the full-length run (a job due at t has a number up to t: `missed-exact`)
unfoldable pub missed_at : Table → ℕ → ℕ → Bool
missed_at s t p = any (suc t) (λ k. eqb (due (task s p) k) t && not ((full s t).job p k).ended)

-- some place misses one
unfoldable pub missed_in : Table → ℕ → Bool
missed_in s t = any (length s.tasks) (missed_at s t)

-- Firm with S and P (the field: predictable, sustainable), Full with S and P (the field: schedulable with exact execution times, in the full-length run), Miss
-- with tick and position; the fourth answer, Refused, is for words that a number turns down
pub data Verdict : Type 0 where
  Firm : ℕ → ℕ → Verdict
  Full : ℕ → ℕ → Verdict
  Miss : ℕ → ℕ → Verdict

-- the first tick with a miss, up to and including the horizon
unfoldable pub first_miss : Table → ℕ
first_miss s = least (suc (horizon s)) (missed_in s)

-- the first miss up to and including the horizon, at equal ticks the first task in priority; else firm or full
unfoldable pub verdict : Table → Verdict
verdict s =
    cond (any (suc (horizon s)) (missed_in s))
    (Miss (first_miss s) (suc (least (length s.tasks) (missed_at s (first_miss s)))))
    (cond (firm s.rule s.tasks)
    (Firm (last_s s.tasks) (hyperperiod s.tasks))
    (Full (last_s s.tasks) (hyperperiod s.tasks)))

-- (t, p) is the first miss: the deadline of position p is missed at t, none at an earlier tick, and at t none of a position above p
pub record FirstMiss (s : Table) (t p : ℕ) : Type 0 where
  pub place : (q : ℕ) × (p ≡ suc q)
  pub missed : Missed s place.0 t
  pub no-earlier : (q u : ℕ) → u < t → ¬ Missed s q u
  pub no-higher : (q : ℕ) → q < place.0 → ¬ Missed s q t

-- the claims about a verdict v on table s (`verdict-exact` shows them of the verdict)
pub record Exact (s : Table) (v : Verdict) : Type 0 where
  -- Firm or Full exactly if no deadline is missed at any tick
  pub accepted : ((a b : ℕ) × ((v ≡ Firm a b) ⊎ (v ≡ Full a b))) ↔ NeverMissed s
  -- Miss t p exactly if (t, p) is the first miss
  pub miss : (t p : ℕ) → (v ≡ Miss t p) ↔ FirstMiss s t p
  -- Firm exactly under the condition on rule and widths, and Full exactly where it fails; with S and P
  pub firm : (a b : ℕ) → (v ≡ Firm a b) ↔ (NeverMissed s × FirmRule s × (a ≡ last_s s.tasks) × (b ≡ hyperperiod s.tasks))
  pub full : (a b : ℕ) → (v ≡ Full a b) ↔ (NeverMissed s × (¬ FirmRule s) × (a ≡ last_s s.tasks) × (b ≡ hyperperiod s.tasks))
