-- Numbers 14, 15, 20 and 16 for what row, sets and advance turn down, and 14, 21 and 22 for what a withdrawal does, of one position or of several
-- together (scope, 'Numbers for what is turned down', and requests 105, 106, 109, 113 and 114): when each applies, and which is the first.
use Rattle.std.specs.Prelude.{◌≡◌, Bool, true, not, ◌&&◌, ◌||◌, [], ◌⊎◌, ℕ, suc, ◌^◌, ◌≤◌, ◌<◌, get_or, eqb, leb, ltb}
use Rattle.model.specs.Search.{any, least, bit}
use Rattle.model.specs.Fence.{unfenced_count}
use Rattle.model.specs.Firm.{FirmRule}
use Rattle.model.specs.Sizes.{most_tasks}
use Rattle.table.specs.Limits.{InRange, in_range, CoresOut, cores_out, RuleOut, rule_out, FenceOut, fence_out, WidthOut, TimesOut}
use Rattle.phase.specs.declared.Phase.TheVariants.{Working}
use Rattle.run.specs.declared.Run.{Run}
use Rattle.phase.specs.Phase.{PhaseIn, working, late_in, released}
use Rattle.phase.specs.Task.{out_in}
use Rattle.run.specs.Run.{rule_in, place_at, run_task_at, even_at, phase_at, run_table, emptied_at, grants_in, has_cores, borrowed_in, has_lent}

-- THE CONDITION OF EACH NUMBER

-- the largest width that fits: the number of unfenced cores
abbrev pub width_limit_in : Run → ℕ
width_limit_in r = unfenced_count r.fence r.cores

-- the task at place p breaks 7 or 8, or its phase or its parity is outside the limits
abbrev pub PlaceOut : Run → ℕ → Type 0
PlaceOut r p = (WidthOut (width_limit_in r) (run_task_at r p) ⊎ TimesOut (run_task_at r p)) ⊎ (¬ PhaseIn (rule_in r) (run_task_at r p) (even_at r p) (phase_at r p))

-- a set contains a place at or past the count
abbrev pub PastCount : ℕ → ℕ → Type 0
PastCount count x = (p : ℕ) × ((bit x p ≡ true) × (count ≤ p))

-- the run's count is not 1 to 32, its core count or rule is out of range, its fence breaks 19, a position past the count is withdrawn, a task breaks
-- 7 or 8, or a phase or a parity is outside the limits: a task Coming has an odd job before it
abbrev pub RunOut : Run → Type 0
RunOut r =
    (¬ InRange 1 most_tasks r.count)
    ⊎ (CoresOut r.cores
    ⊎ (RuleOut r.rule
    ⊎ (FenceOut r.cores r.fence
    ⊎ (PastCount r.count r.withdrawn
    ⊎ ((p : ℕ) × (p < r.count) × PlaceOut r p)))))

-- the task at place p is Working at z = D
abbrev pub PlaceLate : Run → ℕ → Type 0
PlaceLate r p = (had reserved : ℕ) × (phase_at r p ≡ Working (run_task_at r p).deadline had reserved)

-- the bit of place p is set in the empties, and p is past the count or its task is not Working at (0,0)
abbrev pub WrongEmpties : Run → ℕ → ℕ → Type 0
WrongEmpties r e p = (bit e p ≡ true) × ((r.count ≤ p) ⊎ (¬ ((reserved : ℕ) × (phase_at r p ≡ Working 0 0 reserved))))

-- the task at place p is Working as cores are chosen: a task whose job is empty is not
abbrev pub PlaceWorking : Run → ℕ → ℕ → Type 0
PlaceWorking r e p = (z had reserved : ℕ) × (emptied_at r e p ≡ Working z had reserved)

-- the bit of place p is set in the reports, and p is past the count, or its task isn't Working, or is neither given cores in this tick nor borrows any
abbrev pub WrongReports : Run → ℕ → ℕ → ℕ → Type 0
WrongReports r e x p =
    (bit x p ≡ true) × ((r.count ≤ p) ⊎ ((¬ PlaceWorking r e p) ⊎ ((get_or (grants_in r e) p [] ≡ []) × (borrowed_in r e p ≡ []))))

-- number n applies to a row, or sets, asked of the run with empties e, with position p
pub data RowApplies (r : Run) (e : ℕ) : ℕ → ℕ → Type 0 where
  -- 14. Row, sets or advance: the run's count is not 1 to 32, its core count or rule is out of range, its fence breaks 19, a position past its count
  -- is withdrawn, a task breaks 7 or 8, or a phase or a parity is outside the limits.
  fourteen : RunOut r → RowApplies r e 14 0
  -- 15. Row, sets or advance: some task is Working at z = D.
  fifteen : (p : ℕ) → p < r.count → PlaceLate r p → RowApplies r e 15 (suc p)
  -- 20. Row, sets or advance: an empty bit past the count or for a task not Working at (0,0).
  twenty : (p : ℕ) → WrongEmpties r e p → RowApplies r e 20 0

-- number n applies to an advance of the run with reports x and empties e, with position p
pub data AdvanceApplies (r : Run) (x e : ℕ) : ℕ → ℕ → Type 0 where
  -- 14, 15 and 20
  as_row : (n p : ℕ) → RowApplies r e n p → AdvanceApplies r x e n p
  -- 16. Advance: a bit is set for a position past the count, or for a task that isn't Working or gets no cores in this tick, its own or lent ones.
  sixteen : (p : ℕ) → WrongReports r e x p → AdvanceApplies r x e 16 0

-- number n applies to a withdrawal from the run, with position p; `unknown` is the statement that one of its positions is not in the run
pub data WithdrawApplies (r : Run) (unknown : Type 0) : ℕ → ℕ → Type 0 where
  -- 14, as of row, sets and advance
  not-a-run : RunOut r → WithdrawApplies r unknown 14 0
  -- 21. Withdraw: the run's rule and widths are not firm.
  twenty-one : ¬ FirmRule (run_table r) → WithdrawApplies r unknown 21 0
  -- 22. Withdraw: no such position.
  twenty-two : unknown → WithdrawApplies r unknown 22 0

-- no such position: 0, or past the count (of a set: `PastCount`)
abbrev pub NoSuchPosition : Run → ℕ → Type 0
NoSuchPosition r p = (p ≡ 0) ⊎ (r.count < p)

-- THE TESTS THAT DECIDE THEM

-- a set contains a place at or past the count: as a number it is no less than that place's digit (`past-decides`)
unfoldable pub past_count : ℕ → ℕ → Bool
past_count count x = leb (2 ^ count) x

-- no such position (`unknown-decides`)
abbrev pub unknown_in : Run → ℕ → Bool
unknown_in r p = eqb p 0 || ltb r.count p

-- 14 of one place (`place-decides`)
abbrev pub place_out : Run → ℕ → Bool
place_out r p = out_in (width_limit_in r) (rule_in r) (place_at r p)

-- 14 (`run-decides`)
unfoldable pub run_out : Run → Bool
run_out r =
    not (in_range 1 most_tasks r.count)
    || (cores_out r.cores
    || (rule_out r.rule
    || (fence_out r.cores r.fence
    || (past_count r.count r.withdrawn
    || any r.count (place_out r)))))

-- 15 of one place (`late-decides`)
abbrev pub late_at : Run → ℕ → Bool
late_at r p = late_in (run_task_at r p).deadline (phase_at r p)

-- the lowest late place, or the count where none is late
unfoldable pub first_late_in : Run → ℕ
first_late_in r = least r.count (late_at r)

-- the job of place p may be empty: its task is Working at (0,0)
abbrev pub emptiable_at : Run → ℕ → Bool
emptiable_at r p = ltb p r.count && released (phase_at r p)

-- 20: some bit is set that may not be (a set has no bit from its number up: `wrong-empties-decides`)
unfoldable pub wrong_empties_in : Run → ℕ → Bool
wrong_empties_in r e = any e (λ p. bit e p && not (emptiable_at r p))

-- the task at place p may be reported: it is Working, and is given or borrows cores in this tick
abbrev pub reportable_at : Run → ℕ → ℕ → Bool
reportable_at r e p = ltb p r.count && (working (emptied_at r e p) && (has_cores r e p || has_lent r e p))

-- 16: some bit is set that may not be (`wrong-reports-decides`)
unfoldable pub wrong_reports_in : Run → ℕ → ℕ → Bool
wrong_reports_in r e x = any x (λ p. bit x p && not (reportable_at r e p))
