-- Plans from the supplier's own planner (request 112): the conditions on rows, in terms of the rows and the table alone. A row is a list of bytes, one a core.
use Rattle.std.specs.Prelude.{◌&&◌, Bool, cond, false, true, List, [], ◌∷◌, ◌⊎◌, ◌≡◌, ◌%◌, ◌+◌, ◌-◌, ◌<◌, suc, zero, ℕ, ◌≤◌, eqb, leb, ltb, get_or, length}
use Rattle.model.specs.Horizon.{horizon, hyperperiod, last_s}
use Rattle.model.specs.Search.{bit}
use Rattle.model.specs.Sizes.{fenced_byte}
use Rattle.model.specs.Task.{Table, due, newest, release, task, width_of}
use Rattle.phase.specs.declared.Phase.{Phase}
use Rattle.phase.specs.declared.Phase.TheVariants.{Coming, Working, Resting}

-- the number of cores of a row that show byte b
unfoldable pub cell_count : ℕ → List ℕ → ℕ
cell_count b [] = 0
cell_count b (x ∷ xs) = cond (eqb x b) (suc (cell_count b xs)) (cell_count b xs)

-- ROWS OF ALL TICKS: r gives the row of each tick

-- place p is in the row of tick t: some core shows its position
abbrev pub runs : (ℕ → List ℕ) → ℕ → ℕ → Bool
runs r p t = ltb 0 (cell_count (suc p) (r t))

-- the number of ticks from a up to but not including t in which place p is in the row
unfoldable pub ticks : (ℕ → List ℕ) → ℕ → ℕ → ℕ → ℕ
ticks r p a zero = 0
ticks r p a (suc t) = cond (leb a t && runs r p t) (suc (ticks r p a t)) (ticks r p a t)

-- the ticks that job k of place p has had at tick t, for t up to the release of the next job
abbrev pub had_in_rows : Table → (ℕ → List ℕ) → ℕ → ℕ → ℕ → ℕ
had_in_rows s r p k t = ticks r p (release (task s p) k) t

-- an unknown position: a fenced core without 255, or another core with a byte that is neither 0 nor a position, and so above the last one
abbrev pub UnknownByte : Table → ℕ → ℕ → Type 0
UnknownByte s c byte = ((bit s.fence c ≡ true) × (¬ (byte ≡ fenced_byte))) ⊎ ((bit s.fence c ≡ false) × (length s.tasks < byte))

-- job k of place p has work still owed at tick t: it is released, its deadline has not passed, and it has had fewer than C ticks
pub record Owed (s : Table) (r : ℕ → List ℕ) (p k t : ℕ) : Type 0 where
  pub released : release (task s p) k ≤ t
  pub early : t < due (task s p) k
  pub short : had_in_rows s r p k t < (task s p).length

-- the row of tick t is valid
pub record ValidRow (s : Table) (r : ℕ → List ℕ) (t : ℕ) : Type 0 where
  -- one byte a core
  pub size : length (r t) ≡ s.cores
  -- no unknown position
  pub known : (c : ℕ) → c < s.cores → ¬ UnknownByte s c (get_or (r t) c 0)
  -- each task in it has a job with work still owed (there is one at most, since D ≤ T), and exactly the width of that job
  pub works :
      (p : ℕ) → p < length s.tasks → runs r p t ≡ true
      → (k : ℕ) × Owed s r p k t × (cell_count (suc p) (r t) ≡ width_of (task s p) k)

-- job k of place p is in time: it has just its C ticks when it is due
abbrev pub InTime : Table → (ℕ → List ℕ) → ℕ → ℕ → Type 0
InTime s r p k = had_in_rows s r p k (due (task s p) k) ≡ (task s p).length

-- the phase of a job z ticks after its release, which has had `had` of its C ticks: it works while they are fewer, and then it rests
abbrev pub phase_after : ℕ → ℕ → ℕ → Phase
phase_after C z had = cond (ltb had C) (Working z had had) (Resting z)

-- the phase of place p at tick t, where no deadline is missed by t, without the parity of its job: coming before the offset, then that of its newest job
unfoldable pub phase_by : Table → (ℕ → List ℕ) → ℕ → ℕ → Phase
phase_by s r p t =
    cond (ltb t (task s p).offset)
    (Coming ((task s p).offset - t))
    (phase_after (task s p).length (t - release (task s p) (newest (task s p) t)) (had_in_rows s r p (newest (task s p) t) t))

-- every place has the same phase at the last S and at the horizon, apart from parity
abbrev pub Agree : Table → (ℕ → List ℕ) → Type 0
Agree s r = (p : ℕ) → p < length s.tasks → phase_by s r p (last_s s.tasks) ≡ phase_by s r p (horizon s)

-- A FINITE PLAN

-- the row of tick t of a list
abbrev pub row_at : List (List ℕ) → ℕ → List ℕ
row_at rows t = get_or rows t []

-- a plan to be accepted: just as many rows as the horizon, each valid, each job due at or before the horizon in time, and the same
-- phases at the last S and at the horizon (what is due later is in the phases)
pub record Acceptable (s : Table) (rows : List (List ℕ)) : Type 0 where
  pub count : length rows ≡ horizon s
  pub rows-valid : (t : ℕ) → t < horizon s → ValidRow s (row_at rows) t
  pub done : (p k : ℕ) → p < length s.tasks → due (task s p) k ≤ horizon s → InTime s (row_at rows) p k
  pub agree : Agree s (row_at rows)

-- FOR EVER

-- the rows of a plan for all ticks: from the last S on, its last P rows again and again
abbrev pub repeated : Table → List (List ℕ) → ℕ → List ℕ
repeated s rows t =
    row_at rows (cond (ltb t (horizon s)) t (last_s s.tasks + (t - last_s s.tasks) % hyperperiod s.tasks))

-- the claims about rows for all ticks (`repeats-for-ever`): each is valid, with the width of each job, and every job of every task is
-- in time
pub record ForEver (s : Table) (r : ℕ → List ℕ) : Type 0 where
  pub rows-valid : (t : ℕ) → ValidRow s r t
  pub done : (p k : ℕ) → p < length s.tasks → InTime s r p k
