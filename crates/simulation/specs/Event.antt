-- The events of the full-length run (request 103): the ticks at which a job is released, ends or is due, ended or not.
use Rattle.std.specs.Prelude.{◌≡◌, true, false, ◌⊎◌, ℕ, ◌-◌, ◌<◌, length}
use Rattle.model.specs.Task.{Table, task, release, due}
use Rattle.model.specs.Claims.{grants_of, book_row}
use Rattle.model.specs.Lists.{full}

-- job k of place p ends at tick t: it has ended at t, and had not one tick before. Its last tick is t − 1
abbrev pub Ends : Table → ℕ → ℕ → ℕ → Type 0
Ends s p k t = (((full s t).job p k).ended ≡ true) × (((full s (t - 1)).job p k).ended ≡ false)

-- job k of place p is released at t, or is due at t, ended or not, or ends at t
abbrev pub EventOf : Table → ℕ → ℕ → ℕ → Type 0
EventOf s p k t = (release (task s p) k ≡ t) ⊎ ((due (task s p) k ≡ t) ⊎ Ends s p k t)

-- an event: some job of some task is released, is due or ends
abbrev pub Event : Table → ℕ → Type 0
Event s t = (p k : ℕ) × (p < length s.tasks) × EventOf s p k t

-- no tick after t and before u is an event
abbrev pub NoEventBetween : Table → ℕ → ℕ → Type 0
NoEventBetween s t u = (w : ℕ) → t < w → w < u → ¬ Event s w

-- u is the least event after t
pub record NextEvent (s : Table) (t u : ℕ) : Type 0 where
  pub after : t < u
  pub event : Event s u
  pub first : NoEventBetween s t u

-- the cores of each task at tick u, and the row's bytes, are those of tick t
pub record SameAllocation (s : Table) (t u : ℕ) : Type 0 where
  pub grants : grants_of s (full s u) ≡ grants_of s (full s t)
  pub row : book_row s (full s u) ≡ book_row s (full s t)
