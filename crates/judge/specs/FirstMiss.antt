-- The first missed deadline before a tick, and its contract; the event judge's search for it.
use Rattle.std.specs.Prelude.{Option, None, Some, ◌≡◌, ◌↔◌, Bool, ◌&&◌, cond, ℕ, zero, suc, ◌+◌, ◌≤◌, ◌<◌, leb, ltb, get_or, length}
use Rattle.model.specs.Search.{any, bit, least}
use Rattle.model.specs.Sizes.{most_tasks}
use Rattle.model.specs.Task.{Table}
use Rattle.model.specs.Lists as book
use Rattle.model.specs.Verdict.{missed_at, missed_in, FirstMiss}
use Rattle.table.specs.declared.Loaded.{Loaded}
use Rattle.table.specs.Fit.{Fit, loaded_table}
use Rattle.simulation.specs.EventState.{EventState, initial_event_state}
use Rattle.simulation.specs.Jump.{jumped}
use Rattle.simulation.specs.TickState.{Numbers, loaded_numbers}
use Rattle.judge.specs.declared.Verdict.{Verdict}
use Rattle.judge.specs.declared.Verdict.TheVariants.{Miss}
use Rattle.judge.specs.declared.Miss as code

-- the first deadline missed: none, or its tick and position
pub data Missed : Type 0 where
  Never : Missed
  At : ℕ → ℕ → Missed

-- as code returns it
abbrev pub miss_of : Option code.Miss → Missed
miss_of None = Never
miss_of (Some m) = At m.tick m.position

-- the first deadline missed before tick b, at equal ticks that of the first task in priority: the search of the model's `verdict`, which goes
-- up to and including the horizon
unfoldable pub missed_before : Table → ℕ → Missed
missed_before s b =
    cond (any b (missed_in s))
    (At (least b (missed_in s)) (suc (least (length s.tasks) (missed_at s (least b (missed_in s))))))
    Never

-- the result in the scope's words: no deadline is missed, or the first at a tick, of a position
pub data MissOutcome : Type 0 where
  no_miss : MissOutcome
  first_at : ℕ → ℕ → MissOutcome

-- the meaning of each case: Never no miss, At tick and position
abbrev pub miss_meaning : Missed → MissOutcome
miss_meaning Never = no_miss
miss_meaning (At t p) = first_at t p

-- the contract of the search before tick b of the full-length run of table s
pub record MissedOf (s : Table) (b : ℕ) (m : Missed) : Type 0 where
  -- its value
  pub value : m ≡ missed_before s b
  -- at t, of p, exactly if (t, p) is the first miss and t is before b
  pub first : (t p : ℕ) → (miss_meaning m ≡ first_at t p) ↔ (FirstMiss s t p × (t < b))
  -- none exactly if no deadline is missed before b
  pub none : (miss_meaning m ≡ no_miss) ↔ ((p t : ℕ) → t < b → ¬ book.Missed s p t)

-- a function that finds the first miss of every table that is fit, before any tick up to the one after the horizon: when it may be called, and what
-- it returns
abbrev pub FindsFirstMiss : (Loaded → ℕ → Type 0) → (Loaded → ℕ → Option code.Miss → Type 0) → Type 0
FindsFirstMiss pre post = (t : Loaded) (end : ℕ) → Fit t → end ≤ t.horizon + 1 → pre t end × ((m : Option code.Miss) → post t end m → MissedOf (loaded_table t) end (miss_of m))

-- THE EVENT JUDGE'S SEARCH (request 103), over the states at the events

-- place p of a state is late: its job is due now, and ticks are left of it
abbrev pub late_in_state : EventState → ℕ → Bool
late_in_state s p = bit s.due p && ltb 0 (get_or s.machine.left p 0)

-- from a state on: none where its tick is b or later, else its first late place, else the search from the state after a jump; k states at most
unfoldable pub missed_from : Numbers → ℕ → ℕ → EventState → Missed
missed_from n b zero s = Never
missed_from n b (suc k) s =
    cond (leb b s.tick) Never
    (cond (any most_tasks (late_in_state s)) (At s.tick (suc (least most_tasks (late_in_state s))))
    (missed_from n b k (jumped n s)))

-- from tick 0 on; each jump passes a tick, so that b states and one are enough (`by-jumps`)
abbrev pub missed_by_jumps : Loaded → ℕ → Missed
missed_by_jumps t b = missed_from (loaded_numbers t) b (suc b) (initial_event_state t)

-- the contract of the event judge's search: its value by the jumps, and that of every search
pub record MissedByJumps (t : Loaded) (b : ℕ) (m : Missed) : Type 0 where
  pub value : m ≡ missed_by_jumps t b
  pub exact : MissedOf (loaded_table t) b m

-- the verdict by it: a miss, and where there is none the verdict v
abbrev pub by_miss : Missed → Verdict → Verdict
by_miss Never v = v
by_miss (At t p) v = Miss t p
