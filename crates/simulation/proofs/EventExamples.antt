-- Events at their edges, computed from the definitions, and the ticks that jumps reach.
use mathlib.Core.Bool.{true, false, true≢false, false≢true}
use mathlib.Core.List.{List, [], ◌∷◌, ◌++◌, map}
use mathlib.Core.Logic.{inl, inr}
use mathlib.Core.Path.{◌≡◌, refl, sym, ap, ◌∙◌}
use Prim.Native.Nat.{ℕ, zero, suc, ◌-◌}
use native.Mathlib.Omega.{arith}
use lib.ListN.{length, get_or, replicate}
use Rattle.model.specs.Task.{Table, release, due, task, greedy}
use Rattle.model.specs.Jobs.{Job}
use Rattle.model.specs.Lists.{full}
use Rattle.model.specs.Grants.{claimants, given, left, grants}
use Rattle.model.specs.Search.{filtered, up_from}
use Rattle.model.proofs.Computing.{computing}
use Rattle.model.proofs.Examples.{t, on}
use Rattle.model.proofs.Runs.{full-fresh}
use Rattle.table.specs.declared.Task.{Task}
use Rattle.table.specs.declared.Loaded.{Loaded}
use Rattle.table.specs.Task.{no_task}
use Rattle.rule.specs.Widths.{widths_in}
use Rattle.simulation.specs.Machine.{with_release}
use Rattle.simulation.specs.Places.{map_places, set_where}
use Rattle.simulation.specs.TickState.{paired_in}
use Rattle.simulation.specs.Event.{Ends, Event}
use Rattle.simulation.specs.EventState.{due_at, earliest_of}
use Rattle.simulation.specs.Jump.{handled_all, least_left, elapsed, after_handling, next_event_ahead, even_in_jump, granted_in_jump, ticks_in_jump, jumped, jumps}

-- ONE TASK that ends before its deadline: released at 0 and 5, ended at 1, due at 3
abbrev early : Table
early = on 1 greedy (t 0 1 1 3 5 ∷ [])

pub released-first : Event early 0
released-first = (0, 0, omega arith, inl refl)

pub ends-at-one : Event early 1
unfolding computing
ends-at-one = (0, 0, omega arith, inr (inr (refl, refl)))

-- a deadline counts though its job has ended
pub due-though-ended : Event early 3 × (((full early 3).job 0 0).ended ≡ true)
unfolding computing
due-though-ended = ((0, 0, omega arith, inr (inl refl)), refl)

pub released-next : Event early 5
released-next = (0, 1, omega arith, inl refl)

-- between the end and the deadline, and between the deadline and the release, there is none
pub none-at-two : ¬ Event early 2
unfolding computing
none-at-two (zero, k, l, inl e) = omega arith
none-at-two (zero, k, l, inr (inl e)) = omega arith
none-at-two (zero, zero, l, inr (inr (e, o))) = true≢false o
none-at-two (zero, suc k, l, inr (inr (e, o))) = false≢true (sym (ap (λ (j : Job). j.ended) (full-fresh early 2 0 (suc k) (omega arith))) ∙ e)
none-at-two (suc p, k, l, x) = omega arith

pub none-at-four : ¬ Event early 4
unfolding computing
none-at-four (zero, k, l, inl e) = omega arith
none-at-four (zero, k, l, inr (inl e)) = omega arith
none-at-four (zero, zero, l, inr (inr (e, o))) = true≢false o
none-at-four (zero, suc k, l, inr (inr (e, o))) = false≢true (sym (ap (λ (j : Job). j.ended) (full-fresh early 4 0 (suc k) (omega arith))) ∙ e)
none-at-four (suc p, k, l, x) = omega arith

-- D = T = C: at tick 2 a job ends, is due, and the next is released
abbrev busy : Table
busy = on 1 greedy (t 0 1 2 2 2 ∷ [])

pub all-at-once : (release (task busy 0) 1 ≡ 2) × (due (task busy 0) 0 ≡ 2) × Ends busy 0 0 2
unfolding computing
all-at-once = (refl, refl, (refl, refl))

-- a late job is due at tick 1 and does not end: an event all the same
pub due-though-late : Event (on 1 greedy (t 0 1 2 1 2 ∷ [])) 1 × (((full (on 1 greedy (t 0 1 2 1 2 ∷ [])) 1).job 0 0).ended ≡ false)
unfolding computing
due-though-late = ((0, 0, omega arith, inr (inl refl)), refl)

-- the first release is at 3: tick 0, where the first jump begins, is no event
abbrev later : Table
later = on 1 greedy (t 3 1 1 1 2 ∷ [])

pub none_at_zero : ¬ Event later 0
unfolding full
none_at_zero (zero, k, l, inl e) = omega arith
none_at_zero (zero, k, l, inr (inl e)) = omega arith
none_at_zero (zero, k, l, inr (inr (e, o))) = false≢true e
none_at_zero (suc p, k, l, x) = omega arith

-- THE TICKS THAT JUMPS REACH

-- a task of the supplier's table, with widths v and w and with one width; and a table of them that was loaded: on a number of cores, under a rule
abbrev task-of₂ : ℕ → ℕ → ℕ → ℕ → ℕ → ℕ → Task
task-of₂ o v w c d p = record { offset = o; width = v; length = c; deadline = d; period = p; second = w }

abbrev task-of : ℕ → ℕ → ℕ → ℕ → ℕ → Task
task-of o v c d p = task-of₂ o v v c d p

abbrev loaded : ℕ → ℕ → List Task → Loaded
loaded m r ts = record {
  count = length ts;
  cores = m;
  fence = 0;
  rule = r;
  tasks = ts ++ replicate (32 - length ts) no_task;
  start = 0;
  period = 0;
  horizon = 0;
}

-- the first n of them
abbrev ticks : ℕ → Loaded → List ℕ
ticks n x = map (λ i. (jumps x i).tick) (up_from 0 n)

-- of the tables above: an ended job's deadline is reached; end, deadline and release on one tick are one; tick 0 is where the first begins
pub reached :
    (ticks 7 (loaded 1 1 (task-of 0 1 1 3 5 ∷ [])) ≡ 0 ∷ 1 ∷ 3 ∷ 5 ∷ 6 ∷ 8 ∷ 10 ∷ [])
    × (ticks 4 (loaded 1 1 (task-of 0 1 2 2 2 ∷ [])) ≡ 0 ∷ 2 ∷ 4 ∷ 6 ∷ [])
    × (ticks 4 (loaded 1 1 (task-of 3 1 1 1 2 ∷ [])) ≡ 0 ∷ 3 ∷ 4 ∷ 5 ∷ [])
unfolding jumps jumped ticks_in_jump granted_in_jump even_in_jump next_event_ahead after_handling elapsed least_left handled_all with_release due_at earliest_of paired_in widths_in map_places set_where
    grants claimants given left filtered up_from
reached = (refl, refl, refl)

-- and of two tasks: the second ends at 4, after the first has ended at 2 and freed its cores
pub reached-by-two : ticks 6 (loaded 2 1 (task-of 0 2 2 6 6 ∷ task-of 0 1 2 5 6 ∷ [])) ≡ 0 ∷ 2 ∷ 4 ∷ 5 ∷ 6 ∷ 8 ∷ []
unfolding jumps jumped ticks_in_jump granted_in_jump even_in_jump next_event_ahead after_handling elapsed least_left handled_all with_release due_at earliest_of paired_in widths_in map_places set_where
    grants claimants given left filtered up_from
reached-by-two = refl

-- RULE 4 (request 109): at full length nothing is lent, so the events are those of rule 3
pub reached-lending :
    (ticks 6 (loaded 2 4 (task-of 0 2 2 6 6 ∷ task-of 0 1 2 5 6 ∷ [])) ≡ 0 ∷ 2 ∷ 4 ∷ 5 ∷ 6 ∷ 8 ∷ [])
    × (ticks 6 (loaded 2 3 (task-of 0 2 2 6 6 ∷ task-of 0 1 2 5 6 ∷ [])) ≡ 0 ∷ 2 ∷ 4 ∷ 5 ∷ 6 ∷ 8 ∷ [])
unfolding jumps jumped ticks_in_jump granted_in_jump even_in_jump next_event_ahead after_handling elapsed least_left handled_all with_release due_at earliest_of paired_in widths_in map_places set_where
    grants claimants given left filtered up_from
reached-lending = (refl, refl)

-- TWO WIDTHS (request 108)

-- what the choice of the i-th jump was made for, the places that were granted cores by it, and those at their second width
abbrev choices : ℕ → Loaded → List (ℕ × ℕ × ℕ)
choices n x = map (λ i. ((jumps x i).chosen, (jumps x i).granted, (jumps x i).even)) (up_from 1 n)

-- the first task's jobs end where they are due and the next is released, with width 1 and then 2: the claimants are the same and the choice is not. At 2
-- the second task has to wait, and goes on at 4
abbrev alternating : Loaded
alternating = loaded 2 1 (task-of₂ 0 1 2 2 2 2 ∷ task-of 0 1 3 6 6 ∷ [])

pub reached-parity :
    (ticks 5 alternating ≡ 0 ∷ 2 ∷ 4 ∷ 5 ∷ 6 ∷ []) × (choices 3 alternating ≡ (3, 3, 0) ∷ (3, 1, 1) ∷ (3, 3, 0) ∷ [])
unfolding jumps jumped ticks_in_jump granted_in_jump even_in_jump next_event_ahead after_handling elapsed least_left handled_all with_release due_at earliest_of paired_in widths_in map_places set_where
    grants claimants given left filtered up_from
reached-parity = (refl, refl)

-- the second task's even job does not fit beside the first: it is late at 7, in the second half of 2T, and was not at 3
abbrev half : Loaded
half = loaded 2 1 (task-of 0 1 3 4 4 ∷ task-of₂ 0 1 2 2 3 4 ∷ [])

-- what is left of the second task
abbrev owed : ℕ → Loaded → List ℕ
owed n x = map (λ i. get_or (jumps x i).machine.left 1 0) (up_from 0 n)

pub late-in-second-half : (ticks 5 half ≡ 0 ∷ 2 ∷ 3 ∷ 4 ∷ 7 ∷ []) × (owed 5 half ≡ 0 ∷ 0 ∷ 0 ∷ 0 ∷ 2 ∷ []) × ((jumps half 4).due ≡ 2)
unfolding jumps jumped ticks_in_jump granted_in_jump even_in_jump next_event_ahead after_handling elapsed least_left handled_all with_release due_at earliest_of paired_in widths_in map_places set_where
    grants claimants given left filtered up_from
late-in-second-half = (refl, refl, refl)
