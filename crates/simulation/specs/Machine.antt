-- The full-length run (scope, 'The book of a run') in plain numbers, as the judge, the plan and the printer step it.
-- Up to the first miss it refines the book: `machine-refines` in proofs/Refines.antt.
use Rattle.std.specs.Prelude.{◌≡◌, Bool, true, not, ◌&&◌, ◌||◌, cond, List, ℕ, zero, suc, ◌+◌, ◌-◌, ◌^◌, ◌<◌, min, length, get_or, set, replicate, eqb, ltb}
use Rattle.model.specs.Search.{bit}
use Rattle.model.specs.Sizes.{most_tasks}
use Rattle.simulation.specs.Places.{segment, map_places, set_where, second, third}

-- for each of 32 places: the ticks that its job is still owed, 0 where none claims; its next event, the job's deadline while it claims and
-- else the next release; its next release. And the set of the places that claim. A place past the count never claims.
pub record Machine : Type 0 where
  pub left : List ℕ
  pub event : List ℕ
  pub next : List ℕ
  pub claiming : ℕ

-- a machine from its parts
abbrev pub machine : List ℕ → List ℕ → List ℕ → ℕ → Machine
machine l m n c = record { left = l; event = m; next = n; claiming = c }

-- a machine whose numbers are in one list: the ticks left of each place first, then the events, then the next releases
abbrev pub machine_of : List ℕ → ℕ → Machine
machine_of places c = machine (segment 0 places) (segment second places) (segment third places) c

-- a machine of 32 places
pub record Sized (m : Machine) : Type 0 where
  pub left : length m.left ≡ most_tasks
  pub event : length m.event ≡ most_tasks
  pub next : length m.next ≡ most_tasks

-- before tick 0: no place claims, and each task's first job is released at its O
abbrev pub started : List ℕ → Machine
started offsets = machine (replicate most_tasks 0) offsets offsets 0

-- scope: a job's deadline is missed if it has not ended at t = r + D. The place is at its event, and ticks are still owed
abbrev pub overdue : ℕ → Machine → ℕ → Bool
overdue t m p = eqb (get_or m.event p 0) t && ltb 0 (get_or m.left p 0)

-- scope: a job released at t must have its C ticks by t + D, and the next is released at t + T. Place p claims from now on
unfoldable pub with_release : ℕ → ℕ → ℕ → ℕ → ℕ → Machine → Machine
with_release p t C D T m = record {
  left = set m.left p C;
  event = set m.event p (t + D);
  next = set m.next p (t + T);
  claiming = set_where most_tasks (λ q. eqb q p || bit m.claiming q);
}

-- the machine after the due events of tick t in the first n places, where no job is late: a job is released in each place whose event it is.
-- C, D and T list the lengths, deadlines and periods of the tasks
unfoldable pub released_due : ℕ → List ℕ → List ℕ → List ℕ → ℕ → Machine → Machine
released_due t C D T zero m = m
released_due t C D T (suc n) m =
    cond (eqb (get_or (released_due t C D T n m).event n 0) t)
    (with_release n t (get_or C n 0) (get_or D n 0) (get_or T n 0) (released_due t C D T n m))
    (released_due t C D T n m)

-- the earliest event of the first n places, or the largest number of 32 binary digits where there is no place
unfoldable pub earliest : ℕ → List ℕ → ℕ
earliest zero events = 2 ^ 32 - 1
earliest (suc n) events = min (earliest n events) (get_or events n 0)

-- the machine after the due events of a tick, and the time of the next event
pub record DueEvents (t n : ℕ) (C D T : List ℕ) (before after : Machine) (earliest-next : ℕ) : Type 0 where
  pub machines : after ≡ released_due t C D T n before
  pub event : earliest-next ≡ earliest n after.event

-- every place that is granted cores claims, and is owed ticks
abbrev pub GrantedOwed : (ℕ → Bool) → Machine → Type 0
GrantedOwed granted m = (p : ℕ) → granted p ≡ true → (bit m.claiming p ≡ true) × (0 < get_or m.left p 0)

-- scope: a job ends if it has had C. Place p is granted cores, and is owed one tick
abbrev pub finishes : (ℕ → Bool) → Machine → ℕ → Bool
finishes granted m p = granted p && eqb (get_or m.left p 0) 1

-- scope: each job in the row has had one tick more. It is owed one less; a place that had its last tick claims no more, and its next event is the next release
unfoldable pub worked_tick : (ℕ → Bool) → Machine → Machine
worked_tick granted m = record {
  left = map_places (λ p l. cond (granted p) (l - 1) l) m.left;
  event = map_places (λ p d. cond (finishes granted m p) (get_or m.next p 0) d) m.event;
  next = m.next;
  claiming = set_where most_tasks (λ p. bit m.claiming p && not (finishes granted m p));
}
