-- The next event, a lower bound of every event: before it there is nothing to handle, and neither a release nor a tick makes an event before it.
use mathlib.Core.Path.{◌≡◌, sym, subst}
use mathlib.Core.Bool.{Bool, true, false, cond}
use mathlib.Core.Logic.{⊎_elim}
use Prim.Native.Nat.{ℕ, suc, ◌+◌, ◌≤◌, ◌<◌}
use native.Mathlib.Nat.{le_trans, eq-or-lt_of_le}
use native.Mathlib.Omega.{arith}
use lib.ListN.{length, get_or}
use lib.Seq.{get_or-set_other}
use Rattle.model.specs.Search.{bit}
use Rattle.model.specs.Task.{Table, task, AllValid}
use Rattle.model.specs.Lists.{full}
use Rattle.simulation.specs.Machine.{Machine, with_release, finishes, worked_tick}
use Rattle.simulation.proofs.Place.{pass-related, event-first}
use Rattle.simulation.proofs.Moves.{worked-event}
use Rattle.simulation.proofs.MachineRelated.{MachineRelated, Ready}

-- the next event is at or before every event of the first n places
abbrev pub NextEventBound : ℕ → ℕ → Machine → Type 0
NextEventBound n next_event m = (p : ℕ) → p < n → next_event ≤ get_or m.event p 0

-- one place more, with a next event that is no later
pub next-event-more : (n next_event event' : ℕ) (m : Machine) → NextEventBound n next_event m → event' ≤ next_event → event' ≤ get_or m.event n 0 → NextEventBound (suc n) event' m
next-event-more n next_event event' m h le own p l =
    ⊎_elim
    (λ (e : p ≡ n). subst (λ (q : ℕ). event' ≤ get_or m.event q 0) (sym e) own)
    (λ (e : p < n). le_trans le (h p e))
    (eq-or-lt_of_le (omega arith))

-- a release at a place from n on changes no event of the first n
pub next-event-release : (n next_event : ℕ) (m : Machine) → NextEventBound n next_event m → (i t C D T : ℕ) → n ≤ i → NextEventBound n next_event (with_release i t C D T m)
unfolding with_release
next-event-release n next_event m h i t C D T le p l = rw (get_or-set_other m.event i p (t + D) 0 (omega arith)) (h p l)

module _ (s : Table) (ok : AllValid s) (few : length s.tasks ≤ 32) where
  -- no event is due before the next event: there is nothing to handle
  pub no-event : (t next_event : ℕ) (m : Machine) → MachineRelated s t m → NextEventBound (length s.tasks) next_event m → t < next_event → Ready s t m
  no-event t next_event m h below before = record {
    sized = h.sized;
    done = λ p l b.
        pass-related (task s p) t ((full s t).job p) (get_or m.left p 0) (get_or m.event p 0) (get_or m.next p 0) (bit m.claiming p)
        (h.waiting p l (omega arith)) (λ e. absurd (omega (arith, below p l)));
    waiting = λ p l b. absurd (omega arith);
    beyond = h.beyond;
  }

  -- a tick leaves an event, or puts it off to the next release
  pub next-event-tick :
      (t next_event : ℕ) (m : Machine) → Ready s t m → NextEventBound (length s.tasks) next_event m → (granted : ℕ → Bool) → NextEventBound (length s.tasks) next_event (worked_tick granted m)
  next-event-tick t next_event m h below granted p l = rw (worked-event granted m h.sized p (le_trans l few)) (go (finishes granted m p))
    where
      go : (x : Bool) → next_event ≤ cond x (get_or m.next p 0) (get_or m.event p 0)
      go true =
          le_trans (below p l)
          (event-first (task s p) (ok p l) (suc t) ((full s t).job p) (get_or m.left p 0) (get_or m.event p 0) (get_or m.next p 0) (bit m.claiming p)
          (h.done p l l))
      go false = below p l
