-- The walk over the due events: one place more, the next event, and that the machine is ready after it where no deadline is missed.
use mathlib.Core.Path.{◌≡◌, refl, sym, ap, ◌∙◌}
use mathlib.Core.Bool.{Bool, true, false, cond}
use mathlib.Core.List.{List}
use Prim.Native.Nat.{ℕ, zero, suc, ◌+◌, ◌≤◌, ◌<◌, min}
use native.Mathlib.Nat.{not-suc-le-zero, eq-zero-or-pos}
use native.Mathlib.Omega.{arith}
use mathlib.Core.Logic.{⊎_elim}
use lib.ListN.{length, get_or, set}
use lib.Seq.{get_or-set_other}
use lib.Dec.{eqb}
use borrow.Author.Tests.{eq-eqb, ne_eqb, eqb-true, eqb-false}
use Rattle.model.specs.Task.{Table, AllValid}
use Rattle.model.specs.Lists.{Missed}
use Rattle.simulation.specs.Machine.{Machine, with_release, released_due, earliest}
use Rattle.simulation.proofs.MachineRelated.{Walked, MachineRelated, Columns, walk-pass, walk-release}
use Rattle.simulation.proofs.NextEvent.{NextEventBound, next-event-more}
use Rattle.simulation.proofs.Late.{late-missed}

-- a store at a place from n on leaves the earliest of the first n
earliest-set : (n : ℕ) (ms : List ℕ) (i v : ℕ) → n ≤ i → earliest n (set ms i v) ≡ earliest n ms
unfolding earliest
earliest-set zero ms i v h = refl
earliest-set (suc n) ms i v h = rw (earliest-set n ms i v (omega arith), get_or-set_other ms i n v 0 (omega arith))

-- what the walk does at place n
abbrev handled_at : ℕ → List ℕ → List ℕ → List ℕ → ℕ → Machine → Machine
handled_at t C D T n m = cond (eqb (get_or m.event n 0) t) (with_release n t (get_or C n 0) (get_or D n 0) (get_or T n 0) m) m

-- the machine once place n has been handled, and the earliest of the first n events, which is as it was
pub record EventsHandled (t : ℕ) (C D T : List ℕ) (n : ℕ) (start before after : Machine) : Type 0 where
  pub machines : after ≡ released_due t C D T (suc n) start
  pub same : earliest n after.event ≡ earliest n before.event

module _ (t : ℕ) (C D T : List ℕ) (n : ℕ) (start before : Machine) (so_far : before ≡ released_due t C D T n start) (after : Machine) where
  one_more : handled_at t C D T n before ≡ released_due t C D T (suc n) start
  unfolding released_due
  one_more = ap (handled_at t C D T n) so_far

  chosen : (b : Bool) → eqb (get_or before.event n 0) t ≡ b → cond b (with_release n t (get_or C n 0) (get_or D n 0) (get_or T n 0) before) before ≡ released_due t C D T (suc n) start
  chosen b e = ap (λ (x : Bool). cond x (with_release n t (get_or C n 0) (get_or D n 0) (get_or T n 0) before) before) (sym e) ∙ one_more

  -- place n is due
  pub due-release :
      get_or before.event n 0 ≡ t → after ≡ with_release n t (get_or C n 0) (get_or D n 0) (get_or T n 0) before → EventsHandled t C D T n start before after
  unfolding with_release
  due-release e a = record {
    machines = a ∙ chosen true (eq-eqb (get_or before.event n 0) t e);
    same = ap (λ (m : Machine). earliest n m.event) a ∙ earliest-set n before.event n (t + get_or D n 0) (omega arith);
  }

  -- place n is not due
  pub due-pass : (get_or before.event n 0 ≡ t → ⊥) → after ≡ before → EventsHandled t C D T n start before after
  due-pass ne a = record {
    machines = a ∙ chosen false (ne_eqb (get_or before.event n 0) t ne);
    same = ap (λ (m : Machine). earliest n m.event) a;
  }

-- one event more
pub earliest-more : (n : ℕ) (ms : List ℕ) (a b : ℕ) → a ≡ earliest n ms → b ≡ min a (get_or ms n 0) → b ≡ earliest (suc n) ms
unfolding earliest
earliest-more n ms a b e f = f ∙ ap (λ (x : ℕ). min x (get_or ms n 0)) e

-- the earliest event is a next event
pub earliest-event : (n : ℕ) (m : Machine) → NextEventBound n (earliest n m.event) m
unfolding earliest
earliest-event zero m p l = absurd (not-suc-le-zero l)
earliest-event (suc n) m p l =
    next-event-more n (earliest n m.event) (min (earliest n m.event) (get_or m.event n 0)) m (earliest-event n m) (omega arith) (omega arith) p l

module _ (s : Table) (ok : AllValid s) (few : length s.tasks ≤ 32) (O v C D T : List ℕ) (of : Columns s O v C D T) where
  -- where no deadline is missed at t, the walk has passed the first n places
  pub due-walked :
      (t : ℕ) (m : Machine) → MachineRelated s t m → ((p : ℕ) → ¬ Missed s p t)
      → (n : ℕ) → n ≤ length s.tasks → Walked s t n (released_due t C D T n m)
  unfolding released_due
  due-walked t m h met zero l = h
  due-walked t m h met (suc n) l = go (released_due t C D T n m) (due-walked t m h met n (omega arith)) (eqb (get_or (released_due t C D T n m).event n 0) t) refl
    where
      go : (x : Machine) → Walked s t n x → (b : Bool) → eqb (get_or x.event n 0) t ≡ b
          → Walked s t (suc n) (cond b (with_release n t (get_or C n 0) (get_or D n 0) (get_or T n 0) x) x)
      go x w true e =
          walk-release s ok few t n x w l (eqb-true (get_or x.event n 0) t e)
          (⊎_elim
          (λ (z : get_or x.left n 0 ≡ 0). z)
          (λ (z : 0 < get_or x.left n 0). absurd (met n (late-missed s ok t n x w n l (omega arith) (eqb-true (get_or x.event n 0) t e) z)))
          (eq-zero-or-pos (get_or x.left n 0)))
          (get_or C n 0) (get_or D n 0) (get_or T n 0) (of.lengths n l) (of.deadlines n l) (of.periods n l)
      go x w false e = walk-pass s ok few t n x w l (eqb-false (get_or x.event n 0) t e)
