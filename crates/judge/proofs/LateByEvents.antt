-- The walk over the due claimants of a tick: one with ticks left is late. The first that is found is the first in priority to miss; where none is
-- found no deadline of the tick is missed.
use mathlib.Core.Path.{◌≡◌, refl, sym, ap, ap₂, ◌∙◌}
use mathlib.Core.Bool.{Bool, true, false, ◌&&◌, true≢false}
use mathlib.Core.List.{[], ◌∷◌}
use Prim.Native.Nat.{ℕ, ◌+◌, ◌≤◌, ◌<◌}
use native.Mathlib.Numerals.{add-one}
use native.Mathlib.Omega.{arith}
use lib.Bits.{bit_and, and_le_r}
use lib.ListN.{length, get_or}
use lib.Dec.{eqb}
use borrow.Author.Tests.{eqb-true}
use Rattle.model.specs.Search.{bit}
use Rattle.model.specs.Members.{members}
use Rattle.model.specs.Task.{Table, task}
use Rattle.model.specs.Lists.{full, Missed}
use Rattle.model.specs.Verdict.{FirstMiss}
use Rattle.model.proofs.Bools.{and_right}
use Rattle.model.proofs.Digits.{bit-none, and-bit}
use Rattle.model.proofs.Members.{ended}
use Rattle.model.proofs.Runs.{missed-at}
use Rattle.table.specs.declared.Loaded.{Loaded}
use Rattle.simulation.specs.Machine.{Machine}
use Rattle.table.specs.Fit.{loaded_table, Fit}
use Rattle.simulation.specs.EventState.{EventState, StateRepresents}
use Rattle.simulation.proofs.DuePlaces.{due-small}
use Rattle.simulation.proofs.JumpLands.{due-exact, due-inside, missed-due}
use Rattle.simulation.proofs.Handled.{late-has}
use Rattle.simulation.proofs.SetWalk.{Left, Off, off-turn}
use Rattle.simulation.proofs.Represents.{none_left}

-- what is left of the due places to be handled: the others have no tick left
pub record RemainingDue (m : Machine) (due rest : ℕ) : Type 0 where
  pub left : Left due rest
  pub seen : (q : ℕ) → bit due q ≡ true → bit rest q ≡ false → get_or m.left q 0 ≡ 0

module _ (m : Machine) (due rest p others : ℕ) (h : RemainingDue m due rest) (e : members rest ≡ p ∷ members others) where
  pub at-place : Off due rest p others
  at-place = off-turn due rest p others h.left e

  -- the lowest of them has no tick left
  pub walk-passes : get_or m.left p 0 ≤ 0 → RemainingDue m due others
  walk-passes none = record { left = at-place.left; seen = λ q e f. go q e f (eqb q p) refl }
    where
      go : (q : ℕ) → bit due q ≡ true → bit others q ≡ false → (b : Bool) → eqb q p ≡ b → get_or m.left q 0 ≡ 0
      go q e f true x =
          let z : get_or m.left p 0 ≡ 0 = omega arith in
          ap (λ (p : ℕ). get_or m.left p 0) (eqb-true q p x) ∙ z
      go q e f false x = h.seen q e (off (bit rest q) refl)
        where
          off : (b : Bool) → bit rest q ≡ b → bit rest q ≡ false
          off true y = absurd (true≢false (sym (at-place.bits q ∙ rw (y, x)) ∙ f))
          off false y = y

module _ (t : Loaded) (fit : Fit t) (s : EventState) (h : StateRepresents t s) where
  abbrev book : Table
  book = loaded_table t

  -- at first the due places that do not claim are left out: they have no tick left
  pub walk_begins : RemainingDue s.machine s.due (bit_and s.machine.claiming s.due)
  walk_begins = record {
    left = record {
      fits = omega (arith, and_le_r s.machine.claiming s.due, h.dues, due-small s.tick t.count s.machine.event);
      within = λ q e. and_right (bit s.machine.claiming q) (bit s.due q) (sym (and-bit s.machine.claiming s.due q) ∙ e);
    };
    seen = λ q e f. rests q (due-inside t fit s h q e) (bit s.machine.claiming q) refl (sym (and-bit s.machine.claiming s.due q) ∙ f) e;
  }
    where
      rests :
          (q : ℕ) → q < length book.tasks → (b : Bool) → bit s.machine.claiming q ≡ b → bit s.machine.claiming q && bit s.due q ≡ false
          → bit s.due q ≡ true → get_or s.machine.left q 0 ≡ 0
      rests q l true c f e = absurd (true≢false (sym (ap₂ (λ (x y : Bool). x && y) c e) ∙ f))
      rests q l false c f e =
          none_left (task book q) s.tick ((full book s.tick).job q) (get_or s.machine.left q 0) (get_or s.machine.event q 0)
          (get_or s.machine.next q 0) (bit s.machine.claiming q) (h.machines.places q l) c

  -- a place that is due with ticks left, where none before it is, is the first miss
  pub late-first :
      (p : ℕ) → bit s.due p ≡ true → 0 < get_or s.machine.left p 0
      → ((q : ℕ) → q < p → bit s.due q ≡ true → ¬ (0 < get_or s.machine.left q 0)) → FirstMiss book s.tick (p + 1)
  late-first p on owed higher = record {
    place = (p, add-one p);
    missed =
        let x = late-has (task book p) s.tick ((full book s.tick).job p) (get_or s.machine.left p 0) (get_or s.machine.event p 0)
        (get_or s.machine.next p 0) (bit s.machine.claiming p) (h.machines.places p inside)
        (eqb-true (get_or s.machine.event p 0) s.tick (sym (due-exact t fit s h p inside) ∙ on)) owed in
        missed-at book p s.tick x.0 inside x.1 x.2;
    no-earlier = h.met;
    no-higher = λ q l x. let y = missed-due t fit s h q x in higher q l y.0 y.1;
  }
    where
      inside : p < length book.tasks
      inside = due-inside t fit s h p on

  -- the first that the walk finds with ticks left
  pub walk-misses :
      (rest p others : ℕ) → RemainingDue s.machine s.due rest → members rest ≡ p ∷ members others → 0 < get_or s.machine.left p 0
      → FirstMiss book s.tick (p + 1)
  walk-misses rest p others k e owed =
      let o = at-place s.machine s.due rest p others k e in
      late-first p (k.left.within p o.here) owed (λ q l on x. omega (arith, k.seen q on (o.below_none q l)))

  -- none of them has ticks left
  pub walk_ends : (rest : ℕ) → RemainingDue s.machine s.due rest → members rest ≡ [] → (q : ℕ) → ¬ Missed book q s.tick
  walk_ends rest k none q x =
      let y = missed-due t fit s h q x in
      absurd (omega (arith, y.1, k.seen q y.0 (ap (λ (r : ℕ). bit r q) (ended rest none) ∙ bit-none q)))
