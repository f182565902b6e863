-- The walk over the claimants of a tick: one that is at its event is late. The first that is found is the first in priority to miss; where none is
-- found no deadline of the tick is missed.
use mathlib.Core.Path.{◌≡◌, refl, sym, ap, ◌∙◌}
use mathlib.Core.Bool.{Bool, true, false, true≢false}
use mathlib.Core.List.{[], ◌∷◌}
use Prim.Native.Nat.{ℕ, ◌+◌, ◌^◌, ◌<◌}
use native.Mathlib.Numerals.{add-one}
use native.Mathlib.Omega.{arith}
use lib.ListN.{length, get_or}
use lib.Dec.{leb, eqb}
use borrow.Author.Tests.{ltb-true, lt-ltb, leb-true, leb-false, eqb-true}
use Rattle.model.specs.Search.{bit}
use Rattle.model.specs.Task.{Table, task}
use Rattle.model.specs.Lists.{full, Missed}
use Rattle.model.specs.Verdict.{FirstMiss}
use Rattle.model.specs.Members.{members}
use Rattle.model.proofs.Digits.{bit-none}
use Rattle.model.proofs.Members.{ended}
use Rattle.table.specs.declared.Loaded.{Loaded}
use Rattle.simulation.specs.Machine.{Machine}
use Rattle.simulation.specs.TickState.{TickState}
use Rattle.simulation.proofs.Place.{claims-owed}
use Rattle.simulation.proofs.SetWalk.{Left, Off, off-turn, all-left}
use Rattle.simulation.proofs.Late.{late-missed, missed-late}
use Rattle.table.specs.Fit.{loaded_table, Fit}
use Rattle.simulation.proofs.AtTick.{walk-skipped, met_at}
use Rattle.simulation.proofs.RefinesTick.{RefinesTick}

-- the claimants that are left to be tested: of the others none is at its event
pub record RemainingClaimants (m : Machine) (t rest : ℕ) : Type 0 where
  pub left : Left m.claiming rest
  pub seen : (q : ℕ) → bit m.claiming q ≡ true → bit rest q ≡ false → get_or m.event q 0 ≡ t → ⊥

pub walk_begins : (m : Machine) (t rest : ℕ) → rest ≡ m.claiming → m.claiming < 2 ^ 32 → RemainingClaimants m t rest
walk_begins m t rest e l = record {
  left = all-left m.claiming rest e l;
  seen = λ q on off. absurd (true≢false (sym on ∙ ap (λ (x : ℕ). bit x q) (sym e) ∙ off));
}

module _ (m : Machine) (t rest p others : ℕ) (h : RemainingClaimants m t rest) (e : members rest ≡ p ∷ members others) where
  pub at-place : Off m.claiming rest p others
  at-place = off-turn m.claiming rest p others h.left e

  -- the first of them is not at its event
  pub walk-passes : (get_or m.event p 0 ≡ t → ⊥) → RemainingClaimants m t others
  walk-passes away = record { left = at-place.left; seen = λ q e f. here q e f (eqb q p) refl }
    where
      here : (q : ℕ) → bit m.claiming q ≡ true → bit others q ≡ false → (b : Bool) → eqb q p ≡ b → get_or m.event q 0 ≡ t → ⊥
      here q e f true x at = away (ap (λ (p : ℕ). get_or m.event p 0) (sym (eqb-true q p x)) ∙ at)
      here q e f false x at = h.seen q e (off (bit rest q) refl) at
        where
          off : (b : Bool) → bit rest q ≡ b → bit rest q ≡ false
          off true y = absurd (true≢false (sym (at-place.bits q ∙ rw (y, x)) ∙ f))
          off false y = y

module _ (t : Loaded) (fit : Fit t) (s : TickState) (h : RefinesTick t s) where
  abbrev book : Table
  book = loaded_table t

  -- a place that misses a deadline at the tick claims, and is at its event
  missed-claims : (q : ℕ) → Missed book q s.tick → (bit s.machine.claiming q ≡ true) × (get_or s.machine.event q 0 ≡ s.tick)
  missed-claims q x =
      let l = x.0 in
      let y = missed-late book fit.valid s.tick 0 s.machine h.before.related q l (omega arith) x in (
        claims-owed (task book q) s.tick ((full book s.tick).job q) (get_or s.machine.left q 0) (get_or s.machine.event q 0)
            (get_or s.machine.next q 0) (bit s.machine.claiming q) (h.before.related.waiting q l (omega arith))
            ∙ lt-ltb 0 (get_or s.machine.left q 0) y.1,
        y.0,
      )

  -- a claimant is one of the tasks
  claims-inside : (q : ℕ) → bit s.machine.claiming q ≡ true → q < length book.tasks
  claims-inside q e = go (leb (length book.tasks) q) refl
    where
      go : (b : Bool) → leb (length book.tasks) q ≡ b → q < length book.tasks
      go true x = absurd (true≢false (sym e ∙ h.before.related.beyond q (leb-true (length book.tasks) q x)))
      go false x = leb-false (length book.tasks) q x

  -- the first that is found at its event is the first miss
  pub walk-misses :
      (rest p others : ℕ) → RemainingClaimants s.machine s.tick rest → members rest ≡ p ∷ members others → get_or s.machine.event p 0 ≡ s.tick
      → FirstMiss book s.tick (p + 1)
  walk-misses rest p others k e at = record {
    place = (p, add-one p);
    missed = late-missed book fit.valid s.tick 0 s.machine h.before.related p inside (omega arith) at owes;
    no-earlier = h.before.met;
    no-higher = λ q l x.
        let y = missed-claims q x in
        k.seen q y.0 (off.below_none q l) y.1;
  }
    where
      off : Off s.machine.claiming rest p others
      off = at-place s.machine s.tick rest p others k e

      claims : bit s.machine.claiming p ≡ true
      claims = k.left.within p off.here

      inside : p < length book.tasks
      inside = claims-inside p claims

      owes : 0 < get_or s.machine.left p 0
      owes =
          ltb-true 0 (get_or s.machine.left p 0)
          (sym (claims-owed (task book p) s.tick ((full book s.tick).job p) (get_or s.machine.left p 0)
          (get_or s.machine.event p 0) (get_or s.machine.next p 0) (bit s.machine.claiming p)
          (h.before.related.waiting p inside (omega arith))) ∙ claims)

  -- none of them is at its event
  pub walk_ends : (rest : ℕ) → RemainingClaimants s.machine s.tick rest → members rest ≡ [] → (q : ℕ) → ¬ Missed book q s.tick
  walk_ends rest k none q x =
      let y = missed-claims q x in
      k.seen q y.0 (ap (λ (r : ℕ). bit r q) (ended rest none) ∙ bit-none q) y.1

  -- before the next event no deadline is missed
  pub walk-skips : s.tick < s.event → (q : ℕ) → ¬ Missed book q s.tick
  walk-skips l q =
      met_at t fit s.machine s.even s.event s.tick h.before.met
      (walk-skipped t fit s.machine s.even s.event s.tick h.before l) q s.tick (omega arith)
