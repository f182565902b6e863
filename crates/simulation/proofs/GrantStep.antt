-- A step of the walk over the granted places: the lowest is taken off the set and served.
use mathlib.Core.Path.{◌≡◌, sym, ap, ◌∙◌, subst}
use mathlib.Core.Bool.{Bool, true}
use mathlib.Core.List.{List}
use Prim.Native.Nat.{ℕ, ◌+◌, ◌-◌, ◌*◌, ◌%◌, ◌^◌, ◌≤◌, ◌<◌}
use native.Mathlib.Omega.{arith}
use lib.ListN.{get_or, set}
use borrow.Author.Tests.{eq-eqb, ne_eqb}
use Rattle.model.specs.Search.{bit}
use Rattle.model.proofs.Digits.{shifted_one}
use Rattle.simulation.specs.Places.{segment}
use Rattle.simulation.specs.Machine.{Machine, machine, machine_of, GrantedOwed, worked_tick}
use Rattle.simulation.proofs.Parts.{front_at, part_at, store-left, store-event}
use Rattle.simulation.proofs.Served.{unserved-left, served-on, served-out}
use Rattle.simulation.proofs.SetWalk.{taken, Left, Off}

-- what is left of a place once it is served
abbrev ticks : ℕ → Machine → ℕ
ticks p m = get_or m.left p 0 - 1

-- the digit of a place as the code has it
abbrev digit : ℕ → ℕ
digit p = 1 * 2 ^ p % 2 ^ 32

pub record GrantStep (granted p others : ℕ) (m₀ m : Machine) : Type 0 where
  pub owed : 1 ≤ get_or m.left p 0
  pub on :
      (ticks p m ≡ 0 → ⊥)
      → machine (set m.left p (ticks p m)) m.event m.next m.claiming ≡ worked_tick (taken granted others) m₀
  pub member : ticks p m ≡ 0 → digit p ≤ m.claiming
  pub out :
      ticks p m ≡ 0
      → machine (set m.left p (ticks p m)) (set m.event p (get_or m.next p 0)) m.next (m.claiming - digit p)
      ≡ worked_tick (taken granted others) m₀

module _
    (granted rest p others : ℕ) (w : Off granted rest p others) (l : Left granted rest)
    (m : Machine) (owed : GrantedOwed (bit granted) m)
  where
    abbrev before : ℕ → Bool
    before = taken granted rest

    abbrev after_events : ℕ → Bool
    after_events = taken granted others

    one : digit p ≡ 2 ^ p
    one = shifted_one 32 p w.below

    have : (bit m.claiming p ≡ true) × (0 < get_or m.left p 0)
    have = owed p (l.within p w.here)

    still : get_or (worked_tick before m).left p 0 ≡ get_or m.left p 0
    still = unserved-left before after_events m p w.off w.on w.same

    pub turn : GrantStep granted p others m (worked_tick before m)
    unfolding worked_tick
    turn = record {
      owed = omega (arith, still, have.1);
      on = λ more.
          subst (λ (x : ℕ). machine (set (worked_tick before m).left p (x - 1)) (worked_tick before m).event m.next (worked_tick before m).claiming ≡ worked_tick after_events m)
          (sym still)
          (served-on before after_events m p w.off w.on w.same
          (ne_eqb (get_or m.left p 0) 1 (λ e. more (omega (arith, still)))));
      member = λ last. omega (arith, one, (finished last).0);
      out = λ last.
          subst
          (λ (x : ℕ).
          machine (set (worked_tick before m).left p (x - 1)) (set (worked_tick before m).event p (get_or m.next p 0)) m.next
          ((worked_tick before m).claiming - digit p)
          ≡ worked_tick after_events m)
          (sym still)
          (subst
          (λ (b : ℕ).
          machine (set (worked_tick before m).left p (get_or m.left p 0 - 1))
          (set (worked_tick before m).event p (get_or m.next p 0)) m.next ((worked_tick before m).claiming - b)
          ≡ worked_tick after_events m)
          (sym one) (finished last).1);
    }
      where
        finished :
            ticks p (worked_tick before m) ≡ 0
            → (2 ^ p ≤ (worked_tick before m).claiming)
            × (machine (set (worked_tick before m).left p (get_or m.left p 0 - 1))
            (set (worked_tick before m).event p (get_or m.next p 0)) m.next ((worked_tick before m).claiming - 2 ^ p)
            ≡ worked_tick after_events m)
        finished last =
            served-out before after_events m p w.off w.on w.same w.below have.0
            (eq-eqb (get_or m.left p 0) 1 (omega (arith, still, have.1)))

-- A step on a machine whose numbers are in one list
module _ (granted p others : ℕ) (m₀ : Machine) (xs : List ℕ) (c : ℕ) (below : p < 32) (w : GrantStep granted p others m₀ (machine_of xs c)) where
  has : get_or (segment 0 xs) p 0 ≡ get_or xs p 0
  has = front_at xs p below

  abbrev less : ℕ
  less = get_or xs p 0 - 1

  -- one tick less is left
  abbrev one_less : List ℕ
  one_less = set xs p less

  pub list-owed : 1 ≤ get_or xs p 0
  list-owed = omega (arith, has, w.owed)

  pub list-member : less ≡ 0 → digit p ≤ c
  list-member e = w.member (omega (arith, has))

  pub list_on : (less ≡ 0 → ⊥) → machine_of one_less c ≡ worked_tick (taken granted others) m₀
  list_on ne =
      store-left xs c p less below
      ∙ (ap (λ (x : ℕ). machine (set (segment 0 xs) p (x - 1)) (segment 32 xs) (segment 64 xs) c) (sym has)
      ∙ w.on (λ e. ne (omega (arith, has))))

  pub list-out :
      less ≡ 0
      → machine_of (set one_less (32 + p) (get_or one_less (64 + p) 0)) (c - digit p) ≡ worked_tick (taken granted others) m₀
  list-out e =
      store-event one_less (c - digit p) p (get_or one_less (64 + p) 0) below
      ∙ (ap (λ (x : ℕ). machine (segment 0 one_less) (set (segment 32 one_less) p x) (segment 64 one_less) (c - digit p))
      (sym (part_at 64 one_less p below))
      ∙ (ap (λ (m : Machine). machine m.left (set m.event p (get_or m.next p 0)) m.next (c - digit p))
      (store-left xs c p less below)
      ∙ (ap
      (λ (x : ℕ).
      machine (set (segment 0 xs) p (x - 1)) (set (segment 32 xs) p (get_or (segment 64 xs) p 0)) (segment 64 xs) (c - digit p))
      (sym has)
      ∙ w.out (omega (arith, has)))))
