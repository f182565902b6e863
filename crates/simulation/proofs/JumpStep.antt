-- A step of the walk over the granted places: the lowest is taken off the set and has its k ticks.
use mathlib.Core.Path.{◌≡◌, sym, ap, ◌∙◌, subst}
use mathlib.Core.Bool.{Bool, true}
use mathlib.Core.List.{List}
use Prim.Native.Nat.{ℕ, ◌-◌, ◌*◌, ◌%◌, ◌^◌, ◌≤◌, ◌<◌}
use native.Mathlib.Omega.{arith}
use lib.ListN.{get_or, set}
use borrow.Author.Tests.{eq-eqb, ne_eqb}
use Rattle.model.specs.Search.{bit}
use Rattle.model.proofs.Digits.{shifted_one}
use Rattle.simulation.specs.Places.{segment}
use Rattle.simulation.specs.Machine.{Machine, machine, machine_of}
use Rattle.simulation.proofs.Parts.{front_at, store-left}
use Rattle.simulation.specs.Jump.{GrantedOwe, elapsed}
use Rattle.simulation.proofs.SetWalk.{taken, Left, Off}
use Rattle.simulation.proofs.Passing.{still-left, passed_on, passed-out}

-- what is left of a place once it has had its k ticks
abbrev more : ℕ → ℕ → Machine → ℕ
more k p m = get_or m.left p 0 - k

-- the digit of a place as the code has it
abbrev digit : ℕ → ℕ
digit p = 1 * 2 ^ p % 2 ^ 32

pub record GrantStep (k granted p others : ℕ) (m₀ m : Machine) : Type 0 where
  pub owed : k ≤ get_or m.left p 0
  pub on :
      (more k p m ≡ 0 → ⊥)
      → machine (set m.left p (more k p m)) m.event m.next m.claiming ≡ elapsed k (taken granted others) m₀
  pub member : more k p m ≡ 0 → digit p ≤ m.claiming
  pub out :
      more k p m ≡ 0
      → machine (set m.left p (more k p m)) m.event m.next (m.claiming - digit p) ≡ elapsed k (taken granted others) m₀

module _
    (granted rest p others : ℕ) (w : Off granted rest p others) (l : Left granted rest)
    (k : ℕ) (m : Machine) (owed : GrantedOwe k (bit granted) m)
  where
    abbrev before : ℕ → Bool
    before = taken granted rest

    abbrev after_handling : ℕ → Bool
    after_handling = taken granted others

    one : digit p ≡ 2 ^ p
    one = shifted_one 32 p w.below

    have : (bit m.claiming p ≡ true) × (k ≤ get_or m.left p 0)
    have = owed p (l.within p w.here)

    still : get_or (elapsed k before m).left p 0 ≡ get_or m.left p 0
    still = still-left k before after_handling m p w.off w.on w.same

    pub turn : GrantStep k granted p others m (elapsed k before m)
    unfolding elapsed
    turn = record {
      owed = omega (arith, still, have.1);
      on = λ left.
          subst (λ (x : ℕ). machine (set (elapsed k before m).left p (x - k)) m.event m.next (elapsed k before m).claiming ≡ elapsed k after_handling m)
          (sym still)
          (passed_on k before after_handling m p w.off w.on w.same
          (ne_eqb (get_or m.left p 0) k (λ e. left (omega (arith, still)))));
      member = λ last. omega (arith, one, (finished last).0);
      out = λ last.
          subst
          (λ (x : ℕ).
          machine (set (elapsed k before m).left p (x - k)) m.event m.next ((elapsed k before m).claiming - digit p)
          ≡ elapsed k after_handling m)
          (sym still)
          (subst
          (λ (b : ℕ).
          machine (set (elapsed k before m).left p (get_or m.left p 0 - k)) m.event m.next ((elapsed k before m).claiming - b)
          ≡ elapsed k after_handling m)
          (sym one) (finished last).1);
    }
      where
        finished :
            more k p (elapsed k before m) ≡ 0
            → (2 ^ p ≤ (elapsed k before m).claiming)
            × (machine (set (elapsed k before m).left p (get_or m.left p 0 - k)) m.event m.next ((elapsed k before m).claiming - 2 ^ p)
            ≡ elapsed k after_handling m)
        finished last =
            passed-out k before after_handling m p w.off w.on w.same w.below have.0
            (eq-eqb (get_or m.left p 0) k (omega (arith, still, have.1)))

-- A step on a machine whose numbers are in one list
module _ (k granted p others : ℕ) (m₀ : Machine) (xs : List ℕ) (c : ℕ) (below : p < 32) (w : GrantStep k granted p others m₀ (machine_of xs c)) where
  has : get_or (segment 0 xs) p 0 ≡ get_or xs p 0
  has = front_at xs p below

  abbrev less : ℕ
  less = get_or xs p 0 - k

  pub list-owed : k ≤ get_or xs p 0
  list-owed = omega (arith, has, w.owed)

  pub list-member : less ≡ 0 → digit p ≤ c
  list-member e = w.member (omega (arith, has))

  pub list_on : (less ≡ 0 → ⊥) → machine_of (set xs p less) c ≡ elapsed k (taken granted others) m₀
  list_on ne =
      store-left xs c p less below
      ∙ (ap (λ (x : ℕ). machine (set (segment 0 xs) p (x - k)) (segment 32 xs) (segment 64 xs) c) (sym has)
      ∙ w.on (λ e. ne (omega (arith, has))))

  pub list-out : less ≡ 0 → machine_of (set xs p less) (c - digit p) ≡ elapsed k (taken granted others) m₀
  list-out e =
      store-left xs (c - digit p) p less below
      ∙ (ap (λ (x : ℕ). machine (set (segment 0 xs) p (x - k)) (segment 32 xs) (segment 64 xs) (c - digit p)) (sym has)
      ∙ w.out (omega (arith, has)))
