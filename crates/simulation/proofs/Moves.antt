-- The value at each place after a release and after a tick.
use mathlib.Core.Path.{◌≡◌, refl, ◌∙◌}
use mathlib.Core.Bool.{Bool, true, false, not, ◌&&◌, ◌||◌, cond}
use mathlib.Core.List.{List}
use Prim.Native.Nat.{ℕ, ◌+◌, ◌-◌, ◌≤◌, ◌<◌}
use native.Mathlib.Omega.{arith}
use lib.ListN.{get_or, length-set}
use lib.Seq.{get_or-set_same, get_or-set_other}
use lib.Dec.{eqb}
use borrow.Author.Tests.{eq-eqb, ne_eqb}
use Rattle.model.specs.Search.{bit}
use Rattle.simulation.specs.Machine.{Machine, machine, with_release, finishes, worked_tick, Sized}
use Rattle.simulation.proofs.Places.{each-length, each_at}
use Rattle.simulation.proofs.Sets.{set-has, set_past}

-- machines are equal where their parts are
pub same-machine : {l l' m m' n n' : List ℕ} {c c' : ℕ} → l ≡ l' → m ≡ m' → n ≡ n' → c ≡ c' → machine l m n c ≡ machine l' m' n' c'
same-machine el em en ec = λ i. machine (el i) (em i) (en i) (ec i)

-- two machines have the same at a place
pub record SameAt (p : ℕ) (a b : Machine) : Type 0 where
  pub left : get_or a.left p 0 ≡ get_or b.left p 0
  pub event : get_or a.event p 0 ≡ get_or b.event p 0
  pub next : get_or a.next p 0 ≡ get_or b.next p 0
  pub claims : bit a.claiming p ≡ bit b.claiming p

module _ (p t C D T : ℕ) (m : Machine) where
  abbrev after_events : Machine
  after_events = with_release p t C D T m

  pub released-sized : Sized m → Sized after_events
  unfolding with_release
  released-sized z = record {
    left = length-set m.left p C ∙ z.left;
    event = length-set m.event p (t + D) ∙ z.event;
    next = length-set m.next p (t + T) ∙ z.next;
  }

  -- at the place itself
  pub released-own :
      Sized m → p < 32
      → (get_or after_events.left p 0 ≡ C) × (get_or after_events.event p 0 ≡ t + D) × (get_or after_events.next p 0 ≡ t + T) × (bit after_events.claiming p ≡ true)
  unfolding with_release
  released-own z h = (
    get_or-set_same m.left p C 0 (omega (arith, z.left)),
    get_or-set_same m.event p (t + D) 0 (omega (arith, z.event)),
    get_or-set_same m.next p (t + T) 0 (omega (arith, z.next)),
    set-has 32 (λ q. eqb q p || bit m.claiming q) p h ∙ rw (eq-eqb p p refl),
  )

  -- and at any other
  pub released-other : (q : ℕ) → (q ≡ p → ⊥) → q < 32 → SameAt q after_events m
  unfolding with_release
  released-other q ne h = record {
    left = get_or-set_other m.left p q C 0 ne;
    event = get_or-set_other m.event p q (t + D) 0 ne;
    next = get_or-set_other m.next p q (t + T) 0 ne;
    claims = set-has 32 (λ q. eqb q p || bit m.claiming q) q h ∙ rw (ne_eqb q p ne);
  }

  pub released-past : (q : ℕ) → 32 ≤ q → bit after_events.claiming q ≡ false
  unfolding with_release
  released-past q h = set_past 32 (λ q. eqb q p || bit m.claiming q) q h

module _ (granted : ℕ → Bool) (m : Machine) where
  pub worked-sized : Sized m → Sized (worked_tick granted m)
  unfolding worked_tick
  worked-sized z = record {
    left = each-length (λ p l. cond (granted p) (l - 1) l) m.left ∙ z.left;
    event = each-length (λ p d. cond (finishes granted m p) (get_or m.next p 0) d) m.event ∙ z.event;
    next = z.next;
  }

  module _ (z : Sized m) (p : ℕ) (h : p < 32) where
    pub worked-left : get_or (worked_tick granted m).left p 0 ≡ cond (granted p) (get_or m.left p 0 - 1) (get_or m.left p 0)
    unfolding worked_tick
    worked-left = each_at (λ p l. cond (granted p) (l - 1) l) m.left p (omega (arith, z.left))

    pub worked-event : get_or (worked_tick granted m).event p 0 ≡ cond (finishes granted m p) (get_or m.next p 0) (get_or m.event p 0)
    unfolding worked_tick
    worked-event = each_at (λ p d. cond (finishes granted m p) (get_or m.next p 0) d) m.event p (omega (arith, z.event))

    pub worked-claims : bit (worked_tick granted m).claiming p ≡ bit m.claiming p && not (finishes granted m p)
    unfolding worked_tick
    worked-claims = set-has 32 (λ p. bit m.claiming p && not (finishes granted m p)) p h

  pub worked-past : (p : ℕ) → 32 ≤ p → bit (worked_tick granted m).claiming p ≡ false
  unfolding worked_tick
  worked-past p h = set_past 32 (λ p. bit m.claiming p && not (finishes granted m p)) p h

  pub worked-none : (p : ℕ) → bit m.claiming p ≡ false → p < 32 → bit (worked_tick granted m).claiming p ≡ false
  unfolding worked_tick
  worked-none p e h = set-has 32 (λ p. bit m.claiming p && not (finishes granted m p)) p h ∙ rw e
