-- A tick place by place: the machine after one place more has been served.
use mathlib.Core.Path.{◌≡◌, refl, sym, ap, ◌∙◌, fun_ext, subst}
use mathlib.Core.Bool.{Bool, true, false, not, ◌&&◌, cond, and-true}
use Prim.Native.Nat.{ℕ, ◌-◌, ◌^◌, ◌≤◌, ◌<◌}
use native.Mathlib.Omega.{arith}
use lib.ListN.{get_or, set}
use lib.Dec.{eqb}
use borrow.Author.Tests.{eqb-true, eqb-false}
use Rattle.model.specs.Search.{bit}
use Rattle.model.proofs.Digits.{BitCleared, clear-bit}
use Rattle.simulation.specs.Places.{map_places, set_where}
use Rattle.simulation.specs.Machine.{Machine, machine, finishes, worked_tick}
use Rattle.simulation.proofs.Places.{each_none, each-still, each_more}
use Rattle.simulation.proofs.Sets.{set-has, set-lt, set_is}

-- no place is served: the machine is as it was
pub served-none : (f : ℕ → Bool) (m : Machine) → m.claiming < 2 ^ 32 → ((p : ℕ) → f p ≡ false) → worked_tick f m ≡ m
unfolding worked_tick
served-none f m h e = λ i. record {
  left = left i;
  event = event i;
  next = m.next;
  claiming = claiming i;
}
  where
    left : map_places (λ p l. cond (f p) (l - 1) l) m.left ≡ m.left
    left = each_none (λ p l. cond (f p) (l - 1) l) m.left (λ p x. rw (e p))

    event : map_places (λ p d. cond (finishes f m p) (get_or m.next p 0) d) m.event ≡ m.event
    event = each_none (λ p d. cond (finishes f m p) (get_or m.next p 0) d) m.event (λ p x. rw (e p))

    claiming : set_where 32 (λ p. bit m.claiming p && not (finishes f m p)) ≡ m.claiming
    claiming = sym (set_is 32 m.claiming (λ p. bit m.claiming p && not (finishes f m p)) h (λ i l. rw (e i) (sym (and-true (bit m.claiming i)))))

-- the same are served: the machines are the same
pub served-same : (f g : ℕ → Bool) (m : Machine) → ((p : ℕ) → f p ≡ g p) → worked_tick f m ≡ worked_tick g m
served-same f g m e = ap (λ (h : ℕ → Bool). worked_tick h m) (fun_ext e)

-- a property of the test of a place, from its two cases
pub by_place : (q p : ℕ) (P : Bool → Type 0) → (q ≡ p → P true) → ((q ≡ p → ⊥) → P false) → P (eqb q p)
by_place q p P here away = go (eqb q p) refl
  where
    go : (x : Bool) → eqb q p ≡ x → P x
    go true e = here (eqb-true q p e)
    go false e = away (eqb-false q p e)

-- g serves the places that f serves, and place p
module _ (f g : ℕ → Bool) (m : Machine) (p : ℕ) (off : f p ≡ false) (on : g p ≡ true) (other : (q : ℕ) → (q ≡ p → ⊥) → g q ≡ f q) where
  -- what place p still has
  pub unserved-left : get_or (worked_tick f m).left p 0 ≡ get_or m.left p 0
  unfolding worked_tick
  unserved-left = each-still (λ p l. cond (f p) (l - 1) l) m.left p (λ x. rw off)

  left-more : set (worked_tick f m).left p (get_or m.left p 0 - 1) ≡ (worked_tick g m).left
  unfolding worked_tick
  left-more =
      each_more (λ p l. cond (f p) (l - 1) l) (λ p l. cond (g p) (l - 1) l) m.left p (get_or m.left p 0 - 1) (rw on) (λ q x n. rw (other q n))

  -- it has ticks left: it goes on claiming
  pub served-on :
      eqb (get_or m.left p 0) 1 ≡ false
      → machine (set (worked_tick f m).left p (get_or m.left p 0 - 1)) (worked_tick f m).event m.next (worked_tick f m).claiming ≡ worked_tick g m
  unfolding worked_tick
  served-on more = λ i. record {
    left = left-more i;
    event = ap (λ (e : ℕ → Bool). map_places (λ p d. cond (e p) (get_or m.next p 0) d) m.event) (fun_ext same) i;
    next = m.next;
    claiming = ap (λ (e : ℕ → Bool). set_where 32 (λ p. bit m.claiming p && not (e p))) (fun_ext same) i;
  }
    where
      same : (q : ℕ) → finishes f m q ≡ finishes g m q
      same q =
          by_place q p (λ (x : Bool). finishes f m q ≡ finishes g m q)
          (λ e. subst (λ (r : ℕ). finishes f m r ≡ finishes g m r) (sym e) (rw (off, on) (sym more)))
          (λ n. ap (λ (b : Bool). b && eqb (get_or m.left q 0) 1) (sym (other q n)))

  -- it had its last: it claims no more, and waits for its next release
  pub served-out :
      p < 32 → bit m.claiming p ≡ true → eqb (get_or m.left p 0) 1 ≡ true
      → (2 ^ p ≤ (worked_tick f m).claiming)
      × (machine (set (worked_tick f m).left p (get_or m.left p 0 - 1)) (set (worked_tick f m).event p (get_or m.next p 0)) m.next ((worked_tick f m).claiming - 2 ^ p) ≡ worked_tick g m)
  unfolding worked_tick
  served-out h c last = (
    out.within,
    λ i. record {
      left = left-more i;
      event =
          each_more (λ p d. cond (finishes f m p) (get_or m.next p 0) d) (λ p d. cond (finishes g m p) (get_or m.next p 0) d) m.event p (get_or m.next p 0)
          (rw (on, last)) (λ q x n. rw (other q n)) i;
      next = m.next;
      claiming = fewer i;
    },
  )
    where
      F : ℕ → Bool
      F q = bit m.claiming q && not (finishes f m q)

      G : ℕ → Bool
      G q = bit m.claiming q && not (finishes g m q)

      out : BitCleared (set_where 32 F) p
      out = clear-bit (set_where 32 F) p (set-has 32 F p h ∙ rw (c, off))

      bits : (q : ℕ) → q < 32 → bit (set_where 32 F - 2 ^ p) q ≡ G q
      bits q l =
          out.others q
          ∙ (ap (λ (b : Bool). b && not (eqb q p)) (set-has 32 F q l)
          ∙ by_place q p (λ (x : Bool). F q && not x ≡ G q)
          (λ e. subst (λ (r : ℕ). F r && false ≡ G r) (sym e) (rw (c, off, on, last)))
          (λ n. and-true (F q) ∙ ap (λ (b : Bool). bit m.claiming q && not (b && eqb (get_or m.left q 0) 1)) (sym (other q n))))

      fewer : set_where 32 F - 2 ^ p ≡ set_where 32 G
      fewer = set_is 32 (set_where 32 F - 2 ^ p) G (omega (arith, set-lt 32 F)) bits
