-- k ticks of the granted places: the value at each place after them, and one granted place more.
use mathlib.Core.Path.{◌≡◌, sym, ap, ◌∙◌, fun_ext, subst}
use mathlib.Core.Bool.{Bool, true, false, not, ◌&&◌, cond, and-true}
use Prim.Native.Nat.{ℕ, ◌-◌, ◌^◌, ◌≤◌, ◌<◌}
use native.Mathlib.Omega.{arith}
use lib.ListN.{get_or, set}
use lib.Dec.{eqb}
use Rattle.model.specs.Search.{bit}
use Rattle.model.proofs.Digits.{BitCleared, clear-bit}
use Rattle.simulation.specs.Places.{map_places, set_where}
use Rattle.simulation.specs.Machine.{Machine, machine, Sized}
use Rattle.simulation.proofs.Places.{each-length, each_at, each_none, each-still, each_more}
use Rattle.simulation.proofs.Served.{by_place}
use Rattle.simulation.proofs.Sets.{set-has, set-lt, set_past, set_is}
use Rattle.simulation.specs.Jump.{elapsed}

-- AT EACH PLACE

module _ (k : ℕ) (granted : ℕ → Bool) (m : Machine) where
  pub passed-sized : Sized m → Sized (elapsed k granted m)
  unfolding elapsed
  passed-sized z = record { left = each-length (λ p l. cond (granted p) (l - k) l) m.left ∙ z.left; event = z.event; next = z.next }

  pub passed-left : Sized m → (p : ℕ) → p < 32 → get_or (elapsed k granted m).left p 0 ≡ cond (granted p) (get_or m.left p 0 - k) (get_or m.left p 0)
  unfolding elapsed
  passed-left z p h = each_at (λ p l. cond (granted p) (l - k) l) m.left p (omega (arith, z.left))

  pub passed-claims : (p : ℕ) → p < 32 → bit (elapsed k granted m).claiming p ≡ bit m.claiming p && not (granted p && eqb (get_or m.left p 0) k)
  unfolding elapsed
  passed-claims p h = set-has 32 (λ p. bit m.claiming p && not (granted p && eqb (get_or m.left p 0) k)) p h

  pub passed-past : (p : ℕ) → 32 ≤ p → bit (elapsed k granted m).claiming p ≡ false
  unfolding elapsed
  passed-past p h = set_past 32 (λ p. bit m.claiming p && not (granted p && eqb (get_or m.left p 0) k)) p h

-- PLACE BY PLACE

-- no place is granted cores
pub passed_none : (k : ℕ) (f : ℕ → Bool) (m : Machine) → m.claiming < 2 ^ 32 → ((p : ℕ) → f p ≡ false) → elapsed k f m ≡ m
unfolding elapsed
passed_none k f m h e = λ i. record { left = left i; event = m.event; next = m.next; claiming = claiming i }
  where
    left : map_places (λ p l. cond (f p) (l - k) l) m.left ≡ m.left
    left = each_none (λ p l. cond (f p) (l - k) l) m.left (λ p x. rw (e p))

    claiming : set_where 32 (λ p. bit m.claiming p && not (f p && eqb (get_or m.left p 0) k)) ≡ m.claiming
    claiming =
        sym (set_is 32 m.claiming (λ p. bit m.claiming p && not (f p && eqb (get_or m.left p 0) k)) h (λ i l. rw (e i) (sym (and-true (bit m.claiming i)))))

-- the same are
pub passed-same : (k : ℕ) (f g : ℕ → Bool) (m : Machine) → ((p : ℕ) → f p ≡ g p) → elapsed k f m ≡ elapsed k g m
passed-same k f g m e = ap (λ (h : ℕ → Bool). elapsed k h m) (fun_ext e)

-- g grants the places that f grants, and place p
module _ (k : ℕ) (f g : ℕ → Bool) (m : Machine) (p : ℕ) (off : f p ≡ false) (on : g p ≡ true) (other : (q : ℕ) → (q ≡ p → ⊥) → g q ≡ f q) where
  -- what place p still has
  pub still-left : get_or (elapsed k f m).left p 0 ≡ get_or m.left p 0
  unfolding elapsed
  still-left = each-still (λ p l. cond (f p) (l - k) l) m.left p (λ x. rw off)

  left-more : set (elapsed k f m).left p (get_or m.left p 0 - k) ≡ (elapsed k g m).left
  unfolding elapsed
  left-more =
      each_more (λ p l. cond (f p) (l - k) l) (λ p l. cond (g p) (l - k) l) m.left p (get_or m.left p 0 - k) (rw on) (λ q x n. rw (other q n))

  -- it has ticks left: it goes on claiming
  pub passed_on :
      eqb (get_or m.left p 0) k ≡ false
      → machine (set (elapsed k f m).left p (get_or m.left p 0 - k)) m.event m.next (elapsed k f m).claiming ≡ elapsed k g m
  unfolding elapsed
  passed_on more = λ i. record {
    left = left-more i;
    event = m.event;
    next = m.next;
    claiming = ap (λ (e : ℕ → Bool). set_where 32 (λ p. bit m.claiming p && not (e p))) (fun_ext same) i;
  }
    where
      same : (q : ℕ) → (f q && eqb (get_or m.left q 0) k) ≡ (g q && eqb (get_or m.left q 0) k)
      same q =
          by_place q p (λ (x : Bool). (f q && eqb (get_or m.left q 0) k) ≡ (g q && eqb (get_or m.left q 0) k))
          (λ e. subst (λ (r : ℕ). (f r && eqb (get_or m.left r 0) k) ≡ (g r && eqb (get_or m.left r 0) k)) (sym e) (rw (off, on) (sym more)))
          (λ n. ap (λ (b : Bool). b && eqb (get_or m.left q 0) k) (sym (other q n)))

  -- it had its last: it claims no more
  pub passed-out :
      p < 32 → bit m.claiming p ≡ true → eqb (get_or m.left p 0) k ≡ true
      → (2 ^ p ≤ (elapsed k f m).claiming)
      × (machine (set (elapsed k f m).left p (get_or m.left p 0 - k)) m.event m.next ((elapsed k f m).claiming - 2 ^ p) ≡ elapsed k g m)
  unfolding elapsed
  passed-out h c last = (
    out.within,
    λ i. record { left = left-more i; event = m.event; next = m.next; claiming = fewer i },
  )
    where
      F : ℕ → Bool
      F q = bit m.claiming q && not (f q && eqb (get_or m.left q 0) k)

      G : ℕ → Bool
      G q = bit m.claiming q && not (g q && eqb (get_or m.left q 0) k)

      out : BitCleared (set_where 32 F) p
      out = clear-bit (set_where 32 F) p (set-has 32 F p h ∙ rw (c, off))

      bits : (q : ℕ) → q < 32 → bit (set_where 32 F - 2 ^ p) q ≡ G q
      bits q l =
          out.others q
          ∙ (ap (λ (b : Bool). b && not (eqb q p)) (set-has 32 F q l)
          ∙ by_place q p (λ (x : Bool). F q && not x ≡ G q)
          (λ e. subst (λ (r : ℕ). F r && false ≡ G r) (sym e) (rw (c, off, on, last)))
          (λ n. and-true (F q) ∙ ap (λ (b : Bool). bit m.claiming q && not (b && eqb (get_or m.left q 0) k)) (sym (other q n))))

      fewer : set_where 32 F - 2 ^ p ≡ set_where 32 G
      fewer = set_is 32 (set_where 32 F - 2 ^ p) G (omega (arith, set-lt 32 F)) bits
