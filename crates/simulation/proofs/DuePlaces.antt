-- The set of the places whose event a tick is, and the earliest event: their definitions, and one place more.
use mathlib.Core.Path.{◌≡◌, refl, sym, ap, ap₂, ◌∙◌, subst}
use mathlib.Core.Bool.{Bool, true, false, ◌&&◌}
use mathlib.Core.List.{List}
use mathlib.Core.Logic.{⊎_elim}
use Prim.Native.Nat.{ℕ, zero, suc, ◌+◌, ◌^◌, ◌≤◌, ◌<◌, min}
use native.Mathlib.Nat.{eq-or-lt_of_le, not-suc-le-zero}
use native.Mathlib.Numerals.{add-one}
use native.Mathlib.Omega.{arith}
use lib.Dec.{eqb, ltb, leb}
use lib.ListN.{get_or}
use borrow.Author.Tests.{ne_eqb, le-ltb, ltb-true, leb-true, leb-false}
use Rattle.model.specs.Search.{bit}
use Rattle.model.proofs.Digits.{bit-none}
use Rattle.simulation.proofs.Sets.{set-has, set-lt, set_past, set_is}
use Rattle.simulation.specs.EventState.{due_at, earliest_of}

-- the set of those of the first i places whose event is t, digit by digit
pub record DueTo (t i : ℕ) (ms : List ℕ) (set : ℕ) : Type 0 where
  pub small : set < 2 ^ 32
  pub bits : (p : ℕ) → bit set p ≡ ltb p i && eqb (get_or ms p 0) t

-- so the definition is
pub due-is : (t n : ℕ) (ms : List ℕ) → n ≤ 32 → (p : ℕ) → bit (due_at t n ms) p ≡ ltb p n && eqb (get_or ms p 0) t
unfolding due_at
due-is t n ms few p = go (leb 32 p) refl
  where
    go : (x : Bool) → leb 32 p ≡ x → bit (due_at t n ms) p ≡ ltb p n && eqb (get_or ms p 0) t
    go true e =
        set_past 32 (λ q. ltb q n && eqb (get_or ms q 0) t) p (leb-true 32 p e)
        ∙ ap (λ (b : Bool). b && eqb (get_or ms p 0) t) (sym (le-ltb p n (omega (arith, leb-true 32 p e))))
    go false e = set-has 32 (λ q. ltb q n && eqb (get_or ms q 0) t) p (leb-false 32 p e)

pub due-small : (t n : ℕ) (ms : List ℕ) → due_at t n ms < 2 ^ 32
unfolding due_at
due-small t n ms = set-lt 32 (λ p. ltb p n && eqb (get_or ms p 0) t)

-- and it is the only one
pub due-one : (t n : ℕ) (ms : List ℕ) (set : ℕ) → DueTo t n ms set → set ≡ due_at t n ms
unfolding due_at
due-one t n ms set h = set_is 32 set (λ p. ltb p n && eqb (get_or ms p 0) t) h.small (λ i l. h.bits i)

-- where no event is t no place is due
pub no-place-due : (t n : ℕ) (ms : List ℕ) → ((p : ℕ) → p < n → get_or ms p 0 ≡ t → ⊥) → 0 ≡ due_at t n ms
no-place-due t n ms away = due-one t n ms 0 (record { small = omega arith; bits = λ p. bit-none p ∙ sym (go p (ltb p n) refl) })
  where
    go : (p : ℕ) (x : Bool) → ltb p n ≡ x → ltb p n && eqb (get_or ms p 0) t ≡ false
    go p true e =
        ap₂ (λ (a b : Bool). a && b) e (ne_eqb (get_or ms p 0) t (away p (ltb-true p n e)))
    go p false e = ap (λ (b : Bool). b && eqb (get_or ms p 0) t) e

-- THE EARLIEST EVENT

pub earliest-more : (i b b' : ℕ) (ms : List ℕ) → b ≡ earliest_of i ms → b' ≡ min b (get_or ms i 0) → b' ≡ earliest_of (i + 1) ms
unfolding earliest_of
earliest-more i b b' ms e f =
    let z : earliest_of (suc i) ms ≡ earliest_of (i + 1) ms = ap (λ (n : ℕ). earliest_of n ms) (sym (add-one i)) in
    f ∙ (ap (λ (x : ℕ). min x (get_or ms i 0)) e ∙ z)

-- it is no later than any of them
pub earliest-below : (n : ℕ) (ms : List ℕ) (p : ℕ) → p < n → earliest_of n ms ≤ get_or ms p 0
unfolding earliest_of
earliest-below zero ms p l = absurd (not-suc-le-zero l)
earliest-below (suc n) ms p l =
    ⊎_elim
    (λ (e : p ≡ n). subst (λ (x : ℕ). earliest_of (suc n) ms ≤ get_or ms x 0) (sym e) (omega arith))
    (λ (e : p < n). let o = earliest-below n ms p e in omega arith)
    (eq-or-lt_of_le (omega arith))

-- and is one of them
either-event : (n : ℕ) (ms : List ℕ) → (p : ℕ) × (p < suc n) × (get_or ms p 0 ≡ earliest_of n ms)
unfolding earliest_of
either-event zero ms = (0, omega arith, refl)
either-event (suc n) ms = go (either-event n ms) (leb (earliest_of n ms) (get_or ms n 0)) refl
  where
    go : (p : ℕ) × (p < suc n) × (get_or ms p 0 ≡ earliest_of n ms) → (x : Bool) → leb (earliest_of n ms) (get_or ms n 0) ≡ x
        → (p : ℕ) × (p < suc (suc n)) × (get_or ms p 0 ≡ min (earliest_of n ms) (get_or ms n 0))
    go r true q = (r.0, omega (arith, r.1), omega (arith, r.2, leb-true (earliest_of n ms) (get_or ms n 0) q))
    go r false q = (n, omega arith, omega (arith, leb-false (earliest_of n ms) (get_or ms n 0) q))

pub earliest-event : (n : ℕ) (ms : List ℕ) → 0 < n → (p : ℕ) × (p < n) × (get_or ms p 0 ≡ earliest_of n ms)
earliest-event zero ms some = absurd (not-suc-le-zero some)
earliest-event (suc n) ms some = go (either-event n ms) (leb (earliest_of n ms) (get_or ms n 0)) refl
  where
    here : earliest_of (suc n) ms ≡ min (earliest_of n ms) (get_or ms n 0)
    here = unfold earliest_of in refl

    go : (p : ℕ) × (p < suc n) × (get_or ms p 0 ≡ earliest_of n ms) → (x : Bool) → leb (earliest_of n ms) (get_or ms n 0) ≡ x
        → (p : ℕ) × (p < suc n) × (get_or ms p 0 ≡ earliest_of (suc n) ms)
    go r true q = (r.0, r.1, omega (arith, here, r.2, leb-true (earliest_of n ms) (get_or ms n 0) q))
    go r false q = (n, omega arith, omega (arith, here, leb-false (earliest_of n ms) (get_or ms n 0) q))
