-- The least of what is left, one granted place more at a time.
use mathlib.Core.Path.{◌≡◌, refl, sym, ap, ◌∙◌, subst}
use mathlib.Core.Bool.{Bool, true, false, ◌&&◌, cond, true≢false}
use mathlib.Core.List.{List}
use mathlib.Core.Logic.{◌⊎◌, inl, inr, ⊎_elim}
use Prim.Native.Nat.{ℕ, zero, suc, ◌≤◌, ◌<◌, min}
use native.Mathlib.Nat.{le_antisymm}
use native.Mathlib.Omega.{arith}
use lib.Dec.{eqb, leb}
use lib.ListN.{get_or}
use borrow.Author.Tests.{eqb-true, eqb-false, leb-true, leb-false, le-leb, lt-leb}
use Rattle.std.specs.Cmp.{both_ways}
use Rattle.simulation.specs.Jump.{least_left}

-- k is the least of `most` and of what is left at the granted places
pub record Shortest (granted : ℕ → Bool) (most : ℕ) (left : List ℕ) (k : ℕ) : Type 0 where
  pub within : k ≤ most
  pub below : (p : ℕ) → granted p ≡ true → k ≤ get_or left p 0
  pub reached : (k ≡ most) ⊎ ((p : ℕ) × (granted p ≡ true) × (k ≡ get_or left p 0))

pub shortest-none : (f : ℕ → Bool) (most : ℕ) (left : List ℕ) → ((p : ℕ) → f p ≡ false) → Shortest f most left most
shortest-none f most left e = record { within = omega arith; below = λ p g. absurd (true≢false (sym g ∙ e p)); reached = inl refl }

pub shortest-same : (f g : ℕ → Bool) (most : ℕ) (left : List ℕ) (k : ℕ) → ((p : ℕ) → f p ≡ g p) → Shortest f most left k → Shortest g most left k
shortest-same f g most left k e h = record {
  within = h.within;
  below = λ p q. h.below p (e p ∙ q);
  reached = ⊎_elim inl (λ (x : (p : ℕ) × (f p ≡ true) × (k ≡ get_or left p 0)). inr (x.0, sym (e x.0) ∙ x.1, x.2)) h.reached;
}

-- g grants the places that f grants, and place p
pub shortest-more :
    (f g : ℕ → Bool) (most : ℕ) (left : List ℕ) (p k k' : ℕ) → g p ≡ true → ((q : ℕ) → (q ≡ p → ⊥) → g q ≡ f q) → k' ≡ min k (get_or left p 0)
    → Shortest f most left k → Shortest g most left k'
shortest-more f g most left p k k' on other e h = record {
  within = omega (arith, h.within);
  below = λ q c. low q c (eqb q p) refl;
  reached = go (leb k (get_or left p 0)) refl;
}
  where
    low : (q : ℕ) → g q ≡ true → (x : Bool) → eqb q p ≡ x → k' ≤ get_or left q 0
    low q c true x = subst (λ (r : ℕ). k' ≤ get_or left r 0) (sym (eqb-true q p x)) (omega arith)
    low q c false x = let b = h.below q (sym (other q (eqb-false q p x)) ∙ c) in omega arith

    kept : (q : ℕ) → f q ≡ true → (x : Bool) → eqb q p ≡ x → g q ≡ true
    kept q c true x = subst (λ (r : ℕ). g r ≡ true) (sym (eqb-true q p x)) on
    kept q c false x = other q (eqb-false q p x) ∙ c

    go : (x : Bool) → leb k (get_or left p 0) ≡ x → (k' ≡ most) ⊎ ((q : ℕ) × (g q ≡ true) × (k' ≡ get_or left q 0))
    go true x =
        let z : k' ≡ k = omega (arith, leb-true k (get_or left p 0) x) in
        ⊎_elim (λ (y : k ≡ most). inl (z ∙ y)) (λ (y : (q : ℕ) × (f q ≡ true) × (k ≡ get_or left q 0)). inr (y.0, kept y.0 y.1 (eqb y.0 p) refl, z ∙ y.2)) h.reached
    go false x = inr (p, on, omega (arith, leb-false k (get_or left p 0) x))

-- where each is owed a tick, it is at least one
pub shortest-some : (f : ℕ → Bool) (most : ℕ) (left : List ℕ) (k : ℕ) → Shortest f most left k → 0 < most → ((p : ℕ) → f p ≡ true → 1 ≤ get_or left p 0) → 0 < k
shortest-some f most left k h a b =
    ⊎_elim (λ (e : k ≡ most). omega arith) (λ (x : (p : ℕ) × (f p ≡ true) × (k ≡ get_or left p 0)). omega (arith, b x.0 x.1, x.2)) h.reached

-- two that are the least are the same
least-low : (f : ℕ → Bool) (most : ℕ) (left : List ℕ) (k k' : ℕ) → Shortest f most left k → Shortest f most left k' → k ≤ k'
least-low f most left k k' h h' =
    ⊎_elim
    (λ (e : k' ≡ most). omega (arith, h.within))
    (λ (x : (p : ℕ) × (f p ≡ true) × (k' ≡ get_or left p 0)). omega (arith, h.below x.0 x.1, x.2))
    h'.reached

pub shortest-one : (f : ℕ → Bool) (most : ℕ) (left : List ℕ) (k k' : ℕ) → Shortest f most left k → Shortest f most left k' → k ≡ k'
shortest-one f most left k k' h h' = le_antisymm (least-low f most left k k' h h') (least-low f most left k' k h' h)

-- THE DEFINITION

-- the granted among the first n places
abbrev up_to : ℕ → (ℕ → Bool) → ℕ → Bool
up_to n f p = f p && leb (suc p) n

upto_is : (n : ℕ) (f : ℕ → Bool) (most : ℕ) (left : List ℕ) → Shortest (up_to n f) most left (least_left n f most left)
unfolding least_left
upto_is zero f most left = shortest-none (up_to 0 f) most left (λ p. none (f p) (leb (suc p) 0) (lt-leb (suc p) 0 (omega arith)))
  where
    none : (a b : Bool) → b ≡ false → a && b ≡ false
    none true b e = e
    none false b e = refl
upto_is (suc n) f most left = go (upto_is n f most left) (f n) refl
  where
    away : (q : ℕ) → (q ≡ n → ⊥) → up_to (suc n) f q ≡ up_to n f q
    away q ne = ap (λ (b : Bool). f q && b) (both_ways (leb (suc q) (suc n)) (leb (suc q) n)
        (λ e. le-leb (suc q) n (let h = leb-true (suc q) (suc n) e in omega arith))
        (λ e. le-leb (suc q) (suc n) (let h = leb-true (suc q) n e in omega arith)))

    here : (b : Bool) → f n ≡ b → up_to (suc n) f n ≡ b
    here b e = ap (λ (x : Bool). x && leb (suc n) (suc n)) e ∙ (ap (λ (x : Bool). b && x) (le-leb (suc n) (suc n) (omega arith)) ∙ on b)
      where
        on : (b : Bool) → b && true ≡ b
        on true = refl
        on false = refl

    go : Shortest (up_to n f) most left (least_left n f most left) → (b : Bool) → f n ≡ b → Shortest (up_to (suc n) f) most left (cond b (min (least_left n f most left) (get_or left n 0)) (least_left n f most left))
    go h true e =
        shortest-more (up_to n f) (up_to (suc n) f) most left n (least_left n f most left) (min (least_left n f most left) (get_or left n 0)) (here true e) away refl h
    go h false e = shortest-same (up_to n f) (up_to (suc n) f) most left (least_left n f most left) (λ q. sym (alike q (eqb q n) refl)) h
      where
        past : up_to n f n ≡ false
        past = ap (λ (x : Bool). x && leb (suc n) n) e

        alike : (q : ℕ) → (x : Bool) → eqb q n ≡ x → up_to (suc n) f q ≡ up_to n f q
        alike q true z = subst (λ (r : ℕ). up_to (suc n) f r ≡ up_to n f r) (sym (eqb-true q n z)) (here false e ∙ sym past)
        alike q false z = away q (eqb-false q n z)

-- where only the first n places are granted cores
pub least-left-is : (n : ℕ) (f : ℕ → Bool) (most : ℕ) (left : List ℕ) → ((p : ℕ) → f p ≡ true → p < n) → Shortest f most left (least_left n f most left)
least-left-is n f most left inside =
    shortest-same (up_to n f) f most left (least_left n f most left) (λ p. within p (f p) refl) (upto_is n f most left)
  where
    within : (p : ℕ) (b : Bool) → f p ≡ b → up_to n f p ≡ f p
    within p true e = ap (λ (y : Bool). y && leb (suc p) n) e ∙ (le-leb (suc p) n (inside p e) ∙ sym e)
    within p false e = ap (λ (y : Bool). y && leb (suc p) n) e ∙ sym e
