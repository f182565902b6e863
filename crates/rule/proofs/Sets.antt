-- The laws of the sets of one tick: place by place, no two overlap, each has as many cores as its width or none, and a row can show them.
use mathlib.Core.Path.{◌≡◌, refl, sym, ap, ◌∙◌, subst}
use mathlib.Core.Logic.{◌⊎◌, inl, inr, ⊎_elim}
use mathlib.Core.Bool.{Bool, true, false, not, ◌&&◌}
use mathlib.Core.List.{List, [], map}
use Prim.Native.Nat.{ℕ, ◌+◌, ◌-◌, ◌^◌, ◌≤◌, ◌<◌, min}
use native.Mathlib.Omega.{arith}
use lib.Bits.{bit_and, and_lt}
use lib.Count.{ones}
use lib.Dec.{ltb}
use lib.ListN.{length, get_or, take, length-take, length-map, get_or-map, get_or-eq_default}
use lib.Seq.{get_or-take, get_or-drop}
use borrow.Author.Tests.{ltb-true, ltb-false}
use Rattle.model.specs.Task.{Rule}
use Rattle.model.specs.Grants.{Claimant, grants}
use Rattle.model.specs.Fence.{unfenced}
use Rattle.model.specs.Search.{bit, up_from}
use Rattle.model.specs.Sets.{set_of}
use Rattle.model.proofs.Bools.{and_left, and_right}
use Rattle.std.proofs.lemmas.Bool.{false_from_ne_true}
use Rattle.model.proofs.Lists.{get_d-zeros}
use Rattle.model.proofs.Digits.{and-bit}
use Rattle.cores.specs.Cores.{cores}
use Rattle.rule.specs.Granted.{GrantedAs, granted}
use Rattle.rule.specs.Lent.{Showable}
use Rattle.cores.proofs.Ascending.{range-kept, range-up, In, kept_same, kept-none}
use Rattle.cores.proofs.Cores.{cores-none, cores-range, cores-length, set-cores, cores-memb}
use Rattle.cores.proofs.Unfenced.{in-open, open_of}
use Rattle.rule.proofs.Granting.{idle, apart, in-grants, width-or-none}

-- the places that are given cores of the set of the unfenced ones
pub granted-unfenced :
    (r : Rule) (bs : List Claimant) (free f n : ℕ) → n ≤ 64 → cores free ≡ unfenced f (min n 64)
    → (p : ℕ) → granted r bs (cores free) p ≡ granted r bs (unfenced f n) p
granted-unfenced r bs free f n h e p = ap (λ (l : List ℕ). granted r bs l p) (open_of free f n h e)

-- a set with no cores is 0
pub no-cores : (n : ℕ) → n < 2 ^ 64 → cores n ≡ [] → n ≡ 0
unfolding set_of
no-cores n h e = sym (set-cores n h) ∙ ap set_of e

-- sets that share no core have no digit in common
pub no-common : (a b : ℕ) → a < 2 ^ 64 → b < 2 ^ 64 → ((c : ℕ) → In c (cores a) → In c (cores b) → ⊥) → bit_and a b ≡ 0
unfolding cores
no-common a b h k f =
    no-cores (bit_and a b) (and_lt 64 a b h k)
    (kept_same (bit (bit_and a b)) (λ c. false) 0 64 (up_from 0 64) (range-up 0 64 64 (omega arith)) (λ c l.
    and-bit a b c ∙ false_from_ne_true (bit a c && bit b c) (λ e. f c (cores-memb a c l ∙ and_left (bit a c) (bit b c) e) (cores-memb b c l ∙ and_right (bit a c) (bit b c) e)))
    ∙ kept-none (up_from 0 64))

-- a row can show what is given of the unfenced cores
pub grants-showable : (r : Rule) (bs : List Claimant) (f m : ℕ) → Showable f m (grants r bs (unfenced f m))
grants-showable r bs f m = record {
  apart = apart r m bs (unfenced f m) (range-kept (λ c. not (bit f c)) 0 m (up_from 0 m) (range-up 0 m m (omega arith)));
  unfenced-only = λ c j i. in-open f m c (in-grants r c bs (unfenced f m) j i);
}

module _ (r : Rule) (bs : List Claimant) (count free : ℕ) (sets : List ℕ) (h : GrantedAs r bs count free sets) where
  -- the set of each place has the cores that the model grants it
  pub sets-at : (p : ℕ) → cores (get_or sets p 0) ≡ get_or (grants r bs (cores free)) p []
  sets-at p = go (ltb p count) refl
    where
      go : (t : Bool) → ltb p count ≡ t → cores (get_or sets p 0) ≡ get_or (grants r bs (cores free)) p []
      go true e =
          ap cores (sym (get_or-take count sets p 0 (ltb-true p count e)))
          ∙ sym (get_or-map cores (take count sets) p 0)
          ∙ ap (get_or (map cores (take count sets)) p) cores-none ∙ ap (λ (l : List (List ℕ)). get_or l p []) h.gives
      go false e =
          let k : count ≤ p = ltb-false p count e in
          let z : p ≡ count + (p - count) = omega arith in
          let n : length (grants r bs (cores free)) ≤ p = omega (arith, ap length h.gives, length-map (take count sets) cores, length-take count sets) in
          ap cores (ap (λ (i : ℕ). get_or sets i 0) z ∙ sym (get_or-drop count sets (p - count) 0) ∙ ap (λ (l : List ℕ). get_or l (p - count) 0) h.none ∙ get_d-zeros (32 - count) (p - count))
          ∙ cores-none ∙ sym (get_or-eq_default (grants r bs (cores free)) [] n)

  -- no core is in two of the sets
  pub sets-apart : (c i j : ℕ) → i < j → In c (cores (get_or sets i 0)) → In c (cores (get_or sets j 0)) → ⊥
  sets-apart c i j l = rw (sets-at i, sets-at j) (apart r 64 bs (cores free) (cores-range free) c i j l)

  pub sets-disjoint : (i j : ℕ) → i < j → get_or sets i 0 < 2 ^ 64 → get_or sets j 0 < 2 ^ 64 → bit_and (get_or sets i 0) (get_or sets j 0) ≡ 0
  sets-disjoint i j l h k = no-common (get_or sets i 0) (get_or sets j 0) h k (λ c. sets-apart c i j l)

  -- each counts its width or nothing
  pub sets-width : (p : ℕ) → get_or sets p 0 < 2 ^ 64 → (ones (get_or sets p 0) ≡ (get_or bs p idle).width) ⊎ (get_or sets p 0 ≡ 0)
  sets-width p k =
      let s = get_or sets p 0 in
      ⊎_elim
      (λ e. inl (sym (cores-length s k) ∙ ap length (sets-at p) ∙ e))
      (λ e. inr (no-cores s k (sets-at p ∙ e)))
      (width-or-none r bs (cores free) p)

  -- a row can show them, where they are given of the unfenced cores
  pub sets-showable : (f m : ℕ) → cores free ≡ unfenced f m → Showable f m (map cores (take count sets))
  sets-showable f m o =
      let same : map cores (take count sets) ≡ grants r bs (unfenced f m) = h.gives ∙ ap (grants r bs) o in
      subst (Showable f m) (sym same) (grants-showable r bs f m)
