-- The sets that a row shows, place after place: what a place borrows and what no place borrows of its own; one of them is nothing (`cores-or`).
use mathlib.Core.Path.{◌≡◌, refl, sym, ap, ◌∙◌, subst}
use mathlib.Core.Logic.{◌⊎◌, inl, inr, ⊎_elim}
use mathlib.Core.Bool.{Bool, true, false, not}
use mathlib.Core.List.{List, [], ◌++◌, map}
use Prim.Native.Nat.{ℕ, ◌+◌, ◌≤◌, ◌<◌}
use native.Mathlib.Omega.{arith}
use lib.Bits.{bit_or}
use lib.Dec.{eqb}
use lib.ListN.{length, get_or, take, set, length-set}
use lib.Seq.{get_or-set_same, get_or-set_other}
use borrow.Author.Tests.{eqb-true, eqb-false}
use Rattle.model.specs.Fence.{outside}
use Rattle.model.specs.Lending.{among, unlent}
use Rattle.model.specs.Search.{bit, filtered}
use Rattle.cores.specs.Cores.{cores}
use Rattle.cores.proofs.Ascending.{kept_same}
use Rattle.cores.proofs.Cores.{cores-range}
use Rattle.rule.specs.Lent.{NotBoth, shown_at}
use Rattle.rule.proofs.Unions.{cores-or}

-- the places below i are as they are shown, the others have no set yet
pub record Shows (reserved borrowed : List ℕ) (count : ℕ) (sets : List ℕ) (i : ℕ) : Type 0 where
  pub size : length sets ≡ 32
  pub below : (p : ℕ) → p < i → cores (get_or sets p 0) ≡ shown_at reserved borrowed count p
  pub above : (p : ℕ) → i ≤ p → get_or sets p 0 ≡ 0

-- one place more; w is the set of what no place borrows of its own
module _ (reserved borrowed : List ℕ) (count : ℕ) (sets : List ℕ) (i lent w : ℕ) (h : Shows reserved borrowed count sets i) (inside : i < 32)
    (all : (c : ℕ) → c < 64 → bit lent c ≡ among c (map cores (take count borrowed))) (own : cores w ≡ outside lent (cores (get_or reserved i 0)))
    (once : NotBoth reserved borrowed) where
  abbrev x : ℕ
  x = bit_or (get_or borrowed i 0) w

  own-kept : cores w ≡ unlent (map cores (take count borrowed)) (cores (get_or reserved i 0))
  own-kept =
      own
      ∙ kept_same (λ c. not (bit lent c)) (λ c. not (among c (map cores (take count borrowed)))) 0 64 (cores (get_or reserved i 0))
      (cores-range (get_or reserved i 0)) (λ c l. ap not (all c l))

  -- one of the two sets has no core
  one-empty : (cores (get_or borrowed i 0) ≡ []) ⊎ (cores w ≡ [])
  unfolding filtered
  one-empty = ⊎_elim (λ e. inr (own ∙ ap (outside lent) e)) inl (once i)

  here : cores x ≡ shown_at reserved borrowed count i
  here = cores-or (get_or borrowed i 0) w one-empty ∙ ap (λ (l : List ℕ). cores (get_or borrowed i 0) ++ l) own-kept

  pub shows_more : Shows reserved borrowed count (set sets i (bit_or (get_or borrowed i 0) w)) (i + 1)
  shows_more = record {
    size = length-set sets i x ∙ h.size;
    below = λ p l. go p l (eqb p i) refl;
    above = λ p l. get_or-set_other sets i p x 0 (λ (e : p ≡ i). omega arith) ∙ h.above p (omega arith);
  }
    where
      go : (p : ℕ) → p < i + 1 → (t : Bool) → eqb p i ≡ t → cores (get_or (set sets i x) p 0) ≡ shown_at reserved borrowed count p
      go p l true e =
          let q : p ≡ i = eqb-true p i e in
          subst (λ (n : ℕ). cores (get_or (set sets i x) n 0) ≡ shown_at reserved borrowed count n) (sym q)
          (ap cores (get_or-set_same sets i x 0 (omega (arith, h.size))) ∙ here)
      go p l false e =
          let n : p ≡ i → ⊥ = eqb-false p i e in
          ap cores (get_or-set_other sets i p x 0 n) ∙ h.below p (omega arith)
