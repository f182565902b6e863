-- A walk over a set of places, lowest first: the lowest is taken off.
use mathlib.Core.Path.{◌≡◌, refl, sym, ap, ◌∙◌}
use mathlib.Core.Bool.{Bool, true, false, not, ◌&&◌, and-true}
use mathlib.Core.List.{[], ◌∷◌}
use Prim.Native.Nat.{ℕ, ◌^◌, ◌<◌}
use native.Mathlib.Omega.{arith}
use lib.Dec.{eqb}
use borrow.Author.Tests.{eq-eqb, ne_eqb}
use Rattle.model.specs.Search.{bit}
use Rattle.model.specs.Members.{members}
use Rattle.model.proofs.Bools.{and_left}
use Rattle.model.proofs.Digits.{bit-none}
use Rattle.model.proofs.Members.{Turn, turn, ended}

-- the places of a set that are off what is left of it
abbrev pub taken : ℕ → ℕ → ℕ → Bool
taken all rest p = bit all p && not (bit rest p)

-- what is left of a set, of 32 places
pub record Left (all rest : ℕ) : Type 0 where
  pub fits : rest < 2 ^ 32
  pub within : (q : ℕ) → bit rest q ≡ true → bit all q ≡ true

-- the lowest place of what is left is taken off: it is the one place more that is taken
pub record Off (all rest p others : ℕ) : Type 0 where
  pub below : p < 32
  pub here : bit rest p ≡ true
  pub below_none : (q : ℕ) → q < p → bit rest q ≡ false
  pub bits : (q : ℕ) → bit others q ≡ bit rest q && not (eqb q p)
  pub left : Left all others
  pub off : taken all rest p ≡ false
  pub on : taken all others p ≡ true
  pub same : (q : ℕ) → (q ≡ p → ⊥) → taken all others q ≡ taken all rest q

-- at first all are left, and none is taken off
pub all-left : (all rest : ℕ) → rest ≡ all → all < 2 ^ 32 → Left all rest
all-left all rest e h = record { fits = omega arith; within = λ q o. ap (λ (x : ℕ). bit x q) (sym e) ∙ o }

pub none-taken : (all rest : ℕ) → rest ≡ all → (p : ℕ) → taken all rest p ≡ false
none-taken all rest e p = ap (λ (x : ℕ). bit all p && not (bit x p)) e ∙ go (bit all p)
  where
    go : (b : Bool) → b && not b ≡ false
    go true = refl
    go false = refl

-- at last nothing is left, and all are taken off
pub all-taken : (all rest : ℕ) → members rest ≡ [] → (p : ℕ) → taken all rest p ≡ bit all p
all-taken all rest none p =
    ap (λ (b : Bool). bit all p && not b) (ap (λ (x : ℕ). bit x p) (ended rest none) ∙ bit-none p) ∙ and-true (bit all p)

off-both : (a b : Bool) → b ≡ true → a && not b ≡ false
off-both true b e = ap not e
off-both false b e = refl

on-first : (a b : Bool) → a ≡ true → b ≡ false → a && not b ≡ true
on-first a b d e = rw (d, e)

-- a turn of the walk
pub off-turn : (all rest p others : ℕ) → Left all rest → members rest ≡ p ∷ members others → Off all rest p others
off-turn all rest p others l e = go (turn rest p others e)
  where
    go : Turn rest p others → Off all rest p others
    go t = record {
      below = t.below 32 l.fits;
      here = t.lowest.here;
      below_none = t.lowest.below;
      bits = t.bits;
      left = record {
        fits = omega (arith, t.falls, l.fits);
        within = λ q o. l.within q (and_left (bit rest q) (not (eqb q p)) (sym (t.bits q) ∙ o));
      };
      off = off-both (bit all p) (bit rest p) t.lowest.here;
      on = on-first (bit all p) (bit others p) (l.within p t.lowest.here) (t.bits p ∙ off-both (bit rest p) (eqb p p) (eq-eqb p p refl));
      same = λ q ne.
          ap (λ (b : Bool). bit all q && not b)
          (t.bits q ∙ (ap (λ (b : Bool). bit rest q && not b) (ne_eqb q p ne) ∙ and-true (bit rest q)));
    }
