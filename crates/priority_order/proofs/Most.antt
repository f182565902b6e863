-- The task that ran most, by a walk along the counts of 32 places; and the test of equal orders.
use mathlib.Core.Bool.{Bool, ◌&&◌, cond, false, true}
use mathlib.Core.List.{List, [], ◌∷◌}
use mathlib.Core.Path.{◌≡◌, ap, refl, sym, ◌∙◌}
use Prim.Native.Nat.{ℕ, suc, ◌<◌}
use native.Mathlib.Omega.{arith}
use lib.Dec.{eqb, ltb}
use lib.Pointwise.{pointwise}
use lib.ListN.{drop, get_or, length}
use lib.Seq.{drop-cons}
use borrow.Author.Tests.{eqb-true, le-ltb}
use Rattle.sentence.specs.Facts.{Part, named_from}
use Rattle.priority_order.specs.Repair.{most_from, same}

-- the better of the best so far and the count of place i
abbrev pub better : Part → ℕ → ℕ → Part
better best i n = cond (ltb best.count n) (record { position = suc i; count = n }) best

pub most-more : (best : Part) (i n : ℕ) (ns : List ℕ) → most_from best (named_from i (n ∷ ns)) ≡ most_from (better best i n) (named_from (suc i) ns)
unfolding most_from named_from
most-more best i n ns = go (eqb n 0) refl
  where
    rest : List Part
    rest = named_from (suc i) ns

    go : (b : Bool) → eqb n 0 ≡ b → most_from best (cond b rest (record { position = suc i; count = n } ∷ rest)) ≡ most_from (better best i n) rest
    go true e =
        let z : n ≡ 0 = eqb-true n 0 e in
        ap (λ (t : Bool). most_from (cond t (record { position = suc i; count = n }) best) rest) (sym (le-ltb best.count n (omega arith)))
    go false e = refl

-- the walk has come to place i
pub most_step : (best : Part) (i : ℕ) (ran : List ℕ) → i < length ran
    → most_from best (named_from i (drop i ran)) ≡ most_from (better best i (get_or ran i 0)) (named_from (suc i) (drop (suc i) ran))
most_step best i ran l = ap (λ (ns : List ℕ). most_from best (named_from i ns)) (drop-cons ran i 0 l) ∙ most-more best i (get_or ran i 0) (drop (suc i) ran)

pub most-end : (best : Part) (i : ℕ) → best.position ≡ (most_from best (named_from i [])).position
unfolding most_from named_from
most-end best i = refl

-- ---- equal lists

-- the library's test of two lists is this one
pub same_pointwise : (a b : List ℕ) → pointwise eqb a b ≡ same a b
unfolding same
same_pointwise [] [] = refl
same_pointwise [] (y ∷ b) = refl
same_pointwise (x ∷ a) [] = refl
same_pointwise (x ∷ a) (y ∷ b) = ap (λ (t : Bool). eqb x y && t) (same_pointwise a b)
