-- The ghost field of `links::Order` gives its fact back: an order has each place once, so there is one proof of it.
use mathlib.Core.Path.{◌≡◌, refl, sym, ◌∙◌}
use mathlib.Core.HLevel.{Σ_prop_path, ×_prop, ⊥_prop}
use mathlib.Core.List.{List}
use mathlib.Core.Logic.{∥∥₁_elim}
use Prim.Native.Nat.{ℕ, ◌<◌, ◌≤◌}
use native.Mathlib.Bridge.{le_prop}
use native.Mathlib.Nat.{ℕ_set}
use native.Mathlib.Omega.{arith}
use mathlib.Core.Bool.{Bool, true, false}
use lib.Dec.{ltb}
use lib.ListN.{get_or, length}
use borrow.Author.Tests.{ltb-false, ltb-true}
use Rattle.model.specs.Sizes.{most_tasks}
use Rattle.table.specs.Numbers.{NoneApplies}
use Rattle.table.specs.Words.{count}
use Rattle.priority_order.proofs.Reordering.{tasks-few}
use Rattle.priority_order.specs.declared.links.Order.{Order}
use Rattle.priority_order.specs.Orders.{OrderIn}

module _ (ws : List ℕ) (n : ℕ) (o : List ℕ) (known : ∥ OrderIn ws n o ∥₁) where
  none : NoneApplies ws
  none k p a = ∥∥₁_elim known ⊥_prop (λ x. x.passes k p a)

  sized : n ≡ count ws
  sized = ∥∥₁_elim known (ℕ_set _ _) (λ x. x.size)

  long : length o ≡ most_tasks
  long = ∥∥₁_elim known (ℕ_set _ _) (λ x. x.permutation.size)

  inside : (i : ℕ) → i < n → get_or o i 0 < n
  inside i l = ∥∥₁_elim known le_prop (λ x. x.permutation.within i l)

  apart : (i j : ℕ) → i < j → j < n → ¬ (get_or o i 0 ≡ get_or o j 0)
  apart i j l m e = ∥∥₁_elim known ⊥_prop (λ x. x.permutation.distinct i j l m e)

  -- a place stands at one place only
  at_one : (i j : ℕ) → i < n → j < n → get_or o i 0 ≡ get_or o j 0 → i ≡ j
  at_one i j l m e = go (ltb i j) (ltb j i) refl refl
    where
      go : (s t : Bool) → ltb i j ≡ s → ltb j i ≡ t → i ≡ j
      go true t f g = absurd (apart i j (ltb-true i j f) m e)
      go false true f g = absurd (apart j i (ltb-true j i g) l (sym e))
      go false false f g = omega (arith, ltb-false i j f, ltb-false j i g)

  reached : (p : ℕ) → IsProp ((i : ℕ) × ((i < n) × (get_or o i 0 ≡ p)))
  reached p x y = Σ_prop_path {B = λ (i : ℕ). (i < n) × (get_or o i 0 ≡ p)} (λ i. ×_prop le_prop (ℕ_set _ _)) {u = x} {v = y} (at_one x.0 y.0 x.1.0 y.1.0 (x.1.1 ∙ sym y.1.1))

  in_order : OrderIn ws n o
  in_order = record {
    passes = none;
    size = sized;
    permutation = record {
      size = long;
      within = inside;
      distinct = apart;
      each = λ p l.
          let y = ∥∥₁_elim known (reached p) (λ x. let z = x.permutation.each p l in (z.0, (z.1, z.2))) in
          (y.0, y.1.0, y.1.1);
    };
  }

pub order_in : (x : Order) → OrderIn x.words.now x.count x.places
order_in x = in_order x.words.now x.count x.places x.fits

-- it has at most 32 tasks
pub few_in : (x : Order) → x.count ≤ most_tasks
few_in x = omega (arith, (order_in x).size, tasks-few x.words.now (order_in x).passes)
