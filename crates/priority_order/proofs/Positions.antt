-- The positions of an order, and the task at a place of a table that was loaded.
use mathlib.Core.List.{List, map, ◌++◌}
use mathlib.Core.Path.{◌≡◌, ap, ◌∙◌}
use Prim.Native.Nat.{ℕ, suc, ◌+◌, ◌-◌, ◌<◌, ◌≤◌}
use native.Mathlib.Omega.{arith}
use lib.ListN.{get_or-append, get_or, length, length-append, length-map, length-replicate, replicate, take}
use lib.Seq.{get_or-append-add, get_or-take, length-take-le}
use Rattle.model.proofs.Lists.{get_d-zeros, map_at}
use Rattle.model.specs.Sizes.{most_tasks}
use Rattle.priority_order.specs.Answer.{positions_of}

module _ (n : ℕ) (o : List ℕ) (few : n ≤ most_tasks) (size : length o ≡ most_tasks) where
  front : length (map suc (take n o)) ≡ n
  front = length-map (take n o) suc ∙ length-take-le n o (omega arith)

  pub positions-length : length (positions_of n o) ≡ most_tasks
  unfolding positions_of
  positions-length =
      length-append (map suc (take n o)) (replicate (most_tasks - n) 0)
      ∙ omega (arith, front, length-replicate {A = ℕ} (most_tasks - n) 0)

  pub positions-at : (k : ℕ) → k < n → get_or (positions_of n o) k 0 ≡ suc (get_or o k 0)
  unfolding positions_of
  positions-at k l =
      get_or-append (map suc (take n o)) (replicate (most_tasks - n) 0) 0 k (omega (arith, front))
      ∙ (map_at suc (take n o) k 0 0 (omega (arith, length-take-le n o (omega arith))) ∙ ap suc (get_or-take n o k 0 l))

  pub positions-past : (k : ℕ) → n ≤ k → get_or (positions_of n o) k 0 ≡ 0
  unfolding positions_of
  positions-past k l =
      let e : k ≡ length (map suc (take n o)) + (k - n) = omega (arith, front) in
      ap (λ (j : ℕ). get_or (map suc (take n o) ++ replicate (most_tasks - n) 0) j 0) e
      ∙ (get_or-append-add (map suc (take n o)) (replicate (most_tasks - n) 0) (k - n) 0 ∙ get_d-zeros (most_tasks - n) (k - n))
