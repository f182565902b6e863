-- How many cores of a row show each byte, counted core by core.
use mathlib.Core.Bool.{Bool, cond, false, true}
use mathlib.Core.List.{List, [], ◌++◌, ◌∷◌}
use mathlib.Core.Path.{ap, refl, sym, ◌∙◌, ◌≡◌}
use Prim.Native.Nat.{◌+◌, ◌<◌, suc, ℕ, ◌≤◌}
use native.Mathlib.Numerals.{add-one}
use native.Mathlib.Omega.{arith}
use lib.Dec.{eqb}
use lib.ListN.{get_or, length, length-set, replicate, set, take}
use lib.Seq.{get_or-set_other, get_or-set_same, length-take-le}
use borrow.Author.Tests.{eqb-false, eqb-true}
use Rattle.model.proofs.Lists.{get_d-zeros}
use Rattle.run.proofs.Written.{take_more}
use Rattle.plan_check.specs.Plan.{cell_count}

-- one core more
cells-last : (b : ℕ) (xs : List ℕ) (x : ℕ) → cell_count b (xs ++ (x ∷ [])) ≡ cond (eqb x b) (suc (cell_count b xs)) (cell_count b xs)
unfolding cell_count
cells-last b [] x = refl
cells-last b (y ∷ xs) x = go (eqb y b) (eqb x b) (cells-last b xs x)
  where
    go : (s t : Bool) → cell_count b (xs ++ (x ∷ [])) ≡ cond t (suc (cell_count b xs)) (cell_count b xs)
        → cond s (suc (cell_count b (xs ++ (x ∷ [])))) (cell_count b (xs ++ (x ∷ [])))
        ≡ cond t (suc (cond s (suc (cell_count b xs)) (cell_count b xs))) (cond s (suc (cell_count b xs)) (cell_count b xs))
    go true true e = ap suc e
    go true false e = ap suc e
    go false true e = e
    go false false e = e

-- no more cores than there are show a byte
pub cells-most : (b : ℕ) (xs : List ℕ) → cell_count b xs ≤ length xs
unfolding cell_count
cells-most b [] = omega arith
cells-most b (x ∷ xs) = go (eqb x b) (cells-most b xs)
  where
    go : (t : Bool) → cell_count b xs ≤ length xs → cond t (suc (cell_count b xs)) (cell_count b xs) ≤ suc (length xs)
    go true h = omega arith
    go false h = omega arith

-- the counts of a list of bytes
pub record Counted (ns xs : List ℕ) : Type 0 where
  pub size : length ns ≡ 256
  pub each : (b : ℕ) → b < 256 → get_or ns b 0 ≡ cell_count b xs

-- of no core there is none
pub counted_none : Counted (replicate 256 0) []
unfolding cell_count
counted_none = record { size = refl; each = λ b w. get_d-zeros 256 b }

-- a count is small
pub counted-most : (ns row : List ℕ) (i b : ℕ) → Counted ns (take i row) → b < 256 → i ≤ length row → get_or ns b 0 ≤ i
counted-most ns row i b h l w = omega (arith, h.each b l, cells-most b (take i row), length-take-le i row w)

-- one core more is one count more
pub counted-more :
    (ns row : List ℕ) (i : ℕ) → i < length row → get_or row i 0 < 256 → Counted ns (take i row)
    → Counted (set ns (get_or row i 0) (get_or ns (get_or row i 0) 0 + 1)) (take (i + 1) row)
counted-more ns row i l small h = record { size = simp length-set h.size; each = λ b w. go b w (eqb x b) refl }
  where
    x : ℕ
    x = get_or row i 0

    next : (b : ℕ) → cell_count b (take (i + 1) row) ≡ cond (eqb x b) (suc (cell_count b (take i row))) (cell_count b (take i row))
    next b = ap (cell_count b) (take_more row i 0 l) ∙ cells-last b (take i row) x

    go : (b : ℕ) → b < 256 → (t : Bool) → eqb x b ≡ t → get_or (set ns x (get_or ns x 0 + 1)) b 0 ≡ cell_count b (take (i + 1) row)
    go b w true e =
        let same : x ≡ b = eqb-true x b e in
        ap (λ (k : ℕ). get_or (set ns x (get_or ns x 0 + 1)) k 0) (sym same)
        ∙ (get_or-set_same ns x (get_or ns x 0 + 1) 0 (omega (arith, h.size))
        ∙ (add-one (get_or ns x 0)
        ∙ (ap suc (h.each x small ∙ ap (λ (k : ℕ). cell_count k (take i row)) same)
        ∙ sym (next b ∙ ap (λ (t : Bool). cond t (suc (cell_count b (take i row))) (cell_count b (take i row))) e))))
    go b w false e =
        get_or-set_other ns x b (get_or ns x 0 + 1) 0 (λ q. eqb-false x b e (sym q))
        ∙ (h.each b w ∙ sym (next b ∙ ap (λ (t : Bool). cond t (suc (cell_count b (take i row))) (cell_count b (take i row))) e))
