-- A list filled place by place with one field of the tasks, and the test of two widths that differ.
use mathlib.Core.Path.{◌≡◌, refl, sym, ap₂, ◌∙◌}
use mathlib.Core.Bool.{Bool, not}
use mathlib.Core.List.{List, [], ◌∷◌, ◌++◌, map}
use Prim.Native.Nat.{ℕ, ◌+◌, ◌<◌}
use native.Mathlib.Numerals.{add-one}
use native.Mathlib.Omega.{arith}
use lib.Dec.{eqb}
use lib.ListN.{length, get_or, take, set, replicate, length-set, length-map, get_or-map}
use lib.Seq.{take-suc, take-suc-set, take_all}
use Rattle.table.specs.declared.Task.{Task}
use Rattle.table.specs.Task.{no_task}

-- the first i places of a list of 32 have the field of the tasks
pub record Filled (f : Task → ℕ) (ts : List Task) (i : ℕ) (xs : List ℕ) : Type 0 where
  pub size : length xs ≡ 32
  pub front : take i xs ≡ take i (map f ts)

module _ (f : Task → ℕ) (ts : List Task) (all : length ts ≡ 32) where
  pub filled_none : Filled f ts 0 (replicate 32 0)
  filled_none = record { size = refl; front = refl }

  pub filled_more : (i : ℕ) (xs : List ℕ) → i < 32 → Filled f ts i xs → Filled f ts (i + 1) (set xs i (f (get_or ts i no_task)))
  filled_more i xs h p =
      let inside : i < length (map f ts) = simp length-map (omega arith) in
      record {
        size = length-set xs i (f (get_or ts i no_task)) ∙ p.size;
        front =
            rw add-one
            (take-suc-set xs i (f (get_or ts i no_task)) (omega (arith, p.size))
            ∙ (ap₂ (λ (l : List ℕ) (x : ℕ). l ++ (x ∷ [])) p.front (sym (get_or-map f ts i no_task))
            ∙ sym (take-suc (map f ts) i (f no_task) inside)));
      }

  pub filled-all : (xs : List ℕ) → Filled f ts 32 xs → xs ≡ map f ts
  filled-all xs p =
      let n : length (map f ts) ≡ 32 = simp length-map all in
      sym (take_all 32 xs (omega (arith, p.size))) ∙ (p.front ∙ take_all 32 (map f ts) (omega arith))

-- THE PLACES WITH TWO WIDTHS

-- the two widths of place p differ
abbrev pub differs : List Task → ℕ → Bool
differs ts p = not (eqb (get_or ts p no_task).width (get_or ts p no_task).second)
