-- What is found of the first miss, and which rules a number means: the tests of a table that was loaded.
use mathlib.Core.Bool.{Bool, cond, false, true}
use mathlib.Core.List.{List}
use mathlib.Core.Path.{◌≡◌, refl, subst, sym, ◌∙◌}
use Prim.Native.Nat.{ℕ, suc, ◌+◌, ◌≤◌}
use native.Mathlib.Omega.{arith}
use lib.Dec.{eqb}
use borrow.Author.Tests.{eqb-true, eqb-false, ne_eqb}
use Rattle.model.specs.Firm.{firm}
use Rattle.model.specs.Horizon.{horizon}
use Rattle.model.specs.Task.{Task, greedy, limited, rule_of}
use Rattle.table.specs.declared.Loaded.{Loaded}
use Rattle.judge.proofs.FirstMiss.{never-found, one_found}
use Rattle.judge.specs.FirstMiss.{Missed}
use Rattle.judge.specs.FirstMiss.{Never, At}
use Rattle.judge.specs.FirstMiss.{missed_before}
use Rattle.table.specs.Fit.{Fit, loaded_table}
use Rattle.slack.specs.Ordered.{ordered}
use Rattle.slack.specs.Slack.{misses}

-- a miss is found
abbrev pub is_found : Missed → Bool
is_found Never = false
is_found (At t p) = true

-- what is found before the tick after the horizon decides whether the table misses
pub found-misses : (t : Loaded) → Fit t → (m u : Missed) → m ≡ missed_before (loaded_table t) (t.horizon + 1) → m ≡ u → is_found u ≡ misses (loaded_table t)
unfolding misses
found-misses t fit m u v e = go u (subst (λ (b : ℕ). missed_before (loaded_table t) b ≡ u) (omega (arith, fit.horizon)) (sym v ∙ e))
  where
    go : (u : Missed) → missed_before (loaded_table t) (suc (horizon (loaded_table t))) ≡ u → is_found u ≡ misses (loaded_table t)
    go Never q = sym (never-found (loaded_table t) (suc (horizon (loaded_table t))) q)
    go (At a b) q = sym (one_found (loaded_table t) (suc (horizon (loaded_table t))) a b q)

-- by the rule's number: not for 3 and 4, and for any other where it is firm
pub ordered-none : (n : ℕ) (τs : List Task) → 3 ≤ n → n ≤ 4 → false ≡ ordered (rule_of n) τs
unfolding ordered
ordered-none n τs low high = go (eqb n 3) refl
  where
    go : (a : Bool) → eqb n 3 ≡ a → false ≡ ordered (rule_of n) τs
    go true e = rw (eqb-true n 3 e) refl
    go false e = let x = eqb-false n 3 e in let four : n ≡ 4 = omega arith in rw four refl

pub ordered-firm : (n : ℕ) (τs : List Task) → ¬ (n ≡ 3) → ¬ (n ≡ 4) → ordered (rule_of n) τs ≡ firm (rule_of n) τs
unfolding ordered firm
ordered-firm n τs x y = rw (ne_eqb n 3 x, ne_eqb n 4 y) (go (eqb n 2))
  where
    go : (a : Bool) → ordered (cond a limited greedy) τs ≡ firm (cond a limited greedy) τs
    go true = refl
    go false = refl
