-- What a table has whose header passes 1, 2, 3, 19 and 4.
use mathlib.Core.Path.{◌≡◌, refl}
use mathlib.Core.Bool.{Bool, true, false, cond}
use mathlib.Core.List.{List}
use mathlib.Core.Logic.{inl, inr}
use Prim.Native.Nat.{ℕ, ◌≤◌, ◌<◌}
use native.Mathlib.Omega.{arith}
use lib.ListN.{length}
use lib.Dec.{eqb}
use borrow.Author.Tests.{eqb-false}
use Rattle.table.specs.Words.{header_words, head, core_count, rule, fence, records}
use Rattle.table.specs.Limits.{CoresOut, RuleOut, FenceOut, cores_out, rule_out, fence_out}
use Rattle.table.specs.Numbers.{WordsOut}
use Rattle.table.specs.Answer.{words_out, header_number}
use Rattle.table.proofs.Decide.{fails}
use Rattle.table.proofs.Tests.{words-decides, cores-decides, rule-decides, fence-decides}
use Rattle.model.specs.Sizes.{most_tasks}

-- none of these applies
pub record HeaderPasses (ws : List ℕ) : Type 0 where
  pub words-in : ¬ WordsOut ws
  pub cores-in : ¬ CoresOut (core_count ws)
  pub rule-in : ¬ RuleOut (rule ws)
  pub fence-in : ¬ FenceOut (core_count ws) (fence ws)
  pub headed : ¬ (head ws ≡ 0)

pub header-passes : (ws : List ℕ) → header_number ws ≡ 0 → HeaderPasses ws
unfolding header_number
header-passes ws = go (words_out ws) refl (cores_out (core_count ws)) refl (rule_out (rule ws)) refl (fence_out (core_count ws) (fence ws)) refl (eqb (head ws) 0) refl
  where
    go : (s : Bool) → words_out ws ≡ s → (t : Bool) → cores_out (core_count ws) ≡ t → (u : Bool) → rule_out (rule ws) ≡ u
        → (w : Bool) → fence_out (core_count ws) (fence ws) ≡ w → (v : Bool) → eqb (head ws) 0 ≡ v
        → ◌≡◌ {A = ℕ} (cond s 1 (cond t 2 (cond u 3 (cond w 19 (cond v 4 0))))) 0 → HeaderPasses ws
    go true e t f u g w i v h z = absurd (omega arith)
    go false e true f u g w i v h z = absurd (omega arith)
    go false e false f true g w i v h z = absurd (omega arith)
    go false e false f false g true i v h z = absurd (omega arith)
    go false e false f false g false i true h z = absurd (omega arith)
    go false e false f false g false i false h z = record {
      words-in = fails (words_out ws) (WordsOut ws) (words-decides ws) e;
      cores-in = fails (cores_out (core_count ws)) (CoresOut (core_count ws)) (cores-decides (core_count ws)) f;
      rule-in = fails (rule_out (rule ws)) (RuleOut (rule ws)) (rule-decides (rule ws)) g;
      fence-in = fails (fence_out (core_count ws) (fence ws)) (FenceOut (core_count ws) (fence ws)) (fence-decides (core_count ws) (fence ws)) i;
      headed = eqb-false (head ws) 0 h;
    }

-- there are five words at least, and at most 32 records
pub words_long : (ws : List ℕ) → ¬ WordsOut ws → header_words ≤ length ws
words_long ws n = let long : ¬ (length ws < header_words) = λ l. n (inl l) in omega arith

pub words-few : (ws : List ℕ) → ¬ WordsOut ws → records ws ≤ most_tasks
words-few ws n = let few : ¬ (most_tasks < records ws) = λ l. n (inr (inr l)) in omega arith
