-- What a taken advance returns passes 14 again.
use mathlib.Core.Path.{◌≡◌, refl, sym, subst}
use mathlib.Core.Bool.{Bool, true, false, cond}
use Prim.Native.Nat.{ℕ, suc, ◌<◌}
use native.Mathlib.Nat.{le_trans}
use native.Mathlib.Omega.{arith}
use lib.Dec.{ltb}
use borrow.Author.Tests.{ltb-false}
use Rattle.model.specs.Search.{bit}
use Rattle.model.specs.Refusals as model
use Rattle.model.proofs.Search.{least-lowest}
use Rattle.table.proofs.Decide.{fails}
use Rattle.run.specs.declared.Run.{Run}
use Rattle.run.specs.Answer.{Answer}
use Rattle.run.specs.Answer.{Taken, Refused}
use Rattle.run.specs.Run.{moved}
use Rattle.run.specs.Answer.{answer_meaning}
use Rattle.run.specs.Numbers.{RunOut, run_out, late_at, first_late_in, wrong_empties_in, wrong_reports_in}
use Rattle.run.specs.Advance.{advance_answer, advance_of}
use Rattle.run.proofs.First.{by-taken}
use Rattle.run.proofs.Limits.{run-decides, passes-if, passes-runs, moved_passes}

-- a taken advance passed 14, and no task was late
taken-passes : (r : Run) (x e : ℕ) → answer_meaning (advance_answer r x e) ≡ model.taken → (run_out r ≡ false) × (ltb (first_late_in r) r.count ≡ false)
unfolding advance_answer
taken-passes r x e q = go (run_out r) (ltb (first_late_in r) r.count) q
  where
    rest : Answer
    rest = cond (wrong_empties_in r e) (Refused 20 0) (cond (wrong_reports_in r e x) (Refused 16 0) Taken)

    go : (t u : Bool) → answer_meaning (cond t (Refused 14 0) (cond u (Refused 15 (suc (first_late_in r))) rest)) ≡ model.taken → (t ≡ false) × (u ≡ false)
    go true u q = absurd (let z : ◌≡◌ {A = ℕ} 0 1 = cc in omega arith)
    go false true q = absurd (let z : ◌≡◌ {A = ℕ} 0 1 = cc in omega arith)
    go false false q = (refl, refl)

pub advance-passes : (r : Run) (x e : ℕ) → answer_meaning (advance_of r x e).answer ≡ model.taken → ¬ RunOut (advance_of r x e).run
unfolding advance_of
advance-passes r x e q =
    fails (run_out (advance_of r x e).run) (RunOut (advance_of r x e).run) (run-decides (advance_of r x e).run)
    (subst (λ (s : Run). run_out s ≡ false) (sym (by-taken (advance_answer r x e) (moved (bit x) e r) r q))
    (passes-runs (moved (bit x) e r) (moved_passes (bit x) e r (passes-if r passed.0) punctual)))
  where
    passed : (run_out r ≡ false) × (ltb (first_late_in r) r.count ≡ false)
    passed = taken-passes r x e q

    punctual : (p : ℕ) → p < r.count → late_at r p ≡ false
    punctual p l = unfold first_late_in in least-lowest r.count (late_at r) p (le_trans l (ltb-false (first_late_in r) r.count passed.1))
