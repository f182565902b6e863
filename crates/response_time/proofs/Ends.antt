-- WHICH JOBS END in a jump: at each place the jobs that have ended are those below a number, and a place that claims no more has one more of them.
use mathlib.Core.Path.{◌≡◌, refl, sym, ap, ◌∙◌, subst}
use mathlib.Core.Bool.{Bool, true, false}
use mathlib.Core.Logic.{inr, ⊎_elim}
use Prim.Native.Nat.{ℕ, zero, suc, ◌+◌, ◌≤◌, ◌<◌}
use native.Mathlib.Nat.{add-zero, add-suc, eq-or-lt_of_le}
use native.Mathlib.Omega.{arith}
use lib.Dec.{leb}
use lib.ListN.{length}
use borrow.Author.Tests.{leb-true, leb-false}
use Rattle.std.proofs.lemmas.Bool.{false_from_ne_true}
use Rattle.model.specs.Jobs.{Job}
use Rattle.model.specs.Lists.{full}
use Rattle.model.specs.Task.{Task, Table}
use Rattle.simulation.specs.PlaceRelation.{PlaceWorks, PlaceRests}
use Rattle.simulation.specs.Event.{NoEventBetween}
use Rattle.simulation.proofs.Between.{ends_at}

-- the jobs that have ended are those below number E
pub record Ended (js : ℕ → Job) (E : ℕ) : Type 0 where
  pub below : (k : ℕ) → k < E → (js k).ended ≡ true
  pub from : (k : ℕ) → E ≤ k → (js k).ended ≡ false

-- a place that works has ended the jobs before the one that it works on, and one that rests those before the next
pub works-ended : (τ : Task) (handled_to : ℕ) (js : ℕ → Job) (l m n : ℕ) → (h : PlaceWorks τ handled_to js l m n) → Ended js h.number
works-ended τ handled_to js l m n h = record {
  below = h.past;
  from = λ k g. ⊎_elim
      (λ (e : h.number ≡ k). subst (λ (i : ℕ). (js i).ended ≡ false) e (ap (λ (j : Job). j.ended) h.line))
      (λ (e : h.number < k). ap (λ (j : Job). j.ended) (h.later k e))
      (eq-or-lt_of_le g);
}

pub rests-ended : (τ : Task) (handled_to : ℕ) (js : ℕ → Job) (l m n : ℕ) → (h : PlaceRests τ handled_to js l m n) → Ended js h.number
rests-ended τ handled_to js l m n h = record { below = h.past; from = λ k g. ap (λ (j : Job). j.ended) (h.later k g) }

-- of two lines with the same number the same jobs have ended
pub ended_same : (js js' : ℕ → Job) (E : ℕ) → Ended js E → Ended js' E → (k : ℕ) → (js' k).ended ≡ (js k).ended
ended_same js js' E h h' k = go (leb E k) refl
  where
    go : (x : Bool) → leb E k ≡ x → (js' k).ended ≡ (js k).ended
    go true e = let g = leb-true E k e in h'.from k g ∙ sym (h.from k g)
    go false e = let g = leb-false E k e in h'.below k g ∙ sym (h.below k g)

-- and where the second has one more, the same but that one
pub ended-more : (js js' : ℕ → Job) (E : ℕ) → Ended js E → Ended js' (suc E) → (k : ℕ) → (k ≡ E → ⊥) → (js' k).ended ≡ (js k).ended
ended-more js js' E h h' k ne = go (leb E k) refl
  where
    go : (x : Bool) → leb E k ≡ x → (js' k).ended ≡ (js k).ended
    go true e = let g = leb-true E k e in h'.from k (omega arith) ∙ sym (h.from k g)
    go false e = let g = leb-false E k e in h'.below k (omega arith) ∙ sym (h.below k g)

-- a job that has not ended at tick t has not before the first event after it
pub open-until :
    (s : Table) (p k t u : ℕ) → p < length s.tasks → NoEventBetween s t u → ((full s t).job p k).ended ≡ false
    → (d : ℕ) → t + d < u → ((full s (t + d)).job p k).ended ≡ false
open-until s p k t u l none o zero h = ap (λ (n : ℕ). ((full s n).job p k).ended) (add-zero t) ∙ o
open-until s p k t u l none o (suc d) h =
    ap (λ (n : ℕ). ((full s n).job p k).ended) (add-suc t d) ∙ go (open-until s p k t u l none o d (omega arith))
  where
    go : ((full s (t + d)).job p k).ended ≡ false → ((full s (suc (t + d))).job p k).ended ≡ false
    go still =
        false_from_ne_true ((full s (suc (t + d))).job p k).ended
        (λ e. none (suc (t + d)) (omega arith) (omega arith) (p, k, l, inr (inr (ends_at s (t + d) p k e still))))
