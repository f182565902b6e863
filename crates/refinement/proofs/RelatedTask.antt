-- A task and its line of jobs that are related: the same is late, the same claims, with the same parity, the same may be reported and may be empty, and
-- the parity and the counts are those of one job.
use mathlib.Core.Path.{◌≡◌, refl, sym, ap, subst, ◌∙◌}
use mathlib.Core.Bool.{Bool, true, false, not, ◌&&◌, and-false, false≢true, true≢false}
use mathlib.Core.Logic.{⊎_elim}
use Prim.Native.Nat.{ℕ, ◌%◌, ◌≤◌, ◌<◌}
use native.Mathlib.Nat.{le_trans, mul-le-mul_right, eq-or-lt_of_le}
use native.Mathlib.Omega.{arith}
use lib.Dec.{eqb, leb}
use borrow.Author.Tests.{leb-true, leb-false, eqb-true, eqb-false, eq-eqb, ne_eqb}
use Rattle.model.specs.Task.{Task, ValidTask, Rule, due, newest, release}
use Rattle.model.specs.Jobs.{Job}
use Rattle.model.specs.Claims.{holds, claims}
use Rattle.model.proofs.Jobs.{newest-is, claims-if}
use Rattle.phase.specs.declared.Phase.{Phase}
use Rattle.phase.specs.declared.Phase.TheVariants.{Coming, Working, Holding, Resting}
use Rattle.phase.specs.Phase.{claiming, working, late_in, released}
use Rattle.refinement.specs.Refines.{StateOfJob}
use Rattle.refinement.proofs.PhaseRelated.{Present, PhaseRelated, newest-in, newest-first, early, hold-if, ended-also, rests-off}

-- of the jobs that are due, only the present one can be open
due-open :
    (τ : Task) → ValidTask τ → (t : ℕ) (js : ℕ → Job) (even : Bool) (k z : ℕ) → Present τ t js even k z → z ≤ τ.period
    → (i : ℕ) → due τ i ≤ t → (js i).ended ≡ false → i ≡ k
due-open τ ok t js even k z h b i d o = go (leb i k) refl
  where
    go : (x : Bool) → leb i k ≡ x → i ≡ k
    go true e = ⊎_elim (λ (q : i ≡ k). q) (λ (q : i < k). absurd (true≢false (sym (h.past i q) ∙ o))) (eq-or-lt_of_le (leb-true i k e))
    go false e = absurd (omega (arith, h.when, mul-le-mul_right τ.period (leb-false i k e), ok.deadline-pos))

module _ (r : Rule) (τ : Task) (ok : ValidTask τ) (t : ℕ) (js : ℕ → Job) (even : Bool) where
  -- a job that is due and has not ended makes the task late ..
  pub late_is : (ph : Phase) → PhaseRelated r τ t js even ph → (i : ℕ) → due τ i ≤ t → (js i).ended ≡ false → late_in τ.deadline ph ≡ true
  late_is (Coming left) h i d o = absurd (omega (arith, h.when, h.some))
  late_is (Working z had u) h i d o =
      let e : i ≡ h.number = due-open τ ok t js even h.number z h.present (le_trans h.by-due ok.constrained) i d o in
      let d' : due τ h.number ≤ t = subst (λ (x : ℕ). due τ x ≤ t) e d in
      eq-eqb z τ.deadline (omega (arith, h.present.when, h.by-due))
  late_is (Holding z u) h i d o =
      let e : i ≡ h.number = due-open τ ok t js even h.number z h.present (omega (arith, h.in-time, ok.constrained)) i d o in
      absurd (true≢false (sym h.over ∙ subst (λ (x : ℕ). (js x).ended ≡ false) e o))
  late_is (Resting z) h i d o =
      let e : i ≡ h.number = due-open τ ok t js even h.number z h.present (omega (arith, h.short)) i d o in
      absurd (true≢false (sym h.over ∙ subst (λ (x : ℕ). (js x).ended ≡ false) e o))

  -- .. and a late task has one
  pub late-has : (ph : Phase) → PhaseRelated r τ t js even ph → late_in τ.deadline ph ≡ true → (i : ℕ) × (due τ i ≤ t) × ((js i).ended ≡ false)
  late-has (Coming left) h e = absurd (false≢true e)
  late-has (Working z had u) h e = (h.number, omega (arith, h.present.when, eqb-true z τ.deadline e), ap (λ (j : Job). j.ended) h.line)
  late-has (Holding z u) h e = absurd (false≢true e)
  late-has (Resting z) h e = absurd (false≢true e)

  -- what is claimed of the newest job k of a task that is not late: it claims exactly if the phase does; it is open exactly if the claiming task
  -- works; its number has the run's parity; and it was released in this tick and is open exactly if the task is Working at (0,0)
  pub record Does (k : ℕ) (ph : Phase) : Type 0 where
    pub claimed : claims r τ k t (js k) ≡ claiming ph
    pub open-job : claiming ph && not (js k).ended ≡ working ph
    pub parity : eqb (k % 2) 0 ≡ not even
    pub fresh-job : eqb (release τ k) t && not (js k).ended ≡ released ph

  at-newest : (ph : Phase) (k : ℕ) → newest τ t ≡ k → Does k ph → Does (newest τ t) ph
  at-newest ph k new h = subst (λ (x : ℕ). Does x ph) (sym new) h

  -- an ended job is not open, whenever it was released
  not-open : (k : ℕ) → (js k).ended ≡ true → eqb (release τ k) t && not (js k).ended ≡ false
  not-open k over = ap (λ (x : Bool). eqb (release τ k) t && not x) over ∙ and-false (eqb (release τ k) t)

  pub newest-does : (ph : Phase) → PhaseRelated r τ t js even ph → late_in τ.deadline ph ≡ false → Does (newest τ t) ph
  newest-does (Coming left) h n =
      at-newest (Coming left) 0 (newest-first τ t (le_trans ok.deadline-pos ok.constrained) (omega (arith, h.when, h.some))) (record {
        claimed = early r τ t 0 (js 0) (omega (arith, h.when, h.some));
        open-job = refl;
        parity = sym (ap not h.odd);
        fresh-job = rw (ne_eqb (release τ 0) t (λ (q : release τ 0 ≡ t). omega (arith, h.when, h.some)));
      })
  newest-does (Working z had u) h n =
      at-newest (Working z had u) h.number
      (newest-is τ h.number t ok.constrained (omega (arith, h.present.when)) (omega (arith, h.present.when, less)))
      (record {
        claimed = claims-if r τ h.number t (js h.number) (omega (arith, h.present.when)) (omega (arith, h.present.when, less)) (rw h.line);
        open-job = rw h.line;
        parity = h.present.parity;
        fresh-job = rw h.line (now (eqb z 0) refl);
      })
    where
      less : z < τ.deadline
      less = omega (arith, eqb-false z τ.deadline n, h.by-due)

      now : (x : Bool) → eqb z 0 ≡ x → eqb (release τ h.number) t && true ≡ x && eqb had 0
      now true q =
          let y : z ≡ 0 = eqb-true z 0 q in
          rw (eq-eqb (release τ h.number) t (omega (arith, h.present.when)), eq-eqb had 0 (omega (arith, h.within)))
      now false q = rw (ne_eqb (release τ h.number) t (λ w. eqb-false z 0 q (omega (arith, h.present.when))))
  newest-does (Holding z u) h n =
      at-newest (Holding z u) h.number
      (newest-is τ h.number t ok.constrained (omega (arith, h.present.when)) (omega (arith, h.present.when, h.in-time)))
      (record {
        claimed =
            claims-if r τ h.number t (js h.number) (omega (arith, h.present.when)) (omega (arith, h.present.when, h.in-time))
            (ended-also (js h.number).ended (holds r τ (js h.number)) h.over
            (hold-if r τ (js h.number) h.idle (omega (arith, h.held, h.short))));
        open-job = ap not h.over;
        parity = h.present.parity;
        fresh-job = not-open h.number h.over;
      })
  newest-does (Resting z) h n =
      at-newest (Resting z) h.number
      (newest-in τ h.number t (le_trans ok.deadline-pos ok.constrained) (omega (arith, h.present.when)) (omega (arith, h.present.when, h.short)))
      (record {
        claimed = rests-off r τ t (js h.number) h.number z h.present.when h.over h.done;
        open-job = refl;
        parity = h.present.parity;
        fresh-job = not-open h.number h.over;
      })

  -- its parity and its counts are those of the newest job, or where it is late, of the job that is due now
  pub state-of-job : (ph : Phase) → PhaseRelated r τ t js even ph → StateOfJob τ t js even ph
  state-of-job (Coming left) h = record {
    number = 0;
    newest-job = λ e. newest-first τ t (le_trans ok.deadline-pos ok.constrained) (omega (arith, h.when, h.some));
    late-job = λ e. absurd (false≢true e);
    parity = sym (ap not h.odd);
    phase = (omega (arith, h.when), h.unmet 0);
  }
  state-of-job (Working z had u) h = record {
    number = h.number;
    newest-job = λ e.
        let n = eqb-false z τ.deadline e in
        newest-is τ h.number t ok.constrained (omega (arith, h.present.when)) (omega (arith, h.present.when, h.by-due));
    late-job = λ e. omega (arith, h.present.when, eqb-true z τ.deadline e);
    parity = h.present.parity;
    phase = (h.present.when, h.line);
  }
  state-of-job (Holding z u) h = record {
    number = h.number;
    newest-job = λ e. newest-is τ h.number t ok.constrained (omega (arith, h.present.when)) (omega (arith, h.present.when, h.in-time));
    late-job = λ e. absurd (false≢true e);
    parity = h.present.parity;
    phase = (h.present.when, h.held, h.over);
  }
  state-of-job (Resting z) h = record {
    number = h.number;
    newest-job = λ e.
        newest-in τ h.number t (le_trans ok.deadline-pos ok.constrained) (omega (arith, h.present.when)) (omega (arith, h.present.when, h.short));
    late-job = λ e. absurd (false≢true e);
    parity = h.present.parity;
    phase = (h.present.when, h.over);
  }
