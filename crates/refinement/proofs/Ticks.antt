-- A tick preserves the relation of a task's phase and parity to its line of jobs, where the task is not late; and the start is related to the empty book.
use mathlib.Core.Path.{◌≡◌, refl, sym, ap, ◌∙◌, subst}
use mathlib.Core.Bool.{Bool, true, false, not, ◌&&◌, ◌||◌, cond}
use mathlib.Core.Logic.{⊎_elim}
use Prim.Native.Nat.{ℕ, suc, ◌+◌, ◌-◌, ◌≤◌, ◌<◌}
use native.Mathlib.Nat.{le_of_suc-le-suc, le_trans, eq-or-lt_of_le}
use native.Mathlib.Numerals.{add-one}
use native.Mathlib.Omega.{arith}
use lib.Dec.{leb, eqb}
use borrow.Author.Tests.{eqb-false, le-leb, lt-leb}
use Rattle.model.specs.Task.{Task, ValidTask, Rule, newest}
use Rattle.model.specs.Jobs.{Job, fresh}
use Rattle.model.specs.Claims.{holds, claims}
use Rattle.model.specs.Advance.{work, work_lent}
use Rattle.model.proofs.Jobs.{mk, line_step, step-ended, step-claimed, claims-if, newest-is, others}
use Rattle.phase.specs.declared.Phase.{Phase}
use Rattle.phase.specs.declared.Phase.TheVariants.{Coming, Working, Holding, Resting}
use Rattle.phase.specs.Phase.{idles, late_in, task_state, start_state, resting, holding, ended, worked, next_state}
use Rattle.phase.proofs.Phases.{by-eq}
use Rattle.refinement.proofs.PhaseRelated.{Present, PhaseRelated, StateRelatedAt, parity-suc, newest-in, early, hold-if, full-done, none-holds, ended-also, rests-off}

-- a line after a tick in which its task was given cores (w), or borrowed some (l), or neither
abbrev pub line_on : Rule → Task → ℕ → Bool → Bool → Bool → (ℕ → Job) → ℕ → Job
line_on r τ t w l f js i =
    cond (claims r τ i t (js i) && w) (work τ.length f (js i)) (cond (claims r τ i t (js i) && l) (work_lent τ.length f (js i)) (js i))

-- a job that does not claim is as it was
line-off : (r : Rule) (τ : Task) (t : ℕ) (w l f : Bool) (js : ℕ → Job) (i : ℕ) → claims r τ i t (js i) ≡ false → line_on r τ t w l f js i ≡ js i
line-off r τ t w l f js i e = rw e

line-own :
    (r : Rule) (τ : Task) (t : ℕ) (w l f : Bool) (js : ℕ → Job) (i : ℕ) → claims r τ i t (js i) ≡ true
    → line_on r τ t w l f js i ≡ line_step τ.length f w l (js i)
line-own r τ t w l f js i e = rw e

-- where k is the newest, the present job one tick on is still k
present-on :
    (r : Rule) (τ : Task) → ValidTask τ → (t : ℕ) (js : ℕ → Job) (even w l f : Bool) (k z : ℕ) → newest τ t ≡ k
    → Present τ t js even k z → Present τ (suc t) (line_on r τ t w l f js) even k (z + 1)
present-on r τ ok t js even w l f k z new h = record {
  when = omega (arith, h.when);
  past = λ i q. ap (λ (j : Job). j.ended) (same i (omega arith)) ∙ h.past i q;
  ahead = λ i q. same i (omega arith) ∙ h.ahead i q;
  parity = h.parity;
}
  where
    same : (i : ℕ) → (i ≡ k → ⊥) → line_on r τ t w l f js i ≡ js i
    same i ne = line-off r τ t w l f js i (others r τ k t i (js i) ok.constrained new ne)

-- AFTER A TICK

module _ (r : Rule) (τ : Task) (ok : ValidTask τ) (t : ℕ) (js : ℕ → Job) (even : Bool) (k z : ℕ) (h : Present τ t js even k z) where
  -- a job that has ended rests, or the next is released
  rested : z ≤ τ.period → (js k).ended ≡ true → (holds r τ (js k) ≡ true → τ.deadline ≤ z) → StateRelatedAt r τ t js (resting τ even z)
  rested b over done =
      by-eq (λ (x : Bool). StateRelatedAt r τ t js (cond x (task_state (not even) (Working 0 0 0)) (task_state even (Resting z)))) z τ.period
      (λ e. record {
        number = suc k;
        present = record {
          when = omega (arith, h.when);
          past = λ i l. ⊎_elim (λ (q : i ≡ k). subst (λ (x : ℕ). (js x).ended ≡ true) (sym q) over) (λ (q : i < k). h.past i q) (eq-or-lt_of_le (le_of_suc-le-suc l));
          ahead = λ i l. h.ahead i (omega arith);
          parity = parity-suc k even h.parity;
        };
        by-due = omega arith;
        short = ok.length-pos;
        within = omega arith;
        reserved-had = omega arith;
        line = h.ahead (suc k) (omega arith);
      })
      (λ n. record { number = k; present = h; short = omega arith; over = over; done = done })

  -- a held job
  held_on :
      idles r ≡ true → z ≤ τ.deadline → (u : ℕ) → u ≤ τ.length → (js k).ended ≡ true → (js k).claimed ≡ u
      → StateRelatedAt r τ t js (holding τ even z u)
  held_on idle b u d over held =
      by-eq (λ (x : Bool). StateRelatedAt r τ t js (cond (x || eqb z τ.deadline) (resting τ even z) (task_state even (Holding z u)))) u τ.length
      (λ e. rested (le_trans b ok.constrained) over (λ q. absurd (full-done r τ (js k) (omega arith) q)))
      (λ n.
      by-eq (λ (x : Bool). StateRelatedAt r τ t js (cond x (resting τ even z) (task_state even (Holding z u)))) z τ.deadline
      (λ e. rested (le_trans b ok.constrained) over (λ q. omega arith))
      (λ m. record {
        number = k;
        present = h;
        idle = idle;
        in-time = omega arith;
        short = omega arith;
        over = over;
        held = held;
      }))

  -- a job that has just ended
  ended-on : z ≤ τ.deadline → (u : ℕ) → u ≤ τ.length → (js k).ended ≡ true → (js k).claimed ≡ u → StateRelatedAt r τ t js (ended r τ even z u)
  ended-on b u d over held = go (idles r) refl
    where
      go : (x : Bool) → idles r ≡ x → StateRelatedAt r τ t js (cond x (holding τ even z u) (resting τ even z))
      go true e = held_on e b u d over held
      go false e = rested (le_trans b ok.constrained) over (λ q. absurd (none-holds r τ (js k) e q))

  -- an open job after a tick with cores, its own or borrowed ones
  worked-on :
      z ≤ τ.deadline → (had u : ℕ) (f : Bool) → had ≤ τ.length → had ≤ z → u ≤ had → js k ≡ mk had u (f || leb τ.length had)
      → StateRelatedAt r τ t js (worked r τ f even z had u)
  worked-on b had u true d w q line = ended-on b u (omega arith) (ap (λ (j : Job). j.ended) line) (ap (λ (j : Job). j.claimed) line)
  worked-on b had u false d w q line =
      by-eq (λ (x : Bool). StateRelatedAt r τ t js (cond x (ended r τ even z u) (task_state even (Working z had u)))) had τ.length
      (λ e. ended-on b u (omega arith) (ap (λ (j : Job). j.ended) line ∙ le-leb τ.length had (omega arith)) (ap (λ (j : Job). j.claimed) line))
      (λ n. record {
        number = k;
        present = h;
        by-due = b;
        short = omega arith;
        within = w;
        reserved-had = q;
        line = line ∙ ap (λ (e : Bool). mk had u e) (lt-leb τ.length had (omega arith));
      })

-- a job that was not ended, after a tick with its own cores: it has had and claimed one more, and ends if reported or at C
work-open : (C had u : ℕ) (f : Bool) (j : Job) → j ≡ mk had u false → work C f j ≡ mk (suc had) (suc u) (f || leb C (suc had))
unfolding work
work-open C had u f j e = rw e

-- .. and with borrowed ones: it has had one more and claimed none
lent-open : (C had u : ℕ) (f : Bool) (j : Job) → j ≡ mk had u false → work_lent C f j ≡ mk (suc had) u (f || leb C (suc had))
unfolding work_lent
lent-open C had u f j e = rw e

-- ONE TICK

-- at the start the first release is now, or it is O ticks ahead
pub phase-related-start : (r : Rule) (τ : Task) → ValidTask τ → StateRelatedAt r τ 0 (λ k. fresh) (start_state τ.offset)
phase-related-start r τ ok =
    by-eq (λ (x : Bool). StateRelatedAt r τ 0 (λ k. fresh) (task_state false (cond x (Working 0 0 0) (Coming τ.offset)))) τ.offset 0
    (λ e. record {
      number = 0;
      present = record { when = omega arith; past = λ i l. absurd (omega arith); ahead = λ i l. refl; parity = refl };
      by-due = omega arith;
      short = ok.length-pos;
      within = omega arith;
      reserved-had = omega arith;
      line = refl;
    })
    (λ n. record { some = omega arith; when = omega arith; unmet = λ i. refl; odd = refl })

-- the relation holds one tick on, where the task is not late
pub related-next :
    (r : Rule) (τ : Task) → ValidTask τ → (t : ℕ) (js : ℕ → Job) (even w l f : Bool) (ph : Phase)
    → PhaseRelated r τ t js even ph → late_in τ.deadline ph ≡ false
    → StateRelatedAt r τ (suc t) (line_on r τ t w l f js) (next_state r τ w l f even ph)
related-next r τ ok t js even w l f (Coming left) h n =
    by-eq (λ (x : Bool). StateRelatedAt r τ (suc t) (line_on r τ t w l f js) (task_state even (cond x (Working 0 0 0) (Coming (left - 1))))) (left - 1) 0
    (λ e. record {
      number = 0;
      present = record {
        when = omega (arith, h.when, h.some);
        past = λ i q. absurd (omega arith);
        ahead = λ i q. unmet i;
        parity = sym (ap not h.odd);
      };
      by-due = omega arith;
      short = ok.length-pos;
      within = omega arith;
      reserved-had = omega arith;
      line = unmet 0;
    })
    (λ e. record {
      some = omega (arith, h.some);
      when = omega (arith, h.when, h.some);
      unmet = unmet;
      odd = h.odd;
    })
  where
    unmet : (i : ℕ) → line_on r τ t w l f js i ≡ fresh
    unmet i = line-off r τ t w l f js i (early r τ t i (js i) (omega (arith, h.when, h.some))) ∙ h.unmet i
related-next r τ ok t js even w l f (Working z had u) h n = go w l
  where
    k : ℕ
    k = h.number

    less : z < τ.deadline
    less = omega (arith, eqb-false z τ.deadline n, h.by-due)

    new : newest τ t ≡ k
    new = newest-is τ k t ok.constrained (omega (arith, h.present.when)) (omega (arith, h.present.when, less))

    own : claims r τ k t (js k) ≡ true
    own = claims-if r τ k t (js k) (omega (arith, h.present.when)) (omega (arith, h.present.when, less)) (rw h.line)

    go : (w l : Bool) → StateRelatedAt r τ (suc t) (line_on r τ t w l f js) (next_state r τ w l f even (Working z had u))
    go true l =
        worked-on r τ ok (suc t) (line_on r τ t true l f js) even k (z + 1) (present-on r τ ok t js even true l f k z new h.present)
        (omega (arith, less)) (had + 1) (u + 1) f (omega (arith, h.short)) (omega (arith, h.within)) (omega (arith, h.reserved-had))
        (line-own r τ t true l f js k own ∙ (work-open τ.length had u f (js k) h.line ∙ simp add-one))
    go false true =
        worked-on r τ ok (suc t) (line_on r τ t false true f js) even k (z + 1) (present-on r τ ok t js even false true f k z new h.present)
        (omega (arith, less)) (had + 1) u f (omega (arith, h.short)) (omega (arith, h.within)) (omega (arith, h.reserved-had))
        (line-own r τ t false true f js k own ∙ (lent-open τ.length had u f (js k) h.line ∙ simp add-one))
    go false false = record {
      number = k;
      present = present-on r τ ok t js even false false f k z new h.present;
      by-due = omega (arith, less);
      short = h.short;
      within = omega (arith, h.within);
      reserved-had = h.reserved-had;
      line = line-own r τ t false false f js k own ∙ h.line;
    }
related-next r τ ok t js even w l f (Holding z u) h n = go w
  where
    k : ℕ
    k = h.number

    new : newest τ t ≡ k
    new = newest-is τ k t ok.constrained (omega (arith, h.present.when)) (omega (arith, h.present.when, h.in-time))

    own : claims r τ k t (js k) ≡ true
    own =
        claims-if r τ k t (js k) (omega (arith, h.present.when)) (omega (arith, h.present.when, h.in-time))
        (ended-also (js k).ended (holds r τ (js k)) h.over (hold-if r τ (js k) h.idle (omega (arith, h.held, h.short))))

    over : (w : Bool) → (line_on r τ t w l f js k).ended ≡ true
    over w = ap (λ (j : Job). j.ended) (line-own r τ t w l f js k own) ∙ (step-ended τ.length f w l (js k) h.over).0

    held : (w : Bool) → (line_on r τ t w l f js k).claimed ≡ cond w (suc (js k).claimed) (js k).claimed
    held w =
        ap (λ (j : Job). j.claimed) (line-own r τ t w l f js k own)
        ∙ step-claimed τ.length f w l (js k).had (js k).claimed (js k).ended

    go : (w : Bool) → StateRelatedAt r τ (suc t) (line_on r τ t w l f js) (holding τ even (z + 1) (cond w (u + 1) u))
    go true =
        held_on r τ ok (suc t) (line_on r τ t true l f js) even k (z + 1) (present-on r τ ok t js even true l f k z new h.present)
        h.idle (omega (arith, h.in-time)) (u + 1) (omega (arith, h.short))
        (over true) (held true ∙ omega (arith, h.held))
    go false =
        held_on r τ ok (suc t) (line_on r τ t false l f js) even k (z + 1) (present-on r τ ok t js even false l f k z new h.present)
        h.idle (omega (arith, h.in-time)) u (omega (arith, h.short))
        (over false) (held false ∙ h.held)
related-next r τ ok t js even w l f (Resting z) h n =
    rested r τ ok (suc t) (line_on r τ t w l f js) even k (z + 1) (present-on r τ ok t js even w l f k z new h.present)
    (omega (arith, h.short))
    (ap (λ (j : Job). j.ended) same ∙ h.over)
    (λ e. le_trans (h.done (subst (λ (j : Job). holds r τ j ≡ true) same e)) (omega arith))
  where
    k : ℕ
    k = h.number

    new : newest τ t ≡ k
    new = newest-in τ k t (le_trans ok.deadline-pos ok.constrained) (omega (arith, h.present.when)) (omega (arith, h.present.when, h.short))

    same : line_on r τ t w l f js k ≡ js k
    same = line-off r τ t w l f js k (rests-off r τ t (js k) k z h.present.when h.over h.done)
