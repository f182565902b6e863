-- Empty jobs: to end them in the book is to see their tasks as holding, or as claiming nothing; the relation is preserved.
use mathlib.Core.Path.{◌≡◌, refl, sym, ap, ◌∙◌, subst}
use mathlib.Core.Bool.{Bool, true, false, and-false, ◌&&◌, cond}
use Prim.Native.Nat.{ℕ, ◌<◌}
use native.Mathlib.Nat.{le_trans}
use native.Mathlib.Omega.{arith}
use lib.Dec.{eqb}
use borrow.Author.Tests.{eqb-true, eqb-false, eq-eqb, ne_eqb}
use Rattle.model.specs.Task.{Task, ValidTask, Rule, release}
use Rattle.model.specs.Jobs.{Job}
use Rattle.model.proofs.Jobs.{mk, start, start-claimed}
use Rattle.phase.specs.declared.Phase.{Phase}
use Rattle.phase.specs.declared.Phase.TheVariants.{Coming, Working, Holding, Resting}
use Rattle.phase.specs.Phase.{idles, late_in, empty_phase, phase_emptied}
use Rattle.refinement.proofs.PhaseRelated.{Present, Works, PhaseRelated, newest-in, none-holds, same-holds}

-- a line with its job ended that is released in this tick, where it is empty
abbrev pub line_emptied : Task → ℕ → Bool → (ℕ → Job) → ℕ → Job
line_emptied τ t e js i = start (e && eqb (release τ i) t) (js i)

-- a job that has ended stays ended
start-ended : (x : Bool) (j : Job) → j.ended ≡ true → (start x j).ended ≡ true
start-ended true j e = refl
start-ended false j e = e

-- a job that is not released in this tick is as it was
not-now : (τ : Task) (t : ℕ) (e : Bool) (js : ℕ → Job) (i : ℕ) → (release τ i ≡ t → ⊥) → line_emptied τ t e js i ≡ js i
not-now τ t e js i n = rw (ne_eqb (release τ i) t n, and-false e)

module _ (r : Rule) (τ : Task) (ok : ValidTask τ) (t : ℕ) (js : ℕ → Job) (e even : Bool) where
  pos : 0 < τ.period
  pos = le_trans ok.deadline-pos ok.constrained

  -- only the present job can be released in this tick
  others-off : (k z : ℕ) → Present τ t js even k z → z < τ.period → (i : ℕ) → (i ≡ k → ⊥) → line_emptied τ t e js i ≡ js i
  others-off k z h l i n =
      not-now τ t e js i (λ q.
      n (sym (newest-in τ i t pos (omega arith) (omega (arith, pos))) ∙ newest-in τ k t pos (omega (arith, h.when)) (omega (arith, h.when))))

  present-emptied : (k z : ℕ) → z < τ.period → Present τ t js even k z → Present τ t (line_emptied τ t e js) even k z
  present-emptied k z l h = record {
    when = h.when;
    past = λ i q. ap (λ (j : Job). j.ended) (others-off k z h l i (omega arith)) ∙ h.past i q;
    ahead = λ i q. others-off k z h l i (omega arith) ∙ h.ahead i q;
    parity = h.parity;
  }

-- the relation is preserved, where the task is not late
pub related-emptied :
    (r : Rule) (τ : Task) → ValidTask τ → (t : ℕ) (js : ℕ → Job) (e even : Bool) (ph : Phase)
    → PhaseRelated r τ t js even ph → late_in τ.deadline ph ≡ false
    → PhaseRelated r τ t (line_emptied τ t e js) even (phase_emptied r e ph)
related-emptied r τ ok t js e even (Coming left) h n = rw (and-false e) (record {
  some = h.some;
  when = h.when;
  unmet = λ i. not-now τ t e js i (λ q. omega (arith, h.when, h.some)) ∙ h.unmet i;
  odd = h.odd;
})
related-emptied r τ ok t js e even (Working z had u) h n = by-empty e
  where
    k : ℕ
    k = h.number

    less : z < τ.deadline
    less = omega (arith, eqb-false z τ.deadline n, h.by-due)

    short : z < τ.period
    short = omega (arith, less, ok.constrained)

    -- released in this tick: the job ends
    ends : z ≡ 0 → line_emptied τ t true js k ≡ mk had u true
    ends q = rw (eq-eqb (release τ k) t (omega (arith, h.present.when)), h.line)

    at_zero : z ≡ 0 → Present τ t (line_emptied τ t true js) even k 0
    at_zero q = subst (λ (y : ℕ). Present τ t (line_emptied τ t true js) even k y) q (present-emptied r τ ok t js true even k z short h.present)

    ending : z ≡ 0 → (x : Bool) → idles r ≡ x → PhaseRelated r τ t (line_emptied τ t true js) even (cond x (Holding 0 0) (Resting 0))
    ending q true i = record {
      number = k;
      present = at_zero q;
      idle = i;
      in-time = ok.deadline-pos;
      short = ok.length-pos;
      over = ap (λ (j : Job). j.ended) (ends q);
      held = ap (λ (j : Job). j.claimed) (ends q) ∙ omega (arith, h.reserved-had, h.within);
    }
    ending q false i = record {
      number = k;
      present = at_zero q;
      short = omega (arith, short);
      over = ap (λ (j : Job). j.ended) (ends q);
      done = λ w. absurd (none-holds r τ (line_emptied τ t true js k) i w);
    }

    stays : (z ≡ 0 → ⊥) → Works τ t (line_emptied τ t true js) even z had u
    stays q = record {
      number = k;
      present = present-emptied r τ ok t js true even k z short h.present;
      by-due = h.by-due;
      short = h.short;
      within = h.within;
      reserved-had = h.reserved-had;
      line = not-now τ t true js k (λ w. q (omega (arith, h.present.when))) ∙ h.line;
    }

    go : (x : Bool) → eqb z 0 ≡ x → PhaseRelated r τ t (line_emptied τ t true js) even (cond (x && eqb had 0) (empty_phase r) (Working z had u))
    go true q =
        let y : z ≡ 0 = eqb-true z 0 q in
        rw (eq-eqb had 0 (omega (arith, h.within))) (ending y (idles r) refl)
    go false q = stays (eqb-false z 0 q)

    by-empty : (e : Bool) → PhaseRelated r τ t (line_emptied τ t e js) even (phase_emptied r e (Working z had u))
    by-empty true = go (eqb z 0) refl
    by-empty false = h
related-emptied r τ ok t js e even (Holding z u) h n = rw (and-false e) (record {
  number = h.number;
  present = present-emptied r τ ok t js e even h.number z (omega (arith, h.in-time, ok.constrained)) h.present;
  idle = h.idle;
  in-time = h.in-time;
  short = h.short;
  over = start-ended (e && eqb (release τ h.number) t) (js h.number) h.over;
  held = start-claimed (e && eqb (release τ h.number) t) (js h.number) ∙ h.held;
})
related-emptied r τ ok t js e even (Resting z) h n = rw (and-false e) (record {
  number = h.number;
  present = present-emptied r τ ok t js e even h.number z h.short h.present;
  short = h.short;
  over = start-ended (e && eqb (release τ h.number) t) (js h.number) h.over;
  done = λ w. h.done (sym (same-holds r τ (line_emptied τ t e js h.number) (js h.number) claimed) ∙ w);
})
  where
    claimed : (line_emptied τ t e js h.number).claimed ≡ (js h.number).claimed
    claimed = start-claimed (e && eqb (release τ h.number) t) (js h.number)
