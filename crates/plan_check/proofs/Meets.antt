-- The tests of one tick and the conditions of one tick, each from the other.
use mathlib.Core.Bool.{Bool, cond, false, not, true}
use mathlib.Core.List.{List}
use mathlib.Core.Path.{ap, refl, sym, ◌∙◌, ◌≡◌}
use Prim.Native.Nat.{◌+◌, ◌-◌, ◌<◌, suc, zero, ℕ, ◌≤◌}
use native.Mathlib.Nat.{le_trans}
use native.Mathlib.Omega.{arith}
use lib.Dec.{eqb, leb, ltb}
use lib.ListN.{length}
use borrow.Author.Tests.{eq-eqb, eqb-false, eqb-true, leb-false, leb-true, ltb-false, ltb-true, not-false}
use Rattle.std.proofs.lemmas.Bool.{false_from_ne_true, true_from_ne_false}
use Rattle.model.proofs.Search.{none_any, none-at}
use Rattle.model.specs.Horizon.{horizon, hyperperiod, last_s}
use Rattle.model.specs.Task.{AllValid, Table, due, newest, release, task}
use Rattle.plan_check.specs.Answers.{DeadlineMissed}
use Rattle.plan_check.proofs.PlanBook.{differs, faulty, late_now}
use Rattle.plan_check.specs.Plan.{Agree, ValidRow, Owed, had_in_rows, phase_after}
use Rattle.plan_check.proofs.Newest.{newest-begun, offset-last, since-later}
use Rattle.plan_check.proofs.Owed.{Right, before-offset, faulty-right, late-job, late-none, open-owed, open_at, owed_at, right-faulty}
use Rattle.plan_check.proofs.PhaseBy.{owes-phase, phase-from, phase-owes}
use Rattle.plan_check.proofs.Steps.{noted_at, plan_book_at}
use Rattle.plan_check.proofs.Ticks.{valid-works, ticks-grow}

-- from the last S on, what is recorded is what was owed there
noted-last : (s : Table) (r : ℕ → List ℕ) (p t : ℕ) → last_s s.tasks ≤ t → noted_at s r t p ≡ open_at s r (last_s s.tasks) p
unfolding noted_at
noted-last s r p zero h = rw (eq-eqb 0 (last_s s.tasks) (omega arith)) (ap (λ (t : ℕ). open_at s r t p) (omega arith))
noted-last s r p (suc t) h = go (eqb (suc t) (last_s s.tasks)) refl (noted-last s r p t)
  where
    L : ℕ
    L = last_s s.tasks

    go : (b : Bool) → eqb (suc t) L ≡ b → (L ≤ t → noted_at s r t p ≡ open_at s r L p) → cond b (open_at s r (suc t)) (noted_at s r t) p ≡ open_at s r L p
    go true e ih = ap (λ (t : ℕ). open_at s r t p) (eqb-true (suc t) L e)
    go false e ih = ih (omega (arith, eqb-false (suc t) L e))

module _ (s : Table) (ok : AllValid s) (r : ℕ → List ℕ) where
  -- 25

  pub late-not : (t : ℕ) → late_now s t (owed_at s r t) ≡ false → ¬ DeadlineMissed s r t
  late-not t e x = omega (arith, late-none s ok r t e x.0 x.1 x.2 x.3, x.4)

  pub not_late : (t : ℕ) → ¬ DeadlineMissed s r t → late_now s t (owed_at s r t) ≡ false
  not_late t n = false_from_ne_true (late_now s t (owed_at s r t)) (λ e. n (late-job s ok r t e))

  pub late-found : (t : ℕ) → DeadlineMissed s r t → late_now s t (owed_at s r t) ≡ true
  late-found t x = true_from_ne_false (late_now s t (owed_at s r t)) (λ e. late-not t e x)

  -- where no deadline is missed up to t, a job due by t has had C ticks
  pub enough :
      (t : ℕ) → ((u : ℕ) → u ≤ t → ¬ DeadlineMissed s r u) → (p k : ℕ) → p < length s.tasks → due (task s p) k ≤ t
      → (task s p).length ≤ had_in_rows s r p k (due (task s p) k)
  enough t none p k l h = go (ltb (had_in_rows s r p k (due (task s p) k)) (task s p).length) refl
    where
      go : (b : Bool) → ltb (had_in_rows s r p k (due (task s p) k)) (task s p).length ≡ b → (task s p).length ≤ had_in_rows s r p k (due (task s p) k)
      go true e = absurd (none (due (task s p) k) h (p, k, l, refl, ltb-true (had_in_rows s r p k (due (task s p) k)) (task s p).length e))
      go false e = ltb-false (had_in_rows s r p k (due (task s p) k)) (task s p).length e

  -- 24

  pub valid-right : (t : ℕ) → ValidRow s r t → faulty s t (owed_at s r t) (r t) ≡ false
  valid-right t x = right-faulty s t (owed_at s r t) (r t) record {
    known = λ c l. x.known c (omega (arith, x.size));
    wide = λ p l e. (valid-works s ok r t x p l e).1;
    owed = λ p l e.
        let w = (valid-works s ok r t x p l e).0 in
        let owe = open-owed s ok r p l t (omega (arith, w.released)) in
        omega (arith, w.short);
  }

  pub right_valid : (t : ℕ) → ((u : ℕ) → u ≤ t → ¬ DeadlineMissed s r u) → length (r t) ≡ s.cores → faulty s t (owed_at s r t) (r t) ≡ false → ValidRow s r t
  right_valid t none size e = record {
    size = size;
    known = λ c l. z.known c (omega arith);
    works = λ p l e. (newest (task s p) t, owing p l (z.owed p l e) (leb (task s p).offset t) refl, z.wide p l e);
  }
    where
      z : Right s t (owed_at s r t) (r t)
      z = faulty-right s t (owed_at s r t) (r t) e

      -- a job with ticks owed is not due yet
      in-time : (p : ℕ) → p < length s.tasks → (k : ℕ) → had_in_rows s r p k t < (task s p).length → (b : Bool) → leb (due (task s p) k) t ≡ b → t < due (task s p) k
      in-time p l k few false q = leb-false (due (task s p) k) t q
      in-time p l k few true q =
          let past = leb-true (due (task s p) k) t q in
          absurd (omega (arith, enough t none p k l past, ticks-grow r p (release (task s p) k) (due (task s p) k) t past))

      owing : (p : ℕ) → p < length s.tasks → 0 < open_at s r t p → (b : Bool) → leb (task s p).offset t ≡ b
          → Owed s r p (newest (task s p) t) t
      owing p l some-owed false e = absurd (omega (arith, before-offset s ok r p l t (leb-false (task s p).offset t e)))
      owing p l some-owed true e =
          let on = leb-true (task s p).offset t e in
          let k : ℕ = newest (task s p) t in
          let owe : open_at s r t p ≡ (task s p).length - had_in_rows s r p k t = open-owed s ok r p l t on in
          let few : had_in_rows s r p k t < (task s p).length = omega arith in
          record {
            released = newest-begun (task s p) (le_trans (ok p l).deadline-pos (ok p l).constrained) t on;
            early = in-time p l k few (leb (due (task s p) k) t) refl;
            short = few;
          }

  -- 26

  abbrev H : ℕ
  H = horizon s

  abbrev L : ℕ
  L = last_s s.tasks

  far : H ≡ L + hyperperiod s.tasks
  far = unfold horizon in refl

  -- what is recorded at the horizon is what was owed at the last S
  owes-last : (p : ℕ) → p < length s.tasks → noted_at s r H p ≡ (task s p).length - had_in_rows s r p (newest (task s p) L) L
  owes-last p l = noted-last s r p H (omega (arith, far)) ∙ open-owed s ok r p l L (offset-last s ok p l)

  owes-end : (p : ℕ) → p < length s.tasks → open_at s r H p ≡ (task s p).length - had_in_rows s r p (newest (task s p) H) H
  owes-end p l = open-owed s ok r p l H (omega (arith, far, offset-last s ok p l))

  pub agree-differs : Agree s r → differs s (plan_book_at s r H) ≡ false
  unfolding differs
  agree-differs a = none_any (length s.tasks) (λ q. not (eqb (open_at s r H q) (noted_at s r H q))) (λ p l.
      rw (eq-eqb (open_at s r H p) (noted_at s r H p) (owes-end p l ∙ (sym (same p l) ∙ sym (owes-last p l)))))
    where
      same : (p : ℕ) → p < length s.tasks
          → (task s p).length - had_in_rows s r p (newest (task s p) L) L ≡ (task s p).length - had_in_rows s r p (newest (task s p) H) H
      same p l =
          phase-owes (task s p).length (L - release (task s p) (newest (task s p) L)) (H - release (task s p) (newest (task s p) H))
          (had_in_rows s r p (newest (task s p) L) L) (had_in_rows s r p (newest (task s p) H) H)
          (sym (phase-from s r p L (offset-last s ok p l)) ∙ (a p l ∙ phase-from s r p H (omega (arith, far, offset-last s ok p l))))

  pub differs-agree : differs s (plan_book_at s r H) ≡ false → Agree s r
  differs-agree e p l =
      phase-from s r p L (offset-last s ok p l)
      ∙ (ap (λ (z : ℕ). phase_after (task s p).length z (had_in_rows s r p (newest (task s p) L) L)) (since-later s ok p l)
      ∙ (owes-phase (task s p).length (H - release (task s p) (newest (task s p) H)) (had_in_rows s r p (newest (task s p) L) L)
      (had_in_rows s r p (newest (task s p) H) H) (sym (owes-last p l) ∙ (sym test ∙ owes-end p l))
      ∙ sym (phase-from s r p H (omega (arith, far, offset-last s ok p l)))))
    where
      test : open_at s r H p ≡ noted_at s r H p
      test =
          eqb-true (open_at s r H p) (noted_at s r H p)
          (not-false (eqb (open_at s r H p) (noted_at s r H p))
          (unfold differs in none-at (length s.tasks) (λ q. not (eqb (open_at s r H q) (noted_at s r H q))) p e l))
