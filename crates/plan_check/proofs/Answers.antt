-- EVERY ANSWER IS EXACT: the stepwise answer to a list of rows is the one that the rows have, and the only one.
use mathlib.Core.Bool.{Bool, false, true, true≢false}
use mathlib.Core.List.{List, []}
use mathlib.Core.Logic.{◌↔◌, ⊎_elim}
use mathlib.Core.Path.{ap, refl, subst, sym, ◌∙◌, ◌≡◌}
use Prim.Native.Nat.{◌+◌, ◌<◌, suc, zero, ℕ, ◌≤◌}
use native.Mathlib.Nat.{eq-or-lt_of_le, le_refl, not-suc-le-zero}
use native.Mathlib.Omega.{arith}
use lib.Dec.{eqb}
use lib.ListN.{drop, drop_of_length-le, length}
use lib.Seq.{drop-cons}
use borrow.Author.Tests.{eq-eqb, eqb-false, eqb-true, lt-leb, ne_eqb}
use Rattle.std.proofs.lemmas.Bool.{true_from_ne_false}
use Rattle.model.proofs.Starts.{hyperperiod-pos}
use Rattle.model.specs.Horizon.{horizon}
use Rattle.model.specs.Task.{AllValid, Table}
use Rattle.plan_check.specs.Answers.{ValidBefore, DeadlineMissed, PlanOutcome, OutcomeFor, accepts, all_valid, bad, missed-deadline, late-end, past, phases, refuses, size, too_few, unfinished}
use Rattle.plan_check.proofs.PlanBook.{Answer, PlanBook, accepted, after, plan_book_answer, check, check_from, final_book_answer, differs, faulty, late_now, refused, take_row}
use Rattle.plan_check.specs.Plan.{Agree, ValidRow, row_at}
use Rattle.plan_check.proofs.Meets.{agree-differs, differs-agree, valid-right, late-found, late-not, not_late, right_valid}
use Rattle.plan_check.proofs.Owed.{late-job, owed_at}
use Rattle.plan_check.proofs.Steps.{Closing, Ok, end-last, end_on, ended, plan_book_at, starts, take-ok, unroll}

module _ (s : Table) (ok : AllValid s) (rows : List (List ℕ)) where
  abbrev r : ℕ → List ℕ
  r = row_at rows

  abbrev H : ℕ
  H = horizon s

  abbrev from : ℕ → PlanOutcome
  from t = check_from s (plan_book_at s r t) (drop t rows)

  abbrev on : Answer → ℕ → PlanOutcome
  on a t = after a (drop (suc t) rows) (λ next. check_from s next (drop (suc t) rows))

  some-ticks : 0 < H
  some-ticks = unfold horizon in omega (arith, hyperperiod-pos s.tasks)

  -- where there is no fault before t, the rows come to t
  taken-row : (t : ℕ) → ValidRow s r t × (¬ DeadlineMissed s r t) → Ok s r t
  taken-row t x = record { size = x.0.size; on-time = not_late s ok r t x.1; right = valid-right s ok r t x.0 }

  reach : (t : ℕ) → t < H → t ≤ length rows → ValidBefore s r t → check s rows ≡ from t
  reach zero h l b = ap (λ (st : PlanBook). check_from s st rows) (starts s r)
  reach (suc t) h l b =
      reach t (omega arith) (omega arith) (λ u g. b u (omega arith))
      ∙ (unroll s rows t l ∙ ap (λ a. on a t) (take-ok s r t (omega arith) (taken-row t (b t (omega arith))) ∙ end_on s r (suc t) h))

  reach-end : H ≤ length rows → ValidBefore s r H → (h : ℕ) → suc h ≡ H → check s rows ≡ on (plan_book_answer s (plan_book_at s r (suc h))) h
  reach-end l b h e =
      reach h (omega arith) (omega arith) (λ u g. b u (omega arith))
      ∙ (unroll s rows h (omega arith) ∙ ap (λ a. on a h) (take-ok s r h (omega arith) (taken-row h (b h (omega arith)))))

  ending : (o : PlanOutcome) → H ≤ length rows → ValidBefore s r H → ((h : ℕ) → suc h ≡ H → on (plan_book_answer s (plan_book_at s r (suc h))) h ≡ o) → check s rows ≡ o
  ending o l b end = go H refl
    where
      go : (n : ℕ) → H ≡ n → check s rows ≡ o
      go zero e = absurd (omega (arith, some-ticks))
      go (suc h) e = reach-end l b h (sym e) ∙ end h (sym e)

  -- what is answered to the row of t
  at_row : (t : ℕ) (n u : ℕ) → t < H → t < length rows → ValidBefore s r t → take_row s (plan_book_at s r t) (r t) ≡ refused n u → check s rows ≡ refuses n u
  at_row t n u h l b e = reach t h (omega arith) b ∙ (unroll s rows t l ∙ ap (λ a. on a t) e)

  row-11 : (t : ℕ) → t < H → ¬ (length (r t) ≡ s.cores) → take_row s (plan_book_at s r t) (r t) ≡ refused 11 0
  unfolding take_row
  row-11 t h n = rw (lt-leb H t h, ne_eqb (length (r t)) s.cores n)

  row-25 : (t : ℕ) → t < H → length (r t) ≡ s.cores → DeadlineMissed s r t → take_row s (plan_book_at s r t) (r t) ≡ refused 25 t
  unfolding take_row
  row-25 t h e x = rw (lt-leb H t h, eq-eqb (length (r t)) s.cores e, late-found s ok r t x)

  row-24 : (t : ℕ) → t < H → length (r t) ≡ s.cores → ¬ DeadlineMissed s r t → faulty s t (owed_at s r t) (r t) ≡ true → take_row s (plan_book_at s r t) (r t) ≡ refused 24 t
  unfolding take_row
  row-24 t h e n f = rw (lt-leb H t h, eq-eqb (length (r t)) s.cores e, not_late s ok r t n, f)

  end-25 : (t : ℕ) → t ≡ H → DeadlineMissed s r t → plan_book_answer s (plan_book_at s r t) ≡ refused 25 t
  unfolding plan_book_answer final_book_answer
  end-25 t e x = rw (eq-eqb t H e, late-found s ok r t x)

  end-26 : (t : ℕ) → t ≡ H → ¬ DeadlineMissed s r t → differs s (plan_book_at s r t) ≡ true → plan_book_answer s (plan_book_at s r t) ≡ refused 26 t
  unfolding plan_book_answer final_book_answer
  end-26 t e n d = rw (eq-eqb t H e, not_late s ok r t n, d)

  -- no deadline is missed up to t
  none-upto : (t : ℕ) → ValidBefore s r t → ¬ DeadlineMissed s r t → (u : ℕ) → u ≤ t → ¬ DeadlineMissed s r u
  none-upto t b n u h =
      ⊎_elim (λ (e : u ≡ t). subst (λ (x : ℕ). ¬ DeadlineMissed s r x) (sym e) n) (λ (g : u < t). (b u g).1) (eq-or-lt_of_le h)

  closing : ¬ DeadlineMissed s r H → Agree s r → Closing s r H
  closing n a = record { on-time = not_late s ok r H n; same = agree-differs s ok r a }

  -- THE ANSWER IS THE ONE THAT THE ROWS HAVE
  outcome-check : (o : PlanOutcome) → OutcomeFor s rows o → check s rows ≡ o
  outcome-check o (all_valid e b n a) =
      ending accepts (omega arith) b (λ h q.
      ap (λ x. on x h) (end-last s r (suc h) q (subst (Closing s r) (sym q) (closing n a)))
      ∙ ap (λ (l : List (List ℕ)). after (accepted (plan_book_at s r (suc h))) l (λ next. check_from s next l)) (drop_of_length-le rows {i = suc h} (omega arith)))
  outcome-check o (too_few l b) = reach (length rows) l (le_refl (length rows)) b ∙ ended s rows (length rows) (le_refl (length rows))
  outcome-check o (past l b n a) =
      ending (refuses 10 0) (omega arith) b (λ h q.
      ap (λ x. on x h) (end-last s r (suc h) q (subst (Closing s r) (sym q) (closing n a)))
      ∙ ap (λ (l : List (List ℕ)). after (accepted (plan_book_at s r (suc h))) l (λ next. check_from s next l)) (drop-cons rows (suc h) [] (omega arith)))
  outcome-check o (size t h l b n) = at_row t 11 0 h l b (row-11 t h n)
  outcome-check o (missed-deadline t h l b e x) = at_row t 25 t h l b (row-25 t h e x)
  outcome-check o (bad t h l b e n f) =
      at_row t 24 t h l b (row-24 t h e n
      (true_from_ne_false (faulty s t (owed_at s r t) (r t)) (λ q. f (right_valid s ok r t (none-upto t b n) e q))))
  outcome-check o (late-end l b x) =
      ending (refuses 25 H) l b (λ h q. ap (λ a. on a h) (end-25 (suc h) q (subst (DeadlineMissed s r) (sym q) x)) ∙ ap (refuses 25) q)
  outcome-check o (phases l b n d) =
      ending (refuses 26 H) l b (λ h q.
      ap (λ a. on a h)
      (end-26 (suc h) q (subst (λ (t : ℕ). ¬ DeadlineMissed s r t) (sym q) n)
      (subst (λ (t : ℕ). differs s (plan_book_at s r t) ≡ true) (sym q)
      (true_from_ne_false (differs s (plan_book_at s r H)) (λ e. d (differs-agree s ok r e)))))
      ∙ ap (refuses 26) q)

  -- AND THE ROWS HAVE ONE
  Answered : Type 0
  Answered = (o : PlanOutcome) × OutcomeFor s rows o

  at-end : H ≤ length rows → ValidBefore s r H → Answered
  unfolding Answered
  at-end l b = go (late_now s H (owed_at s r H)) refl (differs s (plan_book_at s r H)) refl (eqb H (length rows)) refl
    where
      go : (a : Bool) → late_now s H (owed_at s r H) ≡ a → (c : Bool) → differs s (plan_book_at s r H) ≡ c → (d : Bool) → eqb H (length rows) ≡ d
          → (o : PlanOutcome) × OutcomeFor s rows o
      go true e c f d g = (refuses 25 H, late-end l b (late-job s ok r H e))
      go false e true f d g = (refuses 26 H, phases l b (late-not s ok r H e) (λ a. true≢false (sym f ∙ agree-differs s ok r a)))
      go false e false f true g = (accepts, all_valid (sym (eqb-true H (length rows) g)) b (late-not s ok r H e) (differs-agree s ok r f))
      go false e false f false g = (refuses 10 0, past (omega (arith, eqb-false H (length rows) g)) b (late-not s ok r H e) (differs-agree s ok r f))

  -- one row more without a fault
  before-next : (t : ℕ) → ValidBefore s r t → ValidRow s r t → ¬ DeadlineMissed s r t → ValidBefore s r (suc t)
  before-next t b f n u h =
      ⊎_elim
      (λ (e : u ≡ t). subst (λ (x : ℕ). ValidRow s r x × (¬ DeadlineMissed s r x)) (sym e) (f, n))
      (λ (g : u < t). b u g)
      (eq-or-lt_of_le (omega arith))

  onward : (n t : ℕ) → t + n ≡ H → t ≤ length rows → ValidBefore s r t → Answered
  onward zero t e l b = at-end (omega arith) (subst (ValidBefore s r) (omega arith) b)
  onward (suc n) t e l b =
      go (eqb t (length rows)) refl (eqb (length (r t)) s.cores) refl (late_now s t (owed_at s r t)) refl (faulty s t (owed_at s r t) (r t)) refl (onward n (suc t) (omega arith))
    where
      go : (x : Bool) → eqb t (length rows) ≡ x → (y : Bool) → eqb (length (r t)) s.cores ≡ y → (z : Bool) → late_now s t (owed_at s r t) ≡ z
          → (w : Bool) → faulty s t (owed_at s r t) (r t) ≡ w → (suc t ≤ length rows → ValidBefore s r (suc t) → Answered) → Answered
      go true f y g z i w j ih = unfold Answered in (unfinished, too_few (omega (arith, eqb-true t (length rows) f)) (subst (ValidBefore s r) (eqb-true t (length rows) f) b))
      go false f false g z i w j ih =
          unfold Answered in (refuses 11 0, size t (omega arith) (omega (arith, eqb-false t (length rows) f)) b (eqb-false (length (r t)) s.cores g))
      go false f true g true i w j ih =
          unfold Answered in (refuses 25 t, missed-deadline t (omega arith) (omega (arith, eqb-false t (length rows) f)) b (eqb-true (length (r t)) s.cores g) (late-job s ok r t i))
      go false f true g false i true j ih =
          unfold Answered in (
            refuses 24 t,
            bad t (omega arith) (omega (arith, eqb-false t (length rows) f)) b (eqb-true (length (r t)) s.cores g) (late-not s ok r t i)
                (λ x. true≢false (sym j ∙ valid-right s ok r t x)),
          )
      go false f true g false i false j ih =
          ih (omega (arith, eqb-false t (length rows) f))
          (before-next t b
          (right_valid s ok r t (none-upto t b (late-not s ok r t i)) (eqb-true (length (r t)) s.cores g) j)
          (late-not s ok r t i))

  some-outcome : (o : PlanOutcome) × OutcomeFor s rows o
  unfolding Answered
  some-outcome = onward H 0 (omega arith) (omega arith) (λ u g. absurd (not-suc-le-zero g))

  -- THE THEOREM
  pub check-outcome : (o : PlanOutcome) → (check s rows ≡ o) ↔ OutcomeFor s rows o
  check-outcome o = (
    λ e. let x = some-outcome in subst (OutcomeFor s rows) (sym (outcome-check x.0 x.1) ∙ e) x.1,
    outcome-check o,
  )
