-- The rows taken one by one: the state that comes to each tick, and when a list is accepted.
use mathlib.Core.Bool.{Bool, cond, false, not, true}
use mathlib.Core.List.{List, [], ◌∷◌}
use mathlib.Core.Path.{ap, refl, subst, sym, ◌∙◌, ◌≡◌}
use Prim.Native.Nat.{◌+◌, ◌<◌, suc, zero, ℕ, ◌≤◌}
use native.Mathlib.Omega.{arith}
use lib.Dec.{eqb, leb}
use lib.ListN.{drop, drop_of_length-le, length, length-drop}
use lib.Seq.{drop-cons}
use borrow.Author.Tests.{eq-eqb, eqb-false, eqb-true, leb-false, lt-leb, ne_eqb}
use Rattle.model.specs.Horizon.{horizon, last_s}
use Rattle.model.specs.Task.{Table}
use Rattle.plan_check.specs.Answers.{PlanOutcome, accepts, refuses, unfinished}
use Rattle.plan_check.proofs.PlanBook.{Answer, PlanBook, accepted, after, plan_book_after, plan_book_answer, plan_book_start, check, check_from, final_book_answer, differs}
use Rattle.plan_check.proofs.PlanBook.{faulty, late_now, refused, take_row, taken, owed_after_row}
use Rattle.plan_check.specs.Plan.{row_at}
use Rattle.plan_check.proofs.Owed.{open_at, owed_at}

-- what is recorded when tick t has come
unfoldable pub noted_at : Table → (ℕ → List ℕ) → ℕ → ℕ → ℕ
noted_at s r zero = cond (eqb 0 (last_s s.tasks)) (open_at s r 0) (λ p. 0)
noted_at s r (suc t) = cond (eqb (suc t) (last_s s.tasks)) (open_at s r (suc t)) (noted_at s r t)

-- the state that comes to tick t where every row before it is taken
abbrev pub plan_book_at : Table → (ℕ → List ℕ) → ℕ → PlanBook
plan_book_at s r t = record { tick = t; owed = owed_at s r t; noted = noted_at s r t }

-- a row that is taken
pub record Ok (s : Table) (r : ℕ → List ℕ) (t : ℕ) : Type 0 where
  pub size : length (r t) ≡ s.cores
  pub on-time : late_now s t (owed_at s r t) ≡ false
  pub right : faulty s t (owed_at s r t) (r t) ≡ false

-- and what is tested after the last
pub record Closing (s : Table) (r : ℕ → List ℕ) (t : ℕ) : Type 0 where
  pub on-time : late_now s t (owed_at s r t) ≡ false
  pub same : differs s (plan_book_at s r t) ≡ false

-- no outcome is two
not-both : {n t : ℕ} → refuses n t ≡ accepts → ⊥
not-both e = let z : ◌≡◌ {A = ℕ} 0 1 = cc in omega arith

not-unfinished : unfinished ≡ accepts → ⊥
not-unfinished e = let z : ◌≡◌ {A = ℕ} 0 1 = cc in omega arith

module _ (s : Table) (r : ℕ → List ℕ) where
  pub starts : plan_book_start s ≡ plan_book_at s r 0
  unfolding plan_book_after owed_at noted_at
  starts = refl

  pub next-plan-book : (t : ℕ) → plan_book_after s (suc t) (owed_after_row s t (owed_at s r t) (r t)) (noted_at s r t) ≡ plan_book_at s r (suc t)
  unfolding plan_book_after owed_at noted_at
  next-plan-book t = refl

  -- the answer to the row of tick t, from the state that comes to it
  pub data Case (t : ℕ) (a : Answer) : Type 0 where
    fault : (n u : ℕ) → a ≡ refused n u → Case t a
    goes : Ok s r t → suc t < horizon s → a ≡ taken (plan_book_at s r (suc t)) → Case t a
    last : Ok s r t → suc t ≡ horizon s → Closing s r (suc t) → a ≡ accepted (plan_book_at s r (suc t)) → Case t a

  by_end : (t : ℕ) → t < horizon s → Ok s r t → Case t (plan_book_answer s (plan_book_at s r (suc t)))
  unfolding plan_book_answer final_book_answer
  by_end t h x =
      go (eqb (suc t) (horizon s)) refl (late_now s (suc t) (owed_at s r (suc t))) refl (differs s (plan_book_at s r (suc t))) refl
    where
      go : (a : Bool) → eqb (suc t) (horizon s) ≡ a → (b : Bool) → late_now s (suc t) (owed_at s r (suc t)) ≡ b → (c : Bool) → differs s (plan_book_at s r (suc t)) ≡ c
          → Case t (cond a (cond b (refused 25 (suc t)) (cond c (refused 26 (suc t)) (accepted (plan_book_at s r (suc t))))) (taken (plan_book_at s r (suc t))))
      go false e b f c g = goes x (omega (arith, eqb-false (suc t) (horizon s) e)) refl
      go true e true f c g = fault 25 (suc t) refl
      go true e false f true g = fault 26 (suc t) refl
      go true e false f false g = last x (eqb-true (suc t) (horizon s) e) (record { on-time = f; same = g }) refl

  pub cases : (t : ℕ) → Case t (take_row s (plan_book_at s r t) (r t))
  unfolding take_row
  cases t =
      rw (next-plan-book t)
      (go (leb (horizon s) t) refl (eqb (length (r t)) s.cores) refl (late_now s t (owed_at s r t)) refl (faulty s t (owed_at s r t) (r t)) refl)
    where
      go : (a : Bool) → leb (horizon s) t ≡ a → (b : Bool) → eqb (length (r t)) s.cores ≡ b
          → (c : Bool) → late_now s t (owed_at s r t) ≡ c → (d : Bool) → faulty s t (owed_at s r t) (r t) ≡ d
          → Case t
          (cond a (refused 10 0) (cond (not b) (refused 11 0) (cond c (refused 25 t) (cond d (refused 24 t) (plan_book_answer s (plan_book_at s r (suc t)))))))
      go true e b f c g d h = fault 10 0 refl
      go false e false f c g d h = fault 11 0 refl
      go false e true f true g d h = fault 25 t refl
      go false e true f false g true h = fault 24 t refl
      go false e true f false g false h =
          by_end t (leb-false (horizon s) t e) (record { size = eqb-true (length (r t)) s.cores f; on-time = g; right = h })

  -- a row that is as it should be is taken
  pub take-ok : (t : ℕ) → t < horizon s → Ok s r t → take_row s (plan_book_at s r t) (r t) ≡ plan_book_answer s (plan_book_at s r (suc t))
  unfolding take_row
  take-ok t h x =
      rw (lt-leb (horizon s) t h, eq-eqb (length (r t)) s.cores x.size, x.on-time, x.right)
      (ap (plan_book_answer s) (next-plan-book t))

  pub end_on : (t : ℕ) → t < horizon s → plan_book_answer s (plan_book_at s r t) ≡ taken (plan_book_at s r t)
  unfolding plan_book_answer
  end_on t h = rw (ne_eqb t (horizon s) (λ e. omega arith))

  pub end-last : (t : ℕ) → t ≡ horizon s → Closing s r t → plan_book_answer s (plan_book_at s r t) ≡ accepted (plan_book_at s r t)
  unfolding plan_book_answer final_book_answer
  end-last t h x = rw (eq-eqb t (horizon s) h, x.on-time, x.same)

module _ (s : Table) (rows : List (List ℕ)) where
  abbrev r : ℕ → List ℕ
  r = row_at rows

  abbrev from : ℕ → PlanOutcome
  from t = check_from s (plan_book_at s r t) (drop t rows)

  -- the rows from tick t on are accepted
  pub record Passes (t : ℕ) : Type 0 where
    pub ok : (u : ℕ) → t ≤ u → u < horizon s → Ok s r u
    pub closing : Closing s r (horizon s)

  pub unroll : (t : ℕ) → t < length rows → from t ≡ after (take_row s (plan_book_at s r t) (r t)) (drop (suc t) rows) (λ next. check_from s next (drop (suc t) rows))
  unfolding check_from
  unroll t h = rw (drop-cons rows t [] h)

  pub ended : (t : ℕ) → length rows ≤ t → from t ≡ unfinished
  unfolding check_from
  ended t h = rw (drop_of_length-le rows h)

  sound : (n t : ℕ) → t + n ≡ length rows → from t ≡ accepts → (t + n ≡ horizon s) × Passes t
  sound zero t e q = absurd (not-unfinished (sym (ended t (omega arith)) ∙ q))
  sound (suc n) t e q = go (take_row s (plan_book_at s r t) (r t)) (cases s r t) (sym (unroll t (omega arith)) ∙ q) (sound n (suc t) (omega arith))
    where
      more_rows : (l : List (List ℕ)) (st : PlanBook) → after (accepted st) l (λ next. check_from s next l) ≡ accepts → length l ≡ 0
      more_rows [] st q = refl
      more_rows (x ∷ l) st q = absurd (not-both q)

      go : (a : Answer) → Case s r t a → after a (drop (suc t) rows) (λ next. check_from s next (drop (suc t) rows)) ≡ accepts
          → (from (suc t) ≡ accepts → (suc t + n ≡ horizon s) × Passes (suc t)) → (t + suc n ≡ horizon s) × Passes t
      go a (fault m u f) q ih = absurd (not-both (subst (λ x. after x (drop (suc t) rows) (λ next. check_from s next (drop (suc t) rows)) ≡ accepts) f q))
      go a (goes x h f) q ih =
          let y = ih (subst (λ x. after x (drop (suc t) rows) (λ next. check_from s next (drop (suc t) rows)) ≡ accepts) f q) in
          (omega (arith, y.0), record { ok = all x y.1; closing = y.1.closing })
        where
          all : Ok s r t → Passes (suc t) → (u : ℕ) → t ≤ u → u < horizon s → Ok s r u
          all x y u g l = here (eqb t u) refl
            where
              here : (b : Bool) → eqb t u ≡ b → Ok s r u
              here true e = subst (Ok s r) (eqb-true t u e) x
              here false e = y.ok u (omega (arith, eqb-false t u e)) l
      go a (last x h c f) q ih =
          let none : length (drop (suc t) rows) ≡ 0 =
          more_rows (drop (suc t) rows) (plan_book_at s r (suc t)) (subst (λ x. after x (drop (suc t) rows) (λ next. check_from s next (drop (suc t) rows)) ≡ accepts) f q) in (
            omega (arith, simp length-drop at none),
            record {
              ok = λ u g l. subst (Ok s r) (omega arith) x;
              closing = subst (Closing s r) h c;
            },
          )

  complete : Passes 0 → length rows ≡ horizon s → (n t : ℕ) → t + suc n ≡ horizon s → from t ≡ accepts
  complete x e zero t q =
      unroll t (omega arith)
      ∙ (ap (λ a. after a (drop (suc t) rows) (λ next. check_from s next (drop (suc t) rows)))
      (take-ok s r t (omega arith) (x.ok t (omega arith) (omega arith)) ∙ end-last s r (suc t) (omega arith) (subst (Closing s r) (omega arith) x.closing))
      ∙ ap (λ (l : List (List ℕ)). after (accepted (plan_book_at s r (suc t))) l (λ next. check_from s next l)) (drop_of_length-le rows {i = suc t} (omega arith)))
  complete x e (suc n) t q =
      unroll t (omega arith)
      ∙ (ap (λ a. after a (drop (suc t) rows) (λ next. check_from s next (drop (suc t) rows)))
      (take-ok s r t (omega arith) (x.ok t (omega arith) (omega arith)) ∙ end_on s r (suc t) (omega arith))
      ∙ complete x e n (suc t) (omega arith))

  -- a list is accepted exactly if it has a row for each tick up to the horizon, and each is taken
  pub check-passes : check s rows ≡ accepts → (length rows ≡ horizon s) × Passes 0
  check-passes q =
      let x = sound (length rows) 0 (omega arith) (subst (λ (st : PlanBook). check_from s st rows ≡ accepts) (starts s r) q) in
      (omega (arith, x.0), x.1)

  pub passes-check : 0 < horizon s → (length rows ≡ horizon s) → Passes 0 → check s rows ≡ accepts
  passes-check pos e x = go (horizon s) refl pos
    where
      go : (h : ℕ) → horizon s ≡ h → 0 < h → check s rows ≡ accepts
      go zero q l = absurd (omega arith)
      go (suc n) q l = ap (λ (st : PlanBook). check_from s st rows) (starts s r) ∙ complete x e n 0 (omega arith)
