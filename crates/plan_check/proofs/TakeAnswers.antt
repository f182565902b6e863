-- THE ANSWERS OF `check_row` ARE THE PLAN BOOK'S: from the beginning of a table's words that pass, row after row, up to the first fault.
use mathlib.Core.Bool.{Bool, cond, false, not, true, true≢false}
use mathlib.Core.List.{List, [], ◌++◌, ◌∷◌}
use mathlib.Core.Path.{ap, refl, subst, sym, ◌∙◌, ◌≡◌}
use Prim.Native.Nat.{◌+◌, ◌<◌, suc, zero, ℕ, ◌≤◌}
use native.Mathlib.Nat.{eq-or-lt_of_le}
use mathlib.Core.Logic.{⊎_elim}
use native.Mathlib.Omega.{arith}
use lib.Dec.{eqb, leb}
use lib.ListN.{drop, drop_of_length-le, length, replicate}
use lib.Seq.{drop-cons}
use borrow.Author.Tests.{eqb-true, le-leb}
use Rattle.model.specs.Horizon.{horizon}
use Rattle.model.specs.Task.{AllValid, Table}
use Rattle.table.specs.Limits.{horizon_out}
use Rattle.plan_check.specs.Answers.{accepts, unfinished}
use Rattle.plan_check.specs.Checked.{row_answers_from, outcome_from}
use Rattle.plan_check.specs.Numbers.{after_row, differs, missed}
use Rattle.plan_check.specs.Plan.{row_at}
use Rattle.plan_check.specs.Row.{faulty}
use Rattle.plan_check.specs.RowAnswer.{RowAnswer, accepted, state_by_answer, refused, taken, row_answer_meaning}
use Rattle.plan_check.specs.State.{horizon_in}
use Rattle.plan_check.specs.CheckRow.{answer_at, final_answer, check_row_answer, check_row_of}
use Rattle.plan_check.specs.RowAnswer.{Answer}
use Rattle.plan_check.specs.RowAnswer.{Accepted, Refused, Taken}
use Rattle.plan_check.specs.declared.SuppliedPlan.{SuppliedPlan}
use Rattle.plan_check.proofs.PlanBook.{after, check_from, late_now, take_row}
use Rattle.plan_check.proofs.PlanBook as plan_book
use Rattle.plan_check.proofs.Owed.{owed_at}
use Rattle.plan_check.proofs.Passing.{state-passes}
use Rattle.plan_check.proofs.Steps.{Case, Closing, Ok, Passes, cases, end-last, end_on, fault, goes, last, plan_book_at, next-plan-book, take-ok, unroll}
use Rattle.plan_check.proofs.StateRelated.{Good, StateRelated, differs-same, faulty-same, missed-same, next-related}

-- the answer that each case of the plan book is
abbrev kind : plan_book.Answer → RowAnswer
kind (plan_book.taken st) = taken
kind (plan_book.accepted st) = accepted
kind (plan_book.refused n t) = refused n t

-- where a row is taken the state moves on
taken-plan : (a : Answer) (x y : SuppliedPlan) → row_answer_meaning a ≡ taken → state_by_answer a x y ≡ x
taken-plan Taken x y e = refl
taken-plan Accepted x y e = refl
taken-plan (Refused n t) x y e = let z : ◌≡◌ {A = ℕ} 0 1 = cc in absurd (omega arith)

accepted-plan : (a : Answer) (x y : SuppliedPlan) → row_answer_meaning a ≡ accepted → state_by_answer a x y ≡ x
accepted-plan Taken x y e = refl
accepted-plan Accepted x y e = refl
accepted-plan (Refused n t) x y e = let z : ◌≡◌ {A = ℕ} 0 1 = cc in absurd (omega arith)

module _ (s : Table) (ok : AllValid s) (near : horizon_out (horizon s) ≡ false) (rows : List (List ℕ)) where
  abbrev r : ℕ → List ℕ
  r = row_at rows

  abbrev H : ℕ
  H = horizon s

  good-next : (t : ℕ) → Good s ok r t → Ok s r t → Good s ok r (suc t)
  good-next t g x u h = ⊎_elim (λ (e : u ≡ t). subst (Ok s r) (sym e) x) (λ (l : u < t). g u l) (eq-or-lt_of_le (omega arith))

  -- ONE ROW

  module _ (t : ℕ) (w : SuppliedPlan) (x : StateRelated s ok r t w) where
    same-horizon : horizon_in w.run ≡ H
    same-horizon = ap horizon x.table

    -- what a row is answered, 14 and 9 being passed
    abbrev from-11 : List ℕ → Answer
    from-11 row =
        cond (not (eqb (length row) s.cores)) (Refused 11 0)
        (cond (missed w.run) (Refused 25 t) (cond (faulty w.run row) (Refused 24 t) (answer_at (after_row w row))))

    answer-by : (row : List ℕ) → check_row_answer w row ≡ cond (leb H t) (Refused 10 0) (from-11 row)
    unfolding check_row_answer
    answer-by row =
        rw (state-passes w.run x.passes, same-horizon, near, x.tick, ap (λ (y : Table). y.cores) x.table)

    -- past the horizon it is 10
    pub past-ten : H ≤ t → (row : List ℕ) → check_row_answer w row ≡ Refused 10 0
    past-ten h row = answer-by row ∙ ap (λ (b : Bool). cond b (Refused 10 0) (from-11 row)) (le-leb H t h)

    -- after the row before t
    end_by : answer_at w ≡ cond (eqb t H) (cond (missed w.run) (Refused 25 t) (cond (differs w) (Refused 26 t) Accepted)) Taken
    unfolding answer_at final_answer
    end_by = rw (same-horizon, x.tick)

    answer-same : Good s ok r t → row_answer_meaning (answer_at w) ≡ kind (plan_book.plan_book_answer s (plan_book_at s r t))
    answer-same g = ap row_answer_meaning end_by ∙ (unfold plan_book.plan_book_answer plan_book.final_book_answer in
        go (eqb t H) refl (missed w.run) refl (late_now s t (owed_at s r t)) refl (differs w) refl)
      where
        go : (a : Bool) → eqb t H ≡ a → (b : Bool) → missed w.run ≡ b → (b' : Bool) → late_now s t (owed_at s r t) ≡ b' → (c : Bool) → differs w ≡ c
            → row_answer_meaning (cond a (cond b (Refused 25 t) (cond c (Refused 26 t) Accepted)) Taken)
            ≡ kind
            (cond a (cond b' (plan_book.refused 25 t) (cond (plan_book.differs s (plan_book_at s r t)) (plan_book.refused 26 t) (plan_book.accepted (plan_book_at s r t))))
            (plan_book.taken (plan_book_at s r t)))
        go false e b f b' f' c d = refl
        go true e true f true f' c d = refl
        go true e true f false f' c d = absurd (true≢false (sym f ∙ (missed-same s ok r t w x g ∙ f')))
        go true e false f true f' c d = absurd (true≢false (sym f' ∙ (sym (missed-same s ok r t w x g) ∙ f)))
        go true e false f false f' c d =
            let here : t ≡ H = eqb-true t H e in
            let same : plan_book.differs s (plan_book_at s r t) ≡ c =
            ap (λ (u : ℕ). plan_book.differs s (plan_book_at s r u)) here ∙ (sym (differs-same s ok r t w x g f' here) ∙ d) in
            closes c (plan_book.differs s (plan_book_at s r t)) (sym same)
          where
            closes : (c c' : Bool) → c ≡ c'
                → row_answer_meaning (cond c (Refused 26 t) Accepted) ≡ kind (cond c' (plan_book.refused 26 t) (plan_book.accepted (plan_book_at s r t)))
            closes true true q = refl
            closes false false q = refl
            closes true false q = absurd (true≢false q)
            closes false true q = absurd (true≢false (sym q))

  -- THE ANSWER TO THE ROW OF TICK t
  pub same_answer :
      (t : ℕ) (w : SuppliedPlan) → StateRelated s ok r t w → Good s ok r t → row_answer_meaning (check_row_answer w (r t)) ≡ kind (take_row s (plan_book_at s r t) (r t))
  same_answer t w x g =
      ap row_answer_meaning (answer-by t w x (r t)) ∙ (unfold take_row in rw (missed-same s ok r t w x g, next-plan-book s r t)
      (go (leb H t) (eqb (length (r t)) s.cores) refl (late_now s t (owed_at s r t)) refl (plan_book.faulty s t (owed_at s r t) (r t)) refl))
    where
      go : (a b : Bool) → eqb (length (r t)) s.cores ≡ b → (c : Bool) → late_now s t (owed_at s r t) ≡ c
          → (d : Bool) → plan_book.faulty s t (owed_at s r t) (r t) ≡ d
          → row_answer_meaning
          (cond a (Refused 10 0)
          (cond (not b) (Refused 11 0) (cond c (Refused 25 t) (cond (faulty w.run (r t)) (Refused 24 t) (answer_at (after_row w (r t)))))))
          ≡ kind
          (cond a (plan_book.refused 10 0)
          (cond (not b) (plan_book.refused 11 0) (cond c (plan_book.refused 25 t) (cond d (plan_book.refused 24 t) (plan_book.plan_book_answer s (plan_book_at s r (suc t)))))))
      go true b e c f d h = refl
      go false false e c f d h = refl
      go false true e true f d h = refl
      go false true e false f d h = rw (faulty-same s ok r t w x g f ∙ h) (ends d h)
        where
          ends : (d : Bool) → plan_book.faulty s t (owed_at s r t) (r t) ≡ d
              → row_answer_meaning (cond d (Refused 24 t) (answer_at (after_row w (r t)))) ≡ kind (cond d (plan_book.refused 24 t) (plan_book.plan_book_answer s (plan_book_at s r (suc t))))
          ends true h = refl
          ends false h =
              answer-same (suc t) (after_row w (r t)) (next-related s ok r t w x (missed-same s ok r t w x g ∙ f))
              (good-next t g record { size = eqb-true (length (r t)) s.cores e; on-time = f; right = h })

  -- THE ANSWERS TO A LIST

  -- the answer to the first of the rows from t on, and to the rest of them
  answers-on : (t : ℕ) (w : SuppliedPlan) → t < length rows
      → row_answers_from w (drop t rows) ≡ row_answer_meaning (check_row_answer w (r t)) ∷ row_answers_from (state_by_answer (check_row_answer w (r t)) (after_row w (r t)) w) (drop (suc t) rows)
  unfolding row_answers_from check_row_of
  answers-on t w h = rw (drop-cons rows t [] h)

  -- rows after an accepted one are past the horizon
  after_last : (t : ℕ) (w : SuppliedPlan) → StateRelated s ok r t w → H ≤ t → (l : List (List ℕ)) (st : plan_book.PlanBook)
      → outcome_from accepts (row_answers_from w l) ≡ after (plan_book.accepted st) l (λ next. check_from s next l)
  unfolding row_answers_from check_row_of outcome_from
  after_last t w x h [] st = refl
  after_last t w x h (row ∷ l) st = rw (past-ten t w x h row)

  pub follow :
      (n t : ℕ) (w : SuppliedPlan) → t + n ≡ length rows → StateRelated s ok r t w → Good s ok r t
      → outcome_from unfinished (row_answers_from w (drop t rows)) ≡ check_from s (plan_book_at s r t) (drop t rows)
  unfolding row_answers_from outcome_from check_from
  follow zero t w e x g = rw (drop_of_length-le rows {i = t} (omega arith))
  follow (suc n) t w e x g =
      ap (outcome_from unfinished) (answers-on t w (omega arith))
      ∙ (go (take_row s (plan_book_at s r t) (r t)) (cases s r t) (same_answer t w x g) (follow n (suc t) (after_row w (r t)) (omega arith))
      ∙ sym (unroll s rows t (omega arith)))
    where
      rest : List (List ℕ)
      rest = drop (suc t) rows

      on : Ok s r t → missed w.run ≡ false
      on o = missed-same s ok r t w x g ∙ o.on-time

      go : (a : plan_book.Answer) → Case s r t a → row_answer_meaning (check_row_answer w (r t)) ≡ kind a
          → (StateRelated s ok r (suc t) (after_row w (r t)) → Good s ok r (suc t)
          → outcome_from unfinished (row_answers_from (after_row w (r t)) rest) ≡ check_from s (plan_book_at s r (suc t)) rest)
          → outcome_from unfinished (row_answer_meaning (check_row_answer w (r t)) ∷ row_answers_from (state_by_answer (check_row_answer w (r t)) (after_row w (r t)) w) rest)
          ≡ after a rest (λ next. check_from s next rest)
      go a (fault m u f) q ih = rw (q, f)
      go a (goes o h f) q ih =
          let said : row_answer_meaning (check_row_answer w (r t)) ≡ taken = q ∙ ap kind f in
          rw (taken-plan (check_row_answer w (r t)) (after_row w (r t)) w said, said, f)
          (ih (next-related s ok r t w x (on o)) (good-next t g o))
      go a (last o h c f) q ih =
          let said : row_answer_meaning (check_row_answer w (r t)) ≡ accepted = q ∙ ap kind f in
          rw (accepted-plan (check_row_answer w (r t)) (after_row w (r t)) w said, said, f)
          (after_last (suc t) (after_row w (r t)) (next-related s ok r t w x (on o)) (omega arith) rest (plan_book_at s r (suc t)))

  -- where all goes well ..
  module _ (a : Passes s rows 0) (e : length rows ≡ H) where
    all-good : (t : ℕ) → t ≤ H → Good s ok r t
    all-good t h u l = a.ok u (omega arith) (omega arith)

    row-answered :
        (t : ℕ) (w : SuppliedPlan) → t < H → StateRelated s ok r t w → (b : RowAnswer) → kind (plan_book.plan_book_answer s (plan_book_at s r (suc t))) ≡ b
        → row_answer_meaning (check_row_answer w (r t)) ≡ b
    row-answered t w h x b f = same_answer t w x (all-good t (omega arith)) ∙ (ap kind (take-ok s r t h (a.ok t (omega arith) h)) ∙ f)

    row_on : (t : ℕ) (w : SuppliedPlan) → t < H → StateRelated s ok r t w → StateRelated s ok r (suc t) (after_row w (r t))
    row_on t w h x = next-related s ok r t w x (missed-same s ok r t w x (all-good t (omega arith)) ∙ (a.ok t (omega arith) h).on-time)

    -- .. every row is taken, and the last accepted
    pub all-taken : (n t : ℕ) (w : SuppliedPlan) → t + suc n ≡ H → StateRelated s ok r t w → row_answers_from w (drop t rows) ≡ replicate n taken ++ (accepted ∷ [])
    unfolding row_answers_from
    all-taken zero t w q x =
        let f : row_answer_meaning (check_row_answer w (r t)) ≡ accepted =
        row-answered t w (omega arith) x accepted (ap kind (end-last s r (suc t) (omega arith) (subst (Closing s r) (omega arith) a.closing))) in
        answers-on t w (omega arith) ∙ rw (f, drop_of_length-le rows {i = suc t} (omega arith))
    all-taken (suc n) t w q x =
        let f : row_answer_meaning (check_row_answer w (r t)) ≡ taken = row-answered t w (omega arith) x taken (ap kind (end_on s r (suc t) (omega arith))) in
        let ih : row_answers_from (after_row w (r t)) (drop (suc t) rows) ≡ replicate n taken ++ (accepted ∷ []) =
        all-taken n (suc t) (after_row w (r t)) (omega arith) (row_on t w (omega arith) x) in
        answers-on t w (omega arith)
        ∙ rw (taken-plan (check_row_answer w (r t)) (after_row w (r t)) w f, f, ih)
