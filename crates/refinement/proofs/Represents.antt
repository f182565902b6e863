-- A run that represents a book: it gives the book's answers and rows, and after an entry, taken or refused, it represents the book after it.
use mathlib.Core.Path.{◌≡◌, refl, sym, ap, ap₂, subst, ◌∙◌}
use mathlib.Core.Bool.{Bool, true, false, not, ◌&&◌, ◌||◌, cond}
use mathlib.Core.List.{List, [], ◌∷◌, map}
use Prim.Native.Nat.{ℕ, suc, ◌<◌}
use native.Mathlib.Omega.{arith}
use lib.ListN.{length}
use lib.Dec.{eqb, ltb}
use Rattle.model.specs.Search.{any, bit}
use Rattle.model.specs.Firm.{firm}
use Rattle.model.specs.Task.{AllValid, Table}
use Rattle.model.specs.Jobs.{Book, emptied, empty_in}
use Rattle.model.specs.Claims.{book_row}
use Rattle.model.specs.Advance.{advanced, Entry, advance, withdraw, withdraw_all, with_withdrawn, singleton, after_taken}
use Rattle.model.specs.Refusals.{Answer, taken, refused}
use Rattle.model.specs.Refusals.{Asked, first_late, wrong_empties, wrong_reports, unknown_positions, withdrawing, answer, shown, row_refused, asked, asked_by}
use Rattle.model.specs.Lists.{entered, enter, book_from, answers_from}
use Rattle.run.specs.declared.Run.{Run}
use Rattle.run.specs.Answer as declared
use Rattle.run.specs.Answer.{Taken, Refused}
use Rattle.run.specs.Run.{moved, withdrawn_in}
use Rattle.run.specs.Answer.{answer_meaning, by_answer, row_meaning, shown_by, asked_in64, in64}
use Rattle.run.specs.Numbers.{wrong_empties_in, wrong_reports_in, past_count, unknown_in}
use Rattle.run.specs.Advance.{advance_answer, advance_of}
use Rattle.run.specs.Withdraw.{withdraw_answer, withdraw_of, withdraw_all_of}
use Rattle.run.specs.Row.{row_answer, bytes_in, no_bytes}
use Rattle.run.specs.Row as run
use Rattle.refinement.specs.Entries.{entry_of, answers, run_after_list}
use Rattle.run.proofs.Limits.{Passes, passes-runs, moved_passes, withdrawn-passes}
use Rattle.run.proofs.SetTests.{past-search}
use Rattle.run.proofs.WithdrawExact.{taken-parts, taken-within}
use Rattle.refinement.proofs.EmptiedRelated.{EmptiedRelated, same_row, same-wrong-reports}
use Rattle.refinement.proofs.Related.{Related, same_first, same-any, in-time, same-wrong-empties, emptied-related, related-on, related-out}

-- the run passes 14 and is related to the book
pub record Represents (s : Table) (b : Book) (r : Run) : Type 0 where
  pub passes : Passes r
  pub related : Related s b r

module _ (s : Table) (ok : AllValid s) where
  -- the answer to an advance where no task is late
  abbrev in_time : Book → ℕ → ℕ → Answer
  in_time b x e = cond (wrong_empties s b e) (refused 20 0) (cond (wrong_reports s (emptied s (empty_in b e) b) x) (refused 16 0) taken)

  -- such a run and its book give one answer to an advance ..
  same-advance : (b : Book) (r : Run) → Represents s b r → (x e : ℕ) → answer_meaning (advance_answer r x e) ≡ answer s b (advance x e)
  unfolding advance_answer answer
  same-advance b r h x e =
      rw (passes-runs r h.passes, same-any s ok b r h.related, same_first s ok b r h.related)
      (go (ltb (first_late s b) (length s.tasks)) refl)
    where
      runs : declared.Answer
      runs = cond (wrong_empties_in r e) (Refused 20 0) (cond (wrong_reports_in r e x) (Refused 16 0) Taken)

      meaning-same : (u v : Bool) → answer_meaning (cond u (Refused 20 0) (cond v (Refused 16 0) Taken)) ≡ cond u (refused 20 0) (cond v (refused 16 0) taken)
      meaning-same true v = refl
      meaning-same false true = refl
      meaning-same false false = refl

      go : (t : Bool) → ltb (first_late s b) (length s.tasks) ≡ t
          → answer_meaning (cond t (Refused 15 (suc (first_late s b))) runs) ≡ cond t (refused 15 (suc (first_late s b))) (in_time b x e)
      go true q = refl
      go false q =
          let it = in-time s ok b r h.related q in
          let c : Book = emptied s (empty_in b e) b in
          meaning-same (wrong_empties_in r e) (wrong_reports_in r e x)
          ∙ ap₂ (λ (u v : Bool). cond u (refused 20 0) (cond v (refused 16 0) taken)) (same-wrong-empties s ok b r h.related it e)
          (same-wrong-reports s ok c r e (emptied-related s ok b r h.related it e) x)

  -- .. and to a withdrawal ..
  same-withdraw : (b : Book) (r : Run) → Represents s b r → (t : Bool) → answer_meaning (withdraw_answer r t) ≡ withdrawing s t
  unfolding withdraw_answer
  same-withdraw b r h t =
      rw (passes-runs r h.passes, h.related.table.same-rule, h.related.table.same-tasks)
      (meaning-same (firm s.rule s.tasks) t)
    where
      meaning-same : (u v : Bool) → answer_meaning (cond u (cond v (Refused 22 0) Taken) (Refused 21 0)) ≡ cond u (cond v (refused 22 0) taken) (refused 21 0)
      meaning-same false v = refl
      meaning-same true true = refl
      meaning-same true false = refl

  same-single : (b : Book) (r : Run) → Represents s b r → (p : ℕ) → answer_meaning (withdraw_answer r (unknown_in r p)) ≡ answer s b (withdraw p)
  unfolding answer
  same-single b r h p =
      same-withdraw b r h (unknown_in r p) ∙ ap (λ (n : ℕ). withdrawing s (eqb p 0 || ltb n p)) h.related.table.same_count

  same-several : (b : Book) (r : Run) → Represents s b r → (x : ℕ) → answer_meaning (withdraw_answer r (past_count r.count x)) ≡ answer s b (withdraw_all x)
  unfolding answer unknown_positions
  same-several b r h x =
      same-withdraw b r h (past_count r.count x)
      ∙ (ap (withdrawing s) (past-search r.count x)
      ∙ ap (λ (n : ℕ). withdrawing s (any x (λ p. bit x p && not (ltb p n)))) h.related.table.same_count)

  same_answer : (b : Book) (r : Run) → Represents s b r → (x : Entry) → answer_meaning (entry_of r x).answer ≡ answer s b x
  same_answer b r h (advance x e) = unfold advance_of in same-advance b r h x e
  same_answer b r h (withdraw p) = unfold withdraw_of in same-single b r h p
  same_answer b r h (withdraw_all x) = unfold withdraw_all_of in same-several b r h x

  -- .. and to what is asked of a tick, whatever jobs are empty: the book shows it by `show`, and the run has `now`, or `none` where it is refused ..
  pub same-shown-by :
      (show : Book → List ℕ) (b : Book) (r : Run) → Represents s b r → (e : ℕ) (now none : List ℕ)
      → (EmptiedRelated s (emptied s (empty_in b e) b) r e → now ≡ show (emptied s (empty_in b e) b))
      → shown_by (row_answer r e) (by_answer (row_answer r e) now none) ≡ asked_by show s b e
  unfolding row_answer
  same-shown-by show b r h e now none same =
      rw (passes-runs r h.passes, same-any s ok b r h.related, same_first s ok b r h.related)
      (go (ltb (first_late s b) (length s.tasks)) refl)
    where
      -- what is given by the answer
      gives : declared.Answer → Asked
      gives a = shown_by a (by_answer a now none)

      twenty : (u : Bool) (l : List ℕ) → now ≡ l → gives (cond u (Refused 20 0) Taken) ≡ cond u (row_refused 20 0) (shown l)
      twenty true l q = refl
      twenty false l q = ap shown q

      go : (t : Bool) → ltb (first_late s b) (length s.tasks) ≡ t
          → gives (cond t (Refused 15 (suc (first_late s b))) (cond (wrong_empties_in r e) (Refused 20 0) Taken))
          ≡ cond t (row_refused 15 (suc (first_late s b))) (cond (wrong_empties s b e) (row_refused 20 0) (shown (show (emptied s (empty_in b e) b))))
      go true q = refl
      go false q =
          let it = in-time s ok b r h.related q in
          rw (same-wrong-empties s ok b r h.related it e)
          (twenty (wrong_empties s b e) (show (emptied s (empty_in b e) b)) (same (emptied-related s ok b r h.related it e)))

  -- .. so one row
  pub same_asked : (b : Book) (r : Run) → Represents s b r → (e : ℕ) → row_meaning (run.row_of r e) ≡ asked_in64 (asked s b e)
  unfolding run.row_of asked bytes_in
  same_asked b r h e =
      same-shown-by (λ c. in64 (book_row s c)) b r h e (bytes_in r e) no_bytes (λ seen. ap in64 (same_row s ok (emptied s (empty_in b e) b) r e seen))
      ∙ padded (ltb (first_late s b) (length s.tasks)) (wrong_empties s b e)
    where
      padded : (t u : Bool)
          → cond t (row_refused 15 (suc (first_late s b))) (cond u (row_refused 20 0) (shown (in64 (book_row s (emptied s (empty_in b e) b)))))
          ≡ asked_in64 (cond t (row_refused 15 (suc (first_late s b))) (cond u (row_refused 20 0) (shown (book_row s (emptied s (empty_in b e) b)))))
      padded true u = refl
      padded false true = refl
      padded false false = refl

  -- an answer's number
  number : Answer → ℕ
  number taken = 0
  number (refused n p) = n

  -- where an advance is taken, no task is late
  taken-in-time : (b : Book) (x e : ℕ) → answer s b (advance x e) ≡ taken → ltb (first_late s b) (length s.tasks) ≡ false
  unfolding answer number
  taken-in-time b x e w = go (ltb (first_late s b) (length s.tasks)) (ap number w)
    where
      go : (t : Bool) → number (cond t (refused 15 (suc (first_late s b))) (in_time b x e)) ≡ 0 → t ≡ false
      go true q = absurd (omega arith)
      go false q = refl

  -- a withdrawal of the set x, by a test t of 22 under which x is within the count
  represents-out :
      (b : Book) (r : Run) → Represents s b r → (t : Bool) (x : ℕ) (v : Answer) → (withdraw_answer r t ≡ Taken → past_count r.count x ≡ false)
      → answer_meaning (withdraw_answer r t) ≡ v → Represents s (entered v (with_withdrawn x b) b) (by_answer (withdraw_answer r t) (withdrawn_in x r) r)
  represents-out b r h t x v within q = go (withdraw_answer r t) refl q
    where
      go : (w : declared.Answer) → withdraw_answer r t ≡ w → answer_meaning w ≡ v → Represents s (entered v (with_withdrawn x b) b) (by_answer w (withdrawn_in x r) r)
      go Taken e q =
          rw (sym q) (record {
            passes = withdrawn-passes x r h.passes (within e);
            related = related-out s b r h.related x;
          })
      go (Refused n i) e q = rw (sym q) h

  -- after an entry, taken or refused, a run represents the book after it
  represents-entry : (b : Book) (r : Run) → Represents s b r → (x : Entry) → Represents s (enter s x b) (entry_of r x).run
  unfolding enter after_taken advance_of withdraw_of withdraw_all_of
  represents-entry b r h (advance x e) = go (advance_answer r x e) (same-advance b r h x e)
    where
      go : (w : declared.Answer) → answer_meaning w ≡ answer s b (advance x e)
          → Represents s (entered (answer s b (advance x e)) (advanced s (bit x) (empty_in b e) b) b) (by_answer w (moved (bit x) e r) r)
      go Taken q =
          rw (sym q)
          (let it = in-time s ok b r h.related (taken-in-time b x e (sym q)) in
          record {
            passes = moved_passes (bit x) e r h.passes (λ p l. it p (subst (λ (n : ℕ). p < n) h.related.table.same_count l));
            related = related-on s ok b r h.related it (bit x) e;
          })
      go (Refused n p) q = rw (sym q) h
  represents-entry b r h (withdraw p) = represents-out b r h (unknown_in r p) (singleton p) (answer s b (withdraw p)) (taken-within r p) (same-single b r h p)
  represents-entry b r h (withdraw_all x) =
      represents-out b r h (past_count r.count x) x (answer s b (withdraw_all x)) (λ e. (taken-parts r (past_count r.count x) (ap answer_meaning e)).2)
      (same-several b r h x)

  pub represents-after : (xs : List Entry) (b : Book) (r : Run) → Represents s b r → Represents s (book_from s b xs) (run_after_list r xs)
  unfolding book_from run_after_list
  represents-after [] b r h = h
  represents-after (x ∷ xs) b r h = represents-after xs (enter s x b) (entry_of r x).run (represents-entry b r h x)

  pub same-answers : (xs : List Entry) (b : Book) (r : Run) → Represents s b r → map answer_meaning (answers r xs) ≡ answers_from s b xs
  unfolding answers answers_from
  same-answers [] b r h = refl
  same-answers (x ∷ xs) b r h =
      ap₂ (λ (a : Answer) (l : List Answer). a ∷ l) (same_answer b r h x)
      (same-answers xs (enter s x b) (entry_of r x).run (represents-entry b r h x))
