-- Number 14 of a buffer has the causes listed and no other: the places below the count decide whether it holds a run, and the run's own 14 the rest.
-- (`no-run-exact`: what holds no run; `row-14` and its like: what is answered.)
use mathlib.Core.Path.{◌≡◌, refl, sym, ap, ◌∙◌}
use mathlib.Core.Bool.{Bool, true, false, ◌&&◌, cond, true≢false}
use mathlib.Core.List.{List}
use mathlib.Core.Logic.{◌⊎◌, inl, inr, ⊎_elim, ◌↔◌}
use Prim.Native.Nat.{ℕ, zero, suc, ◌+◌, ◌*◌, ◌≤◌, ◌<◌}
use native.Mathlib.Nat.{not-suc-le-zero, le_of_suc-le-suc}
use native.Mathlib.Omega.{arith}
use lib.ListN.{length, get_or, drop}
use lib.Seq.{drop-drop}
use lib.Dec.{leb, ltb, eqb}
use borrow.Author.Tests.{leb-true, leb-false, lt-leb, eqb-false, ne_eqb}
use Rattle.run.specs.Answer.{Answer}
use Rattle.run.specs.Answer.{Taken, Refused}
use Rattle.run.specs.declared.Run.{Run}
use Rattle.run.specs.Numbers.{RunOut, run_out, unknown_in, past_count, first_late_in, wrong_empties_in, wrong_reports_in}
use Rattle.run.specs.Run.{firm_in}
use Rattle.run.specs.Row.{row_answer, row_of}
use Rattle.run.specs.Sets.{sets_of}
use Rattle.run.specs.Working.{working_of}
use Rattle.run.specs.Advance.{advance_answer, advance_of}
use Rattle.run.specs.Withdraw.{withdraw_answer, withdraw_of, withdraw_all_of}
use Rattle.run.proofs.Limits.{run-decides}
use Rattle.buffers.specs.Encoding.{head_words, each_words, parity_at, kind_at, second_number_at, third_number_at, places, words_to, run_words, is_phase, is_task_state, is_place}
use Rattle.buffers.specs.Encoding.{are_places, count_in, holds_run, run_in, BufferRun, run, none, decode}
use Rattle.buffers.specs.Runs.{row_from, sets_from, entry_from}
use Rattle.model.specs.Advance.{advance, withdraw, withdraw_all}
use Rattle.buffers.specs.Runs.{working_from}
use Rattle.buffers.specs.RunRefused.{NoPhase, NoTaskState, NoRun, short, many, no_place, BufferRunOut}
use Rattle.buffers.proofs.Places.{place_at, by-held, held-short, held-many, held_by}

-- NO PLACE

positive : (b : ℕ) → (b ≡ 0 → ⊥) → 0 < b
positive zero n = absurd (n refl)
positive (suc b) n = omega arith

right-false : (a b : Bool) → b ≡ false → a && b ≡ false
right-false true b e = e
right-false false b e = refl

-- of a kind that is not Working: a second number where the kind has none, or a third
no-numbers : (b c : ℕ) {A : Type 0} → A → eqb c 0 && eqb b 0 ≡ false → (A × (0 < b)) ⊎ (0 < c)
no-numbers b zero a e = inl (a, positive b (eqb-false b 0 e))
no-numbers b (suc c) a e = inr (omega arith)

no-phase : (k b c : ℕ) → is_phase k b c ≡ false → NoPhase k b c
no-phase zero b c e = inr (⊎_elim (λ h. inl h) (λ h. inr (λ z. omega arith, h)) (no-numbers b c (inl refl) e))
no-phase (suc zero) b c e = absurd (true≢false e)
no-phase (suc (suc zero)) b zero e = absurd (true≢false e)
no-phase (suc (suc zero)) b (suc c) e = inr (inr (λ z. omega arith, omega arith))
no-phase (suc (suc (suc zero))) b c e = inr (⊎_elim (λ h. inl h) (λ h. inr (λ z. omega arith, h)) (no-numbers b c (inr refl) e))
no-phase (suc (suc (suc (suc k)))) b c e = inl (omega arith)

-- a second number where the kind has none
no_second : (k b c : ℕ) → (eqb k 1 ≡ false) × (eqb k 2 ≡ false) → 0 < b → is_phase k b c ≡ false
no_second k b c q h =
    right-false (leb k 3) _
    (simp (q.0, q.1, ne_eqb b 0 (λ z. omega arith)) (right-false (eqb c 0) false refl))

no-phase-back : (k b c : ℕ) → NoPhase k b c → is_phase k b c ≡ false
no-phase-back k b c (inl h) = simp (lt-leb k 3 h)
no-phase-back k b c (inr (inl (inl e, h))) = ap (λ (n : ℕ). is_phase n b c) e ∙ no_second 0 b c (refl, refl) h
no-phase-back k b c (inr (inl (inr e, h))) = ap (λ (n : ℕ). is_phase n b c) e ∙ no_second 3 b c (refl, refl) h
no-phase-back k b c (inr (inr (n, h))) =
    right-false (leb k 3) _ (simp (ne_eqb k 1 n, ne_eqb c 0 (λ z. omega arith)))

and-false : (a b : Bool) → a && b ≡ false → (a ≡ false) ⊎ (b ≡ false)
and-false true b e = inr e
and-false false b e = inl refl

no-task-state : (n k b c : ℕ) → is_task_state n k b c ≡ false → NoTaskState n k b c
no-task-state n k b c e = ⊎_elim (λ h. inl (leb-false n 1 h)) (λ h. inr (no-phase k b c h)) (and-false (leb n 1) (is_phase k b c) e)

no-task-state-back : (n k b c : ℕ) → NoTaskState n k b c → is_task_state n k b c ≡ false
no-task-state-back n k b c (inl h) = simp (lt-leb n 1 h)
no-task-state-back n k b c (inr h) = right-false (leb n 1) (is_phase k b c) (no-phase-back k b c h)

-- ONE OF SEVERAL PLACES

-- place p from the second place on
after_first : (p : ℕ) (ws : List ℕ) → is_place (drop (each_words * p) (drop each_words ws)) ≡ is_place (drop (each_words * suc p) ws)
after_first p ws =
    let e : each_words + each_words * p ≡ each_words * suc p = omega arith in
    ap is_place (drop-drop (each_words * p) each_words ws ∙ ap (λ (k : ℕ). drop k ws) e)

some-not : (n : ℕ) (ws : List ℕ) → are_places n ws ≡ false → (p : ℕ) × (p < n) × (is_place (drop (each_words * p) ws) ≡ false)
unfolding are_places
some-not zero ws e = absurd (true≢false e)
some-not (suc n) ws e =
    ⊎_elim
    (λ h. (0, omega arith, h))
    (λ h. let r = some-not n (drop each_words ws) h in let l = r.1 in (suc r.0, omega arith, sym (after_first r.0 ws) ∙ r.2))
    (and-false (is_place ws) (are_places n (drop each_words ws)) e)

not-all : (n : ℕ) (ws : List ℕ) (p : ℕ) → p < n → is_place (drop (each_words * p) ws) ≡ false → are_places n ws ≡ false
unfolding are_places
not-all zero ws p l h = absurd (not-suc-le-zero l)
not-all (suc n) ws zero l h = ap (λ (t : Bool). t && are_places n (drop each_words ws)) h
not-all (suc n) ws (suc p) l h =
    right-false (is_place ws) (are_places n (drop each_words ws)) (not-all n (drop each_words ws) p (le_of_suc-le-suc l) (after_first p ws ∙ h))

-- NO RUN

module _ (ws : List ℕ) where
  -- the words of place p, in the buffer
  in_buffer :
      (p : ℕ) → is_place (drop (each_words * p) (drop head_words ws))
      ≡ is_task_state (get_or ws (words_to p + parity_at) 0) (get_or ws (words_to p + kind_at) 0) (get_or ws (words_to p + second_number_at) 0) (get_or ws (words_to p + third_number_at) 0)
  in_buffer p = ap is_place (drop-drop (each_words * p) head_words ws) ∙ place_at ws (words_to p)

  no_run : holds_run ws ≡ false → NoRun ws
  no_run e = by_length (leb run_words (length ws)) refl
    where
      by_count : run_words ≤ length ws → (t : Bool) → leb (count_in ws) places ≡ t → NoRun ws
      by_count h true c =
          let l = leb-true (count_in ws) places c in
          let q = some-not (count_in ws) (drop head_words ws) (sym (held_by ws h l) ∙ e) in
          no_place q.0 q.1 (no-task-state _ _ _ _ (sym (in_buffer q.0) ∙ q.2))
      by_count h false c = many (leb-false (count_in ws) places c)

      by_length : (t : Bool) → leb run_words (length ws) ≡ t → NoRun ws
      by_length true h = by_count (leb-true run_words (length ws) h) (leb (count_in ws) places) refl
      by_length false h = short (leb-false run_words (length ws) h)

  no-run-back : NoRun ws → holds_run ws ≡ false
  no-run-back x = by_length (leb run_words (length ws)) refl x
    where
      by_count : (h : run_words ≤ length ws) (t : Bool) → leb (count_in ws) places ≡ t → NoRun ws → holds_run ws ≡ false
      by_count h true c (short l) = absurd (omega arith)
      by_count h true c (many l) = held-many ws h l
      by_count h true c (no_place p l n) =
          held_by ws h (leb-true (count_in ws) places c)
          ∙ not-all (count_in ws) (drop head_words ws) p l (in_buffer p ∙ no-task-state-back _ _ _ _ n)
      by_count h false c y = held-many ws h (leb-false (count_in ws) places c)

      by_length : (t : Bool) → leb run_words (length ws) ≡ t → NoRun ws → holds_run ws ≡ false
      by_length true h y = by_count (leb-true run_words (length ws) h) (leb (count_in ws) places) refl y
      by_length false h y = held-short ws (leb-false run_words (length ws) h)

  -- a buffer is decoded to no run exactly if it holds none
  pub no-run-exact : (decode ws ≡ none) ↔ NoRun ws
  no-run-exact = (λ e. there (holds_run ws) refl e, λ x. by-held ws (no-run-back x))
    where
      there : (t : Bool) → holds_run ws ≡ t → decode ws ≡ none → NoRun ws
      there true h e =
          let same : run (run_in ws) ≡ none = sym (by-held ws h) ∙ e in
          absurd (let z : ◌≡◌ {A = ℕ} 0 1 = cc in omega arith)
      there false h e = no_run h

-- 14

-- what 14 comes before is not 14
number-14-by : (t : Bool) (a : Answer) → (a ≡ Refused 14 0 → ⊥) → cond t (Refused 14 0) a ≡ Refused 14 0 → t ≡ true
number-14-by true a n e = refl
number-14-by false a n e = absurd (n e)

not_taken : Taken ≡ Refused 14 0 → ⊥
not_taken e = let z : ◌≡◌ {A = ℕ} 0 1 = cc in omega arith

not-number : (n p : ℕ) → (n ≡ 14 → ⊥) → Refused n p ≡ Refused 14 0 → ⊥
not-number n p h e = h cc

not_late : (t : Bool) (p : ℕ) (a : Answer) → (a ≡ Refused 14 0 → ⊥) → cond t (Refused 15 p) a ≡ Refused 14 0 → ⊥
not_late true p a n e = not-number 15 p (λ z. omega arith) e
not_late false p a n e = n e

not-wrong-empties : (t : Bool) (a : Answer) → (a ≡ Refused 14 0 → ⊥) → cond t (Refused 20 0) a ≡ Refused 14 0 → ⊥
not-wrong-empties true a n e = not-number 20 0 (λ z. omega arith) e
not-wrong-empties false a n e = n e

not-wrong-reports : (t : Bool) → cond t (Refused 16 0) Taken ≡ Refused 14 0 → ⊥
not-wrong-reports true e = not-number 16 0 (λ z. omega arith) e
not-wrong-reports false e = not_taken e

not-withdrawn : (f u : Bool) → cond f (cond u (Refused 22 0) Taken) (Refused 21 0) ≡ Refused 14 0 → ⊥
not-withdrawn true true e = not-number 22 0 (λ z. omega arith) e
not-withdrawn true false e = not_taken e
not-withdrawn false u e = not-number 21 0 (λ z. omega arith) e

module _ (r : Run) (e : ℕ) where
  row_out : row_answer r e ≡ Refused 14 0 → RunOut r
  unfolding row_answer
  row_out q =
      (run-decides r).0
      (number-14-by (run_out r) _
      (not_late (ltb (first_late_in r) r.count) (suc (first_late_in r)) _ (not-wrong-empties (wrong_empties_in r e) Taken not_taken)) q)

  row-out-back : RunOut r → row_answer r e ≡ Refused 14 0
  unfolding row_answer
  row-out-back h = simp ((run-decides r).1 h)

  advance-out : (x : ℕ) → advance_answer r x e ≡ Refused 14 0 → RunOut r
  unfolding advance_answer
  advance-out x q =
      (run-decides r).0
      (number-14-by (run_out r) _
      (not_late (ltb (first_late_in r) r.count) (suc (first_late_in r)) _
      (not-wrong-empties (wrong_empties_in r e) (cond (wrong_reports_in r e x) (Refused 16 0) Taken) (not-wrong-reports (wrong_reports_in r e x)))) q)

  advance-out-back : (x : ℕ) → RunOut r → advance_answer r x e ≡ Refused 14 0
  unfolding advance_answer
  advance-out-back x h = simp ((run-decides r).1 h)

module _ (r : Run) (u : Bool) where
  withdraw-out : withdraw_answer r u ≡ Refused 14 0 → RunOut r
  unfolding withdraw_answer
  withdraw-out q = (run-decides r).0 (number-14-by (run_out r) _ (not-withdrawn (firm_in r) u) q)

  withdraw-out-back : RunOut r → withdraw_answer r u ≡ Refused 14 0
  unfolding withdraw_answer
  withdraw-out-back h = simp ((run-decides r).1 h)

module _ (ws : List ℕ) where
  -- an answer that goes by what the buffer holds is 14 exactly if 14 applies to the buffer
  by-buffer :
      (f : BufferRun → Answer) → f none ≡ Refused 14 0 → (f (run (run_in ws)) ≡ Refused 14 0 → RunOut (run_in ws)) → (RunOut (run_in ws) → f (run (run_in ws)) ≡ Refused 14 0)
      → (f (decode ws) ≡ Refused 14 0) ↔ BufferRunOut ws
  by-buffer f n there back = (λ e. forth (holds_run ws) refl e, λ x. from (holds_run ws) refl x)
    where
      forth : (t : Bool) → holds_run ws ≡ t → f (decode ws) ≡ Refused 14 0 → BufferRunOut ws
      forth true h e = inr (there (sym (ap f (by-held ws h)) ∙ e))
      forth false h e = inl (no_run ws h)

      from : (t : Bool) → holds_run ws ≡ t → BufferRunOut ws → f (decode ws) ≡ Refused 14 0
      from true h (inl x) = absurd (true≢false (sym h ∙ no-run-back ws x))
      from true h (inr x) = ap f (by-held ws h) ∙ back x
      from false h x = ap f (by-held ws h) ∙ n

  -- a row of the buffer is refused with 14 exactly if 14 applies to the buffer
  pub row-14 : (e : ℕ) → ((row_from (decode ws) e).answer ≡ Refused 14 0) ↔ BufferRunOut ws
  unfolding row_of
  row-14 e = by-buffer (λ h. (row_from h e).answer) refl (row_out (run_in ws) e) (row-out-back (run_in ws) e)

  -- and so are its sets
  pub sets-14 : (e : ℕ) → ((sets_from (decode ws) e).answer ≡ Refused 14 0) ↔ BufferRunOut ws
  unfolding sets_of
  sets-14 e = by-buffer (λ h. (sets_from h e).answer) refl (row_out (run_in ws) e) (row-out-back (run_in ws) e)

  -- and so is who works
  pub working-14 : (e : ℕ) → ((working_from (decode ws) e).answer ≡ Refused 14 0) ↔ BufferRunOut ws
  unfolding working_of
  working-14 e = by-buffer (λ h. (working_from h e).answer) refl (row_out (run_in ws) e) (row-out-back (run_in ws) e)

  -- and an advance
  pub advance-14 : (x e : ℕ) → ((entry_from (decode ws) (advance x e) ws).answer ≡ Refused 14 0) ↔ BufferRunOut ws
  unfolding advance_of
  advance-14 x e = by-buffer (λ h. (entry_from h (advance x e) ws).answer) refl (advance-out (run_in ws) e x) (advance-out-back (run_in ws) e x)

  -- and a withdrawal
  pub withdraw-14 : (p : ℕ) → ((entry_from (decode ws) (withdraw p) ws).answer ≡ Refused 14 0) ↔ BufferRunOut ws
  unfolding withdraw_of
  withdraw-14 p =
      by-buffer (λ h. (entry_from h (withdraw p) ws).answer) refl (withdraw-out (run_in ws) (unknown_in (run_in ws) p)) (withdraw-out-back (run_in ws) (unknown_in (run_in ws) p))

  -- of several positions together too
  pub withdraw-all-14 : (x : ℕ) → ((entry_from (decode ws) (withdraw_all x) ws).answer ≡ Refused 14 0) ↔ BufferRunOut ws
  unfolding withdraw_all_of
  withdraw-all-14 x =
      let past = past_count (run_in ws).count x in
      by-buffer (λ h. (entry_from h (withdraw_all x) ws).answer) refl (withdraw-out (run_in ws) past) (withdraw-out-back (run_in ws) past)
