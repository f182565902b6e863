-- A run that has met 15 stays there: an advance or a row is refused with the same 15, and a withdrawal changes the withdrawn set alone.
use mathlib.Core.Bool.{Bool, cond, false, true, ◌||◌}
use mathlib.Core.List.{List, [], ◌∷◌}
use mathlib.Core.Logic.{◌⊎◌, inl, inr}
use mathlib.Core.Path.{◌≡◌, refl, ap, ◌∙◌}
use Prim.Native.Nat.{ℕ, suc}
use native.Mathlib.Omega.{arith}
use lib.Dec.{eqb, ltb}
use Rattle.model.specs.Advance.{Entry, advance, withdraw, withdraw_all, singleton}
use Rattle.model.specs.Refusals as model
use Rattle.run.specs.declared.Run.{Run}
use Rattle.run.specs.Answer.{Answer}
use Rattle.run.specs.Answer.{Taken, Refused}
use Rattle.run.specs.Advance.{advance_answer, advance_of}
use Rattle.run.specs.Answer.{answer_meaning, by_answer}
use Rattle.run.specs.Numbers.{first_late_in, past_count, run_out, unknown_in, wrong_empties_in, wrong_reports_in}
use Rattle.run.specs.Row.{row_answer, row_of}
use Rattle.run.specs.Run.{firm_in, withdrawn_in}
use Rattle.run.specs.Sets.{sets_of}
use Rattle.run.specs.Withdraw.{withdraw_all_of, withdraw_answer, withdraw_of}
use Rattle.run.proofs.Limits.{passes-if, passes-runs, withdrawn-passes}
use Rattle.run.proofs.WithdrawExact.{taken-parts, taken-within}
use Rattle.refinement.specs.Entries.{entry_of, run_after_list}
use Rattle.refinement.specs.LateRun.{LateStays}

-- a run that passes 14, with position p the lowest late one, and what it was before some withdrawals
record Late (run : Run) (p : ℕ) (r : Run) : Type 0 where
  passes : run_out r ≡ false
  late : ltb (first_late_in r) r.count ≡ true
  lowest : suc (first_late_in r) ≡ p
  count : r.count ≡ run.count
  firm : firm_in r ≡ firm_in run
  tasks : r.tasks ≡ run.tasks

-- an answer that is 14, 15 or another has the number 15 only where it is 15
module _ (r : Run) (p : ℕ) where
  late_by : (rest : Answer) → ((n q : ℕ) → rest ≡ Refused n q → n ≡ 15 → ⊥)
      → answer_meaning (cond (run_out r) (Refused 14 0) (cond (ltb (first_late_in r) r.count) (Refused 15 (suc (first_late_in r))) rest)) ≡ model.refused 15 p
      → Late r p r
  late_by rest other e = go (run_out r) refl (ltb (first_late_in r) r.count) refl e
    where
      go : (a : Bool) → run_out r ≡ a → (b : Bool) → ltb (first_late_in r) r.count ≡ b
          → answer_meaning (cond a (Refused 14 0) (cond b (Refused 15 (suc (first_late_in r))) rest)) ≡ model.refused 15 p → Late r p r
      go true x b y e = absurd (let z : ◌≡◌ {A = ℕ} 14 15 = cc in omega arith)
      go false x true y e = record { passes = x; late = y; lowest = cc; count = refl; firm = refl; tasks = refl }
      go false x false y e = absurd (not-15 rest refl e)
        where
          not-15 : (a : Answer) → rest ≡ a → answer_meaning a ≡ model.refused 15 p → ⊥
          not-15 Taken s e = let z : ◌≡◌ {A = ℕ} 0 1 = cc in omega arith
          not-15 (Refused n q) s e = other n q s cc

  -- 20 and 16 are not 15
  twenty : (u : Bool) (rest : Answer) → ((n q : ℕ) → rest ≡ Refused n q → n ≡ 15 → ⊥) → (n q : ℕ) → cond u (Refused 20 0) rest ≡ Refused n q → n ≡ 15 → ⊥
  twenty true rest other n q e f = let z : ◌≡◌ {A = ℕ} 20 n = cc in omega arith
  twenty false rest other n q e f = other n q e f

  sixteen : (u : Bool) (n q : ℕ) → cond u (Refused 16 0) Taken ≡ Refused n q → n ≡ 15 → ⊥
  sixteen true n q e f = let z : ◌≡◌ {A = ℕ} 16 n = cc in omega arith
  sixteen false n q e f = let z : ◌≡◌ {A = ℕ} 0 1 = cc in omega arith

  none : (n q : ℕ) → Taken ≡ Refused n q → n ≡ 15 → ⊥
  none n q e f = let z : ◌≡◌ {A = ℕ} 0 1 = cc in omega arith

  by_row : (e : ℕ) → answer_meaning (row_of r e).answer ≡ model.refused 15 p → Late r p r
  unfolding row_of row_answer
  by_row e h = late_by (cond (wrong_empties_in r e) (Refused 20 0) Taken) (twenty (wrong_empties_in r e) Taken none) h

  by-advance : (x e : ℕ) → answer_meaning (advance_of r x e).answer ≡ model.refused 15 p → Late r p r
  unfolding advance_of advance_answer
  by-advance x e h =
      late_by (cond (wrong_empties_in r e) (Refused 20 0) (cond (wrong_reports_in r e x) (Refused 16 0) Taken))
      (twenty (wrong_empties_in r e) (cond (wrong_reports_in r e x) (Refused 16 0) Taken) (sixteen (wrong_reports_in r e x))) h

module _ (run : Run) (p : ℕ) where
  -- a late run answers 15 to an advance and to a row
  late-advance : (r : Run) → Late run p r → (x e : ℕ) → advance_answer r x e ≡ Refused 15 p
  unfolding advance_answer
  late-advance r h x e = rw (h.passes, h.late, h.lowest)

  late-row : (r : Run) → Late run p r → (e : ℕ) → row_answer r e ≡ Refused 15 p
  unfolding row_answer
  late-row r h e = rw (h.passes, h.late, h.lowest)

  -- and to a withdrawal what it answered before
  late-withdraw : (r : Run) → Late run p r → run_out run ≡ false → (t : Bool) → withdraw_answer r t ≡ withdraw_answer run t
  unfolding withdraw_answer
  late-withdraw r h out t = rw (h.passes, out, h.firm)

  -- it stays late through a withdrawal ..
  withdrawn-late : (r : Run) → Late run p r → (x : ℕ) → past_count r.count x ≡ false → Late run p (withdrawn_in x r)
  unfolding first_late_in withdrawn_in
  withdrawn-late r h x within = record {
    passes = passes-runs (withdrawn_in x r) (withdrawn-passes x r (passes-if r h.passes) within);
    late = h.late;
    lowest = h.lowest;
    count = h.count;
    firm = h.firm;
    tasks = h.tasks;
  }

  withdraw-late : (r : Run) → Late run p r → (t : Bool) (x : ℕ) → (withdraw_answer r t ≡ Taken → past_count r.count x ≡ false)
      → Late run p (by_answer (withdraw_answer r t) (withdrawn_in x r) r)
  withdraw-late r h t x within = go (withdraw_answer r t) refl
    where
      go : (a : Answer) → withdraw_answer r t ≡ a → Late run p (by_answer a (withdrawn_in x r) r)
      go Taken e = withdrawn-late r h x (within e)
      go (Refused n q) e = h

  -- .. and so through every entry ..
  entry-late : (r : Run) → Late run p r → (x : Entry) → Late run p (entry_of r x).run
  unfolding advance_of withdraw_of withdraw_all_of
  entry-late r h (advance x e) = rw (late-advance r h x e) h
  entry-late r h (withdraw q) = withdraw-late r h (unknown_in r q) (singleton q) (taken-within r q)
  entry-late r h (withdraw_all x) = withdraw-late r h (past_count r.count x) x (λ e. (taken-parts r (past_count r.count x) (ap answer_meaning e)).2)

  -- .. and every list
  list-late : (xs : List Entry) (r : Run) → Late run p r → Late run p (run_after_list r xs)
  unfolding run_after_list
  list-late [] r h = h
  list-late (x ∷ xs) r h = list-late xs (entry_of r x).run (entry-late r h x)

  stays : (r : Run) → run_out run ≡ false → Late run p r → LateStays run p r
  unfolding advance_of row_of sets_of withdraw_of withdraw_all_of
  stays r out h = record {
    advance = λ x e. rw (late-advance r h x e);
    row = λ e. rw (late-row r h e);
    sets = λ e. rw (late-row r h e);
    withdraw = λ q. late-withdraw r h out (unknown_in r q) ∙ ap (λ (n : ℕ). withdraw_answer run (eqb q 0 || ltb n q)) h.count;
    withdraw-all = λ x. late-withdraw r h out (past_count r.count x) ∙ ap (λ (n : ℕ). withdraw_answer run (past_count n x)) h.count;
    tasks = h.tasks;
  }

-- THEOREM: a run that answered a row or an advance with 15 and position p stays there through every list of entries
pub late-stays :
    (r : Run) (p x e : ℕ) → (answer_meaning (row_of r e).answer ≡ model.refused 15 p) ⊎ (answer_meaning (advance_of r x e).answer ≡ model.refused 15 p)
    → (xs : List Entry) → LateStays r p (run_after_list r xs)
late-stays r p x e met xs = go met
  where
    there : Late r p r → LateStays r p (run_after_list r xs)
    there h = stays r p (run_after_list r xs) h.passes (list-late r p xs r h)

    go : (answer_meaning (row_of r e).answer ≡ model.refused 15 p) ⊎ (answer_meaning (advance_of r x e).answer ≡ model.refused 15 p)
        → LateStays r p (run_after_list r xs)
    go (inl h) = there (by_row r p e h)
    go (inr h) = there (by-advance r p x e h)
