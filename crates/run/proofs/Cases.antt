-- The results of sets, a row, who works, an advance and a withdrawal, case by case, in the order in which code tests.
use mathlib.Core.Path.{◌≡◌, ap, refl, sym, ◌∙◌}
use Rattle.std.specs.Prelude.{Ok, Result}
use mathlib.Core.Bool.{Bool, true, false, cond}
use Prim.Native.Nat.{ℕ, suc, ◌≤◌, ◌<◌}
use lib.Dec.{ltb}
use borrow.Author.Tests.{lt-ltb, le-ltb}
use Rattle.model.specs.Search.{bit}
use Rattle.model.specs.Advance.{singleton}
use Rattle.run.specs.declared.Run.{Run}
use Rattle.run.specs.Answer.{Answer}
use Rattle.run.specs.Answer.{Taken, Refused}
use Rattle.run.specs.Answer.{answer_in, by_answer}
use Rattle.model.specs.declared.refusal.Refusal.{Refusal}
use Rattle.run.specs.Run.{firm_in, moved, withdrawn_in}
use Rattle.run.specs.Numbers.{run_out, past_count, unknown_in, first_late_in, wrong_empties_in, wrong_reports_in}
use Rattle.run.specs.Row.{row_answer, bytes_in, no_bytes, row_of}
use Rattle.run.specs.Sets.{no_sets, sets_in, sets_of}
use Rattle.run.specs.Advance.{advance_answer, advance_of}
use Rattle.run.specs.Withdraw.{withdraw_answer, withdraw_of, withdraw_all_of}
use Rattle.run.specs.Working.{working_in, working_of}
use Rattle.run.proofs.First.{not_taken}

module _ (r : Run) (e : ℕ) where
  -- sets: 14, 15, 20, shown
  pub sets-out : run_out r ≡ true → sets_of r e ≡ record { answer = Refused 14 0; sets = no_sets }
  unfolding sets_of row_answer
  sets-out q = rw q refl

  pub sets-late : run_out r ≡ false → first_late_in r < r.count → sets_of r e ≡ record { answer = Refused 15 (suc (first_late_in r)); sets = no_sets }
  unfolding sets_of row_answer
  sets-late q l = rw (q, lt-ltb (first_late_in r) r.count l) refl

  pub sets-empty : run_out r ≡ false → r.count ≤ first_late_in r → wrong_empties_in r e ≡ true → sets_of r e ≡ record { answer = Refused 20 0; sets = no_sets }
  unfolding sets_of row_answer
  sets-empty q l m = rw (q, le-ltb (first_late_in r) r.count l, m) refl

  pub sets-shown : run_out r ≡ false → r.count ≤ first_late_in r → wrong_empties_in r e ≡ false → sets_of r e ≡ record { answer = Taken; sets = sets_in r e }
  unfolding sets_of row_answer
  sets-shown q l m = rw (q, le-ltb (first_late_in r) r.count l, m) refl

  -- sets and a row, by row's answer
  pub sets-answer : (sets_of r e).answer ≡ row_answer r e
  unfolding sets_of
  sets-answer = refl

  pub sets-refused : (n p : ℕ) → row_answer r e ≡ Refused n p → sets_of r e ≡ record { answer = Refused n p; sets = no_sets }
  unfolding sets_of
  sets-refused n p q = rw q refl

  pub row-shown : row_answer r e ≡ Taken → row_of r e ≡ record { answer = Taken; bytes = bytes_in r e }
  unfolding row_of
  row-shown q = rw q refl

  pub row-refused : (n p : ℕ) → row_answer r e ≡ Refused n p → row_of r e ≡ record { answer = Refused n p; bytes = no_bytes }
  unfolding row_of
  row-refused n p q = rw q refl

  pub sets-by : row_answer r e ≡ Taken → (sets_of r e).sets ≡ sets_in r e
  unfolding sets_of
  sets-by q = rw q refl

  pub sets-taken : row_answer r e ≡ Taken → sets_of r e ≡ record { answer = Taken; sets = (sets_of r e).sets }
  unfolding sets_of
  sets-taken q = rw q refl

  -- who works, by row's answer, which sets have too
  pub working-by : row_answer r e ≡ Taken → (working_of r e).set ≡ working_in r e
  unfolding working_of
  working-by q = rw q refl

  pub working-taken : row_answer r e ≡ Taken → working_of r e ≡ record { answer = Taken; set = (working_of r e).set }
  unfolding working_of
  working-taken q = rw q refl

  pub working-refused : (n p : ℕ) → row_answer r e ≡ Refused n p → working_of r e ≡ record { answer = Refused n p; set = 0 }
  unfolding working_of
  working-refused n p q = rw q refl

  -- a run whose row is shown passes 14
  pub row-passes : row_answer r e ≡ Taken → run_out r ≡ false
  unfolding row_answer
  row-passes q = go (run_out r) refl
    where
      go : (t : Bool) → run_out r ≡ t → t ≡ false
      go false i = refl
      go true i = let z : Refused 14 0 ≡ Taken = sym (rw i) ∙ q in absurd (not_taken 14 0 z)

  -- an advance: as the row, then 16, taken ..
  module _ (x : ℕ) where
    by_row : advance_answer r x e ≡ by_answer (row_answer r e) (cond (wrong_reports_in r e x) (Refused 16 0) Taken) (row_answer r e)
    unfolding advance_answer row_answer
    by_row = go (run_out r) (ltb (first_late_in r) r.count) (wrong_empties_in r e)
      where
        late : Answer
        late = Refused 15 (suc (first_late_in r))

        last : Answer
        last = cond (wrong_reports_in r e x) (Refused 16 0) Taken

        go : (a b c : Bool)
            → cond a (Refused 14 0) (cond b late (cond c (Refused 20 0) last))
            ≡ by_answer (cond a (Refused 14 0) (cond b late (cond c (Refused 20 0) Taken))) last
            (cond a (Refused 14 0) (cond b late (cond c (Refused 20 0) Taken)))
        go true b c = refl
        go false true c = refl
        go false false true = refl
        go false false false = refl

    -- .. and the run that goes with the answer
    pub advance-taken : row_answer r e ≡ Taken → wrong_reports_in r e x ≡ false → advance_of r x e ≡ record { answer = Taken; run = moved (bit x) e r }
    unfolding advance_of
    advance-taken q m = rw (by_row, q, m) refl

    pub advance-misreported : row_answer r e ≡ Taken → wrong_reports_in r e x ≡ true → advance_of r x e ≡ record { answer = Refused 16 0; run = r }
    unfolding advance_of
    advance-misreported q m = rw (by_row, q, m) refl

    pub advance-refused : (n p : ℕ) → row_answer r e ≡ Refused n p → advance_of r x e ≡ record { answer = Refused n p; run = r }
    unfolding advance_of
    advance-refused n p q = rw (by_row, q) refl

-- a withdrawal: 14 or 21, whichever its positions are; ..
module _ (r : Run) where
  pub withdraw-refused : (unknown : Bool) (n q : ℕ) → withdraw_answer r false ≡ Refused n q → withdraw_answer r unknown ≡ Refused n q
  unfolding withdraw_answer
  withdraw-refused unknown n q = go (run_out r) (firm_in r)
    where
      go : (out firm : Bool) → cond out (Refused 14 0) (cond firm (cond false (Refused 22 0) Taken) (Refused 21 0)) ≡ Refused n q
          → cond out (Refused 14 0) (cond firm (cond unknown (Refused 22 0) Taken) (Refused 21 0)) ≡ Refused n q
      go true firm e = e
      go false true e = absurd (not_taken n q (sym e))
      go false false e = e

  pub may-withdraw : (w : Result (Unit {0}) Refusal) → answer_in w ≡ withdraw_answer r false → w ≡ Ok tt → (run_out r ≡ false) × (firm_in r ≡ true)
  unfolding withdraw_answer
  may-withdraw w answer was = go (run_out r) (firm_in r) (sym answer ∙ ap answer_in was)
    where
      go : (out firm : Bool) → cond out (Refused 14 0) (cond firm (cond false (Refused 22 0) Taken) (Refused 21 0)) ≡ Taken → (out ≡ false) × (firm ≡ true)
      go true firm e = absurd (not_taken 14 0 e)
      go false true e = (refl, refl)
      go false false e = absurd (not_taken 21 0 e)

-- .. and 14, 21, 22, taken
module _ (r : Run) (p : ℕ) where
  pub withdraw-first : (n q : ℕ) → withdraw_answer r (unknown_in r p) ≡ Refused n q → withdraw_of r p ≡ record { answer = Refused n q; run = r }
  unfolding withdraw_of
  withdraw-first n q e = rw e refl

  pub withdraw-unknown : run_out r ≡ false → firm_in r ≡ true → unknown_in r p ≡ true → withdraw_of r p ≡ record { answer = Refused 22 0; run = r }
  unfolding withdraw_of withdraw_answer
  withdraw-unknown q f u = rw (q, f, u) refl

  pub withdraw-taken :
      run_out r ≡ false → firm_in r ≡ true → unknown_in r p ≡ false → withdraw_of r p ≡ record { answer = Taken; run = withdrawn_in (singleton p) r }
  unfolding withdraw_of withdraw_answer
  withdraw-taken q f u = rw (q, f, u) refl

-- of several together: the same
module _ (r : Run) (x : ℕ) where
  pub withdraw-all-first : (n q : ℕ) → withdraw_answer r (past_count r.count x) ≡ Refused n q → withdraw_all_of r x ≡ record { answer = Refused n q; run = r }
  unfolding withdraw_all_of
  withdraw-all-first n q e = rw e refl

  pub withdraw-all-past : run_out r ≡ false → firm_in r ≡ true → past_count r.count x ≡ true → withdraw_all_of r x ≡ record { answer = Refused 22 0; run = r }
  unfolding withdraw_all_of withdraw_answer
  withdraw-all-past q f u = rw (q, f, u) refl

  pub withdraw-all-taken :
      run_out r ≡ false → firm_in r ≡ true → past_count r.count x ≡ false → withdraw_all_of r x ≡ record { answer = Taken; run = withdrawn_in x r }
  unfolding withdraw_all_of withdraw_answer
  withdraw-all-taken q f u = rw (q, f, u) refl
