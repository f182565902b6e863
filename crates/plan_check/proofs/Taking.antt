-- The contract of a row taken: it is refused with n and t exactly if n is the first number that applies, with tick t; taken or accepted exactly if none
-- applies; and what it returns.
use mathlib.Core.Bool.{Bool, cond, false, not, true}
use mathlib.Core.List.{List, map, ◌++◌}
use mathlib.Core.Logic.{◌⊎◌, ◌↔◌, ⊎_elim}
use mathlib.Core.Path.{ap, refl, subst, subst⁻¹, sym, ◌∙◌, ◌≡◌}
use Prim.Native.Nat.{◌<◌, suc, ℕ, ◌≤◌}
use native.Mathlib.Omega.{arith}
use lib.Dec.{eqb, leb}
use lib.ListN.{drop, length, length-map, take}
use lib.Seq.{drop_at, length-take-le}
use borrow.Author.Tests.{eqb-false, eqb-true, leb-false, leb-true, ltb-true}
use Rattle.std.proofs.lemmas.Bool.{false_from_ne_true}
use Rattle.table.proofs.Decide.{decides-lt, fails}
use Rattle.table.specs.Limits.{HorizonOut, horizon_out, most_horizon}
use Rattle.run.specs.Run.{tasks_in}
use Rattle.run.specs.declared.Run.{Run}
use Rattle.plan_check.specs.Extent.{Ready}
use Rattle.plan_check.specs.Numbers.{Applies, eleven, fourteen, late-last, late-now, nine, ten, twenty-four, twenty-six}
use Rattle.plan_check.specs.Numbers.{AnyLate, Differs, EarlierFault, Faulty, First, Last, NoneApplies, StateOut, after_row, differs, missed, state_out}
use Rattle.plan_check.specs.Row.{faulty, worked_row}
use Rattle.plan_check.specs.RowAnswer.{state_by_answer, row_answer_meaning}
use Rattle.plan_check.specs.RowAnswer as meaning
use Rattle.plan_check.specs.State.{horizon_in, note_of, noting, start_in}
use Rattle.plan_check.specs.CheckRow.{CheckRowOf, answer_at, final_answer, check_row_answer, check_row_of}
use Rattle.plan_check.specs.RowAnswer.{Answer}
use Rattle.plan_check.specs.RowAnswer.{Accepted, Refused, Taken}
use Rattle.plan_check.specs.RowAnswer.{Entered}
use Rattle.plan_check.specs.declared.SuppliedPlan.{SuppliedPlan}
use Rattle.plan_check.proofs.Deciding.{differs-decides, faulty-decides, missed-decides, state-decides}
use Rattle.plan_check.proofs.PlanExtent.{all-places, ready-again}
use Rattle.plan_check.proofs.Order.{first-only, later, later-tick, no-earlier}
use Rattle.plan_check.proofs.Passing.{state-if, state-passes, worked-passes, worked-tasks}
use Rattle.plan_check.proofs.StateTests.{passes-run}
use Rattle.plan_check.proofs.Working.{horizon-kept, worked-count, worked-length, worked-past}

module _ (w : SuppliedPlan) (row : List ℕ) where
  abbrev r : Run
  r = w.run

  abbrev t : ℕ
  t = w.tick

  -- what a row leaves, where no task is late, passes 14 again
  next-passes : state_out r ≡ false → missed r ≡ false → state_out (worked_row r row) ≡ false
  next-passes e m = state-passes (worked_row r row) (worked-passes r row (state-if r e) m)

  -- THE MEANING OF AN ANSWER

  abbrev Right : Answer → Type 0
  Right Taken = NoneApplies w row × (suc t < horizon_in r)
  Right Accepted = NoneApplies w row × Last w
  Right (Refused n s) = First w row n s

  horizon-after : horizon_in (worked_row r row) ≡ horizon_in r
  horizon-after = horizon-kept r (worked_row r row) (worked-tasks r row)

  right-14 : StateOut r → First w row 14 0
  right-14 h = (fourteen h, earlier)
    where
      earlier : (m s : ℕ) → EarlierFault m s 14 0 → ¬ Applies w row m s
      earlier m s x (fourteen y) = no-earlier 14 0 14 0 (omega arith) (omega arith) (omega arith) x
      earlier m s x (nine y) = later 9 0 14 0 (omega arith) x
      earlier m s x (ten y) = later 10 0 14 0 (omega arith) x
      earlier m s x (eleven y) = later 11 0 14 0 (omega arith) x
      earlier m s x (late-now y) = later 25 t 14 0 (omega arith) x
      earlier m s x (late-last l y) = later 25 (suc t) 14 0 (omega arith) x
      earlier m s x (twenty-four y) = later 24 t 14 0 (omega arith) x
      earlier m s x (twenty-six l y) = later 26 (suc t) 14 0 (omega arith) x

  module _ (n14 : ¬ StateOut r) where
    right-9 : HorizonOut (horizon_in r) → First w row 9 0
    right-9 h = (nine h, earlier)
      where
        earlier : (m s : ℕ) → EarlierFault m s 9 0 → ¬ Applies w row m s
        earlier m s x (fourteen y) = n14 y
        earlier m s x (nine y) = no-earlier 9 0 9 0 (omega arith) (omega arith) (omega arith) x
        earlier m s x (ten y) = later 10 0 9 0 (omega arith) x
        earlier m s x (eleven y) = later 11 0 9 0 (omega arith) x
        earlier m s x (late-now y) = later 25 t 9 0 (omega arith) x
        earlier m s x (late-last l y) = later 25 (suc t) 9 0 (omega arith) x
        earlier m s x (twenty-four y) = later 24 t 9 0 (omega arith) x
        earlier m s x (twenty-six l y) = later 26 (suc t) 9 0 (omega arith) x

    module _ (n9 : ¬ HorizonOut (horizon_in r)) where
      right-10 : horizon_in r ≤ t → First w row 10 0
      right-10 h = (ten h, earlier)
        where
          earlier : (m s : ℕ) → EarlierFault m s 10 0 → ¬ Applies w row m s
          earlier m s x (fourteen y) = n14 y
          earlier m s x (nine y) = n9 y
          earlier m s x (ten y) = no-earlier 10 0 10 0 (omega arith) (omega arith) (omega arith) x
          earlier m s x (eleven y) = later 11 0 10 0 (omega arith) x
          earlier m s x (late-now y) = later 25 t 10 0 (omega arith) x
          earlier m s x (late-last l y) = later 25 (suc t) 10 0 (omega arith) x
          earlier m s x (twenty-four y) = later 24 t 10 0 (omega arith) x
          earlier m s x (twenty-six l y) = later 26 (suc t) 10 0 (omega arith) x

      module _ (n10 : t < horizon_in r) where
        right-11 : ¬ (length row ≡ r.cores) → First w row 11 0
        right-11 h = (eleven h, earlier)
          where
            earlier : (m s : ℕ) → EarlierFault m s 11 0 → ¬ Applies w row m s
            earlier m s x (fourteen y) = n14 y
            earlier m s x (nine y) = n9 y
            earlier m s x (ten y) = omega (arith, n10)
            earlier m s x (eleven y) = no-earlier 11 0 11 0 (omega arith) (omega arith) (omega arith) x
            earlier m s x (late-now y) = later 25 t 11 0 (omega arith) x
            earlier m s x (late-last l y) = later 25 (suc t) 11 0 (omega arith) x
            earlier m s x (twenty-four y) = later 24 t 11 0 (omega arith) x
            earlier m s x (twenty-six l y) = later 26 (suc t) 11 0 (omega arith) x

        module _ (n11 : length row ≡ r.cores) where
          right-25 : AnyLate r → First w row 25 t
          right-25 h = (late-now h, earlier)
            where
              earlier : (m s : ℕ) → EarlierFault m s 25 t → ¬ Applies w row m s
              earlier m s x (fourteen y) = n14 y
              earlier m s x (nine y) = n9 y
              earlier m s x (ten y) = omega (arith, n10)
              earlier m s x (eleven y) = y n11
              earlier m s x (late-now y) = no-earlier 25 t 25 t (omega arith) (omega arith) (omega arith) x
              earlier m s x (late-last l y) = later-tick 25 (suc t) 25 t refl (omega arith) x
              earlier m s x (twenty-four y) = no-earlier 24 t 25 t (omega arith) (omega arith) (omega arith) x
              earlier m s x (twenty-six l y) = later-tick 26 (suc t) 25 t refl (omega arith) x

          module _ (now : ¬ AnyLate r) where
            right-24 : Faulty r row → First w row 24 t
            right-24 h = (twenty-four h, earlier)
              where
                earlier : (m s : ℕ) → EarlierFault m s 24 t → ¬ Applies w row m s
                earlier m s x (fourteen y) = n14 y
                earlier m s x (nine y) = n9 y
                earlier m s x (ten y) = omega (arith, n10)
                earlier m s x (eleven y) = y n11
                earlier m s x (late-now y) = now y
                earlier m s x (late-last l y) = later-tick 25 (suc t) 24 t refl (omega arith) x
                earlier m s x (twenty-four y) = no-earlier 24 t 24 t (omega arith) (omega arith) (omega arith) x
                earlier m s x (twenty-six l y) = later-tick 26 (suc t) 24 t refl (omega arith) x

            module _ (n24 : ¬ Faulty r row) where
              right-before : suc t < horizon_in r → Right Taken
              right-before h = (none, h)
                where
                  none : NoneApplies w row
                  none m s (fourteen y) = n14 y
                  none m s (nine y) = n9 y
                  none m s (ten y) = omega (arith, n10)
                  none m s (eleven y) = y n11
                  none m s (late-now y) = now y
                  none m s (late-last l y) = omega (arith, h)
                  none m s (twenty-four y) = n24 y
                  none m s (twenty-six l y) = omega (arith, h)

              module _ (last : Last w) where
                right-25-last : AnyLate (worked_row r row) → First w row 25 (suc t)
                right-25-last h = (late-last last h, earlier)
                  where
                    earlier : (m s : ℕ) → EarlierFault m s 25 (suc t) → ¬ Applies w row m s
                    earlier m s x (fourteen y) = n14 y
                    earlier m s x (nine y) = n9 y
                    earlier m s x (ten y) = omega (arith, n10)
                    earlier m s x (eleven y) = y n11
                    earlier m s x (late-now y) = now y
                    earlier m s x (late-last l y) = no-earlier 25 (suc t) 25 (suc t) (omega arith) (omega arith) (omega arith) x
                    earlier m s x (twenty-four y) = n24 y
                    earlier m s x (twenty-six l y) = no-earlier 26 (suc t) 25 (suc t) (omega arith) (omega arith) (omega arith) x

                module _ (then : ¬ AnyLate (worked_row r row)) where
                  right-26 : Differs (after_row w row) → First w row 26 (suc t)
                  right-26 h = (twenty-six last h, earlier)
                    where
                      earlier : (m s : ℕ) → EarlierFault m s 26 (suc t) → ¬ Applies w row m s
                      earlier m s x (fourteen y) = n14 y
                      earlier m s x (nine y) = n9 y
                      earlier m s x (ten y) = omega (arith, n10)
                      earlier m s x (eleven y) = y n11
                      earlier m s x (late-now y) = now y
                      earlier m s x (late-last l y) = then y
                      earlier m s x (twenty-four y) = n24 y
                      earlier m s x (twenty-six l y) = no-earlier 26 (suc t) 26 (suc t) (omega arith) (omega arith) (omega arith) x

                  right-last : ¬ Differs (after_row w row) → Right Accepted
                  right-last n26 = (none, last)
                    where
                      none : NoneApplies w row
                      none m s (fourteen y) = n14 y
                      none m s (nine y) = n9 y
                      none m s (ten y) = omega (arith, n10)
                      none m s (eleven y) = y n11
                      none m s (late-now y) = now y
                      none m s (late-last l y) = then y
                      none m s (twenty-four y) = n24 y
                      none m s (twenty-six l y) = n26 y

              -- by the state that the row leaves
              right-closed : (last : Last w) → Right (final_answer (after_row w row))
              unfolding final_answer
              right-closed last = go (missed (worked_row r row)) refl (differs (after_row w row)) refl
                where
                  go : (a : Bool) → missed (worked_row r row) ≡ a → (b : Bool) → differs (after_row w row) ≡ b
                      → Right (cond a (Refused 25 (suc t)) (cond b (Refused 26 (suc t)) Accepted))
                  go true e b f = right-25-last last ((missed-decides (worked_row r row)).0 e)
                  go false e true f = right-26 last (fails _ _ (missed-decides (worked_row r row)) e) ((differs-decides (after_row w row)).0 f)
                  go false e false f =
                      right-last last (fails _ _ (missed-decides (worked_row r row)) e) (fails _ _ (differs-decides (after_row w row)) f)

              right_answer : Right (answer_at (after_row w row))
              unfolding answer_at
              right_answer = go (eqb (suc t) (horizon_in (worked_row r row))) refl
                where
                  go : (a : Bool) → eqb (suc t) (horizon_in (worked_row r row)) ≡ a → Right (cond a (final_answer (after_row w row)) Taken)
                  go true e = right-closed (eqb-true (suc t) (horizon_in (worked_row r row)) e ∙ horizon-after)
                  go false e =
                      right-before (before (λ q. eqb-false (suc t) (horizon_in (worked_row r row)) e (q ∙ sym horizon-after)))
                    where
                      before : ¬ (suc t ≡ horizon_in r) → suc t < horizon_in r
                      before n = omega (arith, n10, n)

  -- THE LAW
  take-right : Right (check_row_answer w row)
  unfolding check_row_answer
  take-right =
      go (state_out r) refl (horizon_out (horizon_in r)) refl (leb (horizon_in r) t) refl (eqb (length row) r.cores) refl (missed r) refl (faulty r row) refl
    where
      go : (a : Bool) → state_out r ≡ a → (b : Bool) → horizon_out (horizon_in r) ≡ b → (c : Bool) → leb (horizon_in r) t ≡ c
          → (d : Bool) → eqb (length row) r.cores ≡ d → (e : Bool) → missed r ≡ e → (f : Bool) → faulty r row ≡ f
          → Right (cond a (Refused 14 0) (cond b (Refused 9 0) (cond c (Refused 10 0) (cond (not d) (Refused 11 0)
          (cond e (Refused 25 t) (cond f (Refused 24 t) (answer_at (after_row w row))))))))
      go true qa b qb c qc d qd e qe f qf = right-14 ((state-decides r).0 qa)
      go false qa true qb c qc d qd e qe f qf = right-9 (fails _ _ (state-decides r) qa) (ltb-true most_horizon (horizon_in r) qb)
      go false qa false qb true qc d qd e qe f qf =
          right-10 (fails _ _ (state-decides r) qa) (fails _ _ (decides-lt most_horizon (horizon_in r)) qb) (leb-true (horizon_in r) t qc)
      go false qa false qb false qc false qd e qe f qf =
          right-11 (fails _ _ (state-decides r) qa) (fails _ _ (decides-lt most_horizon (horizon_in r)) qb) (leb-false (horizon_in r) t qc)
          (eqb-false (length row) r.cores qd)
      go false qa false qb false qc true qd true qe f qf =
          right-25 (fails _ _ (state-decides r) qa) (fails _ _ (decides-lt most_horizon (horizon_in r)) qb) (leb-false (horizon_in r) t qc)
          (eqb-true (length row) r.cores qd) ((missed-decides r).0 qe)
      go false qa false qb false qc true qd false qe true qf =
          right-24 (fails _ _ (state-decides r) qa) (fails _ _ (decides-lt most_horizon (horizon_in r)) qb) (leb-false (horizon_in r) t qc)
          (eqb-true (length row) r.cores qd) (fails _ _ (missed-decides r) qe) ((faulty-decides r row).0 qf)
      go false qa false qb false qc true qd false qe false qf =
          right_answer (fails _ _ (state-decides r) qa) (fails _ _ (decides-lt most_horizon (horizon_in r)) qb) (leb-false (horizon_in r) t qc)
          (eqb-true (length row) r.cores qd) (fails _ _ (missed-decides r) qe) (fails _ _ (faulty-decides r row) qf)

  refused-exact : (a : Answer) → Right a → (n s : ℕ) → (row_answer_meaning a ≡ meaning.refused n s) ↔ First w row n s
  refused-exact Taken h n s = (λ e. absurd (let z : ◌≡◌ {A = ℕ} 0 1 = cc in omega arith), λ f. absurd (h.0 n s f.0))
  refused-exact Accepted h n s = (λ e. absurd (let z : ◌≡◌ {A = ℕ} 0 1 = cc in omega arith), λ f. absurd (h.0 n s f.0))
  refused-exact (Refused m u) h n s = (
    λ e. let a : m ≡ n = cc in let b : u ≡ s = cc in rw (a, b) at h,
    λ f. let x = first-only w row m u n s h f in rw (x.0, x.1),
  )

  taken-exact : (a : Answer) → Right a → (row_answer_meaning a ≡ meaning.taken) ↔ (NoneApplies w row × (suc t < horizon_in r))
  taken-exact Taken h = (λ e. h, λ n. refl)
  taken-exact Accepted h = (λ e. absurd (let z : ◌≡◌ {A = ℕ} 0 1 = cc in omega arith), λ n. absurd (omega (arith, n.1, h.1)))
  taken-exact (Refused m u) h = (λ e. absurd (let z : ◌≡◌ {A = ℕ} 0 1 = cc in omega arith), λ n. absurd (n.0 m u h.0))

  accepted-exact : (a : Answer) → Right a → (row_answer_meaning a ≡ meaning.accepted) ↔ (NoneApplies w row × Last w)
  accepted-exact Taken h = (λ e. absurd (let z : ◌≡◌ {A = ℕ} 0 1 = cc in omega arith), λ n. absurd (omega (arith, n.1, h.1)))
  accepted-exact Accepted h = (λ e. h, λ n. refl)
  accepted-exact (Refused m u) h = (λ e. absurd (let z : ◌≡◌ {A = ℕ} 0 1 = cc in omega arith), λ n. absurd (n.0 m u h.0))

  -- THE VALUE BESIDE AN ANSWER

  -- the row was taken, as the last or before
  abbrev Continues : Answer → Type 0
  Continues a = (row_answer_meaning a ≡ meaning.taken) ⊎ (row_answer_meaning a ≡ meaning.accepted)

  by-continues : (a : Answer) → Continues a → state_by_answer a (after_row w row) w ≡ after_row w row
  by-continues Taken h = refl
  by-continues Accepted h = refl
  by-continues (Refused n s) h = ⊎_elim (λ e. absurd (let z : ◌≡◌ {A = ℕ} 0 1 = cc in omega arith)) (λ e. absurd (let z : ◌≡◌ {A = ℕ} 0 1 = cc in omega arith)) h

  by-refused : (a : Answer) (n s : ℕ) → row_answer_meaning a ≡ meaning.refused n s → state_by_answer a (after_row w row) w ≡ w
  by-refused Taken n s e = absurd (let z : ◌≡◌ {A = ℕ} 0 1 = cc in omega arith)
  by-refused Accepted n s e = absurd (let z : ◌≡◌ {A = ℕ} 0 1 = cc in omega arith)
  by-refused (Refused m u) n s e = refl

  -- then no number applies
  none-if : (a : Answer) → Right a → Continues a → NoneApplies w row
  none-if a h x = ⊎_elim (λ e. ((taken-exact a h).0 e).0) (λ e. ((accepted-exact a h).0 e).0) x

  module _ (none : NoneApplies w row) where
    passed : state_out r ≡ false
    passed = false_from_ne_true (state_out r) (λ e. none 14 0 (fourteen ((state-decides r).0 e)))

    timely : missed r ≡ false
    timely = false_from_ne_true (missed r) (λ e. none 25 t (late-now ((missed-decides r).0 e)))

    again : ¬ StateOut (worked_row r row)
    again = fails _ _ (state-decides (worked_row r row)) (next-passes passed timely)

    there : r.count ≤ length r.tasks
    there = all-places r (passes-run r passed)

  -- what is recorded of places past the count stays
  notes-past : (b : Bool) → r.count ≤ length r.tasks → drop r.count (cond b (noting (worked_row r row) w.noted) w.noted) ≡ drop r.count w.noted
  notes-past false h = refl
  notes-past true h =
      ap (λ (n : ℕ). drop r.count (map note_of (take n (worked_row r row).tasks) ++ drop n w.noted)) (worked-count r row)
      ∙ drop_at (map note_of (take r.count (worked_row r row).tasks)) (drop r.count w.noted) r.count
      (length-map (take r.count (worked_row r row).tasks) note_of ∙ length-take-le r.count (worked_row r row).tasks (omega (arith, worked-length r row, h)))

  -- a value that is the definition's meets the contract
  pub take-of : (e : Entered) → e ≡ check_row_of w row → CheckRowOf w row e
  take-of e q = rw q record {
    value = refl;
    refused = unfold check_row_of in refused-exact (check_row_answer w row) take-right;
    taken = unfold check_row_of in taken-exact (check_row_answer w row) take-right;
    accepted = unfold check_row_of in accepted-exact (check_row_answer w row) take-right;
    on = unfold check_row_of in by-continues (check_row_answer w row);
    passes = unfold check_row_of in λ x.
        subst (λ (v : SuppliedPlan). ¬ StateOut v.run) (sym (by-continues (check_row_answer w row) x)) (again (none-if (check_row_answer w row) take-right x));
    tasks = unfold check_row_of in same-tasks (check_row_answer w row);
    as-given = unfold check_row_of in by-refused (check_row_answer w row);
    past = unfold check_row_of in same-past (check_row_answer w row);
    past-notes = unfold check_row_of in same-notes (check_row_answer w row) take-right;
  }
    where
      same-tasks : (a : Answer) → tasks_in (state_by_answer a (after_row w row) w).run ≡ tasks_in r
      same-tasks Taken = worked-tasks r row
      same-tasks Accepted = worked-tasks r row
      same-tasks (Refused n s) = refl

      same-past : (a : Answer) → drop r.count (state_by_answer a (after_row w row) w).run.tasks ≡ drop r.count r.tasks
      same-past Taken = worked-past r row
      same-past Accepted = worked-past r row
      same-past (Refused n s) = refl

      same-notes : (a : Answer) → Right a → drop r.count (state_by_answer a (after_row w row) w).noted ≡ drop r.count w.noted
      same-notes Taken h = notes-past (eqb (suc t) (start_in (worked_row r row))) (there h.0)
      same-notes Accepted h = notes-past (eqb (suc t) (start_in (worked_row r row))) (there h.0)
      same-notes (Refused n s) h = refl

  -- where the state was ready, what is returned is ready with the same numbers
  pub ready-next : (start horizon : ℕ) → Ready r start horizon → Ready (check_row_of w row).plan.run start horizon
  unfolding check_row_of
  ready-next start horizon h = go (check_row_answer w row) take-right
    where
      on : NoneApplies w row → Ready (worked_row r row) start horizon
      on none = ready-again r (worked_row r row) start horizon h (worked-tasks r row) (next-passes h.passes (timely none))

      go : (a : Answer) → Right a → Ready (state_by_answer a (after_row w row) w).run start horizon
      go Taken x = on x.0
      go Accepted x = on x.0
      go (Refused n s) x = h

  -- a value that is the definition's comes with a state that is ready
  pub enter-of :
      (start horizon : ℕ) → Ready r start horizon → (e : Entered) → e ≡ check_row_of w row → (e ≡ check_row_of w row) × Ready e.plan.run start horizon
  enter-of start horizon h e q = (q, subst⁻¹ (λ (x : Entered). Ready x.plan.run start horizon) q (ready-next start horizon h))
