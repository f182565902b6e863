-- WHAT THE PROGRAM PRINTS FOR AN ACCEPTED TABLE IS ACCEPTED, as it is printed.
use mathlib.Core.Bool.{Bool, false, true}
use mathlib.Core.List.{List, [], ◌++◌, map, ◌∷◌}
use mathlib.Core.Logic.{◌⊎◌, inl, inr}
use mathlib.Core.Path.{◌∙◌, ◌≡◌, ap, ap₂, refl, subst⁻¹, sym}
use Prim.Native.Nat.{◌+◌, ◌-◌, ◌<◌, suc, zero, ℕ, ◌≤◌}
use native.Mathlib.Omega.{arith}
use lib.Dec.{eqb}
use lib.ListN.{get_or, length, replicate}
use borrow.Author.Tests.{eqb-false, eqb-true}
use Rattle.model.specs.Claims.{book_row}
use Rattle.model.specs.Lists.{NeverMissed, full}
use Rattle.model.specs.Horizon.{horizon, hyperperiod, last_s}
use Rattle.model.specs.Search.{bit, up_from}
use Rattle.model.specs.Sizes.{fenced_byte, most_cores, most_word}
use Rattle.model.specs.Task.{Table}
use Rattle.model.specs.Verdict.{Firm, Full, Verdict, verdict}
use Rattle.model.proofs.Verdict.{verdict-exact}
use Rattle.table.specs.Answer.{answer_of}
use Rattle.table.specs.Numbers.{NoneApplies}
use Rattle.table.specs.Words.{table_of}
use Rattle.table.specs.Answer.{Answer}
use Rattle.table.specs.Answer.{Passed}
use Rattle.table.proofs.Exact.{passed-exact}
use Rattle.table.proofs.Passed.{passed-cores, passed-count, passed-horizon, passed-valid}
use Rattle.judge.specs.JudgeAnswer.{judged}
use Rattle.text.specs.Format.{largest, most_numbers, text_of}
use Rattle.text.specs.Output.{first_line, output, output_of, printed, printed_by, row_lines, rows_printed}
use Rattle.text.proofs.Canonical.{text-read}
use Rattle.plan_check.specs.Answers.{PlanOutcome, accepts, unfinished}
use Rattle.plan_check.specs.Begin.{begin_of, begun_by, first_state}
use Rattle.plan_check.specs.Checked.{row_answers_from, outcome_from, outcome_of}
use Rattle.plan_check.specs.Plan.{Acceptable, ValidRow, row_at}
use Rattle.plan_check.specs.RowAnswer.{accepted, taken}
use Rattle.plan_check.specs.declared.SuppliedPlan.{SuppliedPlan}
use Rattle.plan_check.proofs.Checked.{checked, own-plans, own-written}
use Rattle.splitter.specs.Split.{lines_from, nothing}
use Rattle.plan_text.specs.declared.PlanProgress.{PlanProgress}
use Rattle.plan_text.specs.Checked.{Accepted}
use Rattle.plan_text.specs.Checked.{checked_of, next_line, rows_at, rows_answer}
use Rattle.plan_text.specs.Plan.{WordsOf, ExpressibleRow, after_dashes, plan_text, plan_answer_of}
use Rattle.plan_text.proofs.Plan.{before, plan-answer, rows-text, verdict-passed}
use Rattle.plan_text.proofs.Text.{begin-tick, begun-text}

-- rows taken and a last one accepted come to acceptance
comes : (o : PlanOutcome) (n : ℕ) → outcome_from o (replicate n taken ++ (accepted ∷ [])) ≡ accepts
unfolding outcome_from
comes o zero = refl
comes o (suc n) = comes unfinished n

module _ (ws : List ℕ) (none : NoneApplies ws) where
  abbrev s : Table
  s = table_of ws

  few-cores : s.cores ≤ most_cores
  unfolding table_of
  few-cores = (passed-cores ws none).1

  -- an acceptable plan is expressible: its rows have a byte for each of at most 64 cores, a position, 0 or 255
  pub expressible : (rows : List (List ℕ)) → Acceptable s rows → (t : ℕ) → t < length rows → ExpressibleRow (get_or rows t [])
  expressible rows a t h = (omega (arith, row.size, few-cores), λ c l. byte c (omega (arith, l, row.size)))
    where
      row : ValidRow s (row_at rows) t
      row = a.rows-valid t (omega (arith, h, a.count))

      byte : (c : ℕ) → c < s.cores → get_or (row_at rows t) c 0 ≤ 255
      byte c l = by-fence (bit s.fence c) refl (eqb (get_or (row_at rows t) c 0) fenced_byte) refl
        where
          by-fence : (b : Bool) → bit s.fence c ≡ b → (e : Bool) → eqb (get_or (row_at rows t) c 0) fenced_byte ≡ e → get_or (row_at rows t) c 0 ≤ 255
          by-fence b p true q = omega (arith, eqb-true (get_or (row_at rows t) c 0) fenced_byte q)
          by-fence true p false q = absurd (row.known c l (inl (p, eqb-false (get_or (row_at rows t) c 0) fenced_byte q)))
          by-fence false p false q =
              let n : length s.tasks < get_or (row_at rows t) c 0 → ⊥ = λ g. row.known c l (inr (p, g)) in
              omega (arith, n, (passed-count ws none).1)

  within : (a b : ℕ) → a ≡ last_s s.tasks → b ≡ hyperperiod s.tasks → (a ≤ most_word) × (b ≤ most_word)
  unfolding horizon
  within a b p q = let h = passed-horizon ws none in (omega (arith, h, p), omega (arith, h, q))

  module _ (never : NeverMissed s) where
    -- the rows of the full-length run
    abbrev own : List (List ℕ)
    own = map (λ u. book_row s (full s u)) (up_from 0 (horizon s))

    own-accepted : outcome_of ws own ≡ accepts
    own-accepted =
        ap (outcome_of ws) (sym (own-written s)) ∙ ap (outcome_from unfinished) (own-plans ws none never) ∙ comes unfinished (horizon s - 1)

    plan : Acceptable s own
    plan = (checked ws none own).accepted-exact.0 own-accepted

    own-answer : (r : PlanProgress) → r.plan ≡ (begin_of ws).plan → r.accepted ≡ false → rows_answer nothing r (lines_from nothing [] (plan_text 0 own)) ≡ Accepted
    own-answer r p a =
        let zero : r.plan.tick ≡ 0 = ap (λ (w : SuppliedPlan). w.tick) p ∙ begin-tick ws in
        ap (λ (t : ℕ). rows_answer nothing r (lines_from nothing [] (plan_text t own))) (sym zero)
        ∙ plan-answer r own (expressible own plan) (omega (arith, zero, plan.count, passed-horizon ws none))
        ∙ ap (λ (o : PlanOutcome). plan_answer_of o (r.plan.tick + length own))
        (ap₂ (λ (b : Bool) (w : SuppliedPlan). outcome_from (before b) (row_answers_from w own)) a p ∙ own-accepted)

    -- the verdict is firm or full, with S and P
    by-verdict : (a b : ℕ) → (verdict s ≡ Firm a b) ⊎ (verdict s ≡ Full a b) → (rows_printed (verdict s) (horizon s) ≡ horizon s) × WordsOf (verdict s)
    by-verdict a b (inl e) =
        let x = ((verdict-exact s (passed-valid ws none)).firm a b).0 e in
        (ap (λ (v : Verdict). rows_printed v (horizon s)) e, subst⁻¹ WordsOf e (within a b x.2 x.3))
    by-verdict a b (inr e) =
        let x = ((verdict-exact s (passed-valid ws none)).full a b).0 e in
        (ap (λ (v : Verdict). rows_printed v (horizon s)) e, subst⁻¹ WordsOf e (within a b x.2 x.3))

    its : (rows_printed (verdict s) (horizon s) ≡ horizon s) × WordsOf (verdict s)
    its = let x = (verdict-exact s (passed-valid ws none)).accepted.1 never in by-verdict x.0 x.1 x.2

    -- what is printed: the verdict's line and the rows up to the horizon
    own-printed : printed s ≡ first_line (judged (verdict s)) ++ plan_text 0 own
    unfolding printed
    own-printed =
        ap (λ (n : ℕ). first_line (judged (verdict s)) ++ row_lines s 0 n) its.0
        ∙ ap (λ (x : List ℕ). first_line (judged (verdict s)) ++ x) (rows-text s 0 (horizon s))

    -- THE THEOREM: the table's text, the line `--` and what the program prints for the table are accepted
    pub own-output :
        length ws ≤ most_numbers → ((i : ℕ) → i < length ws → get_or ws i 0 ≤ largest)
        → checked_of (text_of ws ++ after_dashes (output (text_of ws))) ≡ Accepted
    own-output few fit =
        begun-text ws few fit (output (text_of ws)) begun
        ∙ ap (λ (x : List ℕ). rows_answer nothing first (lines_from nothing [] x)) (out ∙ own-printed)
        ∙ verdict-passed first refl (plan_text 0 own) (verdict s) its.1
        ∙ own-answer (rows_at (begin_of ws).plan (next_line 0) false) refl refl
      where
        first : PlanProgress
        first = rows_at (begin_of ws).plan 0 false

        passes : answer_of ws ≡ Passed
        passes = (passed-exact ws).1 none

        begun : (begin_of ws).answer ≡ Passed
        begun = unfold begin_of in ap (λ (a : Answer). (begun_by a (first_state ws)).answer) passes

        out : output (text_of ws) ≡ printed s
        out = unfold output in ap output_of (text-read ws few fit) ∙ ap (λ (a : Answer). printed_by a s) passes
