-- THE THEOREMS ABOUT A WHOLE PLAN, on the words and the rows alone: when it is accepted, what each answer means, that it repeats for ever, and that the
-- tool's own plans are accepted, as `plan` leaves them in the buffer.
use mathlib.Core.Bool.{false}
use mathlib.Core.List.{List, [], append_assoc, append-nil, map, ◌++◌, ◌∷◌}
use mathlib.Core.Path.{ap, ap₂, refl, sym, ◌∙◌, ◌≡◌}
use Prim.Native.Nat.{◌*◌, ◌+◌, ◌-◌, ◌<◌, suc, zero, ℕ}
use native.Mathlib.Nat.{add-zero, not-suc-le-zero, suc-mul, zero-add, zero-mul}
use native.Mathlib.Omega.{arith}
use lib.ListN.{drop, length, length-map, replicate, take}
use lib.Seq.{drop-append-add, ext_get_or, take_at}
use borrow.Author.Tests.{le-ltb}
use Rattle.model.proofs.Lists.{map_at, up_at, up-length}
use Rattle.model.proofs.Rows.{row-length}
use Rattle.model.proofs.Starts.{hyperperiod-pos}
use Rattle.model.specs.Refusals as book
use Rattle.model.specs.Claims.{book_row, shown_of}
use Rattle.model.specs.Lists.{NeverMissed, full}
use Rattle.model.specs.Horizon.{horizon}
use Rattle.model.specs.Search.{up_from}
use Rattle.model.specs.Sizes.{fenced_byte}
use Rattle.model.specs.Task.{AllValid, Table}
use Rattle.plan.specs.Plan.{buffer_of}
use Rattle.plan.specs.Rows.{full_rows_from, rows_of}
use Rattle.table.proofs.Exact.{passed-exact}
use Rattle.table.proofs.Passed.{passed-count, passed-horizon, passed-valid}
use Rattle.table.specs.Answer.{Answer}
use Rattle.table.specs.Limits.{horizon_out, most_horizon}
use Rattle.table.specs.Numbers.{NoneApplies}
use Rattle.table.specs.Words.{table_of}
use Rattle.plan_check.specs.Answers.{unfinished}
use Rattle.plan_check.specs.Begin.{begin_of, begun_by, first_state}
use Rattle.plan_check.specs.Checked.{Checked, OwnBuffer, OwnPlan, row_answers_from, outcome_from, split_rows, outcome_of, plan_rows}
use Rattle.plan_check.specs.Plan.{row_at}
use Rattle.plan_check.specs.RowAnswer.{accepted, taken}
use Rattle.plan_check.specs.declared.SuppliedPlan.{SuppliedPlan}
use Rattle.plan_check.proofs.Answers.{check-outcome}
use Rattle.plan_check.proofs.TakeAnswers.{all-taken, follow}
use Rattle.plan_check.proofs.Exact.{check-exact}
use Rattle.plan_check.proofs.PlanBook.{PlanBook, check, check_from}
use Rattle.plan_check.proofs.Own.{own-check, own_row, own_rows}
use Rattle.plan_check.proofs.Repeats.{acceptable-repeats}
use Rattle.plan_check.proofs.Steps.{Passes, check-passes, starts}
use Rattle.plan_check.proofs.StateRelated.{begun-related}

module _ (ws : List ℕ) (none : NoneApplies ws) where
  abbrev s : Table
  s = table_of ws

  abbrev ok : AllValid s
  ok = passed-valid ws none

  near : horizon_out (horizon s) ≡ false
  near = le-ltb most_horizon (horizon s) (passed-horizon ws none)

  -- the words begin with the first state
  begins : (begin_of ws).plan ≡ first_state ws
  unfolding begin_of
  begins = ap (λ (a : Answer). (begun_by a (first_state ws)).plan) ((passed-exact ws).1 none)

  -- the list is answered as the plan book answers it
  pub outcome-check : (rows : List (List ℕ)) → outcome_of ws rows ≡ check s rows
  outcome-check rows =
      ap (λ (w : SuppliedPlan). outcome_from unfinished (row_answers_from w rows)) begins
      ∙ (follow s ok near rows (length rows) 0 (first_state ws) (zero-add (length rows)) (begun-related ws none (row_at rows)) (λ u h. absurd (not-suc-le-zero h))
      ∙ ap (λ (st : PlanBook). check_from s st rows) (sym (starts s (row_at rows))))

  -- THE THEOREM OF A LIST OF ROWS
  pub checked : (rows : List (List ℕ)) → Checked ws rows
  checked rows = record {
    accepted-exact = (λ e. (check-exact s ok rows).0 (same ∙ e), λ a. outcome-check rows ∙ (check-exact s ok rows).1 a);
    answer-exact = λ o. (λ e. (check-outcome s ok rows o).0 (same ∙ e), λ a. outcome-check rows ∙ (check-outcome s ok rows o).1 a);
    repeats-for-ever = λ e. acceptable-repeats s ok rows ((check-exact s ok rows).0 (same ∙ e));
  }
    where
      same : check s rows ≡ outcome_of ws rows
      same = sym (outcome-check rows)

-- THE ROWS THAT `plan` WRITES are those of the full-length run, whatever bytes follow them
module _ (s : Table) (rest : List ℕ) where
  cut-row : (k t n : ℕ) → k < n → take s.cores (drop (k * s.cores) (full_rows_from s t n ++ rest)) ≡ book_row s (full s (t + k))
  unfolding full_rows_from
  cut-row k t zero h = absurd (not-suc-le-zero h)
  cut-row zero t (suc n) h =
      ap (λ (i : ℕ). take s.cores (drop i ((book_row s (full s t) ++ full_rows_from s (suc t) n) ++ rest))) (zero-mul s.cores)
      ∙ (ap (take s.cores) (append_assoc (book_row s (full s t)) (full_rows_from s (suc t) n) rest)
      ∙ (take_at (book_row s (full s t)) (full_rows_from s (suc t) n ++ rest) s.cores (row-length s.fence s.cores (shown_of s (full s t)))
      ∙ ap (λ (u : ℕ). book_row s (full s u)) (sym (add-zero t))))
  cut-row (suc k) t (suc n) h =
      let size : length (book_row s (full s t)) ≡ s.cores = row-length s.fence s.cores (shown_of s (full s t)) in
      let past : suc k * s.cores ≡ length (book_row s (full s t)) + k * s.cores = suc-mul k s.cores ∙ omega arith in
      ap₂ (λ (i : ℕ) (l : List ℕ). take s.cores (drop i l)) past (append_assoc (book_row s (full s t)) (full_rows_from s (suc t) n) rest)
      ∙ (ap (take s.cores) (drop-append-add (book_row s (full s t)) (full_rows_from s (suc t) n ++ rest) (k * s.cores))
      ∙ (cut-row k (suc t) n (omega arith) ∙ ap (λ (u : ℕ). book_row s (full s u)) (omega arith)))

  own-cut : split_rows s.cores (horizon s) (rows_of s 0 (horizon s) ++ rest) ≡ own_rows s
  own-cut =
      ext_get_or [] (map row (up_from 0 H)) (own_rows s) (length-map (up_from 0 H) row ∙ sym (length-map (up_from 0 H) (own_row s))) (λ k h.
      let below : k < H = omega (arith, length-map (up_from 0 H) row, up-length 0 H) in
      map_at row (up_from 0 H) k [] 0 (omega (arith, up-length 0 H))
      ∙ (ap row (up_at 0 H k 0 below ∙ zero-add k)
      ∙ (ap (λ (n : ℕ). take s.cores (drop (k * s.cores) (full_rows_from s 0 n ++ rest))) whole
      ∙ (cut-row k 0 H below
      ∙ sym (map_at (own_row s) (up_from 0 H) k [] 0 (omega (arith, up-length 0 H)) ∙ ap (own_row s) (up_at 0 H k 0 below))))))
    where
      H : ℕ
      H = horizon s

      whole : H - 0 ≡ H
      whole = omega arith

      row : ℕ → List ℕ
      row t = take s.cores (drop (t * s.cores) (rows_of s 0 (horizon s) ++ rest))

pub own-written : (s : Table) → plan_rows s ≡ own_rows s
own-written s = ap (split_rows s.cores (horizon s)) (sym (append-nil (rows_of s 0 (horizon s)))) ∙ own-cut s []

-- THE THEOREM OF THE BUFFER
pub own-buffer : (ws : List ℕ) → OwnBuffer ws
own-buffer ws old new v h e =
    ap (split_rows s.cores (horizon s)) (h.buffer ∙ ap (λ (a : book.Answer). buffer_of a s 0 (horizon s) old) e)
    ∙ (own-cut s (drop ((horizon s - 0) * s.cores) old) ∙ sym (own-written s))
  where
    s : Table
    s = table_of ws

-- THE THEOREM OF THE TOOL'S OWN PLANS
pub own-plans : (ws : List ℕ) → NoneApplies ws → NeverMissed (table_of ws) → OwnPlan ws
own-plans ws none never = go (horizon s) refl
  where
    s : Table
    s = table_of ws

    few : length s.tasks < fenced_byte
    few = omega (arith, (passed-count ws none).1)

    some-ticks : 0 < horizon s
    some-ticks = unfold horizon in omega (arith, hyperperiod-pos s.tasks)

    go : (h : ℕ) → horizon s ≡ h → row_answers_from (begin_of ws).plan (plan_rows s) ≡ replicate (h - 1) taken ++ (accepted ∷ [])
    go zero e = absurd (omega (arith, some-ticks))
    go (suc h) e =
        let x : (length (own_rows s) ≡ horizon s) × Passes s (own_rows s) 0 =
        check-passes s (own_rows s) (own-check s (passed-valid ws none) few never) in
        let less : h ≡ suc h - 1 = omega arith in
        ap (λ (w : SuppliedPlan). row_answers_from w (plan_rows s)) (begins ws none)
        ∙ (ap (row_answers_from (first_state ws)) (own-written s)
        ∙ (all-taken s (ok ws none) (near ws none) (own_rows s) x.1 x.0 h 0 (first_state ws) (omega arith) (begun-related ws none (row_at (own_rows s)))
        ∙ ap (λ (n : ℕ). replicate n taken ++ (accepted ∷ [])) less))
