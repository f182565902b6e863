-- A plan taken row by row on the table alone, by the ticks owed to each place: a plan book between rows, the answer to each, and the answer to a list. The
-- theorems go through it; the states of `check_row` have its answers: `TakeAnswers`.
use mathlib.Core.Bool.{◌&&◌, Bool, cond, not, ◌||◌}
use mathlib.Core.List.{List, [], ◌∷◌}
use Prim.Native.Nat.{◌-◌, suc, ℕ}
use lib.Dec.{eqb, leb, ltb}
use lib.ListN.{get_or, length}
use Rattle.model.specs.Horizon.{horizon, last_s}
use Rattle.model.specs.Search.{any, bit}
use Rattle.model.specs.Sizes.{fenced_byte}
use Rattle.model.specs.Task.{Table, Task, due, newest, release, task, width_of}
use Rattle.plan_check.specs.Answers.{PlanOutcome, accepts, refuses, unfinished}
use Rattle.plan_check.specs.Plan.{cell_count}

-- the plan book at the start of a tick, before the jobs released at it: the ticks still owed to each place, and those recorded at the last S
pub record PlanBook : Type 0 where
  pub tick : ℕ
  pub owed : ℕ → ℕ
  pub noted : ℕ → ℕ

-- a job of the task is released at t; a job of the task is due at t
abbrev pub released_at : Task → ℕ → Bool
released_at τ t = eqb (release τ (newest τ t)) t

abbrev pub due_at : Task → ℕ → Bool
due_at τ t = eqb (due τ (newest τ (t - τ.deadline))) t

-- what is owed once the jobs released at t are counted
unfoldable pub opened : Table → ℕ → (ℕ → ℕ) → ℕ → ℕ
opened s t o p = cond (released_at (task s p) t) (task s p).length (o p)

-- 25: some place has a job that is due at t and still owed ticks
unfoldable pub late_now : Table → ℕ → (ℕ → ℕ) → Bool
late_now s t o = any (length s.tasks) (λ p. due_at (task s p) t && ltb 0 (o p))

-- 24: an unknown position; a place in the row with a wrong width or with nothing owed
unfoldable pub unknown_byte_in : Table → List ℕ → ℕ → Bool
unknown_byte_in s row c = cond (bit s.fence c) (not (eqb (get_or row c 0) fenced_byte)) (ltb (length s.tasks) (get_or row c 0))

unfoldable pub wrong_at : Table → ℕ → (ℕ → ℕ) → List ℕ → ℕ → Bool
wrong_at s t o row p =
    ltb 0 (cell_count (suc p) row)
    && not (eqb (cell_count (suc p) row) (width_of (task s p) (newest (task s p) t)) && ltb 0 (opened s t o p))

unfoldable pub faulty : Table → ℕ → (ℕ → ℕ) → List ℕ → Bool
faulty s t o row = any (length row) (unknown_byte_in s row) || any (length s.tasks) (wrong_at s t o row)

-- what is owed after the tick: one less to each place in the row
unfoldable pub owed_after_row : Table → ℕ → (ℕ → ℕ) → List ℕ → ℕ → ℕ
owed_after_row s t o row p = opened s t o p - cond (ltb 0 (cell_count (suc p) row)) 1 0

-- the plan book that arrives at tick t: at the last S what is owed is recorded
unfoldable pub plan_book_after : Table → ℕ → (ℕ → ℕ) → (ℕ → ℕ) → PlanBook
plan_book_after s t o n = record { tick = t; owed = o; noted = cond (eqb t (last_s s.tasks)) (opened s t o) n }

-- the plan book before the first row
abbrev pub plan_book_start : Table → PlanBook
plan_book_start s = plan_book_after s 0 (λ p. 0) (λ p. 0)

-- 26: at the horizon some place is owed another number of ticks than at the last S (`Agree`, by `agree-differs` and `differs-agree`)
unfoldable pub differs : Table → PlanBook → Bool
differs s st = any (length s.tasks) (λ p. not (eqb (opened s st.tick st.owed p) (st.noted p)))

-- the answer to a row: taken, or taken as the last and all is well, or refused with number and tick
pub data Answer : Type 0 where
  taken : PlanBook → Answer
  accepted : PlanBook → Answer
  refused : ℕ → ℕ → Answer

-- after the last row: 25 and then 26, both with the horizon as tick
unfoldable pub final_book_answer : Table → PlanBook → Answer
final_book_answer s st = cond (late_now s st.tick st.owed) (refused 25 st.tick) (cond (differs s st) (refused 26 st.tick) (accepted st))

unfoldable pub plan_book_answer : Table → PlanBook → Answer
plan_book_answer s st = cond (eqb st.tick (horizon s)) (final_book_answer s st) (taken st)

-- 10 a row past the horizon, 11 one whose length isn't the core count, 25, 24
unfoldable pub take_row : Table → PlanBook → List ℕ → Answer
take_row s st row =
    cond (leb (horizon s) st.tick) (refused 10 0)
    (cond (not (eqb (length row) s.cores)) (refused 11 0)
    (cond (late_now s st.tick st.owed) (refused 25 st.tick)
    (cond (faulty s st.tick st.owed row) (refused 24 st.tick)
    (plan_book_answer s (plan_book_after s (suc st.tick) (owed_after_row s st.tick st.owed row) st.noted)))))

-- the answer to a list of rows, which stop at the first refusal
abbrev pub after : Answer → List (List ℕ) → (PlanBook → PlanOutcome) → PlanOutcome
after (taken st) rows next = next st
after (accepted st) [] next = accepts
after (accepted st) (row ∷ rows) next = refuses 10 0
after (refused n t) rows next = refuses n t

unfoldable pub check_from : Table → PlanBook → List (List ℕ) → PlanOutcome
check_from s st [] = unfinished
check_from s st (row ∷ rows) = after (take_row s st row) rows (λ next. check_from s next rows)

abbrev pub check : Table → List (List ℕ) → PlanOutcome
check s rows = check_from s (plan_book_start s) rows
