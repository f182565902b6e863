-- The beginning: the run of a table as it starts is of that table, and the contract of a beginning.
use mathlib.Core.List.{List, map}
use mathlib.Core.Path.{ap, refl, subst, sym, ◌∙◌, ◌≡◌}
use Prim.Native.Nat.{◌-◌, ℕ, ◌≤◌}
use native.Mathlib.Omega.{arith}
use lib.ListN.{length, length-map, replicate}
use lib.Seq.{take_at}
use Rattle.model.specs.Refusals as book
use Rattle.model.specs.Horizon.{last_s}
use Rattle.model.specs.Sizes.{most_tasks}
use Rattle.model.specs.Task as model
use Rattle.table.proofs.Decide.{fails}
use Rattle.table.proofs.Contract.{meaning-passed, meaning-refused}
use Rattle.table.specs.Answer.{answer_of}
use Rattle.table.proofs.Exact.{refusal-exact, passed-exact}
use Rattle.table.specs.Load.{LoadedAs, load_meaning, table_with}
use Rattle.table.specs.Numbers.{NoneApplies}
use Rattle.table.specs.Task.{tasks_of}
use Rattle.table.specs.Words.{rule, table_of}
use Rattle.table.specs.Answer.{Answer}
use Rattle.table.specs.Answer.{Passed, Refused}
use Rattle.table.specs.declared.Loaded.{Loaded}
use Rattle.phase.proofs.Started as started
use Rattle.phase.specs.Task.{start_task, task_of, unused}
use Rattle.run.proofs.ByVerdict.{loaded-table}
use Rattle.run.proofs.StartExact.{empty-run-out}
use Rattle.run.specs.Run.{tasks_in}
use Rattle.run.specs.Start.{empty_run, started_run}
use Rattle.run.specs.declared.Run.{Run}
use Rattle.plan_check.specs.Begin.{BeginOf, begin_of, begun_by, empty_state, first_state}
use Rattle.plan_check.specs.Numbers.{StateOut, state_out}
use Rattle.plan_check.specs.State.{start_in}
use Rattle.plan_check.specs.Begin.{Begun}
use Rattle.plan_check.specs.declared.SuppliedPlan.{SuppliedPlan}
use Rattle.plan_check.proofs.Deciding.{state-decides}
use Rattle.plan_check.proofs.Passing.{started-state, state-passes}
use Rattle.plan_check.proofs.StateTests.{out-run}

-- A RUN AS IT STARTS

-- is of the table that it starts from
pub started-tasks : (n : ℕ) (s : model.Table) → tasks_in (started_run n s) ≡ s.tasks
unfolding started_run
started-tasks n s =
    ap (map task_of) (take_at (map start_task s.tasks) (replicate (most_tasks - length s.tasks) unused) (length s.tasks) (length-map s.tasks start_task))
    ∙ started.started-tasks s.tasks

pub started-count : (n : ℕ) (s : model.Table) → (started_run n s).count ≡ length s.tasks
unfolding started_run
started-count n s = refl

module _ (ws : List ℕ) where
  abbrev first : Run
  first = started_run (rule ws) (table_of ws)

  -- what was loaded, as it starts
  pub loaded-run :
      (l : Loaded) → LoadedAs ws l → started_run l.rule (table_with l.cores l.fence l.rule (tasks_of l.tasks l.count)) ≡ first
  loaded-run l h = loaded-table ws l h

  pub loaded-start : (l : Loaded) → LoadedAs ws l → l.start ≡ start_in first
  loaded-start l h = h.start ∙ ap last_s (sym (started-tasks (rule ws) (table_of ws)))

  pub loaded-few : (l : Loaded) → LoadedAs ws l → first.count ≤ most_tasks
  loaded-few l h = omega (arith, started-count (rule ws) (table_of ws), h.count, h.count-from)

-- THE BEGINNING

begun-answer : (a : Answer) (w : SuppliedPlan) → (begun_by a w).answer ≡ a
begun-answer Passed w = refl
begun-answer (Refused n p) w = refl

module _ (ws : List ℕ) where
  pub begin-passed : answer_of ws ≡ Passed → begin_of ws ≡ record { answer = Passed; plan = first_state ws }
  unfolding begin_of
  begin-passed e = ap (λ (a : Answer). begun_by a (first_state ws)) e

  pub begin-refused : (n p : ℕ) → answer_of ws ≡ Refused n p → begin_of ws ≡ record { answer = Refused n p; plan = empty_state }
  unfolding begin_of
  begin-refused n p e = ap (λ (a : Answer). begun_by a (first_state ws)) e

  same_answer : (begin_of ws).answer ≡ answer_of ws
  same_answer = unfold begin_of in begun-answer (answer_of ws) (first_state ws)

  -- the beginning by the table's answer
  passed-answer : load_meaning (begin_of ws).answer ≡ book.taken → answer_of ws ≡ Passed
  passed-answer e = meaning-passed (answer_of ws) (sym (ap load_meaning same_answer) ∙ e)

  refused-answer : (n p : ℕ) → load_meaning (begin_of ws).answer ≡ book.refused n p → answer_of ws ≡ Refused n p
  refused-answer n p e = meaning-refused (answer_of ws) n p (sym (ap load_meaning same_answer) ∙ e)

  none-applies : load_meaning (begin_of ws).answer ≡ book.taken → NoneApplies ws
  none-applies e = (passed-exact ws).0 (passed-answer e)

  -- a value that is the beginning's by definition meets the contract of a beginning
  pub begin-of : (b : Begun) → b ≡ begin_of ws → BeginOf ws b
  begin-of b e = rw e record {
    value = refl;
    refused = λ n p. (
      λ q. (refusal-exact ws n p).0 (refused-answer n p q),
      λ f. ap load_meaning (same_answer ∙ (refusal-exact ws n p).1 f),
    );
    passed = (none-applies, λ none. ap load_meaning (same_answer ∙ (passed-exact ws).1 none));
    begun = begun;
    zeros = zeros;
    passes = λ q.
        subst (λ (w : SuppliedPlan). ¬ StateOut w.run) (sym (begun q))
        (fails (state_out (first ws)) (StateOut (first ws)) (state-decides (first ws)) (state-passes (first ws) (started-state ws (none-applies q))));
    out = λ n p q. subst (λ (w : SuppliedPlan). StateOut w.run) (sym (zeros n p q)) ((state-decides empty_run).0 (out-run empty_run empty-run-out));
  }
    where
      begun : load_meaning (begin_of ws).answer ≡ book.taken → (begin_of ws).plan ≡ first_state ws
      begun q = ap (λ (b : Begun). b.plan) (begin-passed (passed-answer q))

      zeros : (n p : ℕ) → load_meaning (begin_of ws).answer ≡ book.refused n p → (begin_of ws).plan ≡ empty_state
      zeros n p q = ap (λ (b : Begun). b.plan) (begin-refused n p (refused-answer n p q))
