-- REFINES: a started run, taken through a list of entries, gives the book's answers, and after the list the book's row, whatever jobs are empty.
use mathlib.Core.Path.{◌≡◌, refl, sym, ap, ◌∙◌, subst}
use mathlib.Core.List.{List, map}
use Prim.Native.Nat.{ℕ}
use Rattle.model.specs.Task.{AllValid, task}
use Rattle.model.specs.Jobs.{empty_book}
use Rattle.model.specs.Advance.{Entry}
use Rattle.model.specs.Refusals.{taken}
use Rattle.model.specs.Lists.{answers_from, taken_in, book}
use Rattle.model.proofs.Faithful.{tick-taken}
use Rattle.table.specs.Words.{table_of}
use Rattle.table.specs.Numbers.{NoneApplies}
use Rattle.table.proofs.Decide.{fails}
use Rattle.table.proofs.Passed.{passed-valid}
use Rattle.run.specs.declared.Run.{Run}
use Rattle.run.specs.Answer.{answer_meaning}
use Rattle.run.specs.Numbers.{RunOut, run_out}
use Rattle.run.specs.Run.{even_at, phase_at}
use Rattle.run.specs.Start.{start_of}
use Rattle.refinement.specs.Entries.{answers, run_after_list}
use Rattle.refinement.specs.Refines.{first_run, Refines}
use Rattle.run.proofs.Limits.{run-decides, passes-runs}
use Rattle.run.proofs.StartExact.{taken-passes, start-of}
use Rattle.refinement.proofs.RelatedTask.{state-of-job}
use Rattle.refinement.proofs.Represents.{Represents, same-answers, same_asked, represents-after}
use Rattle.refinement.proofs.Words.{represents-start}

module _ (ws : List ℕ) (e : answer_meaning (start_of ws).answer ≡ taken) where
  none : NoneApplies ws
  none = taken-passes ws e

  -- the tasks are valid
  pub sound : AllValid (table_of ws)
  sound = passed-valid ws none

  started : Represents (table_of ws) empty_book (first_run ws)
  started = subst (λ (r : Run). Represents (table_of ws) empty_book r) (sym ((start-of ws (start_of ws) refl).started e)) (represents-start ws none)

  -- the run represents the book after the list
  pub represented : (xs : List Entry) → Represents (table_of ws) (book (table_of ws) xs) (run_after_list (first_run ws) xs)
  represented xs = represents-after (table_of ws) sound xs empty_book (first_run ws) started

  -- THEOREM (refines): for every table that start takes, Firm and Full alike, and every list of entries
  pub refines : (xs : List Entry) → Refines ws xs
  refines xs = record {
    each-answer = same;
    list-tick = ap (taken_in xs) same ∙ sym (tick-taken (table_of ws) xs);
    row-after = same_asked (table_of ws) sound (book (table_of ws) xs) (run_after_list (first_run ws) xs) (represented xs);
    withdrawn = (represented xs).related.same-withdrawn;
    counts = λ p l.
        state-of-job (table_of ws).rule (task (table_of ws) p) (sound p l) (book (table_of ws) xs).tick ((book (table_of ws) xs).job p)
        (even_at last p) (phase_at last p) ((represented xs).related.related p l);
    passes = fails (run_out last) (RunOut last) (run-decides last) (passes-runs last (represented xs).passes);
  }
    where
      last : Run
      last = run_after_list (first_run ws) xs

      same : map answer_meaning (answers (first_run ws) xs) ≡ answers_from (table_of ws) empty_book xs
      same = same-answers (table_of ws) sound xs empty_book (first_run ws) started
