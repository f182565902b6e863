-- The result of a start, by the judge's verdict on the words.
use mathlib.Core.Path.{◌≡◌, refl, sym, ap, ◌∙◌}
use mathlib.Core.Bool.{Bool, true, false, cond, true≢false}
use mathlib.Core.List.{List}
use Prim.Native.Nat.{ℕ, ◌+◌}
use native.Mathlib.Numerals.{add-one}
use Rattle.std.specs.Prelude.{Option, None, Some, Result, Ok, Err}
use Rattle.std.specs.Option.{is_some}
use Rattle.model.specs.declared.refusal.Refusal.{Refusal}
use Rattle.model.specs.declared.refusal.Refusal.TheVariants.{TableMisses}
use Rattle.model.specs.Refusal.{number_of, position_of}
use Rattle.model.specs.Firm.{firm}
use Rattle.model.specs.Task.{rule_of}
use Rattle.table.specs.declared.Loaded.{Loaded}
use Rattle.table.specs.Fit.{loaded_table}
use Rattle.table.proofs.Contract.{load-ok, load-err}
use Rattle.table.specs.Words.{rule, table_of}
use Rattle.table.specs.Task.{tasks_of}
use Rattle.table.specs.Load.{table_with, LoadedAs, LoadOf}
use Rattle.judge.specs.declared.Verdict.{Verdict}
use Rattle.judge.specs.declared.Verdict.TheVariants.{Firm, Full}
use Rattle.judge.specs.declared.Verdict.TheVariants as judge
use Rattle.judge.specs.declared.Miss.{Miss}
use Rattle.judge.specs.FirstMiss.{MissedOf, by_miss, miss_of}
use Rattle.judge.specs.Judged.{accepted_of, verdict_of}
use Rattle.judge.proofs.Contract.{refused-is, run_value}
use Rattle.run.specs.declared.Run.{Run}
use Rattle.run.specs.Answer.{Taken, Refused}
use Rattle.run.specs.Start.{started, started_run, empty_run, by_verdict, start_answer, start_of}

module _ (ws : List ℕ) where
  -- the answer of a start
  pub start-answer : (v : Verdict) → v ≡ verdict_of ws → start_answer ws ≡ by_verdict v
  unfolding start_answer
  start-answer v e = ap by_verdict (sym e)

  -- and the run that goes with it
  pub start-taken : start_answer ws ≡ Taken → start_of ws ≡ record { answer = Taken; run = started_run (rule ws) (table_of ws) }
  unfolding start_of
  start-taken e = rw e refl

  pub start-refused : (n p : ℕ) → start_answer ws ≡ Refused n p → start_of ws ≡ record { answer = Refused n p; run = empty_run }
  unfolding start_of
  start-refused n p e = rw e refl

-- the table that was loaded is that of the words
pub loaded-table : (ws : List ℕ) (l : Loaded) → LoadedAs ws l → started_run l.rule (table_with l.cores l.fence l.rule (tasks_of l.tasks l.count)) ≡ started_run (rule ws) (table_of ws)
unfolding table_of
loaded-table ws l h = rw (h.rule, h.cores, h.fence, h.tasks) refl

-- OF THE TABLE THAT WAS LOADED, or of its refusal
module _ (ws : List ℕ) (loaded : Result Loaded Refusal) (l : LoadOf ws loaded) where
  pub start-unloaded : (x : Refusal) → loaded ≡ Err x → started (Err x) ≡ start_of ws
  start-unloaded x e =
      let v = judge.Refused (number_of x) (position_of x) in
      sym (start-refused ws (number_of x) (position_of x) (start-answer ws v (sym (refused-is ws (number_of x) (position_of x) (load-err ws loaded l x e).0))))

  -- its first miss decides the answer
  module _ (t : Loaded) (e : loaded ≡ Ok t) (m : Option Miss) (found : MissedOf (loaded_table t) (t.horizon + 1) (miss_of m)) where
    answer-by-miss : start_answer ws ≡ by_verdict (by_miss (miss_of m) (accepted_of t))
    answer-by-miss =
        let v = by_miss (miss_of m) (accepted_of t) in
        start-answer ws v (run_value ws loaded l t e v (rw (found.value, add-one) refl)).value

    pub start-missed : is_some m ≡ true → started (Err TableMisses) ≡ start_of ws
    start-missed q = sym (start-refused ws 13 0 (answer-by-miss ∙ miss m q))
      where
        miss : (m : Option Miss) → is_some m ≡ true → by_verdict (by_miss (miss_of m) (accepted_of t)) ≡ Refused 13 0
        miss None q = absurd (true≢false (sym q))
        miss (Some x) q = refl

    pub start-met : is_some m ≡ false → (r : Run) → r ≡ started_run t.rule (loaded_table t) → started (Ok r) ≡ start_of ws
    start-met q r is =
        ap (λ (r : Run). started (Ok r)) (is ∙ loaded-table ws t (load-ok ws loaded l t e).0) ∙ sym (start-taken ws (answer-by-miss ∙ met m q))
      where
        either : (firm : Bool) → by_verdict (cond firm (Firm t.start t.period) (Full t.start t.period)) ≡ Taken
        either true = refl
        either false = refl

        met : (m : Option Miss) → is_some m ≡ false → by_verdict (by_miss (miss_of m) (accepted_of t)) ≡ Taken
        met None q = either (firm (rule_of t.rule) (tasks_of t.tasks t.count))
        met (Some x) q = absurd (true≢false q)
