-- Start is refused with n and p exactly if n is the first of 1 to 9, 19 and 13 that applies, with position p; and taken exactly if none applies.
use mathlib.Core.Path.{◌≡◌, refl, sym, ap, subst, ◌∙◌}
use mathlib.Core.Bool.{true}
use mathlib.Core.List.{List}
use mathlib.Core.Logic.{◌↔◌}
use Prim.Native.Nat.{ℕ}
use native.Mathlib.Omega.{arith}
use Rattle.model.specs.Refusals as model
use Rattle.model.specs.Verdict as verdict
use Rattle.table.specs.Words.{rule, table_of}
use Rattle.table.specs.Numbers.{place, Earlier, FirstOf, NoneOf}
use Rattle.table.specs.Numbers as table-numbers
use Rattle.table.proofs.Decide.{fails}
use Rattle.table.proofs.Order.{not-before-itself, later, number-most}
use Rattle.judge.specs.declared.Verdict.{Verdict}
use Rattle.judge.specs.declared.Verdict.TheVariants.{Firm, Full, Miss, Refused}
use Rattle.judge.specs.JudgeAnswer.{judged, verdict_meaning}
use Rattle.judge.specs.Judged.{Judged, verdict_of}
use Rattle.judge.proofs.Contract.{judged-exact}
use Rattle.run.specs.declared.Run.{Run}
use Rattle.run.specs.Start.{Started}
use Rattle.run.specs.Answer.{answer_meaning}
use Rattle.run.specs.Numbers.{RunOut, run_out}
use Rattle.run.specs.Start.{StartApplies, as-table, thirteen, by_verdict, start_answer, started_run, empty_run, start_of, StartOf}
use Rattle.run.proofs.Limits.{run-decides, passes-runs}
use Rattle.run.proofs.StartPasses.{start-passes}
use Rattle.run.proofs.First.{by-taken, by-refused, Right, refused-exact, taken-exact}

-- the run of all zeros is turned down by 14
pub empty-run-out : run_out empty_run ≡ true
unfolding run_out
empty-run-out = refl

module _ (ws : List ℕ) where
  -- 13 is not checked before 1 to 9 and 19, so the first of these is the first
  as-start : (n p : ℕ) → table-numbers.First ws n p → FirstOf (StartApplies ws) n p
  unfolding place
  as-start n p f = (as-table n p f.0, earlier)
    where
      earlier : (m q : ℕ) → Earlier m q n p → ¬ StartApplies ws m q
      earlier m q e (as-table i j h) = f.1 m q e h
      earlier m q e (thirteen t j h) = later 13 0 n p (omega (arith, number-most ws n p f.0)) e

  start-13 : table-numbers.NoneApplies ws → (t p : ℕ) → verdict_meaning (verdict_of ws) ≡ judged (verdict.Miss t p) → FirstOf (StartApplies ws) 13 0
  start-13 none t p e = (thirteen t p e, earlier)
    where
      earlier : (m q : ℕ) → Earlier m q 13 0 → ¬ StartApplies ws m q
      earlier m q x (as-table i j h) = none m q h
      earlier m q x (thirteen u j h) = not-before-itself 13 0 x

  start_none : table-numbers.NoneApplies ws → ((t p : ℕ) → ¬ (verdict_meaning (verdict_of ws) ≡ judged (verdict.Miss t p))) → NoneOf (StartApplies ws)
  start_none none never m q (as-table i j h) = none m q h
  start_none none never m q (thirteen t j h) = never t j h

  start_right : Right (StartApplies ws) (start_answer ws)
  unfolding start_answer
  start_right = go (verdict_of ws) refl
    where
      promised : Judged ws (verdict_of ws)
      promised = judged-exact ws

      firm-not-miss : {a b t p : ℕ} → judged (verdict.Firm a b) ≡ judged (verdict.Miss t p) → ⊥
      firm-not-miss e = let z : ◌≡◌ {A = ℕ} 0 1 = cc in omega arith

      full-not-miss : {a b t p : ℕ} → judged (verdict.Full a b) ≡ judged (verdict.Miss t p) → ⊥
      full-not-miss e = let z : ◌≡◌ {A = ℕ} 0 1 = cc in omega arith

      go : (v : Verdict) → verdict_of ws ≡ v → Right (StartApplies ws) (by_verdict v)
      go (Firm a b) e = start_none ((promised.firm a b).0 (ap verdict_meaning e)).0 (λ t p f. firm-not-miss (sym (ap verdict_meaning e) ∙ f))
      go (Full a b) e = start_none ((promised.full a b).0 (ap verdict_meaning e)).0 (λ t p f. full-not-miss (sym (ap verdict_meaning e) ∙ f))
      go (Miss t p) e = start-13 ((promised.miss t p).0 (ap verdict_meaning e)).0 t p (ap verdict_meaning e)
      go (Refused n p) e = as-start n p ((promised.refused n p).0 (ap verdict_meaning e))

  -- THE LAW OF A START
  pub start-exact : (n p : ℕ) → (answer_meaning (start_of ws).answer ≡ model.refused n p) ↔ FirstOf (StartApplies ws) n p
  unfolding start_of
  start-exact = refused-exact (StartApplies ws) (start_answer ws) start_right

  pub start-taken : (answer_meaning (start_of ws).answer ≡ model.taken) ↔ NoneOf (StartApplies ws)
  unfolding start_of
  start-taken = taken-exact (StartApplies ws) (start_answer ws) start_right

  -- a start that is taken passes 1 to 9 and 19
  pub taken-passes : answer_meaning (start_of ws).answer ≡ model.taken → table-numbers.NoneApplies ws
  taken-passes e n p h = start-taken.0 e n p (as-table n p h)

  -- a value that is the start's by definition meets the contract of a start
  pub start-of : (s : Started) → s ≡ start_of ws → StartOf ws s
  start-of s e = rw e record {
    value = refl;
    refused = start-exact;
    taken = start-taken;
    started = started;
    zeros = zeros;
    passes = λ e.
        subst (λ (r : Run). ¬ RunOut r) (sym (started e))
        (fails (run_out first) (RunOut first) (run-decides first) (passes-runs first (start-passes ws (taken-passes e))));
    out = λ n p e. subst (λ (r : Run). RunOut r) (sym (zeros n p e)) ((run-decides empty_run).0 empty-run-out);
  }
    where
      first : Run
      first = started_run (rule ws) (table_of ws)

      started : answer_meaning (start_of ws).answer ≡ model.taken → (start_of ws).run ≡ first
      started = unfold start_of in by-taken (start_answer ws) first empty_run

      zeros : (n p : ℕ) → answer_meaning (start_of ws).answer ≡ model.refused n p → (start_of ws).run ≡ empty_run
      zeros = unfold start_of in by-refused (start_answer ws) first empty_run
