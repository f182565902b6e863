-- The contract of `response_times`: its refusal is the first that applies, its response times hold over all ticks, and it is what is done with a table that was
-- loaded.
use mathlib.Core.Path.{◌≡◌, refl, sym, ap, ◌∙◌, subst}
use mathlib.Core.List.{List}
use Prim.Native.Nat.{ℕ, suc, ◌<◌}
use native.Mathlib.Omega.{arith}
use lib.ListN.{length, get_or}
use Rattle.model.proofs.Refusals.{taken_refused}
use Rattle.model.specs.Refusals as book
use Rattle.model.specs.Lists.{NeverMissed}
use Rattle.model.specs.Task.{AllValid, Table}
use Rattle.model.specs.Verdict as verdict
use Rattle.model.specs.Firm.{FirmRule}
use Rattle.model.proofs.Lists.{get_d-zeros}
use Rattle.table.specs.declared.Loaded.{Loaded}
use Rattle.std.specs.Prelude.{Result, Ok, Err}
use Rattle.model.specs.declared.refusal.Refusal.{Refusal}
use Rattle.table.proofs.Contract.{load-ok}
use Rattle.table.specs.Load.{LoadOf}
use Rattle.table.specs.Numbers as numbers
use Rattle.table.specs.Numbers.{place, Earlier}
use Rattle.table.specs.Words.{table_of}
use Rattle.table.proofs.Order.{first-only, later, not-before-itself, number-most}
use Rattle.table.proofs.Passed.{passed-count, passed-valid}
use Rattle.judge.specs.declared.Verdict.{Verdict}
use Rattle.judge.specs.declared.Verdict.TheVariants.{Firm, Full, Miss, Refused}
use Rattle.judge.specs.FirstMiss.{missed_before, by_miss}
use Rattle.judge.specs.JudgeAnswer.{judged, verdict_meaning}
use Rattle.table.specs.Fit.{loaded_table}
use Rattle.judge.specs.Judged.{Judged, accepted_of, verdict_of}
use Rattle.table.proofs.Fit.{same-table}
use Rattle.judge.proofs.Contract.{firm-words, judged-exact, refused-value, run_value}
use Rattle.response_time.specs.ResponseTimes.{ResponseTimes}
use Rattle.response_time.specs.EndedWithin.{AlwaysEndedWithin}
use Rattle.response_time.specs.ResponseTimes.{answered, ResponseTimesOf, response_times_by, response_times_in, given_times, response_times_of, no_times}
use Rattle.response_time.specs.Numbers.{Applies, First, NoneApplies, thirteen, words}
use Rattle.response_time.specs.Response.{WorstResponse, worst_response}
use Rattle.response_time.proofs.EndedWithin.{worst-response-kept}
use Rattle.response_time.proofs.Listed.{figures-at, figures-length, figures-past}
use Rattle.response_time.proofs.Response.{worst-response-exact}

module _ (ws : List ℕ) where
  abbrev s : Table
  s = table_of ws

  promised : Judged ws (verdict_of ws)
  promised = judged-exact ws

  -- THE NUMBERS

  -- the table's numbers come before 13
  table-first : (n p : ℕ) → numbers.First ws n p → First ws n p
  unfolding place
  table-first n p f = (words n p f.0, earlier)
    where
      earlier : (m q : ℕ) → Earlier m q n p → ¬ Applies ws m q
      earlier m q e (words i j h) = f.1 m q e h
      earlier m q e (thirteen t j h) = later 13 0 n p (omega (arith, number-most ws n p f.0)) e

  miss-first : numbers.NoneApplies ws → (t p : ℕ) → verdict_meaning (verdict_of ws) ≡ judged (verdict.Miss t p) → First ws 13 0
  miss-first none t p e = (thirteen t p e, earlier)
    where
      earlier : (m q : ℕ) → Earlier m q 13 0 → ¬ Applies ws m q
      earlier m q x (words i j h) = none m q h
      earlier m q x (thirteen u j h) = not-before-itself 13 0 x

  none_left : numbers.NoneApplies ws → ((t p : ℕ) → ¬ (verdict_meaning (verdict_of ws) ≡ judged (verdict.Miss t p))) → NoneApplies ws
  none_left none never m q (words i j h) = none m q h
  none_left none never m q (thirteen t j h) = never t j h

  -- GIVEN: no number applies, and no deadline is ever missed
  module _
      (none : numbers.NoneApplies ws) (nm : NeverMissed s) (never : (t p : ℕ) → ¬ (verdict_meaning (verdict_of ws) ≡ judged (verdict.Miss t p)))
      (value : given_times (response_times_in s) ≡ response_times_of ws)
    where
      ok : AllValid s
      ok = passed-valid ws none

      -- the response time at a place is that of the definition
      at : (p : ℕ) (P : ℕ → Type 0) → p < length s.tasks → P (worst_response s p) → P (get_or (response_times_in s) p 0)
      at p P l x = subst P (sym (figures-at s p l)) x

      firm-rule : (a b : ℕ) → verdict_of ws ≡ Firm a b → FirmRule s
      firm-rule a b e = (firm-words ws none).1 ((promised.firm a b).0 (ap verdict_meaning e)).2

      pub given-promise : ResponseTimesOf ws (given_times (response_times_in s))
      given-promise = record {
        value = value;
        refused = λ n p. (λ e. absurd (taken_refused e), λ f. absurd (none_left none never n p f.0));
        passed = (λ e. none_left none never, λ e. refl);
        figures = λ e p l. at p (WorstResponse s p) l (worst-response-exact s ok nm p l);
        kept = λ a b e p l. at p (AlwaysEndedWithin s p) l (worst-response-kept s ok nm (firm-rule a b e) p l);
        size = figures-length s (passed-count ws none).1;
        past = figures-past s;
        zeros = λ n p e. absurd (taken_refused e);
      }

  -- TURNED DOWN by the first number that applies
  module _ (n p : ℕ) (first : First ws n p) (apart : (a b : ℕ) → ¬ (verdict_of ws ≡ Firm a b)) (value : no_times n p ≡ response_times_of ws) where
    only : (m q : ℕ) → book.refused n p ≡ book.refused m q → First ws m q
    only m q e = let a : n ≡ m = cc in let b : p ≡ q = cc in rw (a, b) at first

    one : (m q : ℕ) → First ws m q → book.refused n p ≡ book.refused m q
    one m q f = let x = first-only (Applies ws) n p m q first f in rw (x.0, x.1)

    pub refused-promise : ResponseTimesOf ws (no_times n p)
    refused-promise = record {
      value = value;
      refused = λ m q. (only m q, one m q);
      passed = (λ e. absurd (taken_refused (sym e)), λ none. absurd (none n p first.0));
      figures = λ e. absurd (taken_refused (sym e));
      kept = λ a b e. absurd (apart a b e);
      size = refl;
      past = λ q l. get_d-zeros 32 q;
      zeros = λ m q e. refl;
    }

  -- THE CONTRACT, by the verdict
  pub response-times-contract : ResponseTimesOf ws (response_times_of ws)
  response-times-contract = subst (ResponseTimesOf ws) (is (verdict_of ws) refl) (go (verdict_of ws) refl)
    where
      is : (v : Verdict) → verdict_of ws ≡ v → response_times_by v (response_times_in s) ≡ response_times_of ws
      is v e = unfold response_times_of in ap (λ (w : Verdict). response_times_by w (response_times_in s)) (sym e)

      firm-not-miss : {a b t p : ℕ} → judged (verdict.Firm a b) ≡ judged (verdict.Miss t p) → ⊥
      firm-not-miss e = let z : ◌≡◌ {A = ℕ} 0 1 = cc in omega arith

      full-not-miss : {a b t p : ℕ} → judged (verdict.Full a b) ≡ judged (verdict.Miss t p) → ⊥
      full-not-miss e = let z : ◌≡◌ {A = ℕ} 0 1 = cc in omega arith

      miss-not-firm : {a b t p : ℕ} → Miss t p ≡ Firm a b → ⊥
      miss-not-firm e = let z : ◌≡◌ {A = ℕ} 0 1 = cc in omega arith

      refused-not-firm : {a b n p : ℕ} → Refused n p ≡ Firm a b → ⊥
      refused-not-firm e = let z : ◌≡◌ {A = ℕ} 0 1 = cc in omega arith

      go : (v : Verdict) → verdict_of ws ≡ v → ResponseTimesOf ws (response_times_by v (response_times_in s))
      go (Firm a b) e =
          let x = (promised.firm a b).0 (ap verdict_meaning e) in
          given-promise x.0 x.1 (λ t p f. firm-not-miss (sym (ap verdict_meaning e) ∙ f)) (is (Firm a b) e)
      go (Full a b) e =
          let x = (promised.full a b).0 (ap verdict_meaning e) in
          given-promise x.0 x.1 (λ t p f. full-not-miss (sym (ap verdict_meaning e) ∙ f)) (is (Full a b) e)
      go (Miss t p) e =
          let x = (promised.miss t p).0 (ap verdict_meaning e) in
          refused-promise 13 0 (miss-first x.0 t p (ap verdict_meaning e)) (λ a b f. miss-not-firm (sym e ∙ f)) (is (Miss t p) e)
      go (Refused n p) e =
          refused-promise n p (table-first n p ((promised.refused n p).0 (ap verdict_meaning e))) (λ a b f. refused-not-firm (sym e ∙ f)) (is (Refused n p) e)

  by_value : (r : ResponseTimes) → r ≡ response_times_of ws → ResponseTimesOf ws r
  by_value r e = subst (ResponseTimesOf ws) (sym e) response-times-contract

  -- OF THE TABLE THAT WAS LOADED
  module _ (loaded : Result Loaded Refusal) (l : LoadOf ws loaded) where
    -- what is done with one that passed is done with the words
    pub walked-promise :
        (t : Loaded) → loaded ≡ Ok t → (r : ResponseTimes)
        → r ≡ response_times_by (by_miss (missed_before (loaded_table t) (suc t.horizon)) (accepted_of t)) (response_times_in (loaded_table t)) → ResponseTimesOf ws r
    walked-promise t e r q =
        let (h, none, passed) = load-ok ws loaded l t e in
        by_value r
        (q
        ∙ (ap (λ (w : Table). response_times_by (by_miss (missed_before (loaded_table t) (suc t.horizon)) (accepted_of t)) (response_times_in w)) (same-table ws t h none)
        ∙ (unfold response_times_of in ap (λ (v : Verdict). response_times_by v (response_times_in s)) (run_value ws loaded l t e _ refl).value)))

    -- a refusal of it is the answer
    pub refused_all : (x : Refusal) → loaded ≡ Err x → ResponseTimesOf ws (answered (Err x))
    refused_all x e =
        by_value (answered (Err x))
        (unfold response_times_of in ap (λ (v : Verdict). response_times_by v (response_times_in s)) (refused-value ws loaded l x e).value)
