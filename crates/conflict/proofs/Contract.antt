-- The contract of `conflict`: its refusal is the first that applies, and the kept positions are what the passes leave.
use mathlib.Core.List.{List}
use mathlib.Core.Path.{◌≡◌, ap, refl, subst, sym, ◌∙◌}
use Prim.Native.Nat.{ℕ}
use native.Mathlib.Omega.{arith}
use Rattle.model.proofs.Digits.{bit-none}
use Rattle.model.specs.Refusals as book
use Rattle.model.specs.Lists.{Missed, NeverMissed}
use Rattle.model.specs.Task.{Table}
use Rattle.table.proofs.Order.{first-only, later, not-before-itself, number-most}
use Rattle.table.proofs.Passed.{passed-valid}
use Rattle.table.specs.Numbers as numbers
use Rattle.table.specs.Numbers.{Earlier, place}
use Rattle.table.specs.Words.{table_of}
use mathlib.Core.Bool.{Bool, cond, true, false}
use native.Mathlib.Numerals.{add-one}
use Prim.Native.Nat.{◌+◌}
use Rattle.std.specs.Prelude.{Result, Ok, Err}
use Rattle.model.specs.declared.refusal.Refusal.{Refusal}
use Rattle.model.specs.Task.{rule_of}
use Rattle.model.specs.Firm.{firm}
use Rattle.table.specs.declared.Loaded.{Loaded}
use Rattle.table.specs.Task.{tasks_of}
use Rattle.table.specs.Fit.{loaded_table}
use Rattle.table.specs.Load.{LoadOf}
use Rattle.judge.specs.FirstMiss as judge
use Rattle.judge.specs.FirstMiss.{missed_before, by_miss}
use Rattle.judge.proofs.Contract.{judged-exact, run_value, refused-value}
use Rattle.judge.specs.declared.Verdict.{Verdict}
use Rattle.judge.specs.declared.Verdict.TheVariants.{Firm, Full, Miss, Refused}
use Rattle.judge.specs.Judged.{Judged, verdict_of, accepted_of}
use Rattle.judge.specs.JudgeAnswer.{verdict_meaning}
use Rattle.model.proofs.Refusals.{taken_refused}
use Rattle.conflict.specs.Answer.{ConflictAnswer}
use Rattle.conflict.specs.Answer.{ConflictOf, answered, conflict_by, conflict_of, given_conflict, no_conflict}
use Rattle.conflict.specs.Conflict.{conflict_set}
use Rattle.conflict.specs.Numbers.{Applies, First, NoneApplies, seventeen, words}
use Rattle.conflict.proofs.Dropping.{conflict-past}
use Rattle.conflict.proofs.Minimal.{conflict-minimal}
use Rattle.conflict.proofs.Relinked.{every-part}

module _ (ws : List ℕ) where
  abbrev s : Table
  s = table_of ws

  promised : Judged ws (verdict_of ws)
  promised = judged-exact ws

  -- THE NUMBERS

  -- the table's numbers come before 17
  table-first : (n p : ℕ) → numbers.First ws n p → First ws n p
  unfolding place
  table-first n p f = (words n p f.0, earlier)
    where
      earlier : (m q : ℕ) → Earlier m q n p → ¬ Applies ws m q
      earlier m q e (words i j h) = f.1 m q e h
      earlier m q e (seventeen h) = later 17 0 n p (omega (arith, number-most ws n p f.0)) e

  never_first : numbers.NoneApplies ws → NeverMissed s → First ws 17 0
  never_first none nm = (seventeen nm, earlier)
    where
      earlier : (m q : ℕ) → Earlier m q 17 0 → ¬ Applies ws m q
      earlier m q x (words i j h) = none m q h
      earlier m q x (seventeen h) = not-before-itself 17 0 x

  none_left : numbers.NoneApplies ws → ¬ NeverMissed s → NoneApplies ws
  none_left none some m q (words i j h) = none m q h
  none_left none some m q (seventeen h) = some h

  -- GIVEN: no number applies, and a deadline is missed
  module _ (none : numbers.NoneApplies ws) (p t : ℕ) (missed : Missed s p t) (value : given_conflict (conflict_set s) ≡ conflict_of ws) where
    nothing : NoneApplies ws
    nothing = none_left none (λ nm. nm p t missed)

    given-promise : ConflictOf ws (given_conflict (conflict_set s))
    given-promise = record {
      value = value;
      refused = λ n q. (λ e. absurd (taken_refused e), λ f. absurd (nothing n q f.0));
      passed = (λ e. nothing, λ e. refl);
      minimal = λ e. conflict-minimal s (passed-valid ws none) p t missed;
      words = λ e. every-part ws none;
      past = conflict-past s;
      zeros = λ n q e. absurd (taken_refused e);
    }

  -- TURNED DOWN by the first number that applies
  module _ (n p : ℕ) (first : First ws n p) (value : no_conflict n p ≡ conflict_of ws) where
    only : (m q : ℕ) → book.refused n p ≡ book.refused m q → First ws m q
    only m q e = let a : n ≡ m = cc in let b : p ≡ q = cc in rw (a, b) at first

    one : (m q : ℕ) → First ws m q → book.refused n p ≡ book.refused m q
    one m q f = let x = first-only (Applies ws) n p m q first f in rw (x.0, x.1)

    refused-promise : ConflictOf ws (no_conflict n p)
    refused-promise = record {
      value = value;
      refused = λ m q. (only m q, one m q);
      passed = (λ e. absurd (taken_refused (sym e)), λ none. absurd (none n p first.0));
      minimal = λ e. absurd (taken_refused (sym e));
      words = λ e. absurd (taken_refused (sym e));
      past = λ q l. bit-none q;
      zeros = λ m q e. refl;
    }

  -- THE CONTRACT, by the verdict
  pub conflict-contract : ConflictOf ws (conflict_of ws)
  conflict-contract = subst (ConflictOf ws) (is (verdict_of ws) refl) (go (verdict_of ws) refl)
    where
      is : (v : Verdict) → verdict_of ws ≡ v → conflict_by v (conflict_set s) ≡ conflict_of ws
      is v e = unfold conflict_of in ap (λ (w : Verdict). conflict_by w (conflict_set s)) (sym e)

      go : (v : Verdict) → verdict_of ws ≡ v → ConflictOf ws (conflict_by v (conflict_set s))
      go (Firm a b) e = let x = (promised.firm a b).0 (ap verdict_meaning e) in refused-promise 17 0 (never_first x.0 x.1) (is (Firm a b) e)
      go (Full a b) e = let x = (promised.full a b).0 (ap verdict_meaning e) in refused-promise 17 0 (never_first x.0 x.1) (is (Full a b) e)
      go (Miss t p) e =
          let x = (promised.miss t p).0 (ap verdict_meaning e) in
          given-promise x.0 x.1.place.0 t x.1.missed (is (Miss t p) e)
      go (Refused n p) e = refused-promise n p (table-first n p ((promised.refused n p).0 (ap verdict_meaning e))) (is (Refused n p) e)

  -- what is made of a verdict that meets its contract is the answer
  pub by-verdict : (v u : Verdict) → Judged ws v → v ≡ u → (r : ConflictAnswer) → r ≡ conflict_by u (conflict_set s) → ConflictOf ws r
  by-verdict v u j q r e = subst (ConflictOf ws) (sym (e ∙ is)) conflict-contract
    where
      is : conflict_by u (conflict_set s) ≡ conflict_of ws
      is = unfold conflict_of in ap (λ (w : Verdict). conflict_by w (conflict_set s)) (sym q ∙ j.value)

  -- OF THE TABLE THAT WAS LOADED
  module _ (loaded : Result Loaded Refusal) (l : LoadOf ws loaded) where
    -- by the first miss of one that passed
    pub by-first-miss :
        (t : Loaded) → loaded ≡ Ok t → (m : judge.Missed) → m ≡ missed_before (loaded_table t) (t.horizon + 1)
        → (r : ConflictAnswer) → r ≡ conflict_by (by_miss m (accepted_of t)) (conflict_set s) → ConflictOf ws r
    by-first-miss t e m q r f =
        let v = by_miss m (accepted_of t) in
        by-verdict v v (run_value ws loaded l t e v (ap (λ (x : judge.Missed). by_miss x (accepted_of t)) (q ∙ ap (missed_before (loaded_table t)) (add-one t.horizon)))) refl r f

    -- a refusal of it is the answer
    pub refused_all : (x : Refusal) → loaded ≡ Err x → ConflictOf ws (answered (Err x))
    refused_all x e = by-verdict _ _ (refused-value ws loaded l x e) refl (answered (Err x)) refl

-- where none is missed, 17
pub no-miss : (t : Loaded) (x : ℕ) → conflict_by (accepted_of t) x ≡ no_conflict 17 0
no-miss t x = go (firm (rule_of t.rule) (tasks_of t.tasks t.count))
  where
    go : (b : Bool) → conflict_by (cond b (Firm t.start t.period) (Full t.start t.period)) x ≡ no_conflict 17 0
    go true = refl
    go false = refl
