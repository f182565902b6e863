-- The contract of the verdict of the words follows from the numbers of the table and from the model's theorem on its verdict.
use native.Mathlib.Omega.{arith}
use mathlib.Core.Path.{◌≡◌, refl, sym, ap, ◌∙◌, subst}
use mathlib.Core.List.{List}
use mathlib.Core.Logic.{◌⊎◌, ◌↔◌, inl, inr, ⊎_elim}
use Prim.Native.Nat.{ℕ, zero, suc, ◌≤◌}
use Rattle.model.specs.Task.{Table, Rule, greedy, limited, idling, lending, rule_of}
use Rattle.model.specs.Lists.{NeverMissed}
use Rattle.model.specs.Firm.{FirmRule}
use Rattle.model.specs.Verdict.{Exact, verdict}
use Rattle.model.specs.Verdict as model
use Rattle.model.proofs.Verdict.{verdict-exact}
use Rattle.table.specs.Answer.{Answer}
use Rattle.table.specs.Answer.{Passed}
use Rattle.table.specs.Answer as table
use Rattle.table.specs.declared.Loaded.{Loaded}
use Rattle.table.specs.Words.{rule, table_of}
use Rattle.table.specs.Numbers.{NoneApplies}
use Rattle.table.specs.Answer.{answer_of}
use Rattle.table.specs.Load.{LoadOf}
use Rattle.table.proofs.Contract.{load-ok, load-err}
use Rattle.std.specs.Prelude.{Result, Ok, Err}
use Rattle.model.specs.declared.refusal.Refusal.{Refusal}
use Rattle.model.specs.Refusal.{number_of, position_of}
use Rattle.table.proofs.Exact.{refusal-exact, passed-exact}
use Rattle.table.proofs.Passed.{passed-rule, passed-valid, rule-of}
use Rattle.table.proofs.Fit.{fit, same-table}
use Rattle.judge.specs.declared.Verdict.{Verdict}
use Rattle.judge.specs.declared.Verdict.TheVariants.{Firm, Full, Miss, Refused}
use Rattle.judge.specs.JudgeAnswer.{JudgeAnswer, judged, verdict_meaning, verdict_case}
use Rattle.judge.specs.JudgeAnswer as meaning
use Rattle.table.specs.Fit.{loaded_table}
use Rattle.judge.specs.Judged.{judged_by, verdict_of, FirmWords, Judged, accepted_of}
use Rattle.judge.specs.FirstMiss.{missed_before, by_miss}
use Rattle.judge.proofs.FirstMiss.{verdict-by}

-- THE CASES OF THE ANSWER

-- the case of a meaning has that meaning, and a case is that of its meaning
pub meaning-case : (x : JudgeAnswer) → verdict_meaning (verdict_case x) ≡ x
meaning-case (judged (model.Firm a b)) = refl
meaning-case (judged (model.Full a b)) = refl
meaning-case (judged (model.Miss a b)) = refl
meaning-case (meaning.refused n p) = refl

-- (a law of the two definitions alone, which JudgeAnswer states: nothing else cites it)
pub case-meaning : (v : Verdict) → verdict_case (verdict_meaning v) ≡ v
case-meaning (Firm a b) = refl
case-meaning (Full a b) = refl
case-meaning (Miss a b) = refl
case-meaning (Refused n p) = refl

-- there is one verdict at most, and none where it is refused
same-verdict : {v w : model.Verdict} → judged v ≡ judged w → v ≡ w
same-verdict e = cc

not-refused : {v : model.Verdict} {n p : ℕ} → judged v ≡ meaning.refused n p → ⊥
not-refused e = let z : ◌≡◌ {A = ℕ} 0 1 = cc in omega arith

-- THE CONDITION FOR FIRM, by the rule's number

pub firm-words : (ws : List ℕ) → NoneApplies ws → FirmRule (table_of ws) ↔ FirmWords ws
firm-words ws none = (says, found)
  where
    -- greedy is none of the other rules
    apart : {r : Rule} → rule ws ≡ 1 → (table_of ws).rule ≡ r → greedy ≡ r
    apart q e = sym (rule-of ws 1 q) ∙ e

    one : rule ws ≡ 1 → FirmRule (table_of ws) → FirmWords ws
    one q (inl e) = let x : greedy ≡ limited = apart q e in let z : ◌≡◌ {A = ℕ} 0 1 = cc in absurd (omega arith)
    one q (inr (inl e)) = let x : greedy ≡ idling = apart q e in let z : ◌≡◌ {A = ℕ} 0 1 = cc in absurd (omega arith)
    one q (inr (inr (inl e))) = let x : greedy ≡ lending = apart q e in let z : ◌≡◌ {A = ℕ} 0 1 = cc in absurd (omega arith)
    one q (inr (inr (inr (e, h)))) = inr (inr (inr (q, h)))

    by_number : (n : ℕ) → rule ws ≡ n → 1 ≤ n → n ≤ 4 → FirmRule (table_of ws) → FirmWords ws
    by_number zero q a b f = absurd (omega arith)
    by_number (suc zero) q a b f = one q f
    by_number (suc (suc zero)) q a b f = inl q
    by_number (suc (suc (suc zero))) q a b f = inr (inl q)
    by_number (suc (suc (suc (suc zero)))) q a b f = inr (inr (inl q))
    by_number (suc (suc (suc (suc (suc n))))) q a b f = absurd (omega arith)

    says : FirmRule (table_of ws) → FirmWords ws
    says = by_number (rule ws) refl (passed-rule ws none).0 (passed-rule ws none).1

    found : FirmWords ws → FirmRule (table_of ws)
    found (inl q) = inl (rule-of ws 2 q)
    found (inr (inl q)) = inr (inl (rule-of ws 3 q))
    found (inr (inr (inl q))) = inr (inr (inl (rule-of ws 4 q)))
    found (inr (inr (inr (q, h)))) = inr (inr (inr (rule-of ws 1 q, h)))

-- THE CONTRACT

pub passed_is : (ws : List ℕ) → answer_of ws ≡ Passed → verdict_of ws ≡ verdict_case (judged (verdict (table_of ws)))
unfolding verdict_of
passed_is ws e = ap (λ (a : Answer). verdict_case (judged_by a (table_of ws))) e

pub refused-is : (ws : List ℕ) (n p : ℕ) → answer_of ws ≡ table.Refused n p → verdict_of ws ≡ Refused n p
unfolding verdict_of
refused-is ws n p e = ap (λ (a : Answer). verdict_case (judged_by a (table_of ws))) e

-- words that pass
by-passed : (ws : List ℕ) → answer_of ws ≡ Passed → Judged ws (verdict_of ws)
by-passed ws e = record {
  value = refl;
  refused = λ n p. (λ q. absurd (not-refused (sym is ∙ q)), λ f. absurd (none n p f.0));
  accepted = (
    λ x. (none, x-never x.0 x.1 x.2),
    λ y. let z = exact.accepted.1 y.1 in
        (z.0, z.1, ⊎_elim (λ q. inl (is ∙ ap judged q)) (λ q. inr (is ∙ ap judged q)) z.2),
  );
  miss = λ t p. (
    λ q. (none, (exact.miss t p).0 (same-verdict (sym is ∙ q))),
    λ y. is ∙ ap judged ((exact.miss t p).1 y.1),
  );
  firm = λ a b. (
    λ q. let z = (exact.firm a b).0 (same-verdict (sym is ∙ q)) in (none, z.0, (firm-words ws none).0 z.1, z.2, z.3),
    λ y. is ∙ ap judged ((exact.firm a b).1 (y.1, (firm-words ws none).1 y.2, y.3, y.4)),
  );
  full = λ a b. (
    λ q. let z = (exact.full a b).0 (same-verdict (sym is ∙ q)) in (none, z.0, (λ w. z.1 ((firm-words ws none).1 w)), z.2, z.3),
    λ y. is ∙ ap judged ((exact.full a b).1 (y.1, (λ w. y.2 ((firm-words ws none).0 w)), y.3, y.4)),
  );
}
  where
    s : Table
    s = table_of ws

    none : NoneApplies ws
    none = (passed-exact ws).0 e

    is : verdict_meaning (verdict_of ws) ≡ judged (verdict s)
    is = ap verdict_meaning (passed_is ws e) ∙ meaning-case (judged (verdict s))

    exact : Exact s (verdict s)
    exact = verdict-exact s (passed-valid ws none)

    x-never : (a b : ℕ) → (verdict_meaning (verdict_of ws) ≡ judged (model.Firm a b)) ⊎ (verdict_meaning (verdict_of ws) ≡ judged (model.Full a b)) → NeverMissed s
    x-never a b (inl q) = exact.accepted.0 (a, b, inl (same-verdict (sym is ∙ q)))
    x-never a b (inr q) = exact.accepted.0 (a, b, inr (same-verdict (sym is ∙ q)))

-- words that a number turns down
by-refused : (ws : List ℕ) (m q : ℕ) → answer_of ws ≡ table.Refused m q → Judged ws (verdict_of ws)
by-refused ws m q e = record {
  value = refl;
  refused = λ n p. (
    λ x. (refusal-exact ws n p).0 (e ∙ same n p (sym is ∙ x)),
    λ f. ap verdict_meaning (refused-is ws n p ((refusal-exact ws n p).1 f)),
  );
  accepted = (λ x. absurd (neither x.0 x.1 x.2), λ y. absurd (some y.0));
  miss = λ t p. (λ x. absurd (not-refused (sym x ∙ is)), λ y. absurd (some y.0));
  firm = λ a b. (λ x. absurd (not-refused (sym x ∙ is)), λ y. absurd (some y.0));
  full = λ a b. (λ x. absurd (not-refused (sym x ∙ is)), λ y. absurd (some y.0));
}
  where
    is : verdict_meaning (verdict_of ws) ≡ meaning.refused m q
    is = ap verdict_meaning (refused-is ws m q e)

    some : ¬ NoneApplies ws
    some none = none m q ((refusal-exact ws m q).0 e).0

    same : (n p : ℕ) → meaning.refused m q ≡ meaning.refused n p → table.Refused m q ≡ table.Refused n p
    same n p x = cc

    neither : (a b : ℕ) → ¬ ((verdict_meaning (verdict_of ws) ≡ judged (model.Firm a b)) ⊎ (verdict_meaning (verdict_of ws) ≡ judged (model.Full a b)))
    neither a b (inl x) = not-refused (sym x ∙ is)
    neither a b (inr x) = not-refused (sym x ∙ is)

-- THE THEOREM: the verdict of the words meets its contract
pub judged-exact : (ws : List ℕ) → Judged ws (verdict_of ws)
judged-exact ws = go (answer_of ws) refl
  where
    go : (a : Answer) → answer_of ws ≡ a → Judged ws (verdict_of ws)
    go Passed e = by-passed ws e
    go (table.Refused n p) e = by-refused ws n p e

-- THE VERDICT on a table that was loaded

-- one that passed has the verdict of the words
pub run_value :
    (ws : List ℕ) (r : Result Loaded Refusal) → LoadOf ws r → (t : Loaded) → r ≡ Ok t → (v : Verdict)
    → v ≡ by_miss (missed_before (loaded_table t) (suc t.horizon)) (accepted_of t) → Judged ws v
run_value ws r l t e v q =
    let (h, none, passed) = load-ok ws r l t e in
    subst (Judged ws)
    (passed_is ws passed
    ∙ (ap (λ (s : Table). verdict_case (judged (verdict s))) (sym (same-table ws t h none)) ∙ sym (q ∙ verdict-by t (fit ws t h none))))
    (judged-exact ws)

-- a refusal is the verdict of the words
pub refused-value : (ws : List ℕ) (r : Result Loaded Refusal) → LoadOf ws r → (x : Refusal) → r ≡ Err x → Judged ws (Refused (number_of x) (position_of x))
refused-value ws r l x e = subst (Judged ws) (refused-is ws (number_of x) (position_of x) (load-err ws r l x e).0) (judged-exact ws)
