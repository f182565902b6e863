-- The rules and widths that slack is given for: the test, and the condition by the rule's number.
use mathlib.Core.Bool.{false, false≢true, not, true}
use mathlib.Core.List.{List}
use mathlib.Core.Logic.{◌↔◌, inl, inr}
use mathlib.Core.Path.{refl, subst, sym, ◌∙◌, ◌≡◌}
use Prim.Native.Nat.{ℕ, suc, zero, ◌≤◌}
use native.Mathlib.Omega.{arith}
use borrow.Author.Tests.{not-true}
use Rattle.model.proofs.Bools.{and_both, and_left, and_right}
use Rattle.model.proofs.Verdict.{monotonic-exact}
use Rattle.model.specs.Lists.{NeverMissed}
use Rattle.model.specs.Task.{AllValid, Rule, Table, greedy, idling, lending, limited, rule_of}
use Rattle.table.proofs.Passed.{passed-rule, rule-of}
use Rattle.table.specs.Numbers.{NoneApplies}
use Rattle.table.specs.Words.{rule, table_of}
use Rattle.slack.specs.Answer.{has_slack}
use Rattle.slack.specs.Ordered.{Ordered, OrderedWords, ordered}
use Rattle.slack.specs.Slack.{misses}
use Rattle.slack.proofs.Misses.{misses-never, never-misses}

-- the test is true exactly if they are these
pub ordered-exact : (s : Table) → (ordered s.rule s.tasks ≡ true) ↔ Ordered s
unfolding ordered
ordered-exact s = (found s.rule refl, back)
  where
    found : (r : Rule) → s.rule ≡ r → ordered r s.tasks ≡ true → Ordered s
    found greedy q e = inr (q, (monotonic-exact s.tasks).0 e)
    found limited q e = inl q
    found idling q e = absurd (false≢true e)
    found lending q e = absurd (false≢true e)

    back : Ordered s → ordered s.rule s.tasks ≡ true
    back (inl e) = subst (λ (r : Rule). ordered r s.tasks ≡ true) (sym e) refl
    back (inr (e, h)) = subst (λ (r : Rule). ordered r s.tasks ≡ true) (sym e) ((monotonic-exact s.tasks).1 h)

-- slack is given exactly for the accepted tables among them
pub gives-exact : (s : Table) → AllValid s → (has_slack s ≡ true) ↔ (NeverMissed s × Ordered s)
unfolding has_slack
gives-exact s ok = (
  λ e. (
    misses-never s ok (not-true (misses s) (and_right (ordered s.rule s.tasks) (not (misses s)) e)),
    (ordered-exact s).0 (and_left (ordered s.rule s.tasks) (not (misses s)) e),
  ),
  λ x. and_both (ordered s.rule s.tasks) (not (misses s)) ((ordered-exact s).1 x.1) (rw (never-misses s ok x.0)),
)

-- by the two tests
pub gives-accepted : (s : Table) → ordered s.rule s.tasks ≡ true → not (misses s) ≡ has_slack s
unfolding has_slack
gives-accepted s e = rw e

pub gives-never : (s : Table) → ordered s.rule s.tasks ≡ false → false ≡ has_slack s
unfolding has_slack
gives-never s e = rw e

-- BY THE RULE'S NUMBER

pub ordered_words : (ws : List ℕ) → NoneApplies ws → Ordered (table_of ws) ↔ OrderedWords ws
ordered_words ws none = (by_number (rule ws) refl (passed-rule ws none).0 (passed-rule ws none).1, found)
  where
    -- a rule is none of the others
    apart : {r : Rule} (n : ℕ) → rule ws ≡ n → (table_of ws).rule ≡ r → rule_of n ≡ r
    apart n q e = sym (rule-of ws n q) ∙ e

    one : rule ws ≡ 1 → Ordered (table_of ws) → OrderedWords ws
    one q (inl e) = let x : greedy ≡ limited = apart 1 q e in let z : ◌≡◌ {A = ℕ} 0 1 = cc in absurd (omega arith)
    one q (inr (e, h)) = inr (q, h)

    three : rule ws ≡ 3 → Ordered (table_of ws) → OrderedWords ws
    three q (inl e) = let x : idling ≡ limited = apart 3 q e in let z : ◌≡◌ {A = ℕ} 0 1 = cc in absurd (omega arith)
    three q (inr (e, h)) = let x : idling ≡ greedy = apart 3 q e in let z : ◌≡◌ {A = ℕ} 0 1 = cc in absurd (omega arith)

    four : rule ws ≡ 4 → Ordered (table_of ws) → OrderedWords ws
    four q (inl e) = let x : lending ≡ limited = apart 4 q e in let z : ◌≡◌ {A = ℕ} 0 1 = cc in absurd (omega arith)
    four q (inr (e, h)) = let x : lending ≡ greedy = apart 4 q e in let z : ◌≡◌ {A = ℕ} 0 1 = cc in absurd (omega arith)

    by_number : (n : ℕ) → rule ws ≡ n → 1 ≤ n → n ≤ 4 → Ordered (table_of ws) → OrderedWords ws
    by_number zero q a b f = absurd (omega arith)
    by_number (suc zero) q a b f = one q f
    by_number (suc (suc zero)) q a b f = inl q
    by_number (suc (suc (suc zero))) q a b f = three q f
    by_number (suc (suc (suc (suc zero)))) q a b f = four q f
    by_number (suc (suc (suc (suc (suc n))))) q a b f = absurd (omega arith)

    found : OrderedWords ws → Ordered (table_of ws)
    found (inl q) = inl (rule-of ws 2 q)
    found (inr (q, h)) = inr (rule-of ws 1 q, h)
