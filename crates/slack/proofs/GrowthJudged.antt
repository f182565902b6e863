-- THEOREM (growth-judged): the slack in the judge's words. The words with a growth up to the slack get the verdict of the table itself, and those with one
-- tick more a miss, where C is then within 1,000,000.
use mathlib.Core.Bool.{Bool, false, true}
use mathlib.Core.List.{List}
use mathlib.Core.Logic.{◌⊎◌, inl, inr}
use mathlib.Core.Path.{◌≡◌, ap, refl, sym, ◌∙◌}
use Prim.Native.Nat.{ℕ, suc, ◌+◌, ◌<◌, ◌≤◌}
use native.Mathlib.Omega.{arith}
use lib.Dec.{leb}
use lib.ListN.{length}
use borrow.Author.Tests.{leb-false, leb-true}
use Rattle.model.proofs.Verdict.{verdict-exact}
use Rattle.model.specs.Lists.{Missed, NeverMissed}
use Rattle.model.specs.Firm.{FirmRule}
use Rattle.model.specs.Horizon.{hyperperiod, last_s}
use Rattle.model.specs.Task.{AllValid, Table, task}
use Rattle.model.specs.Verdict as model
use Rattle.model.specs.Verdict.{verdict}
use Rattle.table.proofs.Exact.{passed-exact}
use Rattle.table.proofs.Passed.{passed-valid}
use Rattle.table.specs.Limits.{most_time}
use Rattle.table.specs.Numbers.{NoneApplies}
use Rattle.table.specs.Words.{table_of}
use Rattle.judge.proofs.Contract.{passed_is}
use Rattle.judge.specs.declared.Verdict.TheVariants.{Firm, Miss}
use Rattle.judge.specs.Judged.{verdict_of}
use Rattle.judge.specs.JudgeAnswer.{verdict_case, judged}
use Rattle.slack.specs.GrownWords.{grown_words}
use Rattle.slack.specs.Longer.{grown}
use Rattle.slack.specs.Ordered.{Ordered}
use Rattle.slack.specs.Slack.{Slack}
use Rattle.slack.proofs.Grown.{grown-longer, ordered-longer, period-longer, valid-grown, start-longer}
use Rattle.slack.proofs.GrownWords.{every-growth}

-- these rules and widths are firm
firm-ordered : (s : Table) → Ordered s → FirmRule s
firm-ordered s (inl e) = inl e
firm-ordered s (inr x) = inr (inr (inr x))

module _ (ws : List ℕ) (none : NoneApplies ws) (o : Ordered (table_of ws)) (p : ℕ) (l : p < length (table_of ws).tasks) where
  abbrev s : Table
  s = table_of ws

  ok : AllValid s
  ok = passed-valid ws none

  -- the words with a growth have the verdict of the table that has grown
  verdict-grown : (h : ℕ) → (task s p).length + h ≤ most_time → verdict_of (grown_words ws p h) ≡ verdict_case (judged (verdict (grown s p h)))
  verdict-grown h most =
      let x = every-growth ws none p l h most in
      passed_is (grown_words ws p h) ((passed-exact (grown_words ws p h)).1 x.0) ∙ ap (λ (w : Table). verdict_case (judged (verdict w))) x.1

  -- where it never misses that is Firm, with the table's own S and P
  firm-grown : (h : ℕ) → NeverMissed (grown s p h) → verdict (grown s p h) ≡ model.Firm (last_s s.tasks) (hyperperiod s.tasks)
  firm-grown h nm =
      let x = grown-longer s p h in
      ((verdict-exact (grown s p h) (valid-grown s ok p h)).firm (last_s s.tasks) (hyperperiod s.tasks)).1
      (nm, firm-ordered (grown s p h) (ordered-longer s (grown s p h) x o), start-longer s (grown s p h) x, period-longer s (grown s p h) x)

  firm-own : NeverMissed s → verdict_of ws ≡ Firm (last_s s.tasks) (hyperperiod s.tasks)
  firm-own nm =
      passed_is ws ((passed-exact ws).1 none)
      ∙ ap (λ (v : model.Verdict). verdict_case (judged v))
      (((verdict-exact s ok).firm (last_s s.tasks) (hyperperiod s.tasks)).1 (nm, firm-ordered s o, refl, refl))

  -- where it misses, a miss
  miss-grown : (h q t : ℕ) → Missed (grown s p h) q t → (u i : ℕ) × (verdict (grown s p h) ≡ model.Miss u i)
  miss-grown h q t m = go (verdict (grown s p h)) refl
    where
      go : (v : model.Verdict) → verdict (grown s p h) ≡ v → (u i : ℕ) × (verdict (grown s p h) ≡ model.Miss u i)
      go (model.Firm a b) e = absurd ((verdict-exact (grown s p h) (valid-grown s ok p h)).accepted.0 (a, b, inl e) q t m)
      go (model.Full a b) e = absurd ((verdict-exact (grown s p h) (valid-grown s ok p h)).accepted.0 (a, b, inr e) q t m)
      go (model.Miss u i) e = (u, i, e)

  -- THE THEOREM
  pub growth-judged :
      NeverMissed s → (g : ℕ) → Slack s p g
      → ((h : ℕ) → h ≤ g → verdict_of (grown_words ws p h) ≡ verdict_of ws)
      × (((t q : ℕ) × (verdict_of (grown_words ws p (suc g)) ≡ Miss t q)) ⊎ (most_time < (task s p).length + suc g))
  growth-judged nm g x = (same, more (leb ((task s p).length + suc g) most_time) refl x.no_more)
    where
      same : (h : ℕ) → h ≤ g → verdict_of (grown_words ws p h) ≡ verdict_of ws
      same h i =
          verdict-grown h (omega (arith, x.within))
          ∙ (ap (λ (v : model.Verdict). verdict_case (judged v)) (firm-grown h (x.accepted h i)) ∙ sym (firm-own nm))

      more : (b : Bool) → leb ((task s p).length + suc g) most_time ≡ b
          → ((q t : ℕ) × Missed (grown s p (suc g)) q t) ⊎ (most_time < (task s p).length + suc g)
          → ((t q : ℕ) × (verdict_of (grown_words ws p (suc g)) ≡ Miss t q)) ⊎ (most_time < (task s p).length + suc g)
      more false e y = inr (leb-false ((task s p).length + suc g) most_time e)
      more true e (inr y) = inr y
      more true e (inl y) =
          let m = miss-grown (suc g) y.0 y.1 y.2 in
          inl (m.0, m.1, verdict-grown (suc g) (leb-true ((task s p).length + suc g) most_time e) ∙ ap (λ (v : model.Verdict). verdict_case (judged v)) m.2)
