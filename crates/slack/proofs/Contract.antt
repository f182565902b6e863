-- The contract of `slack`: its refusal is the first that applies, and the slack holds over all ticks.
use mathlib.Core.Bool.{Bool, false, false≢true, true}
use mathlib.Core.List.{List}
use mathlib.Core.Path.{◌≡◌, ap, refl, subst, sym, ◌∙◌}
use Prim.Native.Nat.{ℕ, ◌<◌, ◌≤◌}
use native.Mathlib.Nat.{le_trans}
use native.Mathlib.Omega.{arith}
use lib.ListN.{get_or, length}
use Rattle.model.proofs.Lists.{get_d-zeros}
use Rattle.model.proofs.Refusals.{taken_refused}
use Rattle.model.specs.Refusals as book
use Rattle.model.specs.Lists.{NeverMissed}
use Rattle.model.specs.Task.{AllValid, Table, task}
use Rattle.table.proofs.Exact.{passed-exact, refusal-exact}
use Rattle.table.proofs.Order.{first-only, later, not-before-itself, number-most}
use Rattle.table.proofs.Passed.{passed-count, passed-inside, passed-valid}
use Rattle.table.specs.Answer.{Answer}
use Rattle.table.specs.Answer.{Passed, Refused}
use Rattle.table.specs.declared.Loaded.{Loaded}
use Rattle.table.specs.Answer.{answer_of}
use Rattle.table.specs.Limits.{most_time}
use Rattle.std.specs.Prelude.{Result, Ok, Err}
use Rattle.model.specs.declared.refusal.Refusal.{Refusal}
use Rattle.table.proofs.Contract.{load-ok, load-err}
use Rattle.table.specs.Load.{LoadOf}
use Rattle.table.specs.Numbers as numbers
use Rattle.table.specs.Numbers.{Earlier, place}
use Rattle.table.specs.Words.{table_of}
use Rattle.table.proofs.Fit.{same-table}
use Rattle.table.specs.Fit.{loaded_table}
use Rattle.slack.specs.Answer.{SlackAnswer}
use Rattle.slack.specs.Answer.{SlackOf, answered, slack_in, given_slack, has_slack, slack_answer, slack_by, slack_of, no_slack}
use Rattle.slack.specs.Numbers.{Applies, First, NoneApplies, twenty-three, words}
use Rattle.slack.specs.Ordered.{OrderedWords}
use Rattle.slack.specs.Slack.{Slack}
use Rattle.slack.proofs.GrownWords.{every-growth}
use Rattle.slack.proofs.Listed.{figures-at, figures-length, figures-past}
use Rattle.slack.proofs.Ordered.{gives-exact, ordered_words}
use Rattle.slack.proofs.Figure.{slack-exact, slack-largest}

module _ (ws : List ℕ) where
  abbrev s : Table
  s = table_of ws

  -- THE NUMBERS

  -- the table's numbers come before 23
  table-first : (n p : ℕ) → numbers.First ws n p → First ws n p
  unfolding place
  table-first n p f = (words n p f.0, earlier)
    where
      earlier : (m q : ℕ) → Earlier m q n p → ¬ Applies ws m q
      earlier m q e (words i j h) = f.1 m q e h
      earlier m q e (twenty-three h) = later 23 0 n p (omega (arith, number-most ws n p f.0)) e

  other-first : numbers.NoneApplies ws → ¬ (NeverMissed s × OrderedWords ws) → First ws 23 0
  other-first none other = (twenty-three other, earlier)
    where
      earlier : (m q : ℕ) → Earlier m q 23 0 → ¬ Applies ws m q
      earlier m q x (words i j h) = none m q h
      earlier m q x (twenty-three h) = not-before-itself 23 0 x

  -- GIVEN: no number applies
  module _ (none : numbers.NoneApplies ws) (e : has_slack s ≡ true) (value : given_slack (slack_in s) ≡ slack_of ws) where
    ok : AllValid s
    ok = passed-valid ws none

    nm : NeverMissed s
    nm = ((gives-exact s ok).0 e).0

    nothing : NoneApplies ws
    nothing m q (words i j h) = none m q h
    nothing m q (twenty-three h) = h (nm, (ordered_words ws none).0 ((gives-exact s ok).0 e).1)

    -- no deadline is past the largest length
    short : (p : ℕ) → p < length s.tasks → (task s p).deadline ≤ most_time
    short p l = let i = passed-inside ws none p l in le_trans i.deadline-from.1 i.period-from.1

    figure : (p : ℕ) → p < length s.tasks → Slack s p (get_or (slack_in s) p 0)
    figure p l = subst (Slack s p) (sym (figures-at s p l)) (slack-exact s ok p l nm (short p l))

    given-promise : SlackOf ws (given_slack (slack_in s))
    given-promise = record {
      value = value;
      refused = λ n p. (λ f. absurd (taken_refused f), λ f. absurd (nothing n p f.0));
      passed = (λ f. nothing, λ f. refl);
      figures = λ f. figure;
      largest = λ f p h l. slack-largest s ok p l nm (short p l) ((gives-exact s ok).0 e).1 (get_or (slack_in s) p 0) h (figure p l);
      words = λ f p h l. every-growth ws none p l h;
      size = figures-length s (passed-count ws none).1;
      past = figures-past s;
      zeros = λ n p f. absurd (taken_refused f);
    }

  -- TURNED DOWN by the first number that applies
  module _ (n p : ℕ) (first : First ws n p) (value : no_slack n p ≡ slack_of ws) where
    only : (m q : ℕ) → book.refused n p ≡ book.refused m q → First ws m q
    only m q e = let a : n ≡ m = cc in let b : p ≡ q = cc in rw (a, b) at first

    one : (m q : ℕ) → First ws m q → book.refused n p ≡ book.refused m q
    one m q f = let x = first-only (Applies ws) n p m q first f in rw (x.0, x.1)

    refused-promise : SlackOf ws (no_slack n p)
    refused-promise = record {
      value = value;
      refused = λ m q. (only m q, one m q);
      passed = (λ e. absurd (taken_refused (sym e)), λ none. absurd (none n p first.0));
      figures = λ e. absurd (taken_refused (sym e));
      largest = λ e. absurd (taken_refused (sym e));
      words = λ e. absurd (taken_refused (sym e));
      size = refl;
      past = λ q l. get_d-zeros 32 q;
      zeros = λ m q e. refl;
    }

  -- THE CONTRACT, by the table's answer
  pub slack-contract : SlackOf ws (slack_of ws)
  slack-contract = subst (SlackOf ws) (is (answer_of ws) refl) (go (answer_of ws) refl)
    where
      is : (a : Answer) → answer_of ws ≡ a → slack_by a s ≡ slack_of ws
      is a e = unfold slack_of in ap (λ (b : Answer). slack_by b s) (sym e)

      passing : answer_of ws ≡ Passed → (t : Bool) → has_slack s ≡ t → SlackOf ws (slack_answer t (slack_in s))
      passing e true g =
          given-promise ((passed-exact ws).0 e) g (ap (λ (b : Bool). slack_answer b (slack_in s)) (sym g) ∙ is Passed e)
      passing e false g =
          let none = (passed-exact ws).0 e in
          refused-promise 23 0
          (other-first none
          (λ x. false≢true (sym g ∙ (gives-exact s (passed-valid ws none)).1 (x.0, (ordered_words ws none).1 x.1))))
          (ap (λ (b : Bool). slack_answer b (slack_in s)) (sym g) ∙ is Passed e)

      go : (a : Answer) → answer_of ws ≡ a → SlackOf ws (slack_by a s)
      go Passed e = passing e (has_slack s) refl
      go (Refused n p) e = refused-promise n p (table-first n p ((refusal-exact ws n p).0 e)) (is (Refused n p) e)

  pub by_value : (r : SlackAnswer) → r ≡ slack_of ws → SlackOf ws r
  by_value r e = subst (SlackOf ws) (sym e) slack-contract

  -- OF THE TABLE THAT WAS LOADED
  module _ (loaded : Result Loaded Refusal) (l : LoadOf ws loaded) where
    -- what is made of one that passed is the answer to the words
    pub loaded-promise : (t : Loaded) → loaded ≡ Ok t → (r : SlackAnswer) → r ≡ slack_answer (has_slack (loaded_table t)) (slack_in (loaded_table t)) → SlackOf ws r
    loaded-promise t e r q =
        let (h, none, passed) = load-ok ws loaded l t e in
        by_value r
        (q
        ∙ (ap (λ (w : Table). slack_answer (has_slack w) (slack_in w)) (same-table ws t h none)
        ∙ (unfold slack_of in ap (λ (a : Answer). slack_by a s) (sym passed))))

    -- a refusal of it is the answer
    pub refused_all : (x : Refusal) → loaded ≡ Err x → SlackOf ws (answered (Err x))
    refused_all x e =
        by_value (answered (Err x)) (unfold slack_of in ap (λ (a : Answer). slack_by a s) (sym (load-err ws loaded l x e).0))
