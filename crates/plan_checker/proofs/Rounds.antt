-- Laws of a round: the answer is known, or more bytes are needed.
use mathlib.Core.Bool.{Bool, false, not, true, true≢false}
use mathlib.Core.List.{List, [], append-nil}
use mathlib.Core.Path.{◌∙◌, ◌≡◌, ap, refl, subst, subst⁻¹, sym}
use Prim.Native.Nat.{ℕ}
use Rattle.std.specs.Prelude.{Result}
use Rattle.std.specs.declared.ops.ControlFlow.TheVariants.{Break, Continue}
use Rattle.splitter.specs.Split.{nothing}
use Rattle.splitter.specs.Parts.{Comes, ends}
use Rattle.stream.specs.declared.Cut.{Cut}
use Rattle.stream.specs.Sent.{SentOf, sent_of}
use Rattle.plan_text.proofs.Feeding.{over-answer}
use Rattle.plan_text.specs.Check.{Check, FedOf, is_over, check_answer}
use Rattle.plan_text.specs.Checked.{PlanAnswer}
use Rattle.plan_text.specs.Printed.{plan_answer_line}
use Rattle.plan_checker.specs.Rounds.{RoundOf}

module _ (c new : Check) (ended : Bool) (bytes : List ℕ) (taken : ℕ) (feeds : FedOf c ended bytes (record { check = new; taken = taken })) (sent : Result ℕ Cut) where
  -- the answer is known
  pub round-over : is_over new.stage ≡ true → SentOf 0 (plan_answer_line new.answer) (sent_of sent) → RoundOf c ended bytes new (record { taken = taken; sent = sent; flow = Break (record {}) })
  round-over o s = record {
    feeds = feeds;
    again = sym (ap not o);
    over = λ _. s;
    end = λ e. (subst (λ (x : PlanAnswer). SentOf 0 (plan_answer_line x) (sent_of sent)) (at-end e) s, refl);
  }
    where
      at-end : ended ≡ true → new.answer ≡ check_answer c nothing bytes
      at-end e =
          sym (over-answer new nothing _ o) ∙ sym (feeds.text [] (subst⁻¹ (λ (b : Bool). Comes b nothing []) e ends))
          ∙ ap (check_answer c nothing) (append-nil bytes)

  -- more bytes are needed
  pub round-more : is_over new.stage ≡ false → RoundOf c ended bytes new (record { taken = taken; sent = sent; flow = Continue (record {}) })
  round-more o = record {
    feeds = feeds;
    again = sym (ap not o);
    over = λ g. absurd (true≢false g);
    end = λ e. absurd (true≢false (sym e ∙ feeds.goes_on o));
  }
