-- What is promised of `response_bounds`: its numbers are the first that apply, and it is the test of the table that was loaded.
use mathlib.Core.List.{List}
use mathlib.Core.Path.{◌≡◌, ap, refl, subst, sym, ◌∙◌}
use Prim.Native.Nat.{ℕ}
use Rattle.model.proofs.Refusals.{taken_refused}
use Rattle.model.specs.Refusals as book
use Rattle.model.specs.Task.{Table}
use Rattle.table.proofs.Exact.{passed-exact, refusal-exact}
use Rattle.table.proofs.Order.{first-only}
use Rattle.table.proofs.Passed.{passed-valid}
use Rattle.table.specs.Answer.{Answer}
use Rattle.table.specs.Answer.{Passed, Refused}
use Rattle.table.specs.declared.Loaded.{Loaded}
use Rattle.table.specs.Answer.{answer_of}
use Rattle.std.specs.Prelude.{Option, Result, Ok, Err}
use Rattle.model.specs.declared.refusal.Refusal.{Refusal}
use Rattle.model.specs.Refusal.{number_of, position_of}
use Rattle.table.proofs.Contract.{load-ok, load-err}
use Rattle.table.specs.Load.{LoadOf}
use Rattle.table.specs.Numbers.{Applies, First, NoneApplies}
use Rattle.table.specs.Words.{table_of}
use Rattle.table.proofs.Fit.{same-table}
use Rattle.table.specs.Fit.{loaded_table}
use Rattle.interference.specs.Bounds.{Bounds}
use Rattle.interference.specs.Bounds.{Tested}
use Rattle.interference.specs.Bounds.{BoundsOf, answered, bounds_by, bounds_of, tested_in, tested_of}
use Rattle.interference.proofs.Passing.{tested-promise}

module _ (ws : List ℕ) where
  abbrev s : Table
  s = table_of ws

  is : (a : Answer) → answer_of ws ≡ a → bounds_by a s ≡ bounds_of ws
  is a e = unfold bounds_of in ap (λ (b : Answer). bounds_by b s) (sym e)

  given : NoneApplies ws → answer_of ws ≡ Passed → BoundsOf ws (bounds_by Passed s)
  given none e = record {
    value = is Passed e;
    refused = λ n p. (λ f. absurd (taken_refused f), λ f. absurd (none n p f.0));
    passed = (λ f. none, λ f. refl);
    tested = λ f. tested-promise s (passed-valid ws none);
    zeros = λ n p f. absurd (taken_refused f);
  }

  turned_down : (n p : ℕ) → First ws n p → answer_of ws ≡ Refused n p → BoundsOf ws (bounds_by (Refused n p) s)
  turned_down n p first e = record {
    value = is (Refused n p) e;
    refused = λ m q. (only m q, one m q);
    passed = (λ f. absurd (taken_refused (sym f)), λ none. absurd (none n p first.0));
    tested = λ f. absurd (taken_refused (sym f));
    zeros = λ m q f. refl;
  }
    where
      only : (m q : ℕ) → book.refused n p ≡ book.refused m q → First ws m q
      only m q e = let a : n ≡ m = cc in let b : p ≡ q = cc in rw (a, b) at first

      one : (m q : ℕ) → First ws m q → book.refused n p ≡ book.refused m q
      one m q f = let x = first-only (Applies ws) n p m q first f in rw (x.0, x.1)

  pub bounds-promise : BoundsOf ws (bounds_of ws)
  bounds-promise = subst (BoundsOf ws) (is (answer_of ws) refl) (go (answer_of ws) refl)
    where
      go : (a : Answer) → answer_of ws ≡ a → BoundsOf ws (bounds_by a s)
      go Passed e = given ((passed-exact ws).0 e) e
      go (Refused n p) e = turned_down n p ((refusal-exact ws n p).0 e) e

  by_value : (r : Bounds) → r ≡ bounds_of ws → BoundsOf ws r
  by_value r e = subst (BoundsOf ws) (sym e) bounds-promise

  -- OF THE TABLE THAT WAS LOADED, or of its refusal
  module _ (loaded : Result Loaded Refusal) (l : LoadOf ws loaded) where
    pub loaded-contract : (t : Loaded) → loaded ≡ Ok t → (r : Option (List ℕ)) → tested_in r ≡ tested_of (loaded_table t) → BoundsOf ws (answered (Ok r))
    loaded-contract t e r q =
        let (h, none, passed) = load-ok ws loaded l t e in
        by_value (answered (Ok r))
        (ap (λ (x : Tested). record { answer = Passed; tested = x }) (q ∙ ap tested_of (same-table ws t h none)) ∙ is Passed passed)

    pub refused-contract : (x : Refusal) → loaded ≡ Err x → BoundsOf ws (answered (Err x))
    refused-contract x e = by_value (answered (Err x)) (is (Refused (number_of x) (position_of x)) (load-err ws loaded l x e).0)
