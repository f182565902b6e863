-- The places that work in a run's present tick: their set digit by digit, and the reports that are within it.
use mathlib.Core.Path.{◌≡◌, refl, sym, ap, ◌∙◌}
use mathlib.Core.Bool.{Bool, true, false, not, ◌&&◌}
use mathlib.Core.Logic.{◌↔◌}
use Prim.Native.Nat.{ℕ, ◌≤◌}
use native.Mathlib.Omega.{arith}
use lib.Dec.{ltb}
use borrow.Author.Tests.{not-false}
use Rattle.model.specs.Refusals as model
use Rattle.model.specs.Search.{bit, filtered, up_from}
use Rattle.model.specs.Working.{set_where}
use Rattle.model.proofs.Search.{none_any, none-at}
use Rattle.cores.proofs.Ascending.{memb-first, memb-kept, range-kept, range-up}
use Rattle.cores.proofs.Cores.{set-bit}
use Rattle.run.specs.declared.Run.{Run}
use Rattle.run.specs.Answer.{Answer}
use Rattle.run.specs.Answer.{Taken, Refused}
use Rattle.run.specs.Working.{WorkingPositions}
use Rattle.run.specs.Advance.{advance_of}
use Rattle.run.specs.Answer.{answer_meaning}
use Rattle.run.specs.Numbers.{reportable_at, wrong_reports_in}
use Rattle.run.specs.Row.{row_answer, row_of}
use Rattle.run.specs.Working.{WorkingOf, working_in, working_of}
use Rattle.run.proofs.Cases.{advance-misreported, advance-taken, row-passes, working-by}
use Rattle.run.proofs.Exact.{row-exact, row-taken}
use Rattle.run.proofs.First.{by-refused, not_taken}
use Rattle.run.proofs.RunOut as out
use Rattle.run.proofs.SetTests.{bit-low}

-- the numbers below n that pass a test, digit by digit
where-bit : (n : ℕ) (f : ℕ → Bool) → n ≤ 64 → (p : ℕ) → bit (set_where n f) p ≡ ltb p n && f p
unfolding set_where
where-bit n f few p =
    set-bit (filtered f (up_from 0 n)) (range-kept f 0 64 (up_from 0 n) (range-up 0 n 64 (omega arith))) p
    ∙ (memb-kept f p (up_from 0 n) ∙ ap (λ (t : Bool). t && f p) (memb-first p n))

-- an answer that means taken is taken
is-taken : (a : Answer) → answer_meaning a ≡ model.taken → a ≡ Taken
is-taken Taken q = refl
is-taken (Refused n p) q = absurd (let z : ◌≡◌ {A = ℕ} 0 1 = cc in omega arith)

module _ (r : Run) (e : ℕ) where
  -- of a run whose row is shown
  module _ (q : row_answer r e ≡ Taken) where
    pub works_at : (p : ℕ) → bit (working_in r e) p ≡ reportable_at r e p
    works_at p = where-bit r.count (reportable_at r e) (omega (arith, out.few r (row-passes r e q))) p ∙ twice (ltb p r.count) _
      where
        twice : (a b : Bool) → a && (a && b) ≡ a && b
        twice true b = refl
        twice false b = refl

    -- 16 does not apply exactly if every report is of a place that may be reported
    within : (x : ℕ) → (wrong_reports_in r e x ≡ false) ↔ ((p : ℕ) → bit x p ≡ true → reportable_at r e p ≡ true)
    unfolding wrong_reports_in
    within x = (there, back)
      where
        wrong : ℕ → Bool
        wrong p = bit x p && not (reportable_at r e p)

        there : wrong_reports_in r e x ≡ false → (p : ℕ) → bit x p ≡ true → reportable_at r e p ≡ true
        there n p b =
            not-false (reportable_at r e p) (sym (ap (λ (t : Bool). t && not (reportable_at r e p)) b) ∙ none-at x wrong p n (bit-low x p b))

        back : ((p : ℕ) → bit x p ≡ true → reportable_at r e p ≡ true) → wrong_reports_in r e x ≡ false
        back h = none_any x wrong (λ p l. go p (bit x p) refl)
          where
            go : (p : ℕ) (t : Bool) → bit x p ≡ t → t && not (reportable_at r e p) ≡ false
            go p true b = ap not (h p b)
            go p false b = refl

    -- so an advance is taken exactly if every report is in the set
    admitted : (x : ℕ) → (answer_meaning (advance_of r x e).answer ≡ model.taken) ↔ ((p : ℕ) → bit x p ≡ true → bit (working_in r e) p ≡ true)
    admitted x = (λ t p b. works_at p ∙ (within x).0 (right t) p b, λ h. taken ((within x).1 (λ p b. sym (works_at p) ∙ h p b)))
      where
        right : answer_meaning (advance_of r x e).answer ≡ model.taken → wrong_reports_in r e x ≡ false
        right t = go (wrong_reports_in r e x) refl
          where
            go : (w : Bool) → wrong_reports_in r e x ≡ w → w ≡ false
            go false i = refl
            go true i =
                absurd (not_taken 16 0 (sym (ap (λ a. a.answer) (advance-misreported r e x q i)) ∙ is-taken (advance_of r x e).answer t))

        taken : wrong_reports_in r e x ≡ false → answer_meaning (advance_of r x e).answer ≡ model.taken
        taken n = ap (λ a. answer_meaning a.answer) (advance-taken r e x q n)

  -- a value that is the set by definition meets the contract
  pub working-of : (w : WorkingPositions) → w ≡ working_of r e → WorkingOf r e w
  working-of w q = rw q record {
    value = refl;
    refused = unfold working_of row_of in row-exact r e;
    taken = unfold working_of row_of in row-taken r e;
    each = λ t p. ap (λ (x : ℕ). bit x p) (working-by r e (known t)) ∙ works_at (known t) p;
    empty = unfold working_of in by-refused (row_answer r e) (working_in r e) 0;
    reports = λ t x. (
      λ a p b. ap (λ (x : ℕ). bit x p) (working-by r e (known t)) ∙ (admitted (known t) x).0 a p b,
      λ h. (admitted (known t) x).1 (λ p b. sym (ap (λ (x : ℕ). bit x p) (working-by r e (known t))) ∙ h p b),
    );
  }
    where
      known : answer_meaning (working_of r e).answer ≡ model.taken → row_answer r e ≡ Taken
      known t = unfold working_of in is-taken (row_answer r e) t
