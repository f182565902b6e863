-- Several positions withdrawn together (request 113): what it gives is exact both ways, and it leaves the run that single withdrawals of these
-- positions leave, in any order; or, where one is past the count, the run as given.
use mathlib.Core.Path.{◌≡◌, refl, sym, ap, ◌∙◌}
use mathlib.Core.Bool.{Bool, true, false, true≢false, cond}
use mathlib.Core.List.{List, [], ◌∷◌}
use mathlib.Core.Logic.{◌↔◌}
use Prim.Native.Nat.{ℕ, suc, ◌-◌, ◌^◌, ◌<◌}
use native.Mathlib.Omega.{arith}
use lib.Bits.{bit_or, or_zero_r}
use lib.ListN.{length, replicate}
use borrow.Author.Tests.{le-ltb, ne_eqb}
use Rattle.model.specs.Search.{member}
use Rattle.model.specs.Refusals as model
use Rattle.model.specs.Advance.{singleton}
use Rattle.model.specs.Firm.{FirmRule}
use Rattle.model.specs.WithdrawSet.{Enumerates, SetBelow}
use Rattle.std.proofs.lemmas.Bool.{false_from_ne_true}
use Rattle.model.proofs.Digits.{bit-none}
use Rattle.model.proofs.WithdrawSet.{members, members-just, or-chain, Below, below-just, below-first, below_rest}
use Rattle.model.proofs.Verdict.{firm-exact}
use Rattle.table.proofs.Decide.{fails}
use Rattle.run.specs.declared.Run.{Run}
use Rattle.run.specs.Answer.{Answer}
use Rattle.run.specs.Answer.{Taken, Refused}
use Rattle.run.specs.Advance.{Advanced}
use Rattle.run.specs.Run.{run_table, firm_in, withdrawn_in}
use Rattle.run.specs.Answer.{answer_meaning, by_answer}
use Rattle.run.specs.Numbers.{RunOut, PastCount, past_count, run_out, unknown_in}
use Rattle.run.specs.Withdraw.{withdraw_answer, withdraw_of, withdraw_all_of, withdraw_each, each_answer, WithdrawAllOf}
use Rattle.run.proofs.Limits.{run-decides}
use Rattle.run.proofs.SetTests.{past-decides, within-only}
use Rattle.run.proofs.WithdrawExact.{taken-parts, withdrawn-of, with-set, same_answer}

-- within the count: the test of 22 fails
within-past : (n x : ℕ) → SetBelow n x → past_count n x ≡ false
within-past n x h = false_from_ne_true (past_count n x) (λ e. let y = (past-decides n x).0 e in omega (arith, h y.0 y.1.0, y.1.1))

-- ONE BY ONE

-- a position of the run is known
known : (r : Run) (q : ℕ) → q < r.count → unknown_in r (suc q) ≡ false
known r q l = rw (ne_eqb (suc q) 0 (λ e. omega arith), le-ltb r.count (suc q) l)

-- its withdrawal, by how every withdrawal of positions of the run is answered
single :
    (r : Run) (q : ℕ) → q < r.count → (a : Answer) → withdraw_answer r false ≡ a
    → withdraw_of r (suc q) ≡ record { answer = a; run = by_answer a (withdrawn_in (singleton (suc q)) r) r }
unfolding withdraw_of
single r q l a e = rw (known r q l, e)

-- where that is a refusal the run stays, and so each is refused
stays :
    (r : Run) (n p : ℕ) → withdraw_answer r false ≡ Refused n p → (qs : List ℕ) → Below r.count qs
    → (withdraw_each r qs ≡ r) × (each_answer r qs ≡ replicate (length qs) (Refused n p))
unfolding withdraw_each each_answer
stays r n p e [] h = (refl, refl)
stays r n p e (q ∷ qs) h =
    let one = single r q (below-first r.count q qs h) (Refused n p) e in
    let more = stays r n p e qs (below_rest r.count q qs h) in
    rw one (more.0, ap (λ (l : List Answer). Refused n p ∷ l) more.1)

-- where they are taken each position joins the set, and the next run is answered alike
goes :
    (qs : List ℕ) (r : Run) → withdraw_answer r false ≡ Taken → Below r.count qs
    → (withdraw_each r qs ≡ withdrawn_in (members qs) r) × (each_answer r qs ≡ replicate (length qs) Taken)
unfolding withdraw_each each_answer members withdrawn_in
goes [] r e h = (ap (with-set r) (sym (or_zero_r r.withdrawn)), refl)
goes (q ∷ qs) r e h =
    let l = below-first r.count q qs h in
    let same : suc q - 1 ≡ q = omega arith in
    let one = single r q l Taken e in
    let next = same_answer r false (singleton (suc q)) e (within-only r.count (suc q) (omega arith) l) in
    let more = goes qs (withdrawn_in (singleton (suc q)) r) next (below_rest r.count q qs h) in
    rw one (
      more.0 ∙ ap (with-set r) (or-chain r.withdrawn (singleton (suc q)) (members qs) ∙ ap (λ (k : ℕ). bit_or r.withdrawn (bit_or (2 ^ k) (members qs))) same),
      ap (λ (l : List Answer). Taken ∷ l) more.1,
    )

-- TOGETHER

all : (r : Run) (x : ℕ) → SetBelow r.count x → (a : Answer) → withdraw_answer r false ≡ a → withdraw_all_of r x ≡ record { answer = a; run = by_answer a (withdrawn_in x r) r }
unfolding withdraw_all_of
all r x h a e = rw (within-past r.count x h, e)

as-singles :
    (r : Run) (x : ℕ) → SetBelow r.count x → (qs : List ℕ) → Enumerates x qs
    → ((withdraw_all_of r x).run ≡ withdraw_each r qs) × (each_answer r qs ≡ replicate (length qs) (withdraw_all_of r x).answer)
as-singles r x h qs just = go (withdraw_answer r false) refl
  where
    below : Below r.count qs
    below = below-just r.count x qs just h

    go : (a : Answer) → withdraw_answer r false ≡ a
        → ((withdraw_all_of r x).run ≡ withdraw_each r qs) × (each_answer r qs ≡ replicate (length qs) (withdraw_all_of r x).answer)
    go Taken e =
        let each = goes qs r e below in
        rw (all r x h Taken e) (ap (λ (y : ℕ). withdrawn_in y r) (sym (members-just x qs just)) ∙ sym each.0, each.1)
    go (Refused n p) e =
        let each = stays r n p e qs below in
        rw (all r x h (Refused n p) e) (sym each.0, each.1)

-- a position past the count: whatever is answered, none is withdrawn
none_out : (r : Run) (x : ℕ) → PastCount r.count x → (withdraw_all_of r x).run ≡ r
unfolding withdraw_all_of withdraw_answer
none_out r x y = rw ((past-decides r.count x).1 y) (go (run_out r) (firm_in r))
  where
    go : (a b : Bool) → by_answer (cond a (Refused 14 0) (cond b (Refused 22 0) (Refused 21 0))) (withdrawn_in x r) r ≡ r
    go true b = refl
    go false true = refl
    go false false = refl

-- THE LAW: a value that is the withdrawal's by definition meets the contract of a withdrawal of several together
pub withdraw-set : (r : Run) (x : ℕ) (a : Advanced) → a ≡ withdraw_all_of r x → WithdrawAllOf r x a
withdraw-set r x a q = rw q record {
  value = refl;
  exact = unfold withdraw_all_of in withdrawn-of r (past_count r.count x) (PastCount r.count x) (past-decides r.count x) x (λ o e. e);
  singles = λ h qs just. (as-singles r x h qs just).0;
  each = λ h qs just. (as-singles r x h qs just).1;
  none = none_out r x;
}

-- so, where all positions are within the count, it is taken exactly if 14 and 21 do not apply
pub withdraw-set-taken :
    (r : Run) (x : ℕ) → SetBelow r.count x → (answer_meaning (withdraw_all_of r x).answer ≡ model.taken) ↔ ((¬ RunOut r) × FirmRule (run_table r))
unfolding withdraw_all_of withdraw_answer
withdraw-set-taken r x h = (
  λ e. let parts = taken-parts r (past_count r.count x) e in
      (fails (run_out r) (RunOut r) (run-decides r) parts.0, (firm-exact (run_table r)).0 parts.1),
  λ y.
      let in-limits : run_out r ≡ false = false_from_ne_true (run_out r) (λ e. y.0 ((run-decides r).0 e)) in
      rw (in-limits, (firm-exact (run_table r)).1 y.1, within-past r.count x h) refl,
)

-- the empty set: 14, 21, or taken; and the run as given
pub withdraw-none : (r : Run) → (withdraw_all_of r 0).run ≡ r
unfolding withdraw_each member
withdraw-none r = (as-singles r 0 (λ q e. absurd (true≢false (sym e ∙ bit-none q))) [] (λ q. sym (bit-none q))).0
