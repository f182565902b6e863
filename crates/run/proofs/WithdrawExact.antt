-- A withdrawal is refused with n and p exactly if n is the first of 14, 21 and 22 that applies, with position p; and taken exactly if none applies. What
-- it returns passes 14 again, and withdrawing again changes nothing.
use mathlib.Core.Path.{◌≡◌, refl, sym, subst, ap, ◌∙◌}
use mathlib.Core.Bool.{Bool, true, false, ◌||◌, cond}
use mathlib.Core.Logic.{inl, inr}
use Prim.Native.Nat.{ℕ, ◌≤◌, ◌<◌}
use native.Mathlib.Omega.{arith}
use lib.Bits.{bit_or}
use lib.ListN.{drop}
use Rattle.model.specs.Search.{bit}
use Rattle.model.specs.Advance as entries
use Rattle.model.specs.Refusals as answers
use Rattle.model.specs.Firm.{FirmRule}
use Rattle.model.proofs.Digits.{or-bit, same_set}
use Rattle.model.proofs.Verdict.{firm-exact}
use Rattle.table.specs.Numbers.{place, Earlier, FirstOf, NoneOf}
use Rattle.table.proofs.Decide.{Decides, fails, decides_or, decides_eq, decides-lt}
use Rattle.table.proofs.Order.{not-before-itself, later}
use Rattle.run.specs.declared.Run.{Run}
use Rattle.run.specs.Answer.{Answer}
use Rattle.run.specs.Answer.{Taken, Refused}
use Rattle.run.specs.Advance.{Advanced}
use Rattle.run.specs.Run.{run_table, firm_in, withdrawn_in}
use Rattle.run.specs.Answer.{answer_meaning, by_answer}
use Rattle.run.specs.Numbers.{RunOut, WithdrawApplies, not-a-run, twenty-one, twenty-two, NoSuchPosition, past_count, run_out, unknown_in}
use Rattle.run.specs.Withdraw.{withdraw_answer, withdraw_of, WithdrawnOf, WithdrawOf}
use Rattle.run.proofs.First.{by-taken, by-refused, Right, refused-exact, taken-exact}
use Rattle.run.proofs.SetTests.{within-only}
use Rattle.run.proofs.Limits.{run-decides, passes-if, passes-runs, withdrawn-passes}

-- the test of 22
pub unknown-decides : (r : Run) (p : ℕ) → Decides (unknown_in r p) (NoSuchPosition r p)
unknown-decides r p = decides_or _ _ _ _ (decides_eq p 0) (decides-lt r.count p)

-- THE FIRST NUMBER, where the test t decides whether there is an unknown position
module _ (r : Run) (t : Bool) (unknown : Type 0) (d : Decides t unknown) where
  withdraw-14 : run_out r ≡ true → FirstOf (WithdrawApplies r unknown) 14 0
  unfolding place
  withdraw-14 q = (not-a-run ((run-decides r).0 q), earlier)
    where
      earlier : (m i : ℕ) → Earlier m i 14 0 → ¬ WithdrawApplies r unknown m i
      earlier m i x (not-a-run h) = not-before-itself 14 0 x
      earlier m i x (twenty-one h) = later 21 0 14 0 (omega arith) x
      earlier m i x (twenty-two h) = later 22 0 14 0 (omega arith) x

  withdraw-21 : run_out r ≡ false → firm_in r ≡ false → FirstOf (WithdrawApplies r unknown) 21 0
  unfolding place
  withdraw-21 q f = (twenty-one (fails (firm_in r) (FirmRule (run_table r)) (firm-exact (run_table r)) f), earlier)
    where
      earlier : (m i : ℕ) → Earlier m i 21 0 → ¬ WithdrawApplies r unknown m i
      earlier m i x (not-a-run h) = fails (run_out r) (RunOut r) (run-decides r) q h
      earlier m i x (twenty-one h) = not-before-itself 21 0 x
      earlier m i x (twenty-two h) = later 22 0 21 0 (omega arith) x

  withdraw-22 : run_out r ≡ false → firm_in r ≡ true → t ≡ true → FirstOf (WithdrawApplies r unknown) 22 0
  withdraw-22 q f g = (twenty-two (d.0 g), earlier)
    where
      earlier : (m i : ℕ) → Earlier m i 22 0 → ¬ WithdrawApplies r unknown m i
      earlier m i x (not-a-run h) = fails (run_out r) (RunOut r) (run-decides r) q h
      earlier m i x (twenty-one h) = h ((firm-exact (run_table r)).0 f)
      earlier m i x (twenty-two h) = not-before-itself 22 0 x

  withdraw-none : run_out r ≡ false → firm_in r ≡ true → t ≡ false → NoneOf (WithdrawApplies r unknown)
  withdraw-none q f g m i (not-a-run h) = fails (run_out r) (RunOut r) (run-decides r) q h
  withdraw-none q f g m i (twenty-one h) = h ((firm-exact (run_table r)).0 f)
  withdraw-none q f g m i (twenty-two h) = fails t unknown d g h

  -- THE LAW OF A WITHDRAWAL
  withdraw-right : Right (WithdrawApplies r unknown) (withdraw_answer r t)
  unfolding withdraw_answer
  withdraw-right = go (run_out r) refl (firm_in r) refl t refl
    where
      go : (a : Bool) → run_out r ≡ a → (b : Bool) → firm_in r ≡ b → (c : Bool) → t ≡ c
          → Right (WithdrawApplies r unknown) (cond a (Refused 14 0) (cond b (cond c (Refused 22 0) Taken) (Refused 21 0)))
      go true q b f c g = withdraw-14 q
      go false q false f c g = withdraw-21 q f
      go false q true f true g = withdraw-22 q f g
      go false q true f false g = withdraw-none q f g

-- a taken withdrawal passed 14, was firm and had no unknown position
pub taken-parts : (r : Run) (t : Bool) → answer_meaning (withdraw_answer r t) ≡ answers.taken → (run_out r ≡ false) × (firm_in r ≡ true) × (t ≡ false)
unfolding withdraw_answer
taken-parts r t e = go (run_out r) (firm_in r) t e
  where
    go : (a b c : Bool) → answer_meaning (cond a (Refused 14 0) (cond b (cond c (Refused 22 0) Taken) (Refused 21 0))) ≡ answers.taken
        → (a ≡ false) × (b ≡ true) × (c ≡ false)
    go true b c q = absurd (let z : ◌≡◌ {A = ℕ} 0 1 = cc in omega arith)
    go false false c q = absurd (let z : ◌≡◌ {A = ℕ} 0 1 = cc in omega arith)
    go false true true q = absurd (let z : ◌≡◌ {A = ℕ} 0 1 = cc in omega arith)
    go false true false q = (refl, refl, refl)

-- the result of a withdrawal of the set x, where there is no unknown position only if x is within the count
module _ (r : Run) (t : Bool) (unknown : Type 0) (d : Decides t unknown) (x : ℕ) (known : run_out r ≡ false → t ≡ false → past_count r.count x ≡ false) where
  again-passes : answer_meaning (withdraw_answer r t) ≡ answers.taken → ¬ RunOut (by_answer (withdraw_answer r t) (withdrawn_in x r) r)
  again-passes e =
      let parts = taken-parts r t e in
      let next : Run = withdrawn_in x r in
      subst (λ (s : Run). ¬ RunOut s) (sym (by-taken (withdraw_answer r t) next r e))
      (fails (run_out next) (RunOut next) (run-decides next)
      (passes-runs next (withdrawn-passes x r (passes-if r parts.0) (known parts.0 parts.2))))

  past_same : drop r.count (by_answer (withdraw_answer r t) (withdrawn_in x r) r).tasks ≡ drop r.count r.tasks
  past_same = go (withdraw_answer r t)
    where
      go : (a : Answer) → drop r.count (by_answer a (withdrawn_in x r) r).tasks ≡ drop r.count r.tasks
      go Taken = unfold withdrawn_in in refl
      go (Refused n p) = refl

  pub withdrawn-of : WithdrawnOf r unknown x (record { answer = withdraw_answer r t; run = by_answer (withdraw_answer r t) (withdrawn_in x r) r })
  withdrawn-of = record {
    refused = refused-exact (WithdrawApplies r unknown) (withdraw_answer r t) (withdraw-right r t unknown d);
    taken = taken-exact (WithdrawApplies r unknown) (withdraw_answer r t) (withdraw-right r t unknown d);
    on = by-taken (withdraw_answer r t) (withdrawn_in x r) r;
    as-given = by-refused (withdraw_answer r t) (withdrawn_in x r) r;
    passes = again-passes;
    past = past_same;
  }

-- ONE POSITION

-- a position that is known is within the count
pub known_from : (r : Run) (p : ℕ) → unknown_in r p ≡ false → (1 ≤ p) × (p ≤ r.count)
known_from r p e =
    let no : ¬ NoSuchPosition r p = fails (unknown_in r p) (NoSuchPosition r p) (unknown-decides r p) e in
    let first : ¬ (p ≡ 0) = λ z. no (inl z) in
    let last : ¬ (r.count < p) = λ z. no (inr z) in
    (omega arith, omega arith)

known-within : (r : Run) (p : ℕ) → unknown_in r p ≡ false → past_count r.count (entries.singleton p) ≡ false
known-within r p e = let k = known_from r p e in within-only r.count p k.0 k.1

-- so a taken one's is
pub taken-within : (r : Run) (p : ℕ) → withdraw_answer r (unknown_in r p) ≡ Taken → past_count r.count (entries.singleton p) ≡ false
taken-within r p e = known-within r p (taken-parts r (unknown_in r p) (ap answer_meaning e)).2

-- a value that is the withdrawal's by definition meets the contract of a withdrawal
pub withdraw-of : (r : Run) (p : ℕ) (a : Advanced) → a ≡ withdraw_of r p → WithdrawOf r p a
withdraw-of r p a q = rw q record {
  value = refl;
  exact = unfold withdraw_of in withdrawn-of r (unknown_in r p) (NoSuchPosition r p) (unknown-decides r p) (entries.singleton p) (λ o e. known-within r p e);
}

-- what is taken is in the set, so that it is not added again
or-again : (w x : ℕ) → bit_or (bit_or w x) x ≡ bit_or w x
or-again w x = same_set (bit_or (bit_or w x) x) (bit_or w x) (λ i. or-bit (bit_or w x) x i ∙ rw (or-bit w x i) (go (bit w i) (bit x i)))
  where
    go : (u v : Bool) → (u || v) || v ≡ u || v
    go true v = refl
    go false true = refl
    go false false = refl

-- a run with another withdrawn set
abbrev pub with-set : Run → ℕ → Run
with-set r w = record { rule = r.rule; cores = r.cores; fence = r.fence; withdrawn = w; count = r.count; tasks = r.tasks }

-- the next run is answered as the run was, and only its set has moved
pub same_answer :
    (r : Run) (t : Bool) (x : ℕ) → withdraw_answer r t ≡ Taken → past_count r.count x ≡ false → withdraw_answer (withdrawn_in x r) t ≡ Taken
unfolding withdraw_answer withdrawn_in
same_answer r t x e within =
    let parts = taken-parts r t (ap answer_meaning e) in
    let next : Run = withdrawn_in x r in
    let in-limits : run_out next ≡ false = passes-runs next (withdrawn-passes x r (passes-if r parts.0) within) in
    rw (in-limits, parts.1, parts.2)

twice : (x : ℕ) (r : Run) → withdrawn_in x (withdrawn_in x r) ≡ withdrawn_in x r
unfolding withdrawn_in
twice x r = ap (with-set r) (or-again r.withdrawn x)

-- THE LAW: withdrawing a position again gets the same answer and leaves the same run
pub withdraw-twice : (r : Run) (p : ℕ) → withdraw_of (withdraw_of r p).run p ≡ withdraw_of r p
unfolding withdraw_of withdrawn_in
withdraw-twice r p = go (withdraw_answer r (unknown_in r p)) refl
  where
    next : Run
    next = withdrawn_in (entries.singleton p) r

    go : (a : Answer) → withdraw_answer r (unknown_in r p) ≡ a → withdraw_of (by_answer a next r) p ≡ record { answer = a; run = by_answer a next r }
    go Taken e = rw (same_answer r (unknown_in r p) (entries.singleton p) e (taken-within r p e), twice (entries.singleton p) r)
    go (Refused n q) e = rw e
