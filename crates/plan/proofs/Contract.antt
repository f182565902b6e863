-- The contract of the plan follows from the exactness of its numbers and from what is done with a table that passed.
use native.Mathlib.Omega.{arith}
use mathlib.Core.Path.{◌≡◌, refl, sym, ap, ◌∙◌}
use mathlib.Core.List.{List}
use Prim.Native.Nat.{ℕ, ◌+◌, ◌-◌, ◌*◌, ◌≤◌, ◌<◌}
use lib.ListN.{length, get_or, replicate}
use Rattle.model.specs.Task.{Table, AllValid}
use Rattle.model.specs.Jobs.{Book}
use Rattle.model.specs.Claims.{book_row}
use Rattle.model.specs.Lists.{book, no_reports, full}
use Rattle.model.specs.Refusals as model
use Rattle.model.proofs.FullLength.{full-length}
use Rattle.model.specs.Sizes.{most_cores}
use Rattle.table.specs.Answer.{Answer}
use Rattle.table.specs.declared.Loaded.{Loaded}
use Rattle.table.specs.Words.{table_of}
use Rattle.std.specs.Prelude.{Result, Ok, Err}
use Rattle.model.specs.declared.refusal.Refusal.{Refusal}
use Rattle.model.specs.Refusal.{number_of, position_of}
use Rattle.table.specs.Numbers as numbers
use Rattle.table.proofs.Contract.{load-ok, load-err}
use Rattle.table.specs.Load.{LoadOf, LoadedAs}
use Rattle.table.proofs.Passed.{passed-cores, passed-valid}
use Rattle.table.specs.Fit.{loaded_table}
use Rattle.judge.proofs.FirstMiss.{found}
use Rattle.table.proofs.Fit.{same-table}
use Rattle.plan.specs.Plan.{Planned}
use Rattle.plan.specs.Plan.{Written, Refused}
use Rattle.plan.specs.Numbers.{NoneApplies, words, eleven, twelve}
use Rattle.plan.specs.Plan.{by_plan, planned_by, planned_of, with_rows, plan_meaning, buffer_of, PlanOf}
use Rattle.plan.proofs.Late.{miss-decides}
use Rattle.plan.proofs.Exact.{refused-exact, written-exact}
use Rattle.plan.proofs.Buffer.{with-length, over-at, over-past}

-- the meaning of an answer determines it
pub meaning-written : (v : Planned) → plan_meaning v ≡ model.taken → v ≡ Written
meaning-written Written e = refl
meaning-written (Refused n p) e = absurd (let z : ◌≡◌ {A = ℕ} 0 1 = cc in omega arith)

pub meaning-refused : (v : Planned) (n p : ℕ) → plan_meaning v ≡ model.refused n p → v ≡ Refused n p
meaning-refused Written n p e = absurd (let z : ◌≡◌ {A = ℕ} 0 1 = cc in omega arith)
meaning-refused (Refused m q) n p e = cc

module _ (ws : List ℕ) (a b : ℕ) (old new : List ℕ) where
  abbrev s : Table
  s = table_of ws

  -- where no number applies, the full-length run is the book of empty report sets up to b
  same-book : NoneApplies ws a b (length old) → (t : ℕ) → t < b → book s (replicate t no_reports) ≡ full s t
  same-book none t h =
      full-length s t (λ p u l m. none 12 0 (twelve ((miss-decides s ok b).0 (found s ok b p u (omega arith) m))))
    where
      ok : AllValid s
      ok = passed-valid ws (λ n p x. none n p (words n p x))

  -- and the rows fit
  long : NoneApplies ws a b (length old) → (b - a) * s.cores ≤ length old
  long none = not-less (λ l. none 11 0 (eleven l))
    where
      not-less : {m n : ℕ} → ¬ (m < n) → n ≤ m
      not-less h = omega arith

  by_value : (v : Planned) → v ≡ planned_of ws a b (length old) → new ≡ buffer_of (plan_meaning v) s a b old → PlanOf ws a b old new v
  by_value v e f = record {
    value = e;
    refused = λ n p. (λ x. (refused-exact ws a b (length old) n p).0 (sym e ∙ meaning-refused v n p x), λ x. ap plan_meaning (e ∙ (refused-exact ws a b (length old) n p).1 x));
    written = (none, λ x. ap plan_meaning (e ∙ (written-exact ws a b (length old)).1 x));
    buffer = f;
    byte = λ x t c h k l.
        ap (λ (z : List ℕ). get_or z ((t - a) * s.cores + c) 0) (rows x)
        ∙ (over-at s a b t c old h k l ∙ ap (λ (z : Book). get_or (book_row s z) c 0) (sym (same-book (none x) t k)));
    past = λ x i h. ap (λ (z : List ℕ). get_or z i 0) (rows x) ∙ over-past s a b i old h;
    size = go v refl;
    found = found;
  }
    where
      none : plan_meaning v ≡ model.taken → NoneApplies ws a b (length old)
      none x = (written-exact ws a b (length old)).0 (sym e ∙ meaning-written v x)

      rows : plan_meaning v ≡ model.taken → new ≡ with_rows s a b old
      rows x = f ∙ ap (λ (z : model.Answer). buffer_of z s a b old) x

      found : (n p : ℕ) → plan_meaning v ≡ model.refused n p → new ≡ old
      found n p x = f ∙ ap (λ (z : model.Answer). buffer_of z s a b old) x

      go : (w : Planned) → v ≡ w → length new ≡ length old
      go Written x = ap length (rows (ap plan_meaning x)) ∙ with-length s a (b - a) old (long (none (ap plan_meaning x)))
      go (Refused n p) x = ap length (found n p (ap plan_meaning x))

-- a table that passed has at most 64 cores
pub cores-most : (ws : List ℕ) (t : Loaded) → LoadedAs ws t → numbers.NoneApplies ws → t.cores ≤ most_cores
cores-most ws t h none = omega (arith, h.cores, (passed-cores ws none).1)

module _ (ws : List ℕ) (loaded : Result Loaded Refusal) (l : LoadOf ws loaded) (a b : ℕ) (old new : List ℕ) where
  -- what is answered of it is answered of the words
  pub passed-plan :
      (t : Loaded) → loaded ≡ Ok t → (v : Planned)
      → (v ≡ by_plan (loaded_table t) a b (length old)) × (new ≡ buffer_of (plan_meaning v) (loaded_table t) a b old) → PlanOf ws a b old new v
  passed-plan t e v x =
      by_value ws a b old new v (x.0 ∙ (ap (λ (s : Table). by_plan s a b (length old)) same ∙ sym is))
      (x.1 ∙ ap (λ (s : Table). buffer_of (plan_meaning v) s a b old) same)
    where
      same : loaded_table t ≡ table_of ws
      same = let (h, none, passed) = load-ok ws loaded l t e in same-table ws t h none

      is : planned_of ws a b (length old) ≡ by_plan (table_of ws) a b (length old)
      is =
          let (h, none, passed) = load-ok ws loaded l t e in
          unfold planned_of in ap (λ (y : Answer). planned_by y (by_plan (table_of ws) a b (length old))) passed

  -- a refusal of the table is the plan's, and the buffer is as found
  pub refused-plan : (x : Refusal) → loaded ≡ Err x → new ≡ old → PlanOf ws a b old new (Refused (number_of x) (position_of x))
  refused-plan x e same = by_value ws a b old new (Refused (number_of x) (position_of x)) (sym is) same
    where
      is : planned_of ws a b (length old) ≡ Refused (number_of x) (position_of x)
      is = unfold planned_of in ap (λ (y : Answer). planned_by y (by_plan (table_of ws) a b (length old))) (load-err ws loaded l x e).0
