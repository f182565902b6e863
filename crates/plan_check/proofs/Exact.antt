-- THE STEPWISE ANSWER IS THE CONDITIONS: a list of rows is accepted exactly if it is acceptable.
use mathlib.Core.List.{List}
use mathlib.Core.Logic.{◌↔◌, ⊎_elim}
use mathlib.Core.Path.{subst, sym, ◌≡◌}
use Prim.Native.Nat.{◌<◌, ℕ, ◌≤◌}
use native.Mathlib.Nat.{eq-or-lt_of_le, le_antisymm, le_refl}
use native.Mathlib.Omega.{arith}
use lib.ListN.{length}
use Rattle.model.proofs.Starts.{hyperperiod-pos}
use Rattle.model.specs.Horizon.{horizon}
use Rattle.model.specs.Task.{AllValid, Table, due, task}
use Rattle.plan_check.specs.Answers.{DeadlineMissed, accepts}
use Rattle.plan_check.proofs.PlanBook.{check}
use Rattle.plan_check.specs.Plan.{Acceptable, ValidRow, had_in_rows, row_at}
use Rattle.plan_check.proofs.Meets.{agree-differs, differs-agree, enough, valid-right, late-not, not_late, right_valid}
use Rattle.plan_check.proofs.Steps.{Passes, check-passes, passes-check}
use Rattle.plan_check.proofs.Ticks.{had-most}

module _ (s : Table) (ok : AllValid s) (rows : List (List ℕ)) where
  abbrev r : ℕ → List ℕ
  r = row_at rows

  acceptable : Passes s rows 0 → length rows ≡ horizon s → Acceptable s rows
  acceptable x e = record {
    count = e;
    rows-valid = valid-row;
    done = λ p k l h.
        le_antisymm
        (had-most s ok r p l k (due (task s p) k) (λ u g. valid-row u (omega arith)) (omega (arith, (ok p l).constrained)))
        (enough s ok r (horizon s) timely p k l h);
    agree = differs-agree s ok r x.closing.same;
  }
    where
      timely : (u : ℕ) → u ≤ horizon s → ¬ DeadlineMissed s r u
      timely u h =
          ⊎_elim
          (λ (e : u ≡ horizon s). subst (λ (t : ℕ). ¬ DeadlineMissed s r t) (sym e) (late-not s ok r (horizon s) x.closing.on-time))
          (λ (g : u < horizon s). late-not s ok r u (x.ok u (omega arith) g).on-time)
          (eq-or-lt_of_le h)

      valid-row : (t : ℕ) → t < horizon s → ValidRow s r t
      valid-row t h = right_valid s ok r t (λ u g. timely u (omega arith)) (x.ok t (omega arith) h).size (x.ok t (omega arith) h).right

  passes : Acceptable s rows → Passes s rows 0
  passes a = record {
    ok = λ t g h. record { size = (a.rows-valid t h).size; on-time = not_late s ok r t (timely t (omega arith)); right = valid-right s ok r t (a.rows-valid t h) };
    closing = record { on-time = not_late s ok r (horizon s) (timely (horizon s) (le_refl (horizon s))); same = agree-differs s ok r a.agree };
  }
    where
      timely : (u : ℕ) → u ≤ horizon s → ¬ DeadlineMissed s r u
      timely u h x =
          let done : had_in_rows s r x.0 x.1 u ≡ (task s x.0).length =
          subst (λ (t : ℕ). had_in_rows s r x.0 x.1 t ≡ (task s x.0).length) x.3 (a.done x.0 x.1 x.2 (omega (arith, x.3))) in
          omega (arith, x.4)

  -- THE THEOREM
  pub check-exact : (check s rows ≡ accepts) ↔ Acceptable s rows
  check-exact = (
    λ e. let x = check-passes s rows e in acceptable x.1 x.0,
    λ a. passes-check s rows some-ticks a.count (passes a),
  )
    where
      some-ticks : 0 < horizon s
      some-ticks = unfold horizon in omega (arith, hyperperiod-pos s.tasks)
