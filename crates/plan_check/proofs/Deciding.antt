-- The tests of a row's numbers decide their conditions.
use mathlib.Core.Bool.{Bool, false, false≢true, not, true, true≢false, ◌&&◌, cond}
use mathlib.Core.List.{List}
use mathlib.Core.Logic.{inl, inr, ◌⊎◌, ⊎_elim}
use mathlib.Core.Path.{ap, refl, sym, ◌∙◌, ◌≡◌}
use Prim.Native.Nat.{suc, ℕ}
use lib.Dec.{eqb, ltb}
use lib.ListN.{length}
use Rattle.model.specs.Search.{bit}
use Rattle.model.specs.Sizes.{fenced_byte}
use Rattle.table.proofs.Decide.{Decides, decides_and, decides-any, decides_eq, decides-lt, decides_not, decides_or}
use Rattle.phase.specs.Phase.{working}
use Rattle.phase.specs.Task.{width_now}
use Rattle.phase.specs.declared.Phase.{Phase}
use Rattle.phase.specs.declared.Phase.TheVariants.{Coming, Holding, Resting, Working}
use Rattle.run.proofs.Exact.{late-decides, works-decides}
use Rattle.run.proofs.Limits.{run-decides}
use Rattle.run.specs.Numbers.{PlaceLate, late_at}
use Rattle.run.specs.Run.{phase_at, place_at}
use Rattle.run.specs.declared.Run.{Run}
use Rattle.plan_check.specs.Numbers.{AnyLate, UnreachablePhase, Differs, Faulty, WorkOwed, StateOut, UnknownByteAt, WrongAt, unreachable_phase, differs, missed, same_phase, state_out}
use Rattle.plan_check.specs.Plan.{cell_count}
use Rattle.plan_check.specs.Row.{byte_at, faulty, unknown_byte_at, any_unknown_byte, wrong_at}
use Rattle.plan_check.specs.State.{noted_at}
use Rattle.plan_check.specs.declared.SuppliedPlan.{SuppliedPlan}
use Rattle.plan_check.proofs.SamePhase.{same-phase}

-- 14

pub unreachable-decides : (ph : Phase) → Decides (unreachable_phase ph) (UnreachablePhase ph)
unreachable-decides ph = (there ph, λ x. ⊎_elim (λ h. ap unreachable_phase h.2) (λ h. ap unreachable_phase h.3 ∙ (decides_not _ _ (decides_eq h.2 h.1)).1 h.4) x)
  where
    there : (ph : Phase) → unreachable_phase ph ≡ true → UnreachablePhase ph
    there (Coming left) e = absurd (false≢true e)
    there (Working z had u) e = inr (z, had, u, refl, (decides_not _ _ (decides_eq u had)).0 e)
    there (Holding z u) e = inl (z, u, refl)
    there (Resting z) e = absurd (false≢true e)

pub state-decides : (r : Run) → Decides (state_out r) (StateOut r)
unfolding state_out
state-decides r =
    decides_or _ _ _ _ (run-decides r)
    (decides_or _ _ _ _ (decides_not _ _ (decides_eq r.withdrawn 0))
    (decides-any r.count (λ p. unreachable_phase (phase_at r p)) (λ p. UnreachablePhase (phase_at r p)) (λ p. unreachable-decides (phase_at r p))))

-- 25

pub missed-decides : (r : Run) → Decides (missed r) (AnyLate r)
unfolding missed
missed-decides r = decides-any r.count (late_at r) (PlaceLate r) (late-decides r)

-- 24

unknown-decides : (r : Run) (row : List ℕ) (c : ℕ) → Decides (unknown_byte_at r.fence r.count row c) (UnknownByteAt r row c)
unknown-decides r row c = go (bit r.fence c) refl
  where
    go : (b : Bool) → bit r.fence c ≡ b
        → Decides (cond b (not (eqb (byte_at row c) fenced_byte)) (ltb r.count (byte_at row c))) (UnknownByteAt r row c)
    go true e = (
      λ h. inl (e, (decides_not _ _ (decides_eq (byte_at row c) fenced_byte)).0 h),
      λ x. ⊎_elim (λ h. (decides_not _ _ (decides_eq (byte_at row c) fenced_byte)).1 h.1) (λ h. absurd (true≢false (sym e ∙ h.0))) x,
    )
    go false e = (
      λ h. inr (e, (decides-lt r.count (byte_at row c)).0 h),
      λ x. ⊎_elim (λ h. absurd (true≢false (sym h.0 ∙ e))) (λ h. (decides-lt r.count (byte_at row c)).1 h.1) x,
    )

owed-decides : (r : Run) (p : ℕ) → Decides (working (phase_at r p)) (WorkOwed r p)
owed-decides r p = works-decides (phase_at r p)

-- not both: not the one, or not the other
not-both : (a b : Bool) (P Q : Type 0) → Decides a P → Decides b Q → Decides (not (a && b)) ((¬ P) ⊎ (¬ Q))
not-both true b P Q c d = (λ e. inr ((decides_not b Q d).0 e), λ x. ⊎_elim (λ p. absurd (p (c.0 refl))) (λ q. (decides_not b Q d).1 q) x)
not-both false b P Q c d = (λ e. inl ((decides_not false P c).0 refl), λ x. refl)

wrong-decides : (r : Run) (row : List ℕ) (p : ℕ) → Decides (wrong_at r row p) (WrongAt r row p)
wrong-decides r row p =
    decides_and _ _ _ _ (λ e. e, λ e. e)
    (not-both _ _ _ _ (decides_eq (cell_count (suc p) row) (width_now (place_at r p))) (owed-decides r p))

pub faulty-decides : (r : Run) (row : List ℕ) → Decides (faulty r row) (Faulty r row)
unfolding faulty any_unknown_byte
faulty-decides r row =
    decides_or _ _ _ _ (decides-any (length row) (unknown_byte_at r.fence r.count row) (UnknownByteAt r row) (unknown-decides r row))
    (decides-any r.count (wrong_at r row) (WrongAt r row) (wrong-decides r row))

-- 26

pub differs-decides : (w : SuppliedPlan) → Decides (differs w) (Differs w)
unfolding differs
differs-decides w =
    decides-any w.run.count (λ p. not (same_phase (phase_at w.run p) (noted_at w p))) (λ p. ¬ (phase_at w.run p ≡ noted_at w p))
    (λ p. decides_not _ _ (same-phase (phase_at w.run p) (noted_at w p)))
