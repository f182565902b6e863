-- The next release or deadline of a task: over ticks that are neither, at a release, and at the deadline of a job that has ended.
use mathlib.Core.Path.{◌≡◌, refl, sym}
use mathlib.Core.Bool.{Bool, true, false}
use mathlib.Core.Logic.{◌⊎◌, inl, inr, ⊎_elim}
use Prim.Native.Nat.{ℕ, suc, ◌+◌, ◌≤◌}
use native.Mathlib.Omega.{arith}
use lib.Dec.{leb}
use borrow.Author.Tests.{leb-true, leb-false}
use Rattle.model.specs.Task.{Task, ValidTask, release, due}
use Rattle.simulation.proofs.Place.{release-order}
use Rattle.simulation.specs.EventState.{UpcomingEvent}

-- of two jobs, one is not after the other
either : (i k : ℕ) → (i ≤ k) ⊎ (suc k ≤ i)
either i k = go (leb i k) refl
  where
    go : (x : Bool) → leb i k ≡ x → (i ≤ k) ⊎ (suc k ≤ i)
    go true e = inl (leb-true i k e)
    go false e = inr (leb-false i k e)

-- at the start
pub upcoming-start : (τ : Task) → (O : ℕ) → O ≡ τ.offset → UpcomingEvent τ 0 O O
upcoming-start τ O e = record {
  from = omega arith;
  marked = (0, inl (omega arith));
  first = λ u h x. ⊎_elim (λ (y : release τ x.0 ≡ u). omega arith) (λ (y : due τ x.0 ≡ u). omega arith) x.1;
  next = λ k h. omega arith;
}

-- over ticks up to the event
pub upcoming-later : (τ : Task) (handled_to seen' m n : ℕ) → UpcomingEvent τ handled_to m n → handled_to ≤ seen' → seen' ≤ m → UpcomingEvent τ seen' m n
upcoming-later τ handled_to seen' m n h a b = record {
  from = b;
  marked = h.marked;
  first = λ u c x. h.first u (omega arith) x;
  next = λ k c. h.next k (omega arith);
}

module _ (τ : Task) (ok : ValidTask τ) where
  -- a job released at t
  pub upcoming-release : (t k D T : ℕ) → t ≡ release τ k → D ≡ τ.deadline → T ≡ τ.period → UpcomingEvent τ (suc t) (t + D) (t + T)
  upcoming-release t k D T e e_d e_t = record {
    from = omega (arith, ok.deadline-pos);
    marked = (k, inr (omega arith));
    first = λ u h x. ⊎_elim (releases u h x.0) (dues u h x.0) x.1;
    next = λ j h. after_handling j h;
  }
    where
      after_handling : (j : ℕ) → suc t ≤ release τ j → t + T ≤ release τ j
      after_handling j h =
          ⊎_elim
          (λ (i : j ≤ k). absurd (omega (arith, release-order τ j k i)))
          (λ (i : suc k ≤ j). omega (arith, release-order τ (suc k) j i))
          (either j k)

      releases : (u : ℕ) → suc t ≤ u → (j : ℕ) → release τ j ≡ u → t + D ≤ u
      releases u h j y = omega (arith, after_handling j (omega arith), ok.constrained)

      dues : (u : ℕ) → suc t ≤ u → (j : ℕ) → due τ j ≡ u → t + D ≤ u
      dues u h j y =
          ⊎_elim
          (λ (i : suc k ≤ j). omega (arith, release-order τ (suc k) j i))
          (λ (i : j ≤ k). ⊎_elim
          (λ (i' : k ≤ j). omega (arith, release-order τ k j i'))
          (λ (i' : suc j ≤ k). absurd (omega (arith, release-order τ (suc j) k i', ok.constrained)))
          (either k j))
          (⊎_elim inr inl (either j k))

  -- a job that has ended is due at t, and none is released
  pub upcoming-event : (t n k : ℕ) → UpcomingEvent τ t t n → n ≡ release τ k → t ≤ n → (n ≡ t → ⊥) → UpcomingEvent τ (suc t) n n
  upcoming-event t n k h e le ne = record {
    from = omega arith;
    marked = (k, inl (sym e));
    first = λ u c x. ⊎_elim (releases u c x.0) (dues u c x.0) x.1;
    next = λ j c. h.next j (omega arith);
  }
    where
      releases : (u : ℕ) → suc t ≤ u → (j : ℕ) → release τ j ≡ u → n ≤ u
      releases u c j y = omega (arith, h.next j (omega arith))

      -- the job that is due at t is i, and any later one is released from t on
      by-due : (u : ℕ) → suc t ≤ u → (j : ℕ) → due τ j ≡ u → (i : ℕ) → due τ i ≡ t → n ≤ u
      by-due u c j y i d =
          ⊎_elim
          (λ (q : j ≤ i). absurd (omega (arith, release-order τ j i q)))
          (λ (q : suc i ≤ j).
          let o = release-order τ (suc i) j q in
          omega (arith, h.next j (omega (arith, o, ok.constrained))))
          (either j i)

      dues : (u : ℕ) → suc t ≤ u → (j : ℕ) → due τ j ≡ u → n ≤ u
      dues u c j y = ⊎_elim
          (λ (r : release τ h.marked.0 ≡ t). absurd (ne (omega (arith, h.next h.marked.0 (omega arith)))))
          (λ (d : due τ h.marked.0 ≡ t). by-due u c j y h.marked.0 d)
          h.marked.1
