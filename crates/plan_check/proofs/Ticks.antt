-- Counting the ticks of a place: before it begins, one tick more, and what the count depends on.
use mathlib.Core.Bool.{◌&&◌, Bool, cond, false, true}
use mathlib.Core.List.{List}
use mathlib.Core.Path.{refl, subst, sym, ◌∙◌, ◌≡◌}
use Prim.Native.Nat.{◌+◌, ◌<◌, suc, zero, ℕ, ◌≤◌}
use native.Mathlib.Nat.{add-suc, add-zero, le_dest, le_refl, le_trans}
use native.Mathlib.Omega.{arith}
use lib.Dec.{leb}
use lib.ListN.{length}
use borrow.Author.Tests.{le-leb, leb-false, leb-true, lt-leb}
use Rattle.model.proofs.Jobs.{newest-is}
use Rattle.model.specs.Task.{AllValid, Table, Task, due, newest, release, task, width_of}
use Rattle.plan_check.specs.Plan.{ValidRow, InTime, Owed, cell_count, had_in_rows, runs, ticks}
use Rattle.plan_check.proofs.Newest.{newest-only}

pub ticks-none : (r : ℕ → List ℕ) (p a t : ℕ) → t ≤ a → ticks r p a t ≡ 0
unfolding ticks
ticks-none r p a zero h = refl
ticks-none r p a (suc t) h = rw (lt-leb a t h) (ticks-none r p a t (omega arith))

pub ticks-on : (r : ℕ → List ℕ) (p a t : ℕ) → a ≤ t → ticks r p a (suc t) ≡ cond (runs r p t) (suc (ticks r p a t)) (ticks r p a t)
unfolding ticks
ticks-on r p a t h = rw (le-leb a t h)

ticks-next : (r : ℕ → List ℕ) (p a t : ℕ) → ticks r p a t ≤ ticks r p a (suc t)
unfolding ticks
ticks-next r p a t = go (leb a t && runs r p t)
  where
    go : (b : Bool) → ticks r p a t ≤ cond b (suc (ticks r p a t)) (ticks r p a t)
    go true = omega arith
    go false = omega arith

pub ticks-grow : (r : ℕ → List ℕ) (p a t u : ℕ) → t ≤ u → ticks r p a t ≤ ticks r p a u
ticks-grow r p a t u h = let d = le_dest h in subst (λ (x : ℕ). ticks r p a t ≤ ticks r p a x) d.1 (far d.0)
  where
    far : (d : ℕ) → ticks r p a t ≤ ticks r p a (t + d)
    far zero = rw add-zero (le_refl (ticks r p a t))
    far (suc d) = rw add-suc (le_trans (far d) (ticks-next r p a (t + d)))

-- rows that agree below t give the same count at t
pub ticks-same : (r r' : ℕ → List ℕ) (p a t : ℕ) → ((u : ℕ) → u < t → r u ≡ r' u) → ticks r p a t ≡ ticks r' p a t
unfolding ticks
ticks-same r r' p a zero h = refl
ticks-same r r' p a (suc t) h = rw (h t (omega arith), ticks-same r r' p a t (λ u l. h u (omega arith)))

-- so what is fine, and done in time, in one is in the other
pub valid_same : (s : Table) (r r' : ℕ → List ℕ) (t : ℕ) → ((u : ℕ) → u ≤ t → r u ≡ r' u) → ValidRow s r t → ValidRow s r' t
valid_same s r r' t h x = record {
  size = rw (← now) x.size;
  known = λ c l. rw (← now) (x.known c l);
  works = λ p l e. let y = x.works p l (back p e) in (y.0, still p y.0 y.1, rw (← now) y.2);
}
  where
    now : r t ≡ r' t
    now = h t (le_refl t)

    back : (p : ℕ) → runs r' p t ≡ true → runs r p t ≡ true
    back p e = rw now e

    still : (p k : ℕ) → Owed s r p k t → Owed s r' p k t
    still p k o = record {
      released = o.released;
      early = o.early;
      short = subst (λ (n : ℕ). n < (task s p).length) (ticks-same r r' p (release (task s p) k) t (λ u g. h u (omega arith))) o.short;
    }

pub done-same : (s : Table) (r r' : ℕ → List ℕ) (p k : ℕ) → ((u : ℕ) → u < due (task s p) k → r u ≡ r' u) → InTime s r p k → InTime s r' p k
done-same s r r' p k h e = sym (ticks-same r r' p (release (task s p) k) (due (task s p) k) h) ∙ e

-- a place in a fine row works for its newest job, with the width of that
pub valid-works :
    (s : Table) → AllValid s → (r : ℕ → List ℕ) (t : ℕ) → ValidRow s r t → (p : ℕ) → p < length s.tasks → runs r p t ≡ true
    → Owed s r p (newest (task s p) t) t × (cell_count (suc p) (r t) ≡ width_of (task s p) (newest (task s p) t))
valid-works s ok r t x p l e =
    let y = x.works p l e in
    let new : newest (task s p) t ≡ y.0 = newest-is (task s p) y.0 t (ok p l).constrained y.1.released y.1.early in
    subst (λ (k : ℕ). Owed s r p k t × (cell_count (suc p) (r t) ≡ width_of (task s p) k)) (sym new) (y.1, y.2)

-- so no job has had more than C ticks
pub had-most :
    (s : Table) → AllValid s → (r : ℕ → List ℕ) (p : ℕ) → p < length s.tasks → (k t : ℕ)
    → ((u : ℕ) → u < t → ValidRow s r u) → t ≤ release (task s p) (suc k) → had_in_rows s r p k t ≤ (task s p).length
had-most s ok r p l k zero fine h = unfold ticks in omega arith
had-most s ok r p l k (suc t) fine h =
    go (leb (release (task s p) k) t) refl (runs r p t) refl (had-most s ok r p l k t (λ u g. fine u (omega arith)) (omega arith))
  where
    τ : Task
    τ = task s p

    pos : 0 < τ.period
    pos = le_trans (ok p l).deadline-pos (ok p l).constrained

    go : (a : Bool) → leb (release τ k) t ≡ a → (b : Bool) → runs r p t ≡ b → had_in_rows s r p k t ≤ τ.length → had_in_rows s r p k (suc t) ≤ τ.length
    go false e b q before = rw (ticks-none r p (release τ k) (suc t) (leb-false (release τ k) t e)) (omega arith)
    go true e false q before = rw (ticks-on r p (release τ k) t (leb-true (release τ k) t e), q) before
    go true e true q before =
        let begun = leb-true (release τ k) t e in
        let new : newest τ t ≡ k = newest-only τ pos k t begun h in
        rw (ticks-on r p (release τ k) t begun, q)
        (subst (λ (j : ℕ). had_in_rows s r p j t < τ.length) new (valid-works s ok r t (fine t (omega arith)) p l q).0.short)
