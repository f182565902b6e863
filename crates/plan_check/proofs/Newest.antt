-- The newest job of a task: between which ticks it is the newest, and what a tick or P ticks change.
use mathlib.Core.Path.{ap, sym, ◌∙◌, ◌≡◌}
use mathlib.Core.Logic.{⊎_elim}
use Prim.Native.Nat.{◌*◌, ◌+◌, ◌-◌, ◌/◌, ◌<◌, suc, ℕ, ◌≤◌}
use native.Mathlib.Nat.{add-mul-div_right, div-add-mod', div-lt_iff_lt-mul, div-mul-le_self, eq-or-lt_of_le, le_antisymm, le-div_iff_mul-le, le_of_suc-le-suc, le_trans, mod-lt}
use native.Mathlib.Omega.{arith}
use lib.ListN.{length}
use Rattle.model.proofs.Starts.{Periods, S-last, S-release, hyperperiod-divides}
use Rattle.model.specs.Horizon.{horizon, hyperperiod, last_s}
use Rattle.model.specs.Task.{AllValid, Table, Task, newest, release, task}

module _ (τ : Task) (pos : 0 < τ.period) where
  -- from its offset on the newest job is released, and the next is not
  pub newest-begun : (t : ℕ) → τ.offset ≤ t → release τ (newest τ t) ≤ t
  newest-begun t h = omega (arith, div-mul-le_self (t - τ.offset) τ.period)

  pub newest-next : (t : ℕ) → τ.offset ≤ t → t < release τ (suc (newest τ t))
  newest-next t h = omega (arith, div-add-mod' (t - τ.offset) τ.period, mod-lt (t - τ.offset) pos)

  -- and no other job is so placed
  pub newest-only : (k t : ℕ) → release τ k ≤ t → t < release τ (suc k) → newest τ t ≡ k
  newest-only k t h l =
      le_antisymm
      (le_of_suc-le-suc ((div-lt_iff_lt-mul pos).1 (omega arith)))
      ((le-div_iff_mul-le pos).1 (omega arith))

  pub newest-release : (k : ℕ) → newest τ (release τ k) ≡ k
  newest-release k = newest-only k (release τ k) (omega arith) (omega arith)

  -- a tick without a release changes nothing
  pub newest-step : (t : ℕ) → τ.offset ≤ t → (release τ (newest τ (suc t)) ≡ suc t → ⊥) → newest τ (suc t) ≡ newest τ t
  newest-step t h none =
      newest-only (newest τ t) (suc t) (omega (arith, newest-begun t h))
      (⊎_elim
      (λ (e : suc t ≡ release τ (suc (newest τ t))).
      absurd (none (ap (release τ) (ap (newest τ) e ∙ newest-release (suc (newest τ t))) ∙ sym e)))
      (λ (l : suc t < release τ (suc (newest τ t))). l)
      (eq-or-lt_of_le (newest-next t h)))

  -- P ticks later it is the one P / T periods on
  pub newest-later : (t m P : ℕ) → P ≡ m * τ.period → τ.offset ≤ t → newest τ (t + P) ≡ newest τ t + m
  newest-later t m P e h = ap (λ (x : ℕ). x / τ.period) (omega arith) ∙ add-mul-div_right (t - τ.offset) m pos

  pub release-later : (k m P : ℕ) → P ≡ m * τ.period → release τ (k + m) ≡ release τ k + P
  release-later k m P e = omega arith

-- every offset is at or before the last S
pub offset-last : (s : Table) → AllValid s → (p : ℕ) → p < length s.tasks → (task s p).offset ≤ last_s s.tasks
offset-last s ok p l =
    let all : Periods s.tasks = λ q h. le_trans (ok q h).deadline-pos (ok q h).constrained in
    let x = S-release s.tasks p in
    omega (arith, S-last s.tasks p all l, x.1)

-- the ticks since the release of the newest job are the same at the last S and at the horizon
pub since-later :
    (s : Table) → AllValid s → (p : ℕ) → p < length s.tasks
    → last_s s.tasks - release (task s p) (newest (task s p) (last_s s.tasks)) ≡ horizon s - release (task s p) (newest (task s p) (horizon s))
unfolding horizon
since-later s ok p l =
    let τ : Task = task s p in
    let L : ℕ = last_s s.tasks in
    let P : ℕ = hyperperiod s.tasks in
    let pos : 0 < τ.period = le_trans (ok p l).deadline-pos (ok p l).constrained in
    let on : τ.offset ≤ L = offset-last s ok p l in
    let mm = hyperperiod-divides s.tasks p (λ q h. le_trans (ok q h).deadline-pos (ok q h).constrained) l in
    let a : release τ (newest τ L + mm.0) ≡ release τ (newest τ L) + P = release-later τ pos (newest τ L) mm.0 P mm.1 in
    let b : release τ (newest τ (L + P)) ≡ release τ (newest τ L + mm.0) = ap (release τ) (newest-later τ pos L mm.0 P mm.1 on) in
    let c : release τ (newest τ L) ≤ L = newest-begun τ pos L on in
    omega arith
