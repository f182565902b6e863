-- S: the ticks since an offset by arithmetic alone, the next S, and how large an S can be.
use mathlib.Core.Path.{◌≡◌, refl, ap, subst⁻¹}
use mathlib.Core.Bool.{Bool, true, false}
use mathlib.Core.List.{List, map}
use Prim.Native.Nat.{ℕ, zero, suc, ◌+◌, ◌*◌, ◌-◌, ◌/◌, ◌%◌, ◌≤◌, ◌<◌}
use native.Mathlib.Nat.{div-mul-le_self, mul-zero, mul-one, le_trans}
use native.Mathlib.Numerals.{add-one}
use native.Mathlib.Omega.{arith}
use lib.ListN.{length, get_or, take, get_or-map}
use lib.Seq.{length-take-le, get_or-take}
use lib.Dec.{ltb}
use borrow.Author.Tests.{ltb-true, ltb-false}
use Rattle.model.specs.Task as model
use Rattle.model.specs.Horizon.{release_from, S, last_s}
use Rattle.model.specs.Sizes.{most_tasks}
use Rattle.table.specs.declared.Task.{Task}
use Rattle.table.specs.Task.{task_of, tasks_of, no_task, TimesWithin, InLimits}
use Rattle.table.proofs.Places.{tasks-length}
use Rattle.table.specs.Limits.{most_time}

-- the ticks of t since an offset, by arithmetic alone: with 2^26 added first, the quotient by 2^26 is 1 if t has
-- reached the offset, and the rest is by how much
abbrev pub since : ℕ → ℕ → ℕ
since t offset = (t + 67108864 - offset) % 67108864 * ((t + 67108864 - offset) / 67108864)

pub since-difference : (t offset : ℕ) → t < 67108864 → offset ≤ 67108864 → since t offset ≡ t - offset
since-difference t offset h l = go (ltb t offset) refl
  where
    go : (b : Bool) → ltb t offset ≡ b → since t offset ≡ t - offset
    go true e =
        let early : t < offset = ltb-true t offset e in
        let no : (t + 67108864 - offset) / 67108864 ≡ 0 = omega arith in
        rw (no, mul-zero) (omega arith)
    go false e =
        let reached : offset ≤ t = ltb-false t offset e in
        let yes : (t + 67108864 - offset) / 67108864 ≡ 1 = omega arith in
        let rest : (t + 67108864 - offset) % 67108864 ≡ t - offset = omega arith in
        rw (yes, rest) (mul-one (t - offset))

-- a first release is the offset, or less than a period after the tick that is asked for
pub release-bound : (τ : model.Task) (t : ℕ) → release_from τ t ≤ τ.offset + (t - τ.offset + (τ.period - 1))
release-bound τ t = omega (arith, div-mul-le_self (t - τ.offset + (τ.period - 1)) τ.period)

module _ (tasks : List Task) (limits : InLimits tasks (length tasks)) where
  -- each position adds less than a period to S
  pub S-bound : (p : ℕ) → p < length tasks → S (map task_of tasks) p ≤ suc p * most_time
  unfolding S
  S-bound zero h =
      subst⁻¹ (λ (τ : model.Task). τ.offset ≤ 1 * most_time) (get_or-map task_of tasks 0 no_task) (omega (arith, (limits 0 h).offset-most))
  S-bound (suc p) h =
      let within : TimesWithin (get_or tasks (suc p) no_task) = limits (suc p) h in
      let before : S (map task_of tasks) p ≤ suc p * most_time = S-bound p (omega arith) in
      subst⁻¹ (λ (τ : model.Task). release_from τ (S (map task_of tasks) p) ≤ suc (suc p) * most_time) (get_or-map task_of tasks (suc p) no_task)
      (le_trans (release-bound (task_of (get_or tasks (suc p) no_task)) (S (map task_of tasks) p)) (omega arith))

  -- S of the next place
  pub S-next : (i : ℕ) → S (map task_of tasks) (i + 1) ≡ release_from (task_of (get_or tasks (i + 1) no_task)) (S (map task_of tasks) i)
  unfolding S
  S-next i = rw (add-one i) (ap (λ (τ : model.Task). release_from τ (S (map task_of tasks) i)) (get_or-map task_of tasks (suc i) no_task))

module _ (tasks : List Task) (count : ℕ) (limits : InLimits tasks count) where
  -- the last S of at most 32 tasks is at most 32,000,000
  pub last_s-bound : 1 ≤ count → count ≤ most_tasks → count ≤ length tasks → last_s (tasks_of tasks count) ≤ 32000000
  last_s-bound some few there =
      let many : length (take count tasks) ≡ count = length-take-le count tasks there in
      let first : InLimits (take count tasks) (length (take count tasks)) =
      λ p h. subst⁻¹ TimesWithin (get_or-take count tasks p no_task (omega arith)) (limits p (omega arith)) in
      rw (tasks-length tasks count there) (omega (arith, S-bound (take count tasks) first (count - 1) (omega arith)))
