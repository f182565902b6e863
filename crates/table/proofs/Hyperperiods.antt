-- P, the hyperperiod, of tasks of code: one more task, all the tasks, and the limit on the horizon.
use mathlib.Core.Bool.{Bool, cond, false, true}
use mathlib.Core.Path.{◌≡◌, sym, ap, ◌∙◌, subst⁻¹}
use mathlib.Core.List.{List, map}
use Prim.Native.Nat.{ℕ, suc, ◌+◌, ◌*◌, ◌/◌, min, ◌≤◌, ◌<◌}
use native.Mathlib.Nat.{le_of_dvd}
use native.Mathlib.Numerals.{add-one}
use native.Mathlib.Omega.{arith}
use lib.ListN.{length, get_or, take, length-map, get_or-map}
use lib.Dec.{eqb, ltb}
use borrow.Author.Tests.{lt-ltb, ltb-true}
use Rattle.model.specs.Task as model
use Rattle.model.specs.Task.{absent_task}
use Rattle.model.specs.Horizon.{lcm, hyperperiod}
use Rattle.std.specs.Cmp.{both_ways}
use Rattle.model.proofs.Starts.{Periods, cycle-pos, hyperperiod-pos, hyperperiod-more, hyperperiod-fewer}
use Rattle.table.specs.declared.Task.{Task}
use Rattle.table.specs.Task.{task_of, no_task, InLimits, TimesWithin}
use Rattle.table.specs.Limits.{most_time}
use Rattle.table.specs.Gcd.{Gcd}
use Rattle.table.proofs.Gcd.{lcm-by-gcd}

-- a cycle is at most twice the longest period
pub cycle-most : (t : Task) → TimesWithin t → model.cycle (task_of t) ≤ 2 * most_time
cycle-most t w = go (eqb t.width t.second)
  where
    go : (b : Bool) → cond b t.period (2 * t.period) ≤ 2 * most_time
    go true = omega (arith, w.period-most)
    go false = omega (arith, w.period-most)

module _ (tasks : List Task) (limits : InLimits tasks (length tasks)) where
  periods : Periods (map task_of tasks)
  periods p l =
      let h : p < length tasks = omega (arith, length-map tasks task_of) in
      subst⁻¹ (λ (τ : model.Task). 0 < τ.period) (get_or-map task_of tasks p no_task) (limits p h).period-least

  -- one more task, by the greatest common divisor
  pub hyperperiod-next :
      (m i g : ℕ) → m ≡ hyperperiod (take i (map task_of tasks)) → i < length tasks → Gcd m (model.cycle (task_of (get_or tasks i no_task))) g
      → m / g * model.cycle (task_of (get_or tasks i no_task)) ≡ hyperperiod (take (i + 1) (map task_of tasks))
  hyperperiod-next m i g e h d =
      let T : ℕ = model.cycle (task_of (get_or tasks i no_task)) in
      let τs : List model.Task = map task_of tasks in
      let m-pos : 0 < m = omega (arith, hyperperiod-pos (take i τs)) in
      let same : model.cycle (get_or τs i absent_task) ≡ T = ap model.cycle (get_or-map task_of tasks i no_task) in
      let more : hyperperiod (take (suc i) τs) ≡ lcm (hyperperiod (take i τs)) (model.cycle (get_or τs i absent_task)) =
      hyperperiod-more τs i periods (omega (arith, length-map tasks task_of)) in
      sym (lcm-by-gcd m T g m-pos (cycle-pos (task_of (get_or tasks i no_task)) (limits i h).period-least) d) ∙ rw (add-one, more, same, e)

  -- once above a limit, above it at the end
  pub hyperperiod-over : (n i : ℕ) → n < hyperperiod (take i (map task_of tasks)) → n + 1 ≡ min (hyperperiod (map task_of tasks)) (n + 1)
  hyperperiod-over n i h =
      omega (arith, le_of_dvd (hyperperiod-pos (map task_of tasks)) (hyperperiod-fewer (map task_of tasks) i periods))

-- P is known up to one above the limit n: this decides whether S + P exceeds n ..
pub exceeds-capped : (n s p : ℕ) → ltb n (s + min p (n + 1)) ≡ ltb n (s + p)
exceeds-capped n s p =
    both_ways (ltb n (s + min p (n + 1))) (ltb n (s + p))
    (λ e. lt-ltb n (s + p) (omega (arith, ltb-true n (s + min p (n + 1)) e)))
    (λ e. lt-ltb n (s + min p (n + 1)) (omega (arith, ltb-true n (s + p) e)))

-- .. and where it does not, P is exact
pub capped-exact : (n s p : ℕ) → s + min p (n + 1) ≤ n → min p (n + 1) ≡ p
capped-exact n s p h = omega arith
