-- THE LONGEST SO FAR, from one tick to a later one: the same where no job has ended between, and where one has its time is taken in. From the horizon on it
-- is the response time.
use mathlib.Core.Bool.{Bool, cond, false, false≢true, true, true≢false}
use mathlib.Core.Path.{ap, refl, subst, sym, ◌∙◌, ◌≡◌}
use Prim.Native.Nat.{◌+◌, ◌-◌, ◌<◌, suc, ℕ, ◌≤◌, max}
use native.Mathlib.Nat.{le_antisymm, le_refl, le_trans, mul-le-mul_left, mul-one}
use native.Mathlib.Omega.{arith}
use lib.Dec.{eqb, ltb}
use lib.ListN.{length}
use borrow.Author.Tests.{eqb-false, eqb-true, ltb-false, ltb-true}
use Rattle.model.proofs.Runs.{full-fresh}
use Rattle.model.specs.Jobs.{Job}
use Rattle.model.specs.Lists.{NeverMissed, full}
use Rattle.model.specs.Horizon.{horizon}
use Rattle.model.specs.Task.{AllValid, ValidTask, Table, Task, release, task}
use Rattle.response_time.specs.Response.{worst_response, worst_response_by, response_time}
use Rattle.response_time.proofs.Greatest.{greatest-at, greatest-least}
use Rattle.response_time.proofs.Response.{ended-later, worst-response-exact, time-ended, time-first}

-- a job's number is at most the tick of its release
number-release : (τ : Task) (k : ℕ) → ValidTask τ → k ≤ release τ k
number-release τ k ok = omega (arith, mul-le-mul_left k (le_trans ok.deadline-pos ok.constrained), mul-one k)

module _ (s : Table) (ok : AllValid s) (nm : NeverMissed s) (p : ℕ) (l : p < length s.tasks) where
  abbrev τ : Task
  τ = task s p

  -- job k has ended at tick n
  abbrev ended : ℕ → ℕ → Bool
  ended n k = ((full s n).job p k).ended

  -- an ended job has a number below the tick
  pub number-below : (n k : ℕ) → ended n k ≡ true → k < n
  number-below n k e = go (ltb k n) refl
    where
      go : (b : Bool) → ltb k n ≡ b → k < n
      go true q = ltb-true k n q
      go false q =
          let early : n ≤ release τ k = le_trans (ltb-false k n q) (number-release τ k (ok p l)) in
          absurd (false≢true (sym (ap (λ (j : Job). j.ended) (full-fresh s n p k early)) ∙ e))

  -- the time of job k, counted once it has ended
  abbrev counted : ℕ → ℕ → ℕ
  counted n k = cond (ended n k) (response_time s p k) 0

  counted-on : (n k : ℕ) → ended n k ≡ true → counted n k ≡ response_time s p k
  counted-on n k e = rw e

  counted-off : (n k : ℕ) → ended n k ≡ false → counted n k ≡ 0
  counted-off n k e = rw e

  -- what is counted is within the longest so far, and the longest so far is within what bounds them all
  counted-most : (n k : ℕ) → counted n k ≤ worst_response_by s p n
  counted-most n k = go (ended n k) refl
    where
      go : (b : Bool) → ended n k ≡ b → counted n k ≤ worst_response_by s p n
      go true e = unfold worst_response_by in greatest-at (suc n) (counted n) k (le_trans (number-below n k e) (omega arith))
      go false e = rw (counted-off n k e) (omega arith)

  worst-response-least : (n m : ℕ) → ((k : ℕ) → counted n k ≤ m) → worst_response_by s p n ≤ m
  unfolding worst_response_by
  worst-response-least n m h = greatest-least (suc n) (counted n) m (λ k g. h k)

  -- later ticks take nothing back
  counted-stays : (n m k : ℕ) → n ≤ m → counted n k ≤ counted m k
  counted-stays n m k h = go (ended n k) refl
    where
      go : (b : Bool) → ended n k ≡ b → counted n k ≤ counted m k
      go true e = rw (counted-on n k e, counted-on m k (ended-later s p k n m h e)) (omega arith)
      go false e = rw (counted-off n k e) (omega arith)

  worst-response-grows : (n m : ℕ) → n ≤ m → worst_response_by s p n ≤ worst_response_by s p m
  worst-response-grows n m h = worst-response-least n (worst_response_by s p m) (λ k. le_trans (counted-stays n m k h) (counted-most m k))

  -- AT TICK 0 no job has ended
  pub worst-response-start : worst_response_by s p 0 ≡ 0
  worst-response-start = le_antisymm (worst-response-least 0 0 (λ k. start k)) (omega arith)
    where
      start : (k : ℕ) → counted 0 k ≤ 0
      start k = unfold full in omega arith

  -- NO JOB HAS ENDED between two ticks
  pub worst-response-same : (n m : ℕ) → n ≤ m → ((k : ℕ) → ended m k ≡ ended n k) → worst_response_by s p m ≡ worst_response_by s p n
  worst-response-same n m h e =
      le_antisymm
      (worst-response-least m (worst_response_by s p n) (λ k. subst (λ (b : Bool). cond b (response_time s p k) 0 ≤ worst_response_by s p n) (sym (e k)) (counted-most n k)))
      (worst-response-grows n m h)

  -- a job that ends in tick n takes the ticks up to the end of that tick
  time-now : (n k : ℕ) → release τ k ≤ n → ended n k ≡ false → ended (suc n) k ≡ true → response_time s p k ≡ suc n - release τ k
  time-now n k b o e =
      let t : ℕ = response_time s p k in
      let next : release τ k + suc (n - release τ k) ≡ suc n = omega arith in
      -- not before: the job would have ended at n
      let above : ¬ (t < suc (n - release τ k)) = λ h.
      true≢false (sym (ended-later s p k (release τ k + t) n (omega arith) (time-ended s ok nm p l k)) ∙ o) in
      -- not after: it has ended
      let below : ¬ (suc (n - release τ k) < t) = λ h.
      true≢false (sym (subst (λ (x : ℕ). ended x k ≡ true) (sym next) e) ∙ time-first s ok nm p l k (suc (n - release τ k)) h) in
      omega (arith, above, below)

  -- ONE JOB HAS ENDED, in tick m, and no other since tick n
  pub worst-response-more :
      (n m K : ℕ) → n ≤ m → release τ K ≤ m → ended m K ≡ false → ended (suc m) K ≡ true → ((k : ℕ) → (k ≡ K → ⊥) → ended (suc m) k ≡ ended n k)
      → worst_response_by s p (suc m) ≡ max (worst_response_by s p n) (suc m - release τ K)
  worst-response-more n m K h b o e same = le_antisymm (worst-response-least (suc m) (max (worst_response_by s p n) time) (λ k. up k (eqb k K) refl)) down
    where
      time : ℕ
      time = suc m - release τ K

      own : counted (suc m) K ≡ time
      own = counted-on (suc m) K e ∙ time-now m K b o e

      up : (k : ℕ) (x : Bool) → eqb k K ≡ x → counted (suc m) k ≤ max (worst_response_by s p n) time
      up k true q = subst (λ (i : ℕ). counted (suc m) i ≤ max (worst_response_by s p n) time) (sym (eqb-true k K q)) (omega (arith, own))
      up k false q =
          le_trans
          (subst (λ (x : Bool). cond x (response_time s p k) 0 ≤ worst_response_by s p n) (sym (same k (eqb-false k K q))) (counted-most n k))
          (omega arith)

      down : max (worst_response_by s p n) time ≤ worst_response_by s p (suc m)
      down = omega (arith, worst-response-grows n (suc m) (omega arith), own, counted-most (suc m) K)

  -- FROM THE HORIZON ON it is the response time: no job takes longer
  pub worst-response-after : (n : ℕ) → horizon s ≤ n → worst_response_by s p n ≡ worst_response s p
  worst-response-after n h = le_antisymm (worst-response-least n (worst_response s p) (λ k. within k (ended n k))) (worst-response-grows (horizon s) n h)
    where
      within : (k : ℕ) (x : Bool) → cond x (response_time s p k) 0 ≤ worst_response s p
      within k true = most
        where
          over : ¬ (worst_response s p < response_time s p k)
          over g =
              let z : ℕ = release τ k + worst_response s p in
              true≢false (sym ((worst-response-exact s ok nm p l).bound k z (le_refl z)) ∙ time-first s ok nm p l k (worst_response s p) g)

          most : response_time s p k ≤ worst_response s p
          most = omega (arith, over)
      within k false = omega arith
