-- The response time of a full-length job, from release to completion, and the worst case of each task (request 107).
use Rattle.std.specs.Prelude.{Bool, true, false, cond, ◌≡◌, ℕ, zero, suc, ◌+◌, ◌≤◌, ◌<◌, max}
use Rattle.model.specs.Lists.{full}
use Rattle.model.specs.Horizon.{horizon}
use Rattle.model.specs.Search.{least}
use Rattle.model.specs.Task.{Table, release, task}

-- job k of place p has ended z ticks after its release, in the full-length run. A job ends at the tick after its last
abbrev pub ended_after : Table → ℕ → ℕ → ℕ → Bool
ended_after s p k z = ((full s (release (task s p) k + z)).job p k).ended

-- the response time of job k of place p: the ticks from its release to its end, searched up to D
unfoldable pub response_time : Table → ℕ → ℕ → ℕ
response_time s p k = least (suc (task s p).deadline) (ended_after s p k)

-- the greatest of the first n numbers of f, and 0 where n is 0
unfoldable pub greatest : ℕ → (ℕ → ℕ) → ℕ
greatest zero f = 0
greatest (suc n) f = max (greatest n f) (f n)

-- the longest response time of the jobs of place p that have ended by tick n, from the first job on (such a job has a number up to n: `number-below`)
unfoldable pub worst_response_by : Table → ℕ → ℕ → ℕ
worst_response_by s p n = greatest (suc n) (λ k. cond ((full s n).job p k).ended (response_time s p k) 0)

-- the worst-case response time of place p: the longest of the jobs that have ended by the horizon
abbrev pub worst_response : Table → ℕ → ℕ
worst_response s p = worst_response_by s p (horizon s)

-- the claims about the worst-case response time r of place p, over all ticks (`worst-response-exact`; of no other number: `worst-response-only`)
pub record WorstResponse (s : Table) (p r : ℕ) : Type 0 where
  -- no full-length job takes longer: each has ended r ticks after its release, and at every later tick
  pub bound : (k n : ℕ) → release (task s p) k + r ≤ n → ((full s n).job p k).ended ≡ true
  -- and some full-length job takes exactly that long: r ticks after its release it has ended, and not before
  pub reached : (k : ℕ) × (ended_after s p k r ≡ true) × ((z : ℕ) → z < r → ended_after s p k z ≡ false)
