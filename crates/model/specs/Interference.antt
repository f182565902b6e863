-- The interference test: a table that passes it misses no deadline, and is not simulated. A table that fails it may still be met.
-- A job that has not ended L ticks after its release waited in all but fewer than C of them. A job waits only while places above are given cores.
-- So where the interference of these is too small, the job has ended: L bounds its response time. `interference-meets` shows it.
-- The workload is that of Bertogna and Cirinei (RTSS 2007) for tasks of one core; Goossens and Berten's paper on gang tasks has no such test.
use Rattle.std.specs.Prelude.{Bool, ◌&&◌, cond, not, true, List, [], ◌∷◌, ◌++◌, ◌≡◌, ℕ, zero, suc, ◌+◌, ◌*◌, ◌-◌, ◌/◌, ◌%◌, max, min, leb, ltb, get_or, length}
use Rattle.model.specs.Lists.{full}
use Rattle.model.specs.Fence.{unfenced_count}
use Rattle.model.specs.Grants.{ends_choosing}
use Rattle.model.specs.Search.{any}
use Rattle.model.specs.Task.{Table, Task, narrowest, release, task, widest}

-- the sum of f over the numbers below n
unfoldable pub sum_below : ℕ → (ℕ → ℕ) → ℕ
sum_below zero f = 0
sum_below (suc n) f = sum_below n f + f n

-- the largest f of the numbers below n, 0 where there is none
unfoldable pub largest_below : ℕ → (ℕ → ℕ) → ℕ
largest_below zero f = 0
largest_below (suc n) f = max (largest_below n f) (f n)

-- the workload in a window of L ticks of jobs of a task that are released T ticks apart: in how many ticks they are given cores at most, where each has
-- ended e ticks after its release. It is largest where the window begins with the last C of the e ticks of a job (the carried-in job), and each later
-- job is given its first C ticks
abbrev pub workload_in : Task → ℕ → ℕ → ℕ → ℕ
workload_in τ T e L = (L + e - τ.length) / T * τ.length + min τ.length ((L + e - τ.length) % T)

-- how many cores a task is given at most in n ticks of a window of L, summed over the ticks: its smaller width in its workload, and what its larger width
-- has more in the workload of every second job
abbrev pub cores_in : Task → ℕ → ℕ → ℕ → ℕ
cores_in τ e L n =
    narrowest τ * min n (workload_in τ τ.period e L) + (widest τ - narrowest τ) * min n (workload_in τ (2 * τ.period) e L)

-- the least number of ticks in which a job waited that has not ended L ticks after its release
abbrev pub waits_in : Task → ℕ → ℕ
waits_in τ L = suc L - τ.length

-- the interference on place p in n ticks of a window of L: how many cores the places above are given in them at most; a job of place i has ended e i
-- ticks after its release
unfoldable pub interference_in : Table → (ℕ → ℕ) → ℕ → ℕ → ℕ → ℕ
interference_in s e p L n = sum_below p (λ i. cores_in (task s i) (e i) L n)

-- the widest job that may not fit where a job of place p waits: its own width, or under limited the widest of the places up to and including p
unfoldable pub refused_width : Table → ℕ → ℕ
refused_width s p = cond (ends_choosing s.rule) (largest_below (suc p) (λ i. widest (task s i))) (widest (task s p))

-- the least number of cores that the places above p are given in a tick in which a job of p waits
unfoldable pub need : Table → ℕ → ℕ
need s p = suc (unfenced_count s.fence s.cores) - refused_width s p

-- THE TEST of place p, for a window of L ticks: it is within the deadline, and the interference is too small to keep a job waiting in L − C + 1 ticks
unfoldable pub suffices : Table → (ℕ → ℕ) → ℕ → ℕ → Bool
suffices s e p L =
    leb L (task s p).deadline && ltb (interference_in s e p L (waits_in (task s p) L)) (waits_in (task s p) L * need s p)

-- what it shows: L bounds the response times of place p. Every job in the full-length run has ended L ticks after its release
abbrev pub EndsWithin : Table → ℕ → ℕ → Type 0
EndsWithin s p L = (k : ℕ) → ((full s (release (task s p) k + L)).job p k).ended ≡ true

-- THE RESPONSE-TIME BOUNDS OF A TABLE, from the first place on

-- from a window that fails the next to try: twice as many ticks of waiting, up to the deadline
abbrev pub next_window : Task → ℕ → ℕ
next_window τ L = min τ.deadline (L + waits_in τ L)

-- the first window that passes of L and those after it, in at most n tries; D + 1 where none does
unfoldable pub first_window : Table → (ℕ → ℕ) → ℕ → ℕ → ℕ → ℕ
first_window s e p zero L = suc (task s p).deadline
first_window s e p (suc n) L =
    cond (suffices s e p L) L (cond (ltb L (task s p).deadline) (first_window s e p n (next_window (task s p) L)) (suc (task s p).deadline))

-- a window between two, the longer of which passes if it is within the deadline: n halvings, each by one try
unfoldable pub shortened_window : Table → (ℕ → ℕ) → ℕ → ℕ → ℕ → ℕ → ℕ
shortened_window s e p zero low high = high
shortened_window s e p (suc n) low high =
    shortened_window s e p n
    (cond (suffices s e p ((low + high) / 2)) low (suc ((low + high) / 2)))
    (cond (suffices s e p ((low + high) / 2)) ((low + high) / 2) high)

-- the tries that take any search to the deadline, and the halvings that take it to one window: more change nothing (`first-enough`, `halvings-enough`)
abbrev pub most_tries : ℕ
most_tries = 21

abbrev pub most_halvings : ℕ
most_halvings = 20

-- the window of place p: one that passes, or D + 1 where none is found, by at most 41 tries; e i is the window of place i above it
unfoldable pub bound_from : Table → (ℕ → ℕ) → ℕ → ℕ
bound_from s e p = shortened_window s e p most_halvings (task s p).length (first_window s e p most_tries (task s p).length)

-- the windows of the first n places
unfoldable pub bounds_to : Table → ℕ → List ℕ
bounds_to s zero = []
bounds_to s (suc n) = bounds_to s n ++ (bound_from s (λ i. get_or (bounds_to s n) i 0) n ∷ [])

-- the response-time bound of place p, where it is within the deadline
abbrev pub response_bound : Table → ℕ → ℕ
response_bound s p = bound_from s (λ i. get_or (bounds_to s p) i 0) p

-- THE TEST of a table: every place has a bound within its deadline. Then no deadline is missed, and each job ends within its bound (`passes-meets`, `passes-ends`)
unfoldable pub interference_test_passes : Table → Bool
interference_test_passes s = not (any (length s.tasks) (λ p. ltb (task s p).deadline (response_bound s p)))
