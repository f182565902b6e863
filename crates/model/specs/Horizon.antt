-- The interval that the judge simulates (scope, 'Look-ahead and verdict'; Goossens and Berten, theorem 25): S, P and the horizon.
use Rattle.std.specs.Prelude.{List, [], ◌∷◌, ◌≡◌, ◌%◌, ◌*◌, ◌+◌, ◌-◌, ◌/◌, ◌<◌, suc, zero, ℕ, ◌≤◌, eqb, get_or, length}
use Rattle.model.specs.Search.{least}
use Rattle.model.specs.Task.{Table, Task, cycle, absent_task, release}

-- O, or if larger, the first release of a task not before t (`release-from`, `release-first`)
abbrev pub release_from : Task → ℕ → ℕ
release_from τ t = τ.offset + (t - τ.offset + (τ.period - 1)) / τ.period * τ.period

-- S of position 1 is its O; S of a later position is its O, or if larger, its first release not before the previous S (scope: S; the field: start of the
-- periodic part)
unfoldable pub S : List Task → ℕ → ℕ
S τs zero = (get_or τs 0 absent_task).offset
S τs (suc p) = release_from (get_or τs (suc p) absent_task) (S τs p)

-- the last S
abbrev pub last_s : List Task → ℕ
last_s τs = S τs (length τs - 1)

-- the least common multiple of a and b, both positive: the least multiple of b from b up that a divides, found within a tries
unfoldable pub lcm : ℕ → ℕ → ℕ
lcm a b = suc (least a (λ k. eqb (suc k * b % a) 0)) * b

-- the least common multiple of the periods, 2T for a task whose widths differ (scope: P; the field: hyperperiod; `P-exact`)
unfoldable pub hyperperiod : List Task → ℕ
hyperperiod [] = 1
hyperperiod (τ ∷ τs) = lcm (cycle τ) (hyperperiod τs)

-- the last S plus P (scope: horizon; the field: end of the feasibility or schedulability interval)
unfoldable pub horizon : Table → ℕ
horizon s = last_s s.tasks + hyperperiod s.tasks

-- S of a later position, `here`, is its first release not before the previous S; where O is not before that, it is O (`S-later`)
pub record Later (τ : Task) (before here : ℕ) : Type 0 where
  pub released : (k : ℕ) × (here ≡ release τ k)
  pub not-before : before ≤ here
  pub first : (k : ℕ) → before ≤ release τ k → here ≤ release τ k
  pub offset : before ≤ τ.offset → here ≡ τ.offset

-- n is a multiple of every task's period, of 2T where its widths differ
abbrev pub CommonMultiple : List Task → ℕ → Type 0
CommonMultiple τs n = (p : ℕ) → p < length τs → (m : ℕ) × (n ≡ m * cycle (get_or τs p absent_task))

-- n is the least number that all of these divide: of their positive common multiples the least (`P-exact` shows it of P)
pub record LeastCommonMultiple (τs : List Task) (n : ℕ) : Type 0 where
  pub positive : 0 < n
  pub common : CommonMultiple τs n
  pub least : (m : ℕ) → 0 < m → CommonMultiple τs m → n ≤ m
