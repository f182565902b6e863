-- The limits on the header and on a task (scope, 'The table'): the condition of each, and the test that decides it.
use Rattle.std.specs.Prelude.{◌≡◌, Bool, true, not, ◌&&◌, ◌||◌, cond, ◌⊎◌, ℕ, ◌-◌, ◌^◌, ◌≤◌, ◌<◌, eqb, ltb, leb}
use Rattle.model.specs.Search.{bit}
use Rattle.model.specs.Task.{Task}
use Rattle.model.specs.Sizes.{most_cores}

-- O, C and T are at most 1,000,000
abbrev pub most_time : ℕ
most_time = 1000000

-- the horizon is at most 1,000,000,000 (request 103)
abbrev pub most_horizon : ℕ
most_horizon = 1000000000

-- x is a to b
abbrev pub InRange : ℕ → ℕ → ℕ → Type 0
InRange a b x = (a ≤ x) × (x ≤ b)

-- .. as a test (`from-decides`)
abbrev pub in_range : ℕ → ℕ → ℕ → Bool
in_range a b x = leb a x && leb x b

-- 2: the core count is not 1 to 64
abbrev pub CoresOut : ℕ → Type 0
CoresOut m = ¬ InRange 1 most_cores m

-- .. as a test (`cores-decides`)
abbrev pub cores_out : ℕ → Bool
cores_out m = not (in_range 1 most_cores m)

-- 3: the rule is not 1 to 4
abbrev pub RuleOut : ℕ → Type 0
RuleOut n = ¬ InRange 1 4 n

-- .. as a test (`rule-decides`)
abbrev pub rule_out : ℕ → Bool
rule_out n = not (in_range 1 4 n)

-- 19: the fence contains a core past the count m, or all cores
abbrev pub FenceOut : ℕ → ℕ → Type 0
FenceOut m fence = ((c : ℕ) × (m ≤ c) × (bit fence c ≡ true)) ⊎ ((c : ℕ) → c < m → bit fence c ≡ true)

-- .. as a test (`fence-decides`): the set of all cores is 2^m − 1, and a set with a core past the count is larger
abbrev pub fence_out : ℕ → ℕ → Bool
fence_out m fence = leb (2 ^ m - 1) fence

-- a width is 0 or above the number m of unfenced cores
abbrev pub OneOut : ℕ → ℕ → Type 0
OneOut m v = (v ≡ 0) ⊎ (m < v)

-- 7: this holds of a width of the task, that of its odd jobs or that of its even ones (request 108)
abbrev pub WidthOut : ℕ → Task → Type 0
WidthOut m τ = OneOut m τ.odd_width ⊎ OneOut m τ.even_width

-- .. as tests (`width-decides`)
abbrev pub one_out : ℕ → ℕ → Bool
one_out m v = eqb v 0 || ltb m v

abbrev pub width_out : ℕ → Task → Bool
width_out m τ = one_out m τ.odd_width || one_out m τ.even_width

-- 8: a task's O, C, T or D is outside its limits: O 0 to 1,000,000; C and T 1 to 1,000,000; D 1 to T
abbrev pub TimesOut : Task → Type 0
TimesOut τ =
    (most_time < τ.offset)
    ⊎ ((¬ InRange 1 most_time τ.length) ⊎ ((¬ InRange 1 most_time τ.period) ⊎ (¬ InRange 1 τ.period τ.deadline)))

-- .. as a test (`times-decides`)
abbrev pub times_out : Task → Bool
times_out τ =
    ltb most_time τ.offset
    || (not (in_range 1 most_time τ.length) || (not (in_range 1 most_time τ.period) || not (in_range 1 τ.period τ.deadline)))

-- the number that turns a task down, within a task 7 first; 0 where neither does
abbrev pub task_number : ℕ → Task → ℕ
task_number m τ = cond (width_out m τ) 7 (cond (times_out τ) 8 0)

-- 7 or 8 turns it down (`task-decides`)
abbrev pub task_out : ℕ → Task → Bool
task_out m τ = not (eqb (task_number m τ) 0)

-- 9: the horizon exceeds 1,000,000,000
abbrev pub HorizonOut : ℕ → Type 0
HorizonOut h = most_horizon < h

-- .. as a test
abbrev pub horizon_out : ℕ → Bool
horizon_out h = ltb most_horizon h
