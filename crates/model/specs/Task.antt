-- The abstract table: its tasks in priority order, the core count, the fence and the rule.
-- Places and jobs count from 0 here: place p is position p + 1 (scope: position; the field: rank in fixed task priority order), job k is the paper's job k + 1.
use Rattle.std.specs.Prelude.{cond, List, ℕ, ◌+◌, ◌*◌, ◌-◌, ◌/◌, ◌%◌, ◌≤◌, ◌<◌, max, min, length, get_or, eqb}

-- a task: offset O, length C (the field: execution time), deadline D, period T, and its widths (request 108; the field: cores of a rigid gang job): v of its
-- odd jobs and w of its even ones
pub record Task : Type 0 where
  pub offset : ℕ
  pub odd_width : ℕ
  pub length : ℕ
  pub deadline : ℕ
  pub period : ℕ
  pub even_width : ℕ

-- scope, 'The table': the rule is 1 greedy, 2 limited, 3 idling; 4 is lending (request 109)
-- (scope: lending; the field: slack reclaiming)
pub data Rule : Type 0 where
  greedy limited idling lending : Rule

-- what a rule's number means: 1 greedy, 2 limited, 3 idling, 4 lending; any other number is read as greedy, and is turned down by 3 and 14
abbrev pub rule_of : ℕ → Rule
rule_of n = cond (eqb n 2) limited (cond (eqb n 3) idling (cond (eqb n 4) lending greedy))

-- the tasks in priority order, the core count, the fence (a set of cores, bit c for core c: Fence.antt) and the rule
-- (scope: fence; the field: reserved processors)
pub record Table : Type 0 where
  pub tasks : List Task
  pub cores : ℕ
  pub fence : ℕ
  pub rule : Rule

-- no task: the value past the last place
abbrev pub absent_task : Task
absent_task = record { offset = 0; odd_width = 0; length = 0; deadline = 0; period = 0; even_width = 0 }

-- the task at place p
abbrev pub task : Table → ℕ → Task
task s p = get_or s.tasks p absent_task

-- the limits on one task that the theorems use: v, w, C and D are at least 1, and D is at most T
pub record ValidTask (τ : Task) : Type 0 where
  pub odd_pos : 1 ≤ τ.odd_width
  pub even-pos : 1 ≤ τ.even_width
  pub length-pos : 1 ≤ τ.length
  pub deadline-pos : 1 ≤ τ.deadline
  pub constrained : τ.deadline ≤ τ.period

-- every task of the table is valid
abbrev pub AllValid : Table → Type 0
AllValid s = (p : ℕ) → p < length s.tasks → ValidTask (task s p)

-- scope: job k is released at O + (k−1)T, k from 1
abbrev pub release : Task → ℕ → ℕ
release τ k = τ.offset + k * τ.period

-- scope: a job must have its C ticks, each on as many cores together as its width, by that tick plus D
abbrev pub due : Task → ℕ → ℕ
due τ k = release τ k + τ.deadline

-- the width of job k: jobs count from 0 here, so that an even k is an odd job of the paper
abbrev pub width_of : Task → ℕ → ℕ
width_of τ k = cond (eqb (k % 2) 0) τ.odd_width τ.even_width

-- the larger and the smaller of a task's widths
abbrev pub widest : Task → ℕ
widest τ = max τ.odd_width τ.even_width

abbrev pub narrowest : Task → ℕ
narrowest τ = min τ.odd_width τ.even_width

-- the number of ticks after which a task's releases and widths repeat: T, or 2T where the widths differ
abbrev pub cycle : Task → ℕ
cycle τ = cond (eqb τ.odd_width τ.even_width) τ.period (2 * τ.period)

-- the job of a task that is released last by tick t, and job 0 before the first release; only it can claim in t, since D ≤ T (`only-newest`)
abbrev pub newest : Task → ℕ → ℕ
newest τ t = (t - τ.offset) / τ.period
