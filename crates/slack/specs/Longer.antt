-- Tables that differ in their lengths alone, and a table with the C of one task grown (request 111).
use Rattle.std.specs.Prelude.{◌≡◌, ℕ, ◌+◌, ◌≤◌, length, set}
use Rattle.model.specs.Task.{Table, Task, task}

-- the second task is the first with the same length or a longer one
pub record TaskLengthened (τ τ' : Task) : Type 0 where
  pub offset : τ.offset ≡ τ'.offset
  pub odd_width : τ.odd_width ≡ τ'.odd_width
  pub longer : τ.length ≤ τ'.length
  pub deadline : τ.deadline ≡ τ'.deadline
  pub period : τ.period ≡ τ'.period
  pub even_width : τ.even_width ≡ τ'.even_width

-- the second table is the first with the same lengths or longer ones
pub record TableLengthened (s s' : Table) : Type 0 where
  pub rules : s.rule ≡ s'.rule
  pub cores : s.cores ≡ s'.cores
  pub fences : s.fence ≡ s'.fence
  pub count : length s.tasks ≡ length s'.tasks
  pub places : (p : ℕ) → TaskLengthened (task s p) (task s' p)

-- a task with C grown by g ticks
abbrev pub lengthen : ℕ → Task → Task
lengthen g τ = record {
  offset = τ.offset;
  odd_width = τ.odd_width;
  length = τ.length + g;
  deadline = τ.deadline;
  period = τ.period;
  even_width = τ.even_width;
}

-- the table with the C of place p alone grown by g ticks
abbrev pub grown : Table → ℕ → ℕ → Table
grown s p g = record { tasks = set s.tasks p (lengthen g (task s p)); cores = s.cores; fence = s.fence; rule = s.rule }
