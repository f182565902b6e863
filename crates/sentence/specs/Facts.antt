-- The facts of a miss that a sentence contains (request 'the miss in a sentence'), and the facts that a sentence is parsed to.
use Rattle.std.specs.Prelude.{Bool, true, ◌&&◌, cond, List, [], ◌∷◌, ℕ, suc, ◌^◌, ◌≤◌, ◌<◌, eqb, leb, ltb}
use Rattle.sentence.specs.declared.Facts as code
use Rattle.model.specs.Sizes.{most_tasks}

-- a task above the late one, and the number of the late job's waiting ticks in which it ran
pub record Part : Type 0 where
  pub position : ℕ
  pub count : ℕ

-- the late task's position, the tick of the miss, the ticks that its job had out of its length C, and the tasks above that ran meanwhile
pub record Facts : Type 0 where
  pub position : ℕ
  pub tick : ℕ
  pub had : ℕ
  pub length : ℕ
  pub others : List Part

-- numbers are below this one
abbrev pub limit : ℕ
limit = 2 ^ 64

-- a part may follow one of the task `last`: it is of a later task, above the late one at `position`, with a count above 0
pub record MayFollow (last position : ℕ) (p : Part) : Type 0 where
  pub later : last < p.position
  pub above : p.position < position
  pub some : 0 < p.count
  pub fits : p.count < limit

-- .. the test (`may-follow-exact`)
abbrev pub may_follow : ℕ → ℕ → Part → Bool
may_follow last position p = ltb last p.position && (ltb p.position position && (ltb 0 p.count && ltb p.count limit))

-- the parts rise: each may follow the one before it, the first may follow one of `last`
unfoldable pub Ascending : ℕ → ℕ → List Part → Type 0
Ascending last position [] = Unit {0}
Ascending last position (p ∷ ps) = MayFollow last position p × Ascending p.position position ps

-- .. the test (`ascending-exact`)
unfoldable pub ascending : ℕ → ℕ → List Part → Bool
ascending last position [] = true
ascending last position (p ∷ ps) = may_follow last position p && ascending p.position position ps

-- facts that a sentence is parsed to: position 1 to 32, fewer ticks had than C, the parts rise from 1 and stay above the late task, every number is below 2^64
pub record Expressible (f : Facts) : Type 0 where
  pub first : 1 ≤ f.position
  pub last : f.position ≤ most_tasks
  pub tick : f.tick < limit
  pub short : f.had < f.length
  pub length : f.length < limit
  pub others : Ascending 0 f.position f.others

-- .. the test (`expressible-exact`)
unfoldable pub expressible : Facts → Bool
expressible f =
    leb 1 f.position
    && (leb f.position most_tasks && (ltb f.tick limit && (ltb f.had f.length && (ltb f.length limit && ascending 0 f.position f.others))))

-- the parts of counts in order of position, the first that of position q + 1; a task with count 0 has no part
unfoldable pub named_from : ℕ → List ℕ → List Part
named_from q [] = []
named_from q (n ∷ ns) = cond (eqb n 0) (named_from (suc q) ns) (record { position = suc q; count = n } ∷ named_from (suc q) ns)

-- .. of all positions from 1 on
abbrev pub named : List ℕ → List Part
named ns = named_from 0 ns

-- the facts in a struct
abbrev pub facts_by : code.Facts → Facts
facts_by f = record { position = f.position; tick = f.tick; had = f.had; length = f.length; others = named f.ran }
