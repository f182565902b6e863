-- What the tick rule guarantees (scope, 'Who runs in a tick'), in the model's words; a set of cores is represented by the list of its cores.
use Rattle.std.specs.Prelude.{◌≡◌, Bool, cond, List, [], map, ℕ, ◌-◌, leb, get_or, take, drop, replicate}
use Rattle.model.specs.Task.{Rule}
use Rattle.model.specs.Grants.{Claimant, ends_choosing, grants, some}
use Rattle.model.specs.Sizes.{most_tasks}
use Rattle.cores.specs.Cores.{cores}
use Rattle.rule.specs.declared.Selection.{Selection}
use Rattle.rule.specs.declared.Selection.TheVariants.{Takes, Passed, Ends}

-- the rule's answer to a claimant of this width where `free` cores are free: a width that fits takes its cores; one that doesn't ends the
-- tick's choosing or is skipped
abbrev pub selection : Rule → ℕ → ℕ → Selection
selection r free width = cond (leb width free) Takes (cond (ends_choosing r) Ends Passed)

-- what each answer gives a claimant of this width, of the free cores
abbrev pub given_by : Selection → ℕ → List ℕ → List ℕ
given_by Takes width free = take width free
given_by Passed width free = []
given_by Ends width free = []

-- and what it leaves to the claimants below it
abbrev pub left_by : Selection → ℕ → List ℕ → List ℕ
left_by Takes width free = drop width free
left_by Passed width free = free
left_by Ends width free = []

-- all claimants of a tick, taken in priority order: the cores of each place, and no set past the count
pub record GrantedAs (r : Rule) (bs : List Claimant) (count free : ℕ) (sets : List ℕ) : Type 0 where
  pub gives : map cores (take count sets) ≡ grants r bs (cores free)
  pub none : drop count sets ≡ replicate (most_tasks - count) 0

-- place p is given cores: it is in the row of the tick
abbrev pub granted : Rule → List Claimant → List ℕ → ℕ → Bool
granted r bs free p = some (get_or (grants r bs free) p [])
