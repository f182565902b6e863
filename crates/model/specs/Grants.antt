-- Which tasks run in a tick, from those that claim (scope, section 'Who runs in a tick'; Goossens and Berten, definitions 5 and 18).
-- Idling and lending choose as greedy does; their claims are in Claims.antt, and what is lent in Lending.antt.
use Rattle.std.specs.Prelude.{Bool, true, false, ◌&&◌, cond, List, [], ◌∷◌, ℕ, suc, length, take, drop, leb}
use Rattle.model.specs.Task.{Rule, greedy, limited, idling, lending}

-- what the rule reads of a task: whether it has a job that claims, and its width
pub record Claimant : Type 0 where
  pub claims : Bool
  pub width : ℕ

-- the tasks of these widths, in priority order; c p is true if place p claims
unfoldable pub claimants : List ℕ → (ℕ → Bool) → List Claimant
claimants [] c = []
claimants (w ∷ ws) c = record { claims = c 0; width = w } ∷ claimants ws (λ p. c (suc p))

-- a task claims, and its width fits in the free cores
abbrev pub fits : Claimant → List ℕ → Bool
fits b free = b.claims && leb b.width (length free)

-- limited: the first task that doesn't fit ends the tick's choosing; the other rules skip it
abbrev pub ends_choosing : Rule → Bool
ends_choosing greedy = false
ends_choosing limited = true
ends_choosing idling = false
ends_choosing lending = false

-- the cores that a task is given, of the free ones in ascending order: the lowest-numbered, or none
unfoldable pub given : Claimant → List ℕ → List ℕ
given b free = cond (fits b free) (take b.width free) []

-- the free cores that are left for the tasks below a task; none where it ends the choosing
unfoldable pub left : Rule → Claimant → List ℕ → List ℕ
left r b free = cond (fits b free) (drop b.width free) (cond (b.claims && ends_choosing r) [] free)

-- the cores of each task: the tasks are taken in priority order
unfoldable pub grants : Rule → List Claimant → List ℕ → List (List ℕ)
grants r [] free = []
grants r (b ∷ bs) free = given b free ∷ grants r bs (left r b free)

-- a task is given cores: its list is not empty
abbrev pub some : List ℕ → Bool
some [] = false
some (c ∷ cs) = true
