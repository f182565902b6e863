-- The places that are given cores in a tick and those that borrow some (request 109), from the sets of the places that claim and that are Working: ws are the
-- widths of the places below the count, F the cores that the rule gives from.
use Rattle.std.specs.Prelude.{◌≡◌, Bool, ◌&&◌, not, cond, List, [], map, ℕ, get_or}
use Rattle.model.specs.Task.{Rule}
use Rattle.model.specs.Grants.{claimants, grants, some}
use Rattle.model.specs.Lending.{lends, lent, shown_cores}
use Rattle.model.specs.Search.{bit}
use Rattle.model.specs.Sets.{set_of}
use Rattle.run.specs.declared.allocation.Allocation.{Allocation}
use Rattle.run.specs.Sets.{in32}

-- the cores that each place is given
abbrev pub given_to : Rule → List ℕ → ℕ → List ℕ → List (List ℕ)
given_to r ws claiming F = grants r (claimants ws (bit claiming)) F

-- place p is given some
abbrev pub is_given : Rule → List ℕ → ℕ → List ℕ → ℕ → Bool
is_given r ws claiming F p = some (get_or (given_to r ws claiming F) p [])

-- what each place borrows once all below the count have lent: one that claims and is not Working lends what it is given, one that is Working and is
-- given nothing seeks cores
abbrev pub lent_to : Rule → List ℕ → ℕ → ℕ → List ℕ → ℕ → List (List ℕ)
lent_to r ws claiming working F count =
    lent ws (λ p. bit working p && not (is_given r ws claiming F p))
    (λ p. cond (lends r && (bit claiming p && not (bit working p))) (get_or (given_to r ws claiming F) p []) []) count

-- the sets of the places that are given cores and of those that borrow some; and of each place the set of cores that the row shows, none past the count
pub record AllocationOf (r : Rule) (ws : List ℕ) (claiming working : ℕ) (F : List ℕ) (count : ℕ) (s : Allocation) : Type 0 where
  pub given : (p : ℕ) → bit s.given p ≡ is_given r ws claiming F p
  pub lent : (p : ℕ) → bit s.lent p ≡ some (get_or (lent_to r ws claiming working F count) p [])
  pub shows : s.sets ≡ in32 (map set_of (shown_cores (given_to r ws claiming F) (lent_to r ws claiming working F count)))
