-- Lending and what a row shows then, computed on small sets, on all 32 places and on 64 cores.
use mathlib.Core.Path.{◌≡◌, refl}
use mathlib.Core.List.{List, [], ◌∷◌, ◌++◌, map}
use Prim.Native.Nat.{ℕ, ◌-◌, ◌^◌}
use lib.ListN.{length, replicate}
use Rattle.model.specs.Grants.{claimants, given, left, grants}
use Rattle.model.specs.Lending.{among, merged, lent, shown_cores}
use Rattle.model.specs.Row.{owner, row}
use Rattle.model.specs.Search.{bit, filtered, member, up_from}
use Rattle.cores.specs.Cores.{cores}
use Rattle.rule.specs.Lent.{offered}

-- what each place borrows: of these widths, the sets reserved for them, the holders and the seekers
abbrev borrowing : List ℕ → List ℕ → ℕ → ℕ → List (List ℕ)
borrowing ws reserved holders seekers = lent ws (bit seekers) (offered reserved holders) (length ws)

-- position 1 holds cores 0 and 1, and position 2 fits: it takes the lower
pub one-fits : borrowing (2 ∷ 1 ∷ []) (3 ∷ 0 ∷ []) 1 2 ≡ [] ∷ (0 ∷ []) ∷ []
unfolding lent merged grants claimants given left cores filtered up_from
one-fits = refl

-- position 2 is too wide, and is skipped for position 3
pub passed-for-another : borrowing (2 ∷ 3 ∷ 1 ∷ []) (3 ∷ 0 ∷ 0 ∷ []) 1 6 ≡ [] ∷ [] ∷ (0 ∷ []) ∷ []
unfolding lent merged grants claimants given left cores filtered up_from
passed-for-another = refl

-- the lowest unlent cores in turn, here 3, 5 and 6, 9
pub lowest-in-turn : borrowing (4 ∷ 1 ∷ 2 ∷ 1 ∷ []) (616 ∷ 0 ∷ 0 ∷ 0 ∷ []) 1 14 ≡ [] ∷ (3 ∷ []) ∷ (5 ∷ 6 ∷ []) ∷ (9 ∷ []) ∷ []
unfolding lent merged grants claimants given left cores filtered up_from
lowest-in-turn = refl

-- positions 1 and 2 hold core 0, and cores 1 and 2: position 3 is too wide for the first, position 4 is served by it, and nothing is left for position 5
pub two-holders : borrowing (1 ∷ 2 ∷ 2 ∷ 1 ∷ 1 ∷ []) (1 ∷ 6 ∷ 0 ∷ 0 ∷ 0 ∷ []) 3 28 ≡ [] ∷ [] ∷ (1 ∷ 2 ∷ []) ∷ (0 ∷ []) ∷ [] ∷ []
unfolding lent merged grants claimants given left cores filtered up_from
two-holders = refl

-- one is fed by one holder: as wide as both it gets nothing, ..
pub not-by-both : borrowing (1 ∷ 1 ∷ 2 ∷ []) (1 ∷ 2 ∷ 0 ∷ []) 3 4 ≡ [] ∷ [] ∷ [] ∷ []
unfolding lent merged grants claimants given left cores filtered up_from
not-by-both = refl

-- .. and one that fits in each is served once, the second holder serves the next
pub served-once : borrowing (1 ∷ 1 ∷ 1 ∷ 1 ∷ []) (1 ∷ 2 ∷ 0 ∷ 0 ∷ []) 3 12 ≡ [] ∷ [] ∷ (0 ∷ []) ∷ (1 ∷ []) ∷ []
unfolding lent merged grants claimants given left cores filtered up_from
served-once = refl

-- nothing is lent where no place holds, where a holder has no cores, or to a position above it
pub no-holder : borrowing (2 ∷ 1 ∷ []) (3 ∷ 0 ∷ []) 0 2 ≡ [] ∷ [] ∷ []
unfolding lent merged grants claimants given left cores filtered up_from
no-holder = refl

pub no-cores-held : borrowing (2 ∷ 1 ∷ []) (0 ∷ 0 ∷ []) 1 2 ≡ [] ∷ [] ∷ []
unfolding lent merged grants claimants given left cores filtered up_from
no-cores-held = refl

pub not-above : borrowing (3 ∷ 2 ∷ 1 ∷ []) (0 ∷ 3 ∷ 0 ∷ []) 2 5 ≡ [] ∷ [] ∷ (0 ∷ []) ∷ []
unfolding lent merged grants claimants given left cores filtered up_from
not-above = refl

-- all 32 places: the first holds 31 cores, and each of the others borrows one
pub all-places :
    borrowing (replicate 32 1) ((2 ^ 31 - 1) ∷ replicate 31 0) 1 (2 ^ 32 - 2) ≡ [] ∷ map (λ c. c ∷ []) (up_from 0 31)
unfolding lent merged grants claimants given left cores filtered up_from
all-places = refl

-- the last place borrows of the last but one, which holds core 63
pub last-places :
    borrowing (replicate 32 1) (replicate 30 0 ++ ((2 ^ 63) ∷ 0 ∷ [])) (2 ^ 30) (2 ^ 31) ≡ replicate 31 [] ++ ((63 ∷ []) ∷ [])
unfolding lent merged grants claimants given left cores filtered up_from
last-places = refl

-- 64 cores: the first 32, the next 31, and the last
pub all-cores :
    borrowing (64 ∷ 32 ∷ 31 ∷ 2 ∷ 1 ∷ []) ((2 ^ 64 - 1) ∷ 0 ∷ 0 ∷ 0 ∷ 0 ∷ []) 1 30 ≡ [] ∷ up_from 0 32 ∷ up_from 32 31 ∷ [] ∷ (63 ∷ []) ∷ []
unfolding lent merged grants claimants given left cores filtered up_from
all-cores = refl

-- the row shows the borrower, and the holder on what it keeps; a place that works keeps its cores
pub keeps-the-rest : shown_cores ((0 ∷ 1 ∷ 2 ∷ []) ∷ (4 ∷ []) ∷ [] ∷ []) ([] ∷ [] ∷ (0 ∷ 1 ∷ []) ∷ []) ≡ (2 ∷ []) ∷ (4 ∷ []) ∷ (0 ∷ 1 ∷ []) ∷ []
unfolding merged among member filtered
keeps-the-rest = refl

pub row-of-lent : row 8 6 (shown_cores ((0 ∷ 1 ∷ 2 ∷ []) ∷ (4 ∷ []) ∷ [] ∷ []) ([] ∷ [] ∷ (0 ∷ 1 ∷ []) ∷ [])) ≡ 3 ∷ 3 ∷ 1 ∷ 255 ∷ 2 ∷ 0 ∷ []
unfolding row owner merged among member filtered up_from
row-of-lent = refl
