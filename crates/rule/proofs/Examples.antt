-- The definitions, computed on small sets and rows.
use mathlib.Core.Path.{◌≡◌, refl}
use mathlib.Core.List.{List, [], ◌∷◌, ◌++◌, map}
use Prim.Native.Nat.{ℕ, ◌^◌}
use lib.ListN.{replicate}
use Rattle.model.specs.Search.{bit, filtered, member, up_from}
use Rattle.model.specs.Task.{greedy, limited}
use Rattle.model.specs.Grants.{claimants, given, left, grants}
use Rattle.cores.specs.Cores.{cores}
use Rattle.rule.specs.Granted.{granted}
use Rattle.rule.specs.Marked.{marked, shown_bytes}
use Rattle.rule.specs.Widths.{widths_in}

-- widths 2, 2 and 1 on three cores, all claiming: greedy passes the second over, limited ends there
pub passes_over : map (granted greedy (claimants (2 ∷ 2 ∷ 1 ∷ []) (bit 7)) (cores 7)) (up_from 0 3) ≡ map (bit 5) (up_from 0 3)
unfolding grants claimants given left cores filtered up_from
passes_over = refl

pub ends_there : map (granted limited (claimants (2 ∷ 2 ∷ 1 ∷ []) (bit 7)) (cores 7)) (up_from 0 3) ≡ map (bit 1) (up_from 0 3)
unfolding grants claimants given left cores filtered up_from
ends_there = refl

-- widths 2, 2 and 1 at first and 3, 1 and 1 at second: with the second place at its second the third no longer fits
abbrev both : List ℕ
both = (2 ∷ 2 ∷ 1 ∷ replicate 29 0) ++ (3 ∷ 1 ∷ 1 ∷ replicate 29 0)

pub one-turned : map (granted greedy (claimants (widths_in 2 both) (bit 7)) (cores 7)) (up_from 0 3) ≡ map (bit 3) (up_from 0 3)
unfolding widths_in grants claimants given left cores filtered up_from
one-turned = refl

-- the first place at its second takes all
pub first-turned : map (granted greedy (claimants (widths_in 1 both) (bit 7)) (cores 7)) (up_from 0 3) ≡ map (bit 1) (up_from 0 3)
unfolding widths_in grants claimants given left cores filtered up_from
first-turned = refl

-- only the last of 32 places at its second
pub last-turned : widths_in (2 ^ 31) (replicate 32 1 ++ replicate 32 2) ≡ replicate 31 1 ++ (2 ∷ [])
unfolding widths_in up_from
last-turned = refl

-- position 1 on cores 0 and 2, position 3 on core 1, over a row that has 255 on core 3
pub three-shown : shown_bytes (0 ∷ 0 ∷ 0 ∷ 255 ∷ []) 1 ((0 ∷ 2 ∷ []) ∷ [] ∷ (1 ∷ []) ∷ []) ≡ 1 ∷ 3 ∷ 1 ∷ 255 ∷ []
unfolding shown_bytes marked member up_from
three-shown = refl
