-- The bytes of sets of cores, computed: positions on their cores, 0 on idle ones, 255 on fenced ones, and 0 past the core count.
use mathlib.Core.Path.{◌≡◌, refl}
use mathlib.Core.List.{[], ◌∷◌, ◌++◌}
use Prim.Native.Nat.{◌-◌, ◌^◌}
use lib.ListN.{replicate}
use Rattle.model.specs.Row.{owner, row}
use Rattle.model.specs.Search.{filtered, member, up_from}
use Rattle.cores.specs.Cores.{cores}
use Rattle.run.specs.Sets.{bytes_of, no_sets}

-- positions 1 to 3 on core 2, core 4, and cores 0 and 1; core 3 is fenced, core 5 is idle
pub some-sets : bytes_of 8 6 (4 ∷ 16 ∷ 3 ∷ []) ≡ (3 ∷ 3 ∷ 1 ∷ 255 ∷ 2 ∷ 0 ∷ []) ++ replicate 58 0
unfolding bytes_of row owner cores filtered member up_from
some-sets = refl

-- a position without cores, and one on the last core
pub last-core : bytes_of 0 64 (0 ∷ 2 ^ 63 ∷ []) ≡ replicate 63 0 ++ (2 ∷ [])
unfolding bytes_of row owner cores filtered member up_from
last-core = refl

pub all-cores : bytes_of 0 64 ((2 ^ 64 - 1) ∷ []) ≡ replicate 64 1
unfolding bytes_of row owner cores filtered member up_from
all-cores = refl

-- no sets: the fence alone
pub fence-alone : bytes_of 5 3 no_sets ≡ (255 ∷ 0 ∷ 255 ∷ []) ++ replicate 61 0
unfolding bytes_of row owner cores filtered member up_from
fence-alone = refl
