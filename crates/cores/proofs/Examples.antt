-- The definitions, computed on small sets and at the edges of large ones.
use mathlib.Core.Path.{◌≡◌, refl}
use mathlib.Core.List.{[], ◌∷◌}
use Rattle.model.specs.Fence.{outside, unfenced}
use Rattle.model.specs.Search.{filtered, up_from}
use Rattle.cores.specs.Cores.{cores}

-- the set 1 + 2 + 8 has the cores 0, 1 and 3, and the largest has all 64
pub some-cores : cores 11 ≡ 0 ∷ 1 ∷ 3 ∷ []
unfolding cores filtered up_from
some-cores = refl

pub all-cores : cores 0xffff_ffff_ffff_ffff ≡ up_from 0 64
unfolding cores filtered up_from
all-cores = refl

-- .. without the cores 1 and 2
pub some-outside : outside 6 (cores 11) ≡ 0 ∷ 3 ∷ []
unfolding cores filtered up_from
some-outside = refl

-- of five cores, those outside the fence of 0 and 3; a fenced core past the count takes nothing away; no fence leaves all
pub some-open : unfenced 9 5 ≡ 1 ∷ 2 ∷ 4 ∷ []
unfolding filtered up_from
some-open = refl

pub past_open : unfenced 41 5 ≡ 1 ∷ 2 ∷ 4 ∷ []
unfolding filtered up_from
past_open = refl

pub all-open : unfenced 0 5 ≡ up_from 0 5
unfolding filtered up_from
all-open = refl

-- of 64 cores all but core 63, all but core 32, and one: the others are fenced
pub last-fenced : unfenced 0x8000_0000_0000_0000 64 ≡ up_from 0 63
unfolding filtered up_from
last-fenced = refl

pub one-open : unfenced 0xffff_fffe_ffff_ffff 64 ≡ 32 ∷ []
unfolding filtered up_from
one-open = refl

pub none_open : unfenced 0xffff_ffff_ffff_ffff 64 ≡ []
unfolding filtered up_from
none_open = refl
