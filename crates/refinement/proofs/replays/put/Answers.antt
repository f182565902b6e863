use Rattle.std.proofs.Common.{ℕ, ◌≡◌, length, length-take, arith, rules}
use Rattle.model.specs.Sizes.{most_cores}
use Rattle.refinement.proofs.replays.put.Goals as goal

pub copy_from_slice-requires : goal.copy_from_slice-requires
copy_from_slice-requires c =
    let size : length c.args.row ≡ most_cores = search rules in
    omega (arith, length-take {A = ℕ})
