-- The first cores are the number 2^m − 1; where there are more than 64, no fence of 64 digits reaches it.
use Rattle.std.proofs.Common.{◌≡◌, refl, sym, ap, Bool, true, false, ◌&&◌, ℕ, ◌-◌, ◌^◌, ◌≤◌, ◌<◌, min, arith}
use borrow.Author.Tests.{lt-leb, leb-true, leb-false}
use lib.Dec.{leb}
use lib.Pow.{pow_mono}
use Rattle.model.specs.Search.{up_from}
use Rattle.cores.specs.Cores.{cores}
use Rattle.cores.proofs.Runs.{first-set}
use Rattle.table.specs.Limits.{fence_out}
use Rattle.table.proofs.limits.fence_out.Goals as goal

exact : (m f all : ℕ) → f < 2 ^ 64 → all < 2 ^ 64 → cores all ≡ up_from 0 (min m 64) → leb m 64 && leb all f ≡ fence_out m f
exact m f all h k e = go (leb m 64) refl
  where
    go : (t : Bool) → leb m 64 ≡ t → t && leb all f ≡ fence_out m f
    go true l = ap (λ (x : ℕ). leb x f) (first-set all m k (leb-true m 64 l) e)
    go false l =
        let far : 2 ^ 65 ≤ 2 ^ m = pow_mono (leb-false m 64 l) in
        sym (lt-leb (2 ^ m - 1) f (omega (arith, far)))

pub returns : goal.returns
returns c = exact c.args.cores c.args.fence c.first_cores.result (omega arith) (omega (arith, c.first_cores.type_inv)) c.first_cores.ensures
