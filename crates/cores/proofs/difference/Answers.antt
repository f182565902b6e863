-- A digit of the result is one of the first set that the second does not have.
use Rattle.std.proofs.Common.{◌≡◌, sym, ◌∙◌, ◌&&◌, not, ℕ, arith, bit_and}
use lib.Bits.{bit_xor}
use Rattle.model.specs.Search.{bit, up_from}
use Rattle.model.specs.Fence.{outside}
use Rattle.model.proofs.Digits.{without-bit}
use Rattle.cores.specs.Cores.{cores}
use Rattle.cores.proofs.Ascending.{range-up, kept-kept, kept_same}
use Rattle.cores.proofs.difference.Goals as goal

cores-without : (a b : ℕ) → cores (bit_and a (bit_xor a b)) ≡ outside b (cores a)
unfolding cores
cores-without a b =
    kept_same (bit (bit_and a (bit_xor a b))) (λ c. bit a c && not (bit b c)) 0 64 (up_from 0 64) (range-up 0 64 64 (omega arith)) (λ c h. without-bit a b c)
    ∙ sym (kept-kept (λ c. not (bit b c)) (bit a) (up_from 0 64))

pub returns : goal.returns
returns c = cores-without c.args.all c.args.fence
