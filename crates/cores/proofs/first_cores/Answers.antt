-- The number below a power of two has all the digits below it.
use Rattle.std.proofs.Common.{◌≡◌, ap, sym, ◌∙◌, ℕ, ◌-◌, ◌^◌, ◌≤◌, min, arith}
use Rattle.model.specs.Search.{up_from}
use Rattle.model.proofs.Digits.{shifted_one}
use Rattle.cores.specs.Cores.{cores}
use Rattle.cores.proofs.Cores.{cores-up}
use Rattle.cores.proofs.first_cores.Goals as goal

up_to : (m count : ℕ) → m ≤ 64 → min count 64 ≡ m → cores (2 ^ m - 1) ≡ up_from 0 (min count 64)
up_to m count h e = cores-up m h ∙ ap (up_from 0) (sym e)

pub returns-then-count-lt-MOST_CORES : goal.returns-then-count-lt-MOST_CORES
returns-then-count-lt-MOST_CORES c =
    let n = c.args.count in
    ap (λ (x : ℕ). cores (x - 1)) (shifted_one 64 n c.if-count-lt-MOST_CORES.true) ∙ up_to n n (omega arith) (omega arith)

pub returns-else-count-lt-MOST_CORES : goal.returns-else-count-lt-MOST_CORES
returns-else-count-lt-MOST_CORES c = up_to 64 c.args.count (omega arith) (omega arith)
