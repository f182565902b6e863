use Rattle.std.proofs.Common.{◌<◌, ◌≤◌, ◌↔◌, ◌+◌, ℕ, length, ◌≡◌, true, rules}
use Rattle.judge.proofs.Widths.{monotonic-known, widest_at, narrowest_at}
use Rattle.judge.proofs.parallelism_monotonic.Goals as goal

pub returns : goal.returns
returns c =
    let tasks = c.args.tasks.now in
    let rises : (c.all.result ≡ true) ↔ ((p : ℕ) → p + 1 < length tasks → widest_at tasks p ≤ narrowest_at tasks (p + 1)) = search rules in
    monotonic-known tasks c.all.result rises
