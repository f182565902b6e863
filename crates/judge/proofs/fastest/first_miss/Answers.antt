-- `judge::fastest::first_miss`: a table that passes the interference test misses no deadline.
use Rattle.std.proofs.Common.{◌≡◌, List, ℕ, Option, None, Some, true, true≢false, refl, sym, ◌∙◌}
use Rattle.std.specs.Option.{is_some}
use Rattle.table.specs.Fit.{loaded_table}
use Rattle.interference.specs.Bounds.{tested_in}
use Rattle.judge.proofs.FirstMiss.{by-none}
use Rattle.judge.proofs.fastest.first_miss.Goals as goal

met : (r : Option (List ℕ)) → is_some r ≡ true → (tested_in r).met ≡ true
met None e = absurd (true≢false (sym e))
met (Some xs) e = refl

pub returns-then-is_some : goal.returns-then-is_some
returns-then-is_some c =
    let passes = met c.test.result (sym c.is_some.ensures ∙ c.if-is_some.true) in
    by-none (loaded_table c.args.table) c.requires.0.valid c.args.end (λ p u l. c.test.ensures.meets passes p u)

pub returns : goal.returns
returns c = c.first_miss-2.ensures.exact
