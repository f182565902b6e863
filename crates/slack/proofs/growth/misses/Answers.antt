-- `slack::growth::misses`: the first miss up to and including the horizon is found, or there is none.
use Rattle.std.proofs.Common.{◌≡◌, ◌∙◌, Option, None, Some, refl}
use Rattle.std.specs.Option.{is_some}
use Rattle.judge.specs.declared.Miss.{Miss}
use Rattle.judge.specs.FirstMiss.{miss_of}
use Rattle.slack.proofs.Judging.{found-misses, is_found}
use Rattle.slack.proofs.growth.misses.Goals as goal

found : (r : Option Miss) → is_some r ≡ is_found (miss_of r)
found None = refl
found (Some m) = refl

pub returns : goal.returns
returns c =
    let r = c.first_miss.result in
    c.is_some.ensures ∙ found r ∙ found-misses c.args.table.loaded c.args.table.fit (miss_of r) (miss_of r) c.first_miss.ensures.value refl
