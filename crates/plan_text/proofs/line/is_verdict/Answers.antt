-- The library's test is that of the definition (`begins-pointwise`).
use Rattle.std.proofs.Common.{◌&&◌, ◌||◌, ◌∙◌, length}
use lib.Dec.{ltb}
use Rattle.text.specs.Output.{letters}
use Rattle.sentence.proofs.Reading.{begins-pointwise}
use Rattle.plan_text.specs.Line.{is_verdict, long_line}
use Rattle.plan_text.proofs.line.is_verdict.Goals as goal

pub returns : goal.returns
unfolding is_verdict
returns c =
    let l = c.args.line.now in
    let firm = c.starts_with-firm.ensures.value ∙ begins-pointwise (letters "firm") l in
    let full = c.starts_with-full.ensures.value ∙ begins-pointwise (letters "full") l in
    let miss = c.starts_with-miss.ensures.value ∙ begins-pointwise (letters "miss") l in
    λ i. ltb (length l) long_line && (firm i || (full i || miss i))
