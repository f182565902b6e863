use Rattle.std.proofs.Common.{Bool, ◌||◌, ◌&&◌, eqb, ap, sym, ◌∙◌}
use Rattle.model.specs.Search.{bit}
use Rattle.model.proofs.Gathered.{with-place}
use Rattle.run.proofs.bits.with.Goals as goal

pub returns-then-on : goal.returns-then-on
returns-then-on c = λ p.
    with-place c.args.set c.args.place c.requires p ∙ ap (λ (t : Bool). bit c.args.set p || (t && eqb p c.args.place)) (sym c.if-on.true)
