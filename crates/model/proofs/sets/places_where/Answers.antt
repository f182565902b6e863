use Rattle.std.proofs.Common.{◌≡◌, ℕ, true, false, arith, sym, ap, ◌∙◌}
use mathlib.Core.Bool.{or-false}
use Rattle.model.specs.Search.{bit}
use Rattle.model.proofs.Gathered.{gathered_none, gathered-more, with-place}
use Rattle.model.proofs.sets.places_where.Goals as goal
use Rattle.model.proofs.sets.places_where.Goals.{then-holds, else-holds}

pub loop-i-init : goal.loop-i-init
loop-i-init g c = λ f says. gathered_none f

pub loop-i-preserved : goal.loop-i-preserved
loop-i-preserved g c = λ f says.
    let l = c.loop-i in
    let is = says l.i c.holds.result c.loop-i-test.true c.holds.ensures in
    elim c.if-holds.branch [
      | then-holds w ↦
          gathered-more f l.i l.set c.if-holds.set true (l.invariant f says) (sym w.if-holds.true ∙ is)
          (λ p. ap (λ (x : ℕ). bit x p) w.set-is ∙ with-place l.set l.i (omega (arith, c.requires.few)) p)
      | else-holds w ↦
          gathered-more f l.i l.set c.if-holds.set false (l.invariant f says) (sym w.if-holds.false ∙ is)
          (λ p. ap (λ (x : ℕ). bit x p) w.set-is ∙ sym (or-false (bit l.set p)))
    ]

pub returns : goal.returns
returns g c = λ f says.
    let e : c.loop-i.i ≡ c.args.count = omega arith in
    rw e at c.loop-i.invariant f says
