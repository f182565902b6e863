-- One more place holds its position.
use Rattle.std.proofs.Common.{◌∙◌, sym, get_or, arith, add-one}
use Rattle.priority_order.specs.Answer.{positions_of}
use Rattle.priority_order.proofs.Filling.{filled-end, filled_more, filled-start}
use Rattle.priority_order.proofs.Known.{few_in, order_in}
use Rattle.priority_order.proofs.Positions.{positions-at, positions-length, positions-past}
use Rattle.priority_order.proofs.links.Order.positions.Goals as goal

pub loop-i-init : goal.loop-i-init
loop-i-init c = filled-start _

pub bounds-self-i : goal.bounds-self-i
bounds-self-i c = omega (arith, few_in c.args.self, c.loop-i-test.true)

pub offset_bounds-self-i : goal.offset_bounds-self-i
offset_bounds-self-i c = omega (arith, few_in c.args.self, c.loop-i-test.true)

pub bounds-positions-i : goal.bounds-positions-i
bounds-positions-i c = omega (arith, few_in c.args.self, c.loop-i-test.true)

pub offset_bounds-positions-i : goal.offset_bounds-positions-i
offset_bounds-positions-i c = omega (arith, few_in c.args.self, c.loop-i-test.true)

pub overflow_add-positions : goal.overflow_add-positions
overflow_add-positions c = omega (arith, few_in c.args.self, (order_in c.args.self).permutation.within c.loop-i.i c.loop-i-test.true)

pub loop-i-preserved : goal.loop-i-preserved
loop-i-preserved c =
    let a = c.args in
    let i = c.loop-i.i in
    filled_more (positions_of a.self.count a.self.places) i c.loop-i.positions _ c.loop-i.invariant (omega (arith, few_in c.args.self))
    (add-one (get_or a.self.places i 0) ∙ sym (positions-at a.self.count a.self.places (few_in c.args.self) (order_in c.args.self).permutation.size i c.loop-i-test.true))

pub returns : goal.returns
returns c =
    let a = c.args in
    filled-end _ c.loop-i.i c.loop-i.positions c.loop-i.invariant (positions-length a.self.count a.self.places (few_in c.args.self) (order_in c.args.self).permutation.size)
    (λ k m. positions-past a.self.count a.self.places (few_in c.args.self) (order_in c.args.self).permutation.size k (omega arith))
