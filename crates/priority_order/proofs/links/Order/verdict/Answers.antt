-- The words of the order are as many.
use mathlib.Core.Path.{ap, subst, sym, ◌∙◌}
use Prim.Native.Nat.{ℕ}
use lib.ListN.{length, length-take}
use Rattle.priority_order.specs.Orders.{Permutation}
use Rattle.priority_order.proofs.Known.{order_in}
use Rattle.priority_order.proofs.Reordering.{reordered-length}
use native.Mathlib.Omega.{arith}
use Rattle.priority_order.proofs.links.Order.verdict.Goals as goal

pub slice_bounds-part-end : goal.slice_bounds-part-end
slice_bounds-part-end c =
    let ws = c.args.self.words.now in
    let o = c.args.self.places in
    let x = order_in c.args.self in
    let e = reordered-length ws x.passes o (subst (λ (n : ℕ). Permutation n o) x.size x.permutation) in
    omega (arith, length-take (length ws) c.reordered-part.result, ap {B = ℕ} length c.reordered-part.ensures, e)

pub slice_bounds-judge-end : goal.slice_bounds-judge-end
slice_bounds-judge-end c =
    let ws = c.args.self.words.now in
    let o = c.args.self.places in
    let x = order_in c.args.self in
    let e = reordered-length ws x.passes o (subst (λ (n : ℕ). Permutation n o) x.size x.permutation) in
    sym (ap {B = ℕ} length c.reordered-part.ensures ∙ e)
