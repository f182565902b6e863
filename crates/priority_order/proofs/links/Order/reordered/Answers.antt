-- The chain is linked along the places passed (`Linking`).
use Rattle.std.proofs.Common.{◌≡◌, ◌≤◌, ◌<◌, ◌+◌, ◌-◌, ◌∙◌, ℕ, List, ap, sym, subst, refl, get_or, get_or-take, length, take, replicate, arith}
use Rattle.std.proofs.Math.Seq.{length-take-le, take_at}
use Rattle.conflict.proofs.Linked.{words-most}
use Rattle.conflict.specs.Relinked.{most_words, next_word_at}
use Rattle.table.specs.Numbers.{one}
use Rattle.table.specs.Words.{count, visited}
use Rattle.priority_order.specs.Orders.{OrderIn, Permutation}
use Rattle.priority_order.proofs.Known.{order_in}
use Rattle.priority_order.proofs.Reordering.{Linking, linking-end, linking-more, linking-record, linking-start, tasks-few}
use Rattle.priority_order.proofs.links.Order.reordered.Goals as goal

module _ (ws : List ℕ) (n : ℕ) (o : List ℕ) (x : OrderIn ws n o) where
  -- the order is one of the table's tasks
  order : Permutation (count ws) o
  order = subst (λ (m : ℕ). Permutation m o) x.size x.permutation

  within : n ≤ length o
  within = omega (arith, x.size, tasks-few ws x.passes, x.permutation.size)

  first : length (take n o) ≡ n
  first = length-take-le n o within

  -- the record of a place that is read
  record_of : (number i : ℕ) → i < length (take n o) → number ≡ visited ws (get_or (take n o) i 0) → number ≡ visited ws (get_or o i 0)
  record_of number i l e = e ∙ ap (visited ws) (get_or-take n o i 0 (omega (arith, first)))

  -- its words are there
  inside : (number i : ℕ) → i < length (take n o) → number ≡ visited ws (get_or (take n o) i 0) → (1 ≤ number) × (next_word_at number < length ws)
  inside number i l e =
      subst (λ (m : ℕ). (1 ≤ m) × (next_word_at m < length ws)) (sym (record_of number i l e))
      (linking-record ws x.passes o order i (omega (arith, first, x.size)))

pub of-chain-requires : goal.of-chain-requires
of-chain-requires c = words-most c.args.self.words.now (λ h. (order_in c.args.self).passes 1 0 (one h))

pub shared_ref_as_front-place-items : goal.shared_ref_as_front-place-items
shared_ref_as_front-place-items c =
    let x = order_in c.args.self in
    omega (arith, x.size, tasks-few c.args.self.words.now x.passes)

pub slice_bounds-place-items-end : goal.slice_bounds-place-items-end
slice_bounds-place-items-end c = sym (first c.args.self.words.now c.args.self.count c.args.self.places (order_in c.args.self))

pub loop-place-init : goal.loop-place-init
loop-place-init c =
    let ws = c.args.self.words.now in
    let x = order_in c.args.self in
    subst (λ (link : ℕ). Linking ws c.args.self.places c.of-chain.result.words link 0) (sym c.of-chain.ensures.1)
    (linking-start ws x.passes c.args.self.places (order ws c.args.self.count c.args.self.places x) c.of-chain.result.words
    (ap (take (length ws)) c.of-chain.ensures.0 ∙ take_at ws (replicate (most_words - length ws) 0) (length ws) refl))

pub record_at-requires : goal.record_at-requires
record_at-requires c =
    let ws = c.args.self.words.now in
    let n = c.args.self.count in
    let o = c.args.self.places in
    let x = order_in c.args.self in (
      x.passes,
      subst (λ (p : ℕ). p < count ws) (sym (get_or-take n o c.loop-place.place-index 0 (omega (arith, first ws n o x, c.loop-place-test.true))))
          ((order ws n o x).within c.loop-place.place-index (omega (arith, first ws n o x, x.size, c.loop-place-test.true))),
    )

pub append-requires : goal.append-requires
append-requires c =
    let ws = c.args.self.words.now in
    let r = inside ws c.args.self.count c.args.self.places (order_in c.args.self) c.record_at.result c.loop-place.place-index c.loop-place-test.true c.record_at.ensures in
    (r.0, omega (arith, r.1, words-most ws (λ h. (order_in c.args.self).passes 1 0 (one h))))

pub loop-place-preserved : goal.loop-place-preserved
loop-place-preserved c =
    let ws = c.args.self.words.now in
    let n = c.args.self.count in
    let o = c.args.self.places in
    let x = order_in c.args.self in
    let l = c.loop-place in
    subst (λ (link : ℕ). Linking ws o c.append.new.self.words link (l.place-index + 1)) (sym c.append.ensures.1)
    (subst (λ (copy : List ℕ). Linking ws o copy (next_word_at c.record_at.result) (l.place-index + 1)) (sym c.append.ensures.0)
    (linking-more ws x.passes o (order ws n o x) l.chain.words l.chain.link l.place-index c.record_at.result l.invariant
    (omega (arith, first ws n o x, x.size, c.loop-place-test.true))
    (record_of ws n o x c.record_at.result l.place-index c.loop-place-test.true c.record_at.ensures)))

pub returns : goal.returns
returns c =
    let ws = c.args.self.words.now in
    let n = c.args.self.count in
    let o = c.args.self.places in
    let x = order_in c.args.self in
    let l = c.loop-place in
    ap (take (length ws)) c.end.ensures ∙ linking-end ws x.passes o (order ws n o x) l.chain.words l.chain.link l.place-index l.invariant (omega (arith, first ws n o x, x.size, c.loop-place-test.false))
