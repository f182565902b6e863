-- The records kept from this place on are yet to be linked (`Linking`).
use mathlib.Core.Path.{◌≡◌, subst, sym, ◌∙◌}
use mathlib.Core.List.{List}
use Prim.Native.Nat.{ℕ, suc, ◌+◌}
use lib.ListN.{get_or}
use Rattle.conflict.specs.declared.links.NewChain.{NewChain}
use native.Mathlib.Nat.{add-zero}
use native.Mathlib.Numerals.{add-one}
use native.Mathlib.Omega.{arith}
use Rattle.table.proofs.HeaderPasses.{words_long}
use Rattle.table.specs.Numbers.{one}
use Rattle.table.specs.Words.{head, next}
use Rattle.conflict.specs.Relinked.{next_word_at}
use Rattle.conflict.proofs.Linked.{words-most}
use Rattle.conflict.proofs.Linking.{Linking, linking-dropped, linking-end, linking-few, linking-kept, linking-next, linking-room, linking-start}
use Rattle.conflict.proofs.links.relinked.Goals as goal
use Rattle.conflict.proofs.links.relinked.Goals.{then-has, else-has}

pub of-chain-requires : goal.of-chain-requires
of-chain-requires c = words-most c.args.words.now (λ h. c.requires 1 0 (one h))

pub bounds-words-0 : goal.bounds-words-0
bounds-words-0 c = omega (arith, words_long c.args.words.now (λ h. c.requires 1 0 (one h)))

pub loop-number-init : goal.loop-number-init
loop-number-init c =
    let ws = c.args.words.now in
    subst (λ (link : ℕ). Linking ws c.args.kept c.of-chain.result.words link 0 (head ws)) (sym c.of-chain.ensures.1)
    (linking-start ws c.args.kept c.of-chain.result.words (omega (arith, words_long ws (λ h. c.requires 1 0 (one h)))) c.of-chain.ensures.0)

pub has-requires : goal.has-requires
has-requires c = linking-few _ c.requires _ _ _ _ _ c.loop-number.invariant c.loop-number-test.true

pub append-requires : goal.append-requires
append-requires c =
    let inside = linking-next _ c.requires _ _ _ _ _ c.loop-number.invariant c.loop-number-test.true in
    (omega (arith, c.loop-number-test.true), omega (arith, inside, words-most c.args.words.now (λ h. c.requires 1 0 (one h))))

pub bounds-words-next_at : goal.bounds-words-next_at
bounds-words-next_at c = rw c.next_at.ensures (linking-next _ c.requires _ _ _ _ _ c.loop-number.invariant c.loop-number-test.true)

pub offset_bounds-words-next_at : goal.offset_bounds-words-next_at
offset_bounds-words-next_at c =
    let inside = linking-next _ c.requires _ _ _ _ _ c.loop-number.invariant c.loop-number-test.true in
    omega (arith, c.next_at.ensures, inside, words-most c.args.words.now (λ h. c.requires 1 0 (one h)))

pub overflow_add-place : goal.overflow_add-place
overflow_add-place c = omega (arith, linking-few _ c.requires _ _ _ _ _ c.loop-number.invariant c.loop-number-test.true)

pub loop-number-smaller : goal.loop-number-smaller
loop-number-smaller c = omega (arith, linking-room _ c.requires _ _ _ _ _ c.loop-number.invariant c.loop-number-test.true)

pub loop-number-preserved : goal.loop-number-preserved
loop-number-preserved c =
    let l = c.loop-number in
    let j = c.if-has in
    let ws = c.args.words.now in
    let x = c.args.kept in
    let same : Linking ws x j.chain.words j.chain.link (suc l.place) (next ws l.number) = elim j.branch [
      | then-has w ↦
          let chain = w.append.new.self in
          let e = w.append.ensures in
          subst (λ (k : NewChain). Linking ws x k.words k.link (suc l.place) (next ws l.number)) (sym w.chain-is)
          (subst (λ (i : ℕ). Linking ws x chain.words i (suc l.place) (next ws l.number)) (sym e.1)
          (subst (λ (copy : List ℕ). Linking ws x copy (next_word_at l.number) (suc l.place) (next ws l.number)) (sym e.0)
          (linking-kept ws c.requires x l.chain.words l.chain.link l.place l.number l.invariant c.loop-number-test.true (sym c.has.ensures ∙ w.if-has.true))))
      | else-has w ↦
          subst (λ (k : NewChain). Linking ws x k.words k.link (suc l.place) (next ws l.number)) (sym w.chain-is)
          (linking-dropped ws c.requires x l.chain.words l.chain.link l.place l.number l.invariant c.loop-number-test.true (sym c.has.ensures ∙ w.if-has.false))
    ] in
    let at : next_word_at l.number + 0 ≡ c.next_at.result = add-zero (next_word_at l.number) ∙ sym c.next_at.ensures in
    rw (add-one l.place) (subst (λ (i : ℕ). Linking ws x j.chain.words j.chain.link (suc l.place) (get_or ws i 0)) at same)

pub returns : goal.returns
returns c =
    let l = c.loop-number in
    c.end.ensures ∙ linking-end c.args.words.now c.requires c.args.kept l.chain.words l.chain.link l.place l.number l.invariant (omega (arith, c.loop-number-test.false))
