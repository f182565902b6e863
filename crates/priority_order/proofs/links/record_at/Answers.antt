-- At each place of the chain there is a record, whose words are there.
use Rattle.std.proofs.Common.{◌≡◌, ◌≤◌, ◌<◌, ◌∙◌, ℕ, List, suc, ap, sym, refl, get_or, length, add-zero, add-one, arith}
use Rattle.conflict.proofs.Linked.{chain-in, next-inside, words-most}
use Rattle.conflict.specs.Relinked.{next_word_at}
use Rattle.table.proofs.HeaderPasses.{words_long}
use Rattle.table.specs.Numbers.{NoneApplies, one}
use Rattle.table.specs.Words.{count, next, visited, word}
use Rattle.priority_order.proofs.links.record_at.Goals as goal

inside : (ws : List ℕ) (i n : ℕ) → NoneApplies ws → i < count ws → n ≡ visited ws i → (1 ≤ n) × (next_word_at n < length ws)
inside ws i n none l e =
    let r = chain-in ws none i l in
    let a : 1 ≤ n = omega (arith, r.0) in
    (a, next-inside ws n a (omega (arith, r.1)))

pub bounds-words-0 : goal.bounds-words-0
bounds-words-0 c = omega (arith, words_long c.args.words.now (λ h. c.requires.0 1 0 (one h)))

pub loop-init : goal.loop-init
loop-init c = unfold visited in refl

pub next_at-requires : goal.next_at-requires
next_at-requires c = (inside c.args.words.now c.loop.counter c.loop.number c.requires.0 (omega (arith, c.requires.1)) c.loop.invariant).0

pub bounds-words-next_at : goal.bounds-words-next_at
bounds-words-next_at c =
    rw c.next_at.ensures (inside c.args.words.now c.loop.counter c.loop.number c.requires.0 (omega (arith, c.requires.1)) c.loop.invariant).1

pub offset_bounds-words-next_at : goal.offset_bounds-words-next_at
offset_bounds-words-next_at c =
    let r = (inside c.args.words.now c.loop.counter c.loop.number c.requires.0 (omega (arith, c.requires.1)) c.loop.invariant).1 in
    omega (arith, c.next_at.ensures, r, words-most c.args.words.now (λ h. c.requires.0 1 0 (one h)))

pub loop-preserved : goal.loop-preserved
loop-preserved c =
    let ws = c.args.words.now in
    let e : visited ws (suc c.loop.counter) ≡ word ws (next_word_at c.loop.number) =
    unfold visited in ap (next ws) (sym c.loop.invariant) ∙ ap (word ws) (add-zero (next_word_at c.loop.number)) in
    rw (add-one c.loop.counter) (ap (λ (i : ℕ). get_or ws i 0) c.next_at.ensures ∙ sym e)
