use Rattle.std.proofs.Common.{List, [], ◌∷◌, ◌++◌, ◌+◌, ◌≤◌, ℕ, length, sym, subst, ◌≡◌}
use Rattle.text.specs.Decimal.{decimal}
use Rattle.text.specs.Output.{letters}
use Rattle.text.specs.Written.{Put}
use Rattle.text.proofs.Writing.{put-none}
use Rattle.sentence.specs.Facts.{named_from}
use Rattle.sentence.specs.Sentence.{parts}
use Rattle.sentence.proofs.Putting.{room_after, put_both, part_none, part-some, room-first}
use Rattle.sentence.proofs.writer.put_part.Goals as goal

-- the word and the number of a field
abbrev task : ℕ → List ℕ
task place = letters "; task " ++ decimal (place + 1)

abbrev ran : ℕ → List ℕ
ran count = letters " ran " ++ decimal count

-- there is space for both fields
both-fit : (at place count size : ℕ) → (◌≡◌ {A = ℕ} count 0 → ⊥)
    → at + length (parts (named_from place (count ∷ [])) []) ≤ size
    → at + length (task place ++ ran count) ≤ size
both-fit at place count size some = subst (λ (x : List ℕ). at + length x ≤ size) (part-some place count some)

pub returns-then-count-eq0 : goal.returns-then-count-eq0
returns-then-count-eq0 c =
    let a = c.args in
    subst (λ (s : List ℕ). Put a.line.now a.at s a.line.now a.at) (sym (part_none a.place a.count c.if-count-eq0.true)) (put-none a.line.now a.at)

pub put_after-middle-requires : goal.put_after-middle-requires
put_after-middle-requires c =
    let a = c.args in
    room-first a.at (length a.line.now) (task a.place) (ran a.count) (both-fit a.at a.place a.count (length a.line.now) c.if-count-eq0.false c.requires.1)

pub put_after-requires : goal.put_after-requires
put_after-requires c =
    let a = c.args in
    room_after (ran a.count) c.put_after-middle.ensures (both-fit a.at a.place a.count (length a.line.now) c.if-count-eq0.false c.requires.1)

pub returns : goal.returns
returns c =
    let a = c.args in
    subst (λ (x : List ℕ). Put a.line.now a.at x c.put_after.new.line c.put_after.result)
    (sym (part-some a.place a.count c.if-count-eq0.false))
    (put_both c.put_after-middle.ensures c.put_after.ensures (both-fit a.at a.place a.count (length a.line.now) c.if-count-eq0.false c.requires.1))
