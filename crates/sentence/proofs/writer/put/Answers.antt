use Rattle.std.proofs.Common.{List, [], ◌+◌, ℕ, length, set, subst, arith}
use Rattle.text.specs.Output.{letters}
use Rattle.text.specs.Written.{Put}
use Rattle.text.proofs.Writing.{put_one}
use Rattle.sentence.specs.Facts.{facts_by}
use Rattle.sentence.specs.Sentence.{parts}
use Rattle.sentence.proofs.Putting.{room_after, put_both, second, third, fourth, pieces, room-1, room-2, room-3, room-4, room-5, room-6, room-7}
use Rattle.sentence.proofs.writer.put.Goals as goal

pub put_after-a-requires : goal.put_after-a-requires
put_after-a-requires c = room-1 (facts_by c.args.facts) (length c.args.line.now) c.requires

pub put_after-b-requires : goal.put_after-b-requires
put_after-b-requires c =
    let f = facts_by c.args.facts in
    room_after (second f) c.put_after-a.ensures (room-2 f (length c.args.line.now) c.requires)

pub put_after-c-requires : goal.put_after-c-requires
put_after-c-requires c =
    let f = facts_by c.args.facts in
    let n = length c.args.line.now in
    let two = put_both c.put_after-a.ensures c.put_after-b.ensures (room-2 f n c.requires) in
    room_after (third f) two (room-3 f n c.requires)

pub put_after-d-requires : goal.put_after-d-requires
put_after-d-requires c =
    let f = facts_by c.args.facts in
    let n = length c.args.line.now in
    let two = put_both c.put_after-a.ensures c.put_after-b.ensures (room-2 f n c.requires) in
    let three = put_both two c.put_after-c.ensures (room-3 f n c.requires) in
    room_after (fourth f) three (room-4 f n c.requires)

pub put-e-requires : goal.put-e-requires
put-e-requires c =
    let f = facts_by c.args.facts in
    let n = length c.args.line.now in
    let two = put_both c.put_after-a.ensures c.put_after-b.ensures (room-2 f n c.requires) in
    let three = put_both two c.put_after-c.ensures (room-3 f n c.requires) in
    let four = put_both three c.put_after-d.ensures (room-4 f n c.requires) in
    room_after (letters " ticks") four (room-5 f n c.requires)

pub put_parts-f-requires : goal.put_parts-f-requires
put_parts-f-requires c =
    let f = facts_by c.args.facts in
    let n = length c.args.line.now in
    let two = put_both c.put_after-a.ensures c.put_after-b.ensures (room-2 f n c.requires) in
    let three = put_both two c.put_after-c.ensures (room-3 f n c.requires) in
    let four = put_both three c.put_after-d.ensures (room-4 f n c.requires) in
    let five = put_both four c.put-e.ensures (room-5 f n c.requires) in
    room_after (parts f.others []) five (room-6 f n c.requires)

pub bounds-line-f : goal.bounds-line-f
bounds-line-f c =
    let f = facts_by c.args.facts in
    let n = length c.args.line.now in
    let two = put_both c.put_after-a.ensures c.put_after-b.ensures (room-2 f n c.requires) in
    let three = put_both two c.put_after-c.ensures (room-3 f n c.requires) in
    let four = put_both three c.put_after-d.ensures (room-4 f n c.requires) in
    let five = put_both four c.put-e.ensures (room-5 f n c.requires) in
    let six = put_both five c.put_parts-f.ensures (room-6 f n c.requires) in
    let r = room_after (letters ".") six (room-7 f n c.requires) in
    omega (arith, r)

pub returns : goal.returns
returns c =
    let f = facts_by c.args.facts in
    let n = length c.args.line.now in
    let two = put_both c.put_after-a.ensures c.put_after-b.ensures (room-2 f n c.requires) in
    let three = put_both two c.put_after-c.ensures (room-3 f n c.requires) in
    let four = put_both three c.put_after-d.ensures (room-4 f n c.requires) in
    let five = put_both four c.put-e.ensures (room-5 f n c.requires) in
    let six = put_both five c.put_parts-f.ensures (room-6 f n c.requires) in
    let q = c.put_parts-f in
    let r = room_after (letters ".") six (room-7 f n c.requires) in
    subst (λ (x : List ℕ). Put c.args.line.now 0 x (set q.new.line q.result 46) (q.result + 1)) (pieces f)
    (put_both six (put_one q.new.line q.result 46 (omega (arith, r))) (room-7 f n c.requires))
