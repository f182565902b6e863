use Rattle.std.proofs.Common.{arith, length-append}
use Rattle.text.specs.Decimal.{decimal}
use Rattle.text.proofs.Decimals.{decimal-length}
use Rattle.text.proofs.Writing.{put-length, put_then}
use Rattle.text.proofs.decimal.put_after.Goals as goal

pub put-requires : goal.put-requires
put-requires c =
    let a = c.args in
    let room = length-append a.word.now (decimal a.number) in
    let same = put-length c.put-start.ensures (omega (arith, c.put-start.ensures.ends, room)) in
    omega (arith, c.put-start.ensures.ends, room, same, decimal-length a.number)

pub returns : goal.returns
returns c =
    let a = c.args in
    let room = length-append a.word.now (decimal a.number) in
    put_then c.put-start.ensures c.put.ensures (omega (arith, c.put.ensures.ends, c.put-start.ensures.ends, room))
