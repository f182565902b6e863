-- The tick has at most ten digits, and the text of the cores is after them.
use Prim.Native.Nat.{◌≤◌}
use native.Mathlib.Omega.{arith}
use Rattle.text.proofs.Decimals.{decimal-length, count_most}
use Rattle.text.proofs.Writing.{put_then, put-length}
use Rattle.text.proofs.row.put_row.Goals as goal
use Rattle.text.proofs.row.put_row.Goals.{After-put-at}

-- where the tick ends
short : (c : After-put-at) → c.put-at.result ≤ 10
short c =
    let few = count_most 9 c.args.tick (omega arith) in
    omega (arith, few, decimal-length c.args.tick, c.put-at.ensures.ends)

pub put-at-requires : goal.put-at-requires
put-at-requires c = omega (arith, count_most 9 c.args.tick (omega arith))

pub put-requires : goal.put-requires
put-requires c =
    let e = short (goal.at.put-requires c).After-put-at in
    omega (arith, e, put-length c.put-at.ensures (omega (arith, e)))

pub returns : goal.returns
returns c =
    let e = short (goal.at.returns c).After-put-at in
    let most : c.put.result ≤ 267 = omega (arith, c.put.ensures.ends, e) in
    (put_then c.put-at.ensures c.put.ensures (omega (arith, most)), most)
