-- A number has at most ten digits.
use native.Mathlib.Omega.{arith}
use Rattle.text.proofs.Decimals.{decimal-length, count_most}
use Rattle.text.proofs.first.put_field.Goals as goal

pub put_after-requires : goal.put_after-requires
put_after-requires c = omega (arith, decimal-length c.args.number, count_most 9 c.args.number (omega arith))

pub returns : goal.returns
returns c =
    let a = c.args in
    (c.put_after.ensures, omega (arith, c.put_after.ensures.ends, decimal-length a.number, count_most 9 a.number (omega arith)))
