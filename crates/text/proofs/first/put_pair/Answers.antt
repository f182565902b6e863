-- The word has at most seven letters, and each number at most ten digits.
use native.Mathlib.Omega.{arith}
use Rattle.text.proofs.RowText.{pair_length}
use Rattle.text.proofs.first.put_pair.Goals as goal

pub put_line-requires : goal.put_line-requires
put_line-requires c = omega (arith, pair_length c.args.word.now c.args.first c.args.second (omega arith) (omega arith))

pub returns : goal.returns
returns c =
    (c.put_line.ensures, omega (arith, c.put_line.ensures.ends, pair_length c.args.word.now c.args.first c.args.second (omega arith) (omega arith)))
