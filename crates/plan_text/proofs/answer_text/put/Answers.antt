-- A word of at most ten letters and a number of at most ten digits fit.
use Rattle.std.proofs.Common.{[], ◌∷◌, arith}
use Rattle.plan_text.proofs.Printing.{one_length}
use Rattle.plan_text.proofs.answer_text.put.Goals as goal

pub put_line-requires : goal.put_line-requires
put_line-requires c = omega (arith, one_length (117 ∷ 110 ∷ 102 ∷ 105 ∷ 110 ∷ 105 ∷ 115 ∷ 104 ∷ 101 ∷ 100 ∷ []) c.in-Some-Unfinished.tick (omega arith))

pub put_line-requires-in-Some-Unread : goal.put_line-requires-in-Some-Unread
put_line-requires-in-Some-Unread c = omega (arith, one_length (117 ∷ 110 ∷ 114 ∷ 101 ∷ 97 ∷ 100 ∷ []) c.in-Some-Unread.number (omega arith))
