-- The positions of a set of tasks as they are printed: on one line, one space between two.
use Rattle.std.specs.Prelude.{cond, List, [], ◌∷◌, ◌++◌, ℕ, zero, suc}
use Rattle.model.specs.Search.{bit}
use Rattle.model.specs.Sizes.{most_tasks}
use Rattle.judge.specs.JudgeAnswer.{refused}
use Rattle.table.specs.Answer.{Answer}
use Rattle.table.specs.Answer.{Passed, Refused}
use Rattle.text.specs.Decimal.{decimal}
use Rattle.text.specs.Format.{newline}
use Rattle.text.specs.Output.{space, fields, first_line}

-- the positions of a set among the first n, ascending
unfoldable pub positions_below : ℕ → ℕ → List ℕ
positions_below zero x = []
positions_below (suc p) x = cond (bit x p) (positions_below p x ++ (suc p ∷ [])) (positions_below p x)

-- numbers in decimal, one space between two
unfoldable pub spaced : List ℕ → List ℕ
spaced [] = []
spaced (n ∷ ns) = decimal n ++ fields ns

-- .. one of them, where this number of bytes is before it in its line
unfoldable pub spaced_at : ℕ → ℕ → List ℕ
spaced_at zero n = decimal n
spaced_at (suc at) n = space ∷ decimal n

-- the line of a set
abbrev pub position_line : ℕ → List ℕ
position_line x = spaced (positions_below most_tasks x) ++ (newline ∷ [])

-- by the answer: the positions kept, or the refusal
abbrev pub positions_by : Answer → ℕ → List ℕ
positions_by Passed x = position_line x
positions_by (Refused n p) x = first_line (refused n p)
