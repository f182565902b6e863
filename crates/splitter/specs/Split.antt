-- An input: a table's text, a line `--`, then lines; the last line may lack its newline. And an input of which some bytes have come.
use Rattle.std.specs.Prelude.{Bool, false, ◌&&◌, cond, List, [], ◌∷◌, ◌++◌, ℕ, ◌+◌, ◌<◌, ◌≤◌, length, eqb}
use Rattle.text.specs.Format.{newline, most_bytes}

-- this number of bytes with no line `--` in them is too many for a table: the longest text, the two dashes, and one more
abbrev pub too_many : ℕ
too_many = most_bytes + 3

-- what comes after the bytes so far: nothing, the input ends; or it is unknown
pub data InputEnd : Type 0 where
  nothing : InputEnd
  unknown : InputEnd

-- bytes after the last newline: where the input ends they are a last line that lacks its newline, if there are any; else they are no line yet
unfoldable pub last_line : InputEnd → List ℕ → List (List ℕ)
last_line nothing [] = []
last_line nothing (b ∷ l) = (b ∷ l) ∷ []
last_line unknown l = []

-- the lines of the bytes bs, where the bytes l are before them
unfoldable pub lines_from : InputEnd → List ℕ → List ℕ → List (List ℕ)
lines_from e l [] = last_line e l
lines_from e l (b ∷ bs) = cond (eqb b newline) (l ∷ lines_from e [] bs) (lines_from e (l ++ (b ∷ [])) bs)

-- a line `--`
unfoldable pub is_dashes : List ℕ → Bool
is_dashes [] = false
is_dashes (a ∷ []) = false
is_dashes (a ∷ b ∷ []) = eqb a 45 && eqb b 45
is_dashes (a ∷ b ∷ c ∷ l) = false

-- the table's text and the lines after it; or, where more may come, the number of bytes of a table that no line `--` has ended
pub data Split : Type 0 where
  closed : List ℕ → List (List ℕ) → Split
  growing : ℕ → Split

-- the whole lines `table` and the bytes l of one more have come, and no line `--` has ended: where the input ends the table is what is before a last
-- line `--`, or all of it
unfoldable pub unclosed : InputEnd → List ℕ → List ℕ → Split
unclosed nothing table l = closed (cond (is_dashes l) table (table ++ l)) []
unclosed unknown table l = growing (length table + length l)

-- the whole lines `table` and the bytes l of one more are before the bytes bs: the first line `--` ends the table
unfoldable pub split_from : InputEnd → List ℕ → List ℕ → List ℕ → Split
split_from e table l [] = unclosed e table l
split_from e table l (b ∷ bs) =
    cond (eqb b newline)
    (cond (is_dashes l) (closed table (lines_from e [] bs)) (split_from e (table ++ (l ++ (newline ∷ []))) [] bs))
    (split_from e table (l ++ (b ∷ [])) bs)

-- the input of these bytes
abbrev pub split : InputEnd → List ℕ → Split
split e bs = split_from e [] [] bs

-- the table is too long for any: by its text; or, where more may come, by the number of its bytes
abbrev pub TooLong : InputEnd → Split → Type 0
TooLong e (closed table ls) = most_bytes < length table
TooLong nothing (growing n) = ⊥
TooLong unknown (growing n) = too_many ≤ n
