-- A line of a supplied plan: a row as the program prints it, the first line that it prints, or something else.
use Rattle.std.specs.Prelude.{Bool, ◌&&◌, ◌||◌, cond, Option, None, Some, List, [], ◌++◌, map, ◌∷◌, ◌*◌, ◌+◌, ◌-◌, ℕ, leb, ltb, length, replicate, take}
use Rattle.model.specs.Sizes.{most_cores}
use Rattle.text.specs.Decimal.{all, value}
use Rattle.text.specs.Format.{is_number, most_digits}
use Rattle.text.specs.Output.{letters}
use Rattle.sentence.specs.Reading.{starts_with}
use Rattle.splitter.specs.Words.{words_in}
use Rattle.plan_text.specs.declared.line.Line.{Line}

-- the number of cells of a row that are read, one more than a row can have: a longer one gets 11, whatever follows them
abbrev pub most_cells : ℕ
most_cells = most_cores + 1

-- the number of bytes of a line that decide, whatever follows them (`long-step`): a tick, that many numbers with a space before each, and one byte more
abbrev pub long_line : ℕ
long_line = most_digits + most_cells * (1 + most_digits) + 1

-- a word represents a byte: a number up to 255
unfoldable pub is_byte : List ℕ → Bool
is_byte w = is_number w && leb (value w) 255

-- the tick and the numbers of a row, or that there is none
pub data Read : Type 0 where
  row_read : ℕ → List ℕ → Read
  no_row : Read

-- the row of a tick and of words that all represent bytes
unfoldable pub cells_of : ℕ → List (List ℕ) → Read
cells_of t ws = cond (all is_byte ws) (row_read t (map value ws)) no_row

-- the row of a line's words: the tick, and the numbers after it, as many as are read
unfoldable pub row_of_words : List (List ℕ) → Read
row_of_words [] = no_row
row_of_words (w ∷ ws) = cond (is_number w) (cells_of (value w) (take most_cells ws)) no_row

-- the row of a line: its words, one space between them
abbrev pub row_in : List ℕ → Read
row_in l = row_of_words (words_in l)

-- the words after a space, if there is one
unfoldable pub words_after : List ℕ → List (List ℕ)
words_after [] = []
words_after (b ∷ l) = words_in l

-- a line that begins as the program's first line does where rows follow it
unfoldable pub is_verdict : List ℕ → Bool
is_verdict l = ltb (length l) long_line && (starts_with (letters "firm") l || (starts_with (letters "full") l || starts_with (letters "miss") l))

-- the numbers in 65 places, zeros past the last
abbrev pub pad_cells : List ℕ → List ℕ
pad_cells ns = ns ++ replicate (most_cells - length ns) 0

-- a row with its numbers and their count; of a line that is none there is nothing
abbrev pub read_line : Read → Option Line
read_line (row_read t ns) = Some (record { tick = t; count = length ns; cells = pad_cells ns })
read_line no_row = None
