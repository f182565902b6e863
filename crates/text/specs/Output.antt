-- What the program prints (scope, end of 'The table of examples'): the verdict, then a line for each row; every line ends with a newline.
use Rattle.std.specs.Prelude.{List, [], ◌∷◌, ◌++◌, ℕ, zero, suc, ◌+◌, ◌*◌}
use Prim.Native.Char.{code}
use Prim.Native.String.{String}
use Rattle.model.specs.Task.{Table}
use Rattle.model.specs.Claims.{book_row}
use Rattle.model.specs.Lists.{full}
use Rattle.model.specs.Horizon.{horizon}
use Rattle.model.specs.Verdict.{Verdict, Firm, Full, Miss, verdict}
use Rattle.model.specs.Sizes.{most_cores}
use Rattle.table.specs.Answer.{Answer}
use Rattle.table.specs.Answer.{Passed, Refused}
use Rattle.table.specs.Words.{table_of}
use Rattle.table.specs.Answer.{answer_of}
use Rattle.judge.specs.JudgeAnswer.{JudgeAnswer, judged, refused}
use Rattle.text.specs.Decimal.{decimal}
use Rattle.text.specs.Format.{newline, most_digits, Words, read_words, no_text, words_of}

-- the bytes of a word of plain letters; as `letters` in stream/specs/Sent
abbrev pub letters : String → List ℕ
letters String.[] = []
letters (String.◌∷◌ c s) = code c ∷ letters s

-- a space
abbrev pub space : ℕ
space = 32

-- the numbers in decimal, a space before each
unfoldable pub fields : List ℕ → List ℕ
fields [] = []
fields (n ∷ ns) = space ∷ (decimal n ++ fields ns)

-- a line with this beginning and these numbers
unfoldable pub line_of : List ℕ → List ℕ → List ℕ
line_of begin ns = begin ++ (fields ns ++ (newline ∷ []))

-- the most bytes that the cells of a row can take: for each of 64 cores a space and the three digits of a byte, and a newline
abbrev pub longest_cells : ℕ
longest_cells = most_cores * (1 + 3) + 1

-- the most bytes that a line can take: a tick and the cells of its row
abbrev pub longest_line : ℕ
longest_line = most_digits + longest_cells

-- a Firm table begins `firm`, S, P; a Full one `full`, S, P; a miss `miss`, tick, position; a refusal is `refused`, number, position
unfoldable pub first_line : JudgeAnswer → List ℕ
first_line (judged (Firm s p)) = line_of (letters "firm") (s ∷ p ∷ [])
first_line (judged (Full s p)) = line_of (letters "full") (s ∷ p ∷ [])
first_line (judged (Miss t p)) = line_of (letters "miss") (t ∷ p ∷ [])
first_line (refused n p) = line_of (letters "refused") (n ∷ p ∷ [])

-- a row: the tick and the cores' bytes: positions, 0 where idle, 255 where fenced
unfoldable pub row_line : ℕ → List ℕ → List ℕ
row_line t cores = line_of (decimal t) cores

-- the rows printed of a table whose horizon is h: up to the horizon, or up to but not including the tick of the miss
abbrev pub rows_printed : Verdict → ℕ → ℕ
rows_printed (Firm s p) h = h
rows_printed (Full s p) h = h
rows_printed (Miss t p) h = t

-- the lines of n rows of the full-length run, from tick t on
unfoldable pub row_lines : Table → ℕ → ℕ → List ℕ
row_lines s t zero = []
row_lines s t (suc n) = row_line t (book_row s (full s t)) ++ row_lines s (suc t) n

-- all that is printed for a table that no number turns down
unfoldable pub printed : Table → List ℕ
printed s = first_line (judged (verdict s)) ++ row_lines s 0 (rows_printed (verdict s) (horizon s))

-- a table that passes is printed; a refusal is one line and nothing more
abbrev pub printed_by : Answer → Table → List ℕ
printed_by Passed s = printed s
printed_by (Refused n p) s = first_line (refused n p)

-- all that is printed for the numbers of a text; what is no table's text prints `refused 1 0`
abbrev pub output_of : Words → List ℕ
output_of (read_words ws) = printed_by (answer_of ws) (table_of ws)
output_of no_text = first_line (refused 1 0)

-- everything that the program prints for the bytes that it reads
unfoldable pub output : List ℕ → List ℕ
output bs = output_of (words_of bs)
