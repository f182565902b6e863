-- The text that the program reads (scope, end of 'The table of examples'): one decimal number a line, the last line may lack its newline.
-- Other characters, an empty line, a line of more than ten digits, a number above 4,294,967,295 or more than 229 numbers are turned down.
use Rattle.std.specs.Prelude.{Bool, ◌&&◌, cond, List, [], ◌∷◌, ◌++◌, map, ℕ, ◌+◌, ◌*◌, ◌≤◌, length, leb, eqb}
use Rattle.model.specs.Sizes.{most_tasks, most_word}
use Rattle.table.specs.Words.{header_words, record_words}
use Rattle.text.specs.Decimal.{all, is_digit, Digits, value, decimal}

-- a newline
abbrev pub newline : ℕ
newline = 10

-- the largest number of a line
abbrev pub largest : ℕ
largest = most_word

-- the most numbers of a text: the words of a header and of 32 records
abbrev pub most_numbers : ℕ
most_numbers = header_words + record_words * most_tasks

-- the most digits of a line
abbrev pub most_digits : ℕ
most_digits = 10

-- the most bytes of a table's text: the most lines, each of the most digits and a newline (`long-refused`)
abbrev pub most_bytes : ℕ
most_bytes = (most_digits + 1) * most_numbers

-- the number of bytes of an input that are enough: one more than a table's text can have (`output-enough`)
abbrev pub enough_bytes : ℕ
enough_bytes = most_bytes + 1

-- a byte in front of the first line
abbrev pub joined : ℕ → List (List ℕ) → List (List ℕ)
joined b [] = (b ∷ []) ∷ []
joined b (l ∷ ls) = (b ∷ l) ∷ ls

-- the lines of a text: what is before each newline, and what is after the last one unless that is nothing
unfoldable pub lines : List ℕ → List (List ℕ)
lines [] = []
lines (b ∷ bs) = cond (eqb b newline) ([] ∷ lines bs) (joined b (lines bs))

-- a line represents a number: it has one to ten digits and nothing else, and the number is at most 4,294,967,295
pub record Number (l : List ℕ) : Type 0 where
  pub some : 1 ≤ length l
  pub short : length l ≤ most_digits
  pub digits : Digits l
  pub fits : value l ≤ largest

-- .. the test (`number-exact`)
unfoldable pub is_number : List ℕ → Bool
is_number l = leb 1 (length l) && (leb (length l) most_digits && (all is_digit l && leb (value l) largest))

-- the numbers of a text, or that it is no table's text
pub data Words : Type 0 where
  read_words : List ℕ → Words
  no_text : Words

-- the numbers of a text; what is no table's text has none, which are turned down with `refused 1 0`
abbrev pub numbers_in : Words → List ℕ
numbers_in (read_words ws) = ws
numbers_in no_text = []

-- every line represents a number, and there are at most 229: the numbers of the lines
unfoldable pub words_of : List ℕ → Words
words_of bs = cond (all is_number (lines bs) && leb (length (lines bs)) most_numbers) (read_words (map value (lines bs))) no_text

-- the bytes are these numbers, one to a line; each line ends with a newline, which the last may lack
pub data Lines : List ℕ → List ℕ → Type 0 where
  none : Lines [] []
  last : {l : List ℕ} → Number l → Lines l (value l ∷ [])
  line : {l bs ws : List ℕ} → Number l → Lines bs ws → Lines (l ++ (newline ∷ bs)) (value l ∷ ws)

-- the bytes are a table's text, and ws are its numbers (`text-exact`, `no-text-exact`)
pub record IsText (bs ws : List ℕ) : Type 0 where
  pub lines : Lines bs ws
  pub most : length ws ≤ most_numbers

-- the text of the numbers ws: each in decimal, with a newline (`text-read`)
unfoldable pub text_of : List ℕ → List ℕ
text_of [] = []
text_of (w ∷ ws) = decimal w ++ (newline ∷ text_of ws)
