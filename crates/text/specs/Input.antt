-- The result of `read` on the bytes, and of its helpers.
use Rattle.std.specs.Prelude.{Bool, true, false, cond, Option, Some, None, List, [], ◌∷◌, ◌++◌, ◌↔◌, ◌≡◌, ℕ, suc, ◌-◌, ◌≤◌, length, take, drop, replicate, eqb}
use Rattle.text.specs.Decimal.{value}
use Rattle.text.specs.Format.{newline, most_numbers, is_number, Words, read_words, no_text, words_of, IsText}
use Rattle.text.specs.declared.words.Words as code

-- what was read: whether it is a table's text, and its numbers with their count
pub record Input : Type 0 where
  pub accepted : Bool
  pub count : ℕ
  pub words : List ℕ

-- as code returns it: of other bytes all is zero
abbrev pub read_in : Option code.Words → Input
read_in (Some w) = record { accepted = true; count = w.count; words = w.words }
read_in None = record { accepted = false; count = 0; words = replicate most_numbers 0 }

-- the number of bytes before the first byte `mark`, or in all where there is none
unfoldable pub length_to : ℕ → List ℕ → ℕ
length_to mark [] = 0
length_to mark (b ∷ bs) = cond (eqb b mark) 0 (suc (length_to mark bs))

-- .. before the first newline: the length of the first line
abbrev pub line_length : List ℕ → ℕ
line_length bs = length_to newline bs

-- the number that a line represents, or nothing
abbrev pub parse_number : List ℕ → Option ℕ
parse_number l = cond (is_number l) (Some (value l)) None

-- the numbers in 229 places, zeros past the last
abbrev pub pad_numbers : List ℕ → List ℕ
pad_numbers ws = ws ++ replicate (most_numbers - length ws) 0

-- a text is accepted, with its numbers and their count; of other bytes all is zero
abbrev pub input_of : Words → Input
input_of (read_words ws) = record { accepted = true; count = length ws; words = pad_numbers ws }
input_of no_text = record { accepted = false; count = 0; words = replicate most_numbers 0 }

-- the contract of `read` on the bytes
pub record ReadOf (bs : List ℕ) (r : Input) : Type 0 where
  -- its value
  pub value : r ≡ input_of (words_of bs)
  -- accepted with the numbers ws exactly if the bytes are the text of ws
  pub text : (ws : List ℕ) → ((r.accepted ≡ true) × (take r.count r.words ≡ ws)) ↔ IsText bs ws
  -- turned down exactly if they are the text of no numbers
  pub no_text : (r.accepted ≡ false) ↔ ((ws : List ℕ) → ¬ IsText bs ws)
  -- at most 229 numbers, and zeros past them
  pub most : r.count ≤ most_numbers
  pub past : drop r.count r.words ≡ replicate (most_numbers - r.count) 0
