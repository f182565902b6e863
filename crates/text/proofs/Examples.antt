-- Texts and what they are read as, and the scope's own print of A and of some others, computed from the definitions.
use mathlib.Core.List.{List, [], ◌∷◌, map}
use mathlib.Core.Path.{◌≡◌, refl}
use Prim.Native.String.{String}
use lib.ListN.{replicate}
use Rattle.model.specs.Task.{Table, greedy, idling, lending, limited}
use Rattle.model.proofs.Computing.{computing}
use Rattle.model.proofs.Examples.{A, fenced_on, on, t, t₂}
use Rattle.text.specs.Decimal.{all, value, decimal, last_digits, digit_count, digits_within}
use Rattle.text.specs.Format.{Words, read_words, no_text, words_of, lines, is_number, text_of}
use Rattle.judge.specs.JudgeAnswer.{refused}
use Rattle.text.specs.Output.{letters, fields, line_of, first_line, row_line, row_lines, printed}

-- a text and what it is read as
pub record Case : Type 0 where
  pub text : String
  pub reads : Words

abbrev case : String → Words → Case
case s w = record { text = s; reads = w }

abbrev pub cases : List Case
cases =
    case "3\n12\n0\n" (read_words (3 ∷ 12 ∷ 0 ∷ []))
    -- the last line may lack its newline
    ∷ case "3\n12" (read_words (3 ∷ 12 ∷ []))
    -- no line is no number
    ∷ case "" (read_words [])
    -- zeros in front count as digits
    ∷ case "007" (read_words (7 ∷ []))
    ∷ case "0000000007" (read_words (7 ∷ []))
    ∷ case "00000000007" no_text
    ∷ case "4294967295" (read_words (4294967295 ∷ []))
    ∷ case "4294967296" no_text
    -- empty lines and other characters
    ∷ case "\n" no_text
    ∷ case "3\n\n" no_text
    ∷ case "+3\n" no_text
    ∷ case "3 \n" no_text
    ∷ case "3\r\n" no_text
    ∷ []

-- the value by the definitions of a text; a case is named by its text
pub texts : map (λ c. case c.text (words_of (letters c.text))) cases ≡ cases
unfolding words_of lines is_number all value
texts = refl

-- H: the numbers of 32 records are read, those of 33 are not
pub most-read : words_of (text_of (replicate 229 0)) ≡ read_words (replicate 229 0)
unfolding words_of lines is_number all value text_of decimal last_digits digit_count digits_within
most-read = refl

pub more-refused : words_of (text_of (replicate 236 0)) ≡ no_text
unfolding words_of lines is_number all value text_of decimal last_digits digit_count digits_within
more-refused = refl

-- a table by its name, and what is printed for it
pub record Print : Type 0 where
  pub name : String
  pub table : Table
  pub text : String

abbrev pub prints : List Print
prints =
    record { name = "A, as the scope prints it"; table = A greedy; text = "full 0 5\n0 1 1 3\n1 1 1 3\n2 2 2 3\n3 2 2 3\n4 2 2 0\n" }
    ∷ record { name = "A2: a miss on the horizon"; table = A limited; text = "miss 5 3\n0 1 1 0\n1 1 1 0\n2 2 2 3\n3 2 2 3\n4 2 2 3\n" }
    ∷ record { name = "A under rule 3"; table = A idling; text = "firm 0 5\n0 1 1 3\n1 1 1 3\n2 2 2 3\n3 2 2 3\n4 2 2 0\n" }
    ∷ record { name = "A under rule 4, as under rule 3"; table = A lending; text = "firm 0 5\n0 1 1 3\n1 1 1 3\n2 2 2 3\n3 2 2 3\n4 2 2 0\n" }
    ∷ record { name = "F: the rows stop before the miss"; table = on 1 greedy (t 0 1 2 1 2 ∷ []); text = "miss 1 1\n0 1\n" }
    ∷ record { name = "E: an idle core is 0"; table = on 1 limited (t 1 1 1 1 2 ∷ t 0 1 1 2 3 ∷ []); text = "firm 3 6\n0 2\n1 1\n2 0\n3 1\n4 2\n5 1\n6 2\n7 1\n8 0\n" }
    ∷ record {
      name = "A on five cores, of which 0 and 3 are fenced";
      table = fenced_on 5 9 greedy (A greedy).tasks;
      text = "full 0 5\n0 255 1 1 255 3\n1 255 1 1 255 3\n2 255 2 2 255 3\n3 255 2 2 255 3\n4 255 2 2 255 0\n";
    }
    ∷ record {
      name = "four cores on odd jobs, two on even ones";
      table = on 4 greedy (t₂ 0 4 2 1 2 2 ∷ t 0 2 1 2 2 ∷ []);
      text = "full 0 4\n0 1 1 1 1\n1 2 2 0 0\n2 1 1 2 2\n3 0 0 0 0\n";
    }
    ∷ []

-- what is printed for a table, and what is to be
pub prints-exact : map (λ p. printed p.table) prints ≡ map (λ p. letters p.text) prints
unfolding printed first_line row_line row_lines line_of fields decimal last_digits digit_count digits_within computing
prints-exact = refl

-- a refusal
pub refusal : first_line (refused 8 12) ≡ letters "refused 8 12\n"
unfolding first_line line_of fields decimal last_digits digit_count digits_within
refusal = refl
