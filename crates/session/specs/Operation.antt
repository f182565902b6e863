-- The operation of a line after the table, and the reply to it.
use Rattle.std.specs.Prelude.{Bool, true, false, cond, Option, Some, None, List, [], ◌∷◌, ◌++◌, ℕ, ◌+◌, ◌*◌, take, eqb}
use Rattle.model.specs.Sizes.{most_tasks}
use Rattle.text.specs.Format.{newline, most_digits}
use Rattle.text.specs.Input.{parse_number}
use Rattle.text.specs.Output.{letters, line_of, space}
use Rattle.splitter.specs.Words.{words_in}
use Rattle.run.specs.declared.Run.{Run}
use Rattle.run.specs.Answer.{Answer}
use Rattle.run.specs.Answer.{Taken, Refused}
use Rattle.run.specs.Advance.{advance_of}
use Rattle.run.specs.Withdraw.{withdraw_of, withdraw_all_of}
use Rattle.run.specs.Row.{row_of}
use Rattle.run.specs.Sets.{sets_of}
use Rattle.run.specs.Working.{working_of}
use Rattle.session.specs.declared.operations.Numbers.{Numbers}
use Rattle.session.specs.declared.operations.Numbers.TheVariants.{Bare, One, Two}
use Rattle.session.specs.declared.operations.Operation.{Operation}
use Rattle.session.specs.declared.operations.Operation.TheVariants.{Advance, Withdraw, WithdrawAll, Row, Sets, Working}

-- a line of this number of bytes is no operation: one more than a letter and two numbers, each with a space before it
abbrev pub none_long : ℕ
none_long = 1 + 2 * (1 + most_digits) + 1

-- the most bytes of a reply: `sets`, for each of 32 positions a space and up to 20 digits, and a newline
abbrev pub longest_reply : ℕ
longest_reply = 4 + most_tasks * (1 + 20) + 1

-- one number, of one to ten digits, up to 4,294,967,295
abbrev pub one_of : Option ℕ → Option Numbers
one_of (Some n) = Some (One n)
one_of None = None

-- two of them
abbrev pub two_of : Option ℕ → Option ℕ → Option Numbers
two_of (Some n) (Some m) = Some (Two n m)
two_of (Some n) None = None
two_of None f = None

-- the numbers that words represent: one or two
unfoldable pub numbers_of : List (List ℕ) → Option Numbers
numbers_of [] = None
numbers_of (l ∷ []) = one_of (parse_number l)
numbers_of (l ∷ m ∷ []) = two_of (parse_number l) (parse_number m)
numbers_of (l ∷ m ∷ k ∷ ls) = None

-- what is after the letter of a line: nothing, or numbers with one space before each; none where it is something else
unfoldable pub numbers_after : List ℕ → Option Numbers
numbers_after [] = Some Bare
numbers_after (b ∷ l) = cond (eqb b space) (numbers_of (words_in l)) None

-- the one number, where there is no other
abbrev pub one_in : Numbers → Option ℕ
one_in Bare = None
one_in (One n) = Some n
one_in (Two n m) = None

-- a set of empties; without a number it is 0
abbrev pub empties_in : Numbers → Option ℕ
empties_in Bare = Some 0
empties_in (One e) = Some e
empties_in (Two e n) = None

-- `a REPORTS EMPTIES` is an advance with these two sets; without the second number the empties are 0
abbrev pub advance_by : Numbers → Option Operation
advance_by Bare = None
advance_by (One x) = Some (Advance x 0)
advance_by (Two x e) = Some (Advance x e)

-- `r EMPTIES` asks a row with that set; without a number it is 0
abbrev pub row_by : Numbers → Option Operation
row_by Bare = Some (Row 0)
row_by (One e) = Some (Row e)
row_by (Two e n) = None

-- `s EMPTIES` asks the row as sets with that set; without a number it is 0
abbrev pub sets_by : Numbers → Option Operation
sets_by Bare = Some (Sets 0)
sets_by (One e) = Some (Sets e)
sets_by (Two e n) = None

-- `j EMPTIES` asks who works with that set; without a number it is 0
abbrev pub working_by : Numbers → Option Operation
working_by Bare = Some (Working 0)
working_by (One e) = Some (Working e)
working_by (Two e n) = None

-- `w POSITION` withdraws that position
abbrev pub withdraw_by : Numbers → Option Operation
withdraw_by Bare = None
withdraw_by (One p) = Some (Withdraw p)
withdraw_by (Two p n) = None

-- `W SET` withdraws the positions of that set together
abbrev pub withdraw_all_by : Numbers → Option Operation
withdraw_all_by Bare = None
withdraw_all_by (One x) = Some (WithdrawAll x)
withdraw_all_by (Two x n) = None

-- the operation of a letter, `a`, `r`, `w`, `W`, `s` or `j`, and the numbers after it; with any other letter there is none
unfoldable pub operation_by : ℕ → Numbers → Option Operation
operation_by letter ns =
    cond (eqb letter 97) (advance_by ns)
    (cond (eqb letter 114) (row_by ns)
    (cond (eqb letter 119) (withdraw_by ns)
    (cond (eqb letter 87) (withdraw_all_by ns)
    (cond (eqb letter 115) (sets_by ns)
    (cond (eqb letter 106) (working_by ns) None)))))

-- none, where something else is after the letter
abbrev pub operation_with : ℕ → Option Numbers → Option Operation
operation_with letter (Some ns) = operation_by letter ns
operation_with letter None = None

-- the operation of a line; an empty line is none
unfoldable pub operation_of : List ℕ → Option Operation
operation_of [] = None
operation_of (letter ∷ l) = operation_with letter (numbers_after l)

-- a line that is only a word
unfoldable pub word_line : List ℕ → List ℕ
word_line word = word ++ (newline ∷ [])

-- a refusal is `refused`, number, position; what is taken is the word given
unfoldable pub answer_line : List ℕ → Answer → List ℕ
answer_line word Taken = word_line word
answer_line word (Refused n p) = line_of (letters "refused") (n ∷ p ∷ [])

-- a row is `row` and the cores' bytes: positions, 0 where idle, 255 where fenced; or its refusal
unfoldable pub shown_line : ℕ → Answer → List ℕ → List ℕ
shown_line cores Taken bytes = line_of (letters "row") (take cores bytes)
shown_line cores (Refused n p) bytes = line_of (letters "refused") (n ∷ p ∷ [])

-- a row as sets is `sets` and the 32 sets, core 0 the lowest digit of each; or its refusal
unfoldable pub sets_line : Answer → List ℕ → List ℕ
sets_line Taken sets = line_of (letters "sets") sets
sets_line (Refused n p) sets = line_of (letters "refused") (n ∷ p ∷ [])

-- who works is `working` and the set of positions, position 1 its lowest digit; or its refusal
unfoldable pub working_line : Answer → ℕ → List ℕ
working_line Taken set = line_of (letters "working") (set ∷ [])
working_line (Refused n p) set = line_of (letters "refused") (n ∷ p ∷ [])

-- the reply to an operation on run r, or to a line that is none
unfoldable pub reply : Option Operation → Run → List ℕ
reply (Some (Advance x e)) r = answer_line (letters "taken") (advance_of r x e).answer
reply (Some (Withdraw p)) r = answer_line (letters "taken") (withdraw_of r p).answer
reply (Some (WithdrawAll x)) r = answer_line (letters "taken") (withdraw_all_of r x).answer
reply (Some (Row e)) r = shown_line r.cores (row_of r e).answer (row_of r e).bytes
reply (Some (Sets e)) r = sets_line (sets_of r e).answer (sets_of r e).sets
reply (Some (Working e)) r = working_line (working_of r e).answer (working_of r e).set
reply None r = word_line (letters "not an operation")

-- the run after it
unfoldable pub run_after : Option Operation → Run → Run
run_after (Some (Advance x e)) r = (advance_of r x e).run
run_after (Some (Withdraw p)) r = (withdraw_of r p).run
run_after (Some (WithdrawAll x)) r = (withdraw_all_of r x).run
run_after (Some (Row e)) r = r
run_after (Some (Sets e)) r = r
run_after (Some (Working e)) r = r
run_after None r = r

-- a line that is no operation ends the session
abbrev pub is_last : Option Operation → Bool
is_last (Some o) = false
is_last None = true
