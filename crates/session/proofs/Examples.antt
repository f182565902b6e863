-- Lines and their operations, and operations of small runs with the replies to them, computed from the definitions.
use mathlib.Core.Bool.{false}
use mathlib.Core.List.{List, [], ◌∷◌, map}
use mathlib.Core.Path.{◌≡◌, refl}
use Prim.Native.Nat.{ℕ}
use Prim.Native.String.{String}
use lib.ListN.{drop, replicate}
use Rattle.std.proofs.Common.{Option, Some, None}
use Rattle.model.proofs.Computing.{computing}
use Rattle.model.proofs.LineByLine.{LineByLine, by-line}
use Rattle.phase.specs.declared.Phase.TheVariants as phase
use Rattle.phase.specs.declared.Task.{Task}
use Rattle.phase.specs.Task.{unused}
use Rattle.run.specs.declared.Run.{Run}
use Rattle.run.specs.Run.{grants_in, lent_in, map_first, moved, offer_in, seeks_in, withdrawn_in}
use Rattle.run.specs.Numbers.{past_count, run_out, first_late_in, wrong_empties_in, wrong_reports_in}
use Rattle.run.specs.Advance.{advance_answer, advance_of}
use Rattle.run.specs.Withdraw.{withdraw_answer, withdraw_of, withdraw_all_of}
use Rattle.run.specs.Row.{row_answer, bytes_in, row_of}
use Rattle.run.specs.Sets.{sets_in, sets_of}
use Rattle.run.specs.Working.{working_of}
use Rattle.model.specs.Working.{set_where}
use Rattle.text.specs.Decimal.{all, value, decimal, last_digits, digit_count, digits_within}
use Rattle.text.specs.Format.{is_number}
use Rattle.text.specs.Output.{letters, fields, line_of}
use Rattle.splitter.specs.Split.{nothing, last_line, lines_from}
use Rattle.splitter.specs.Words.{words_in}
use Rattle.session.specs.declared.operations.Operation.{Operation}
use Rattle.session.specs.declared.operations.Operation.TheVariants.{Advance, Withdraw, WithdrawAll, Row, Sets, Working}
use Rattle.session.specs.Operation.{numbers_of, numbers_after, operation_by, operation_of, word_line, answer_line, shown_line, sets_line, working_line, reply, run_after}
use Rattle.session.specs.Transcript.{replies}

-- THE OPERATION OF A LINE

-- a line and the operation that it is
pub record Line : Type 0 where
  pub text : String
  pub operation : Option Operation

abbrev asks : String → Option Operation → Line
asks s o = record { text = s; operation = o }

abbrev pub lines : List Line
lines =
    asks "a 1" (Some (Advance 1 0))
    ∷ asks "a 1 2" (Some (Advance 1 2))
    ∷ asks "r" (Some (Row 0))
    ∷ asks "r 1" (Some (Row 1))
    ∷ asks "w 1" (Some (Withdraw 1))
    ∷ asks "W 1" (Some (WithdrawAll 1))
    ∷ asks "s" (Some (Sets 0))
    ∷ asks "s 1" (Some (Sets 1))
    ∷ asks "j" (Some (Working 0))
    ∷ asks "j 1" (Some (Working 1))
    -- a letter is needed, and it is the first byte
    ∷ asks "" None
    ∷ asks " " None
    ∷ asks " r" None
    ∷ asks " a 1" None
    ∷ asks "1" None
    ∷ asks "A 1" None
    ∷ asks "R" None
    ∷ asks "V 1" None
    ∷ asks "wW 1" None
    ∷ asks "S" None
    ∷ asks "--" None
    -- an advance has one number or two, a row none or one, as sets too, a withdrawal, of a position or of a set, one
    ∷ asks "a" None
    ∷ asks "a 1 2 3" None
    ∷ asks "r 1 2" None
    ∷ asks "s 1 2" None
    ∷ asks "j 1 2" None
    ∷ asks "J" None
    ∷ asks "w" None
    ∷ asks "w 1 2" None
    ∷ asks "W" None
    ∷ asks "W 1 2" None
    -- one space before each number, and nothing after the last
    ∷ asks "a " None
    ∷ asks "a  1" None
    ∷ asks "a 1 " None
    ∷ asks "a 1  2" None
    ∷ asks "a 1 2 " None
    ∷ asks "r " None
    ∷ asks "r  1" None
    ∷ asks "r 1 " None
    ∷ asks "s " None
    ∷ asks "s1" None
    ∷ asks "j " None
    ∷ asks "j1" None
    ∷ asks "w " None
    ∷ asks "w  1" None
    ∷ asks "w 1 " None
    ∷ asks "W " None
    ∷ asks "W  1" None
    ∷ asks "W 1 " None
    ∷ asks "a1" None
    ∷ asks "a1 2" None
    ∷ asks "r1" None
    ∷ asks "w1" None
    ∷ asks "W1" None
    ∷ asks "ar 1" None
    ∷ asks "a\t1" None
    ∷ asks "a 1,2" None
    -- digits alone
    ∷ asks "a +1" None
    ∷ asks "a 1 -2" None
    ∷ asks "a r" None
    ∷ asks "r\r" None
    ∷ asks "w 1\r" None
    ∷ asks "W 1\r" None
    ∷ asks "a 1\r" None
    ∷ asks "a 1 2\r" None
    -- one to ten digits, zeros in front among them
    ∷ asks "a 0000000001 0000000002" (Some (Advance 1 2))
    ∷ asks "r 0000000003" (Some (Row 3))
    ∷ asks "a 00000000001" None
    ∷ asks "a 00000000001 2" None
    ∷ asks "a 1 00000000002" None
    ∷ asks "r 00000000003" None
    ∷ asks "w 0000000004" (Some (Withdraw 4))
    ∷ asks "w 00000000004" None
    ∷ asks "W 0000000005" (Some (WithdrawAll 5))
    ∷ asks "W 00000000005" None
    -- up to 4,294,967,295
    ∷ asks "a 4294967295" (Some (Advance 4294967295 0))
    ∷ asks "a 4294967296" None
    ∷ asks "a 0 4294967295" (Some (Advance 0 4294967295))
    ∷ asks "a 0 4294967296" None
    ∷ asks "a 4294967296 0" None
    ∷ asks "r 4294967295" (Some (Row 4294967295))
    ∷ asks "r 4294967296" None
    ∷ asks "s 4294967295" (Some (Sets 4294967295))
    ∷ asks "s 4294967296" None
    ∷ asks "j 4294967295" (Some (Working 4294967295))
    ∷ asks "j 4294967296" None
    ∷ asks "w 0" (Some (Withdraw 0))
    ∷ asks "w 4294967295" (Some (Withdraw 4294967295))
    ∷ asks "w 4294967296" None
    ∷ asks "W 0" (Some (WithdrawAll 0))
    ∷ asks "W 4294967295" (Some (WithdrawAll 4294967295))
    ∷ asks "W 4294967296" None
    -- the longest operation has 23 bytes; one byte more is none
    ∷ asks "a 4294967295 4294967295" (Some (Advance 4294967295 4294967295))
    ∷ asks "a 4294967295 42949672950" None
    ∷ asks "a 4294967295 4294967295 " None
    ∷ asks "a 4294967295  4294967295" None
    ∷ []

-- the value by the definitions of a line; it is named by its text
abbrev worked : Line → Line
worked l = asks l.text (operation_of (letters l.text))

each_line : LineByLine worked lines lines
unfolding operation_of operation_by numbers_after numbers_of words_in is_number all value
each_line =
    let past-80 : LineByLine worked (drop 80 lines) (drop 80 lines) =
    (refl, (refl, (refl, (refl, (refl, (refl, (refl, (refl, (refl, (refl, (refl, (refl, (refl, (refl, (refl, (refl, tt)))))))))))))))) in
    let past-60 : LineByLine worked (drop 60 lines) (drop 60 lines) =
    (refl, (refl, (refl, (refl, (refl, (refl, (refl, (refl, (refl, (refl, (refl, (refl, (refl, (refl, (refl, (refl, (refl, (refl, (refl, (refl, past-80)))))))))))))))))))) in
    let past-40 : LineByLine worked (drop 40 lines) (drop 40 lines) =
    (refl, (refl, (refl, (refl, (refl, (refl, (refl, (refl, (refl, (refl, (refl, (refl, (refl, (refl, (refl, (refl, (refl, (refl, (refl, (refl, past-60)))))))))))))))))))) in
    let past-20 : LineByLine worked (drop 20 lines) (drop 20 lines) =
    (refl, (refl, (refl, (refl, (refl, (refl, (refl, (refl, (refl, (refl, (refl, (refl, (refl, (refl, (refl, (refl, (refl, (refl, (refl, (refl, past-40)))))))))))))))))))) in
    (refl, (refl, (refl, (refl, (refl, (refl, (refl, (refl, (refl, (refl, (refl, (refl, (refl, (refl, (refl, (refl, (refl, (refl, (refl, (refl, past-20))))))))))))))))))))

pub lines-asked : map (λ l. asks l.text (operation_of (letters l.text))) lines ≡ lines
lines-asked = by-line worked lines lines each_line

-- THE REPLIES

-- a task of one tick in the release tick of an odd job, by its widths
abbrev task : ℕ → ℕ → Task
task v w = record { parameters = record { offset = 0; width = v; length = 1; deadline = 2; period = 2; second = w }; even = false; phase = phase.Working 0 0 0 }

-- two of them under greedy: of width 1 on one core; and with widths that fall on two cores, so that the run is not firm
abbrev pub pair : Run
pair = record { rule = 1; cores = 1; fence = 0; withdrawn = 0; count = 2; tasks = task 1 1 ∷ task 1 1 ∷ replicate 30 unused }

abbrev pub falling : Run
falling = record { rule = 1; cores = 2; fence = 0; withdrawn = 0; count = 2; tasks = task 2 2 ∷ task 1 1 ∷ replicate 30 unused }

-- one of them, whose even jobs are wider than its odd ones
abbrev pub alternating : Run
alternating = record { rule = 1; cores = 2; fence = 0; withdrawn = 0; count = 1; tasks = task 1 2 ∷ replicate 31 unused }

-- two of widths 2 and 1 on two cores, under rule 4
abbrev pub lending : Run
lending = record { rule = 4; cores = 2; fence = 0; withdrawn = 0; count = 2; tasks = task 2 2 ∷ task 1 1 ∷ replicate 30 unused }

-- no run: what a refused start leaves
abbrev pub none : Run
none = record { rule = 0; cores = 0; fence = 0; withdrawn = 0; count = 0; tasks = replicate 32 unused }

-- operations of a run, and the replies to them
pub record TranscriptExample : Type 0 where
  pub from : Run
  pub input : String
  pub output : String

abbrev transcript_example : Run → String → String → TranscriptExample
transcript_example r i o = record { from = r; input = i; output = o }

abbrev pub transcripts : List TranscriptExample
transcripts =
    -- a row asked with empties shows the task that has the core then, and changes nothing
    transcript_example pair "r\nr 1\nr 2\nr 3\nr 4\nr" "row 1\nrow 2\nrow 1\nrow 0\nrefused 20 0\nrow 1\n"
    -- reports are the first number and empties the second
    ∷ transcript_example pair "a 2\na 1 1\na 2 1\nr\na 0 1\na 0\nr" "refused 16 0\nrefused 16 0\ntaken\nrow 0\nrefused 20 0\ntaken\nrow 1\n"
    ∷ transcript_example pair "a 1 2\nr" "taken\nrow 0\n"
    ∷ transcript_example pair "a 1\nr" "taken\nrow 2\n"
    -- withdrawn in the release tick: the job is empty at once, and so is the next; an empty bit on it, and withdrawing it again, change nothing
    ∷ transcript_example pair "w 1\nr\nw 1\nr 1\na 1\na 2 1\nr\na 0\nr\nw 2\nr" "taken\nrow 2\ntaken\nrow 2\nrefused 16 0\ntaken\nrow 0\ntaken\nrow 2\ntaken\nrow 0\n"
    -- withdrawn a tick later: the job goes on, and the next is empty
    ∷ transcript_example pair "a 0\nw 2\nr\na 0\na 0\nr" "taken\ntaken\nrow 2\ntaken\ntaken\nrow 0\n"
    -- no position 0 and none past the count; what is refused changes nothing
    ∷ transcript_example pair "w 0\nw 3\nw 4294967295\nr" "refused 22 0\nrefused 22 0\nrefused 22 0\nrow 1\n"
    ∷ transcript_example falling "w 1\nw 0\nr" "refused 21 0\nrefused 21 0\nrow 1 1\n"
    -- both together, in the release tick and a tick later; the empty set changes nothing, and a set with a position past the count withdraws none
    ∷ transcript_example pair "W 3\nr\nW 1\nW 0\nr\na 0\na 0\nr" "taken\nrow 0\ntaken\ntaken\nrow 0\ntaken\ntaken\nrow 0\n"
    ∷ transcript_example pair "a 0\nW 3\nr\na 0\na 0\nr" "taken\ntaken\nrow 2\ntaken\ntaken\nrow 0\n"
    ∷ transcript_example pair "W 0\nr\nW 5\nW 4294967295\nr\nw 1\nW 2\nr" "taken\nrow 1\nrefused 22 0\nrefused 22 0\nrow 1\ntaken\ntaken\nrow 0\n"
    ∷ transcript_example falling "W 0\nW 1\nW 4\nr" "refused 21 0\nrefused 21 0\nrefused 21 0\nrow 1 1\n"
    ∷ transcript_example none "a 0\nw 1\nW 0\nr\na 1 2" "refused 14 0\nrefused 14 0\nrefused 14 0\nrefused 14 0\nrefused 14 0\n"
    -- each release turns to the other width, that of an empty job too
    ∷ transcript_example alternating "r\na 0\nr\na 0\nr\na 0 1\na 0\nr\na 0\na 0\nr" "row 1 0\ntaken\nrow 0 0\ntaken\nrow 1 1\ntaken\ntaken\nrow 1 0\ntaken\ntaken\nrow 1 1\n"
    -- under rule 4 an empty job lends its cores: the row shows the borrower, which may be reported; the lender may not
    ∷ transcript_example lending "r\nr 1\na 2\na 1 1\na 2 1\nr" "row 1 1\nrow 2 1\nrefused 16 0\nrefused 16 0\ntaken\nrow 2 0\n"
    -- the same as sets: the lender keeps what it has not lent; a refusal has no sets; and nothing changes
    ∷ transcript_example lending "s\ns 1\ns 4\nr"
    "sets 3 0 0 0 0 0 0 0 0 0 0 0 0 0 0 0 0 0 0 0 0 0 0 0 0 0 0 0 0 0 0 0\nsets 2 1 0 0 0 0 0 0 0 0 0 0 0 0 0 0 0 0 0 0 0 0 0 0 0 0 0 0 0 0 0 0\nrefused 20 0\nrow 1 1\n"
    ∷ transcript_example none "s" "refused 14 0\n"
    -- who works: the borrower and not the lender, whose set has a core; a refusal has no set; and nothing changes
    ∷ transcript_example lending "j\nj 1\nj 4\nr\na 1\nj\na 2\nj" "working 1\nworking 2\nrefused 20 0\nrow 1 1\ntaken\nworking 2\ntaken\nworking 1\n"
    ∷ transcript_example none "j" "refused 14 0\n"
    -- after a line that is no operation nothing is written
    ∷ transcript_example pair "r 1 2\nr\n" "not an operation\n"
    ∷ []

pub transcripts-exact : map (λ t. replies t.from (lines_from nothing [] (letters t.input))) transcripts ≡ map (λ t. letters t.output) transcripts
unfolding replies lines_from last_line reply run_after word_line answer_line shown_line sets_line working_line operation_of operation_by numbers_after numbers_of words_in is_number all value line_of fields
    decimal last_digits digit_count digits_within computing advance_of advance_answer withdraw_of withdraw_all_of withdraw_answer row_of row_answer bytes_in sets_of sets_in working_of set_where past_count run_out
    first_late_in wrong_empties_in wrong_reports_in grants_in lent_in offer_in seeks_in map_first moved withdrawn_in
transcripts-exact = refl
