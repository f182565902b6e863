-- The transcript, everything that the program replay prints for an input: a table's text, a line `--`, then one operation a line; the last line may lack its
-- newline. And what it must have printed once some bytes of an input have come: answers do not wait.
use Rattle.std.specs.Prelude.{cond, List, [], ◌∷◌, ◌++◌, ℕ, ◌+◌, length, leb}
use Rattle.text.specs.Format.{most_bytes, words_of, numbers_in}
use Rattle.text.specs.Output.{letters, line_of}
use Rattle.splitter.specs.Split.{too_many, nothing, unknown, Split, closed, growing, split}
use Rattle.run.specs.declared.Run.{Run}
use Rattle.run.specs.Start.{start_of}
use Rattle.session.specs.Operation.{operation_of, answer_line, reply, run_after, is_last}

-- the replies to the operations in these lines, from run r on
unfoldable pub replies : Run → List (List ℕ) → List ℕ
replies r [] = []
replies r (l ∷ ls) = reply (operation_of l) r ++ cond (is_last (operation_of l)) [] (replies (run_after (operation_of l) r) ls)

-- start's answer
unfoldable pub start_line : List ℕ → List ℕ
start_line ws = answer_line (letters "ok") (start_of ws).answer

-- the answers to a table's text, and to the lines after it; a text longer than any table can be is `refused 1 0` and ends the session
unfoldable pub opened : List ℕ → List (List ℕ) → List ℕ
opened table ls =
    cond (leb (length table) most_bytes)
    (start_line (numbers_in (words_of table)) ++ replies (start_of (numbers_in (words_of table))).run ls)
    (line_of (letters "refused") (1 ∷ 0 ∷ []))

-- the transcript of an input; while its table grows nothing is due yet, but the refusal once 2,523 bytes have come
unfoldable pub answers_to : Split → List ℕ
answers_to (closed table ls) = opened table ls
answers_to (growing n) = cond (leb (too_many + 1) n) (line_of (letters "refused") (1 ∷ 0 ∷ [])) []

-- everything that the program prints for the bytes that it reads
unfoldable pub transcript : List ℕ → List ℕ
transcript bs = answers_to (split nothing bs)

-- what it must have printed once these bytes have come: start's answer once the line `--` has ended, and the answer to each line that has ended since;
-- or the refusal of a table that is too long
unfoldable pub transcript_so_far : List ℕ → List ℕ
transcript_so_far bs = answers_to (split unknown bs)
