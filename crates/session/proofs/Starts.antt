-- The transcript of a table begins with start's answer to its text, whether the text is short or too long for any table: the refusal of one that
-- is too long is start's own, `refused 1 0`, since such a text has no numbers (`long-refused` of the text).
use mathlib.Core.List.{List, [], ◌++◌}
use mathlib.Core.Path.{◌≡◌, refl, ap, sym, ◌∙◌}
use mathlib.Core.Bool.{Bool, true, false}
use Prim.Native.Nat.{ℕ, ◌≤◌, ◌<◌}
use lib.ListN.{length}
use lib.Dec.{leb}
use borrow.Author.Tests.{leb-false, le-leb}
use Rattle.run.specs.Start.{start_of}
use Rattle.run.proofs.NoWords.{no_words}
use Rattle.text.specs.Format.{most_bytes, Words, words_of, numbers_in}
use Rattle.text.specs.Output.{letters}
use Rattle.text.proofs.Exact.{long-refused}
use Rattle.session.specs.Operation.{answer_line}
use Rattle.session.specs.Transcript.{start_line, replies, opened}
use Rattle.session.specs.Session.{IsPrefix}
use Rattle.session.proofs.Transcripts.{too_long, opened-long, begins-with}

-- no numbers are turned down with 1
no-numbers : start_line [] ≡ too_long
unfolding start_line answer_line
no-numbers = ap (answer_line (letters "ok")) no_words

-- start's answer to a text that is too long
pub too-long-start : (table : List ℕ) → most_bytes < length table → start_line (numbers_in (words_of table)) ≡ too_long
too-long-start table h = ap (λ (w : Words). start_line (numbers_in w)) (long-refused table h) ∙ no-numbers

-- start's answer to any other text, and the replies on the run that it leaves
pub opened-short : (table : List ℕ) (ls : List (List ℕ)) → length table ≤ most_bytes → opened table ls ≡ start_line (numbers_in (words_of table)) ++ replies (start_of (numbers_in (words_of table))).run ls
unfolding opened
opened-short table ls h = rw (le-leb (length table) most_bytes h) refl

-- THEOREM: by either route, the transcript begins with start's answer to the text
pub opened-starts : (table : List ℕ) (ls : List (List ℕ)) → IsPrefix (start_line (numbers_in (words_of table))) (opened table ls)
unfolding opened
opened-starts table ls = go (leb (length table) most_bytes) refl
  where
    go : (t : Bool) → leb (length table) most_bytes ≡ t → IsPrefix (start_line (numbers_in (words_of table))) (opened table ls)
    go true e = rw e (replies (start_of (numbers_in (words_of table))).run ls, refl)
    go false e =
        let h = leb-false (length table) most_bytes e in
        begins-with (opened-long table ls h ∙ sym (too-long-start table h))
