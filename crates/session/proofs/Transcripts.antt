-- The transcript of an input: its table, a line that decides it, and the operations one after another.
use mathlib.Core.Bool.{Bool, true, false, cond}
use mathlib.Core.List.{List, [], ◌∷◌, ◌++◌, append-nil}
use mathlib.Core.Logic.{inl, inr}
use mathlib.Core.Path.{◌≡◌, refl, sym, ap, subst, ◌∙◌}
use Prim.Native.Nat.{ℕ, ◌+◌, ◌≤◌, ◌<◌}
use native.Mathlib.Nat.{not-suc-le-zero}
use native.Mathlib.Omega.{arith}
use lib.ListN.{length, length-append}
use lib.Dec.{eqb, leb}
use borrow.Author.Tests.{lt-leb}
use Rattle.text.specs.Format.{most_bytes, newline}
use Rattle.text.specs.Output.{letters, line_of}
use Rattle.splitter.specs.Split.{too_many, nothing, unknown, last_line, lines_from, Split, closed, growing, TooLong}
use Rattle.splitter.specs.Parts.{SplitInto}
use Rattle.run.specs.declared.Run.{Run}
use Rattle.std.proofs.Common.{None}
use Rattle.session.specs.Operation.{none_long, operation_of, word_line, reply, run_after, is_last}
use Rattle.session.specs.Transcript.{replies, opened, answers_to}
use Rattle.session.specs.Session.{IsPrefix}
use Rattle.session.proofs.Asking.{long-none}

-- equal texts, and one that follows
pub begins-with : {a b : List ℕ} → b ≡ a → IsPrefix a b
begins-with {a} e = ([], e ∙ sym (append-nil a))

-- THE TABLE

-- the answer to a table that is too long
abbrev pub too_long : List ℕ
too_long = line_of (letters "refused") (1 ∷ 0 ∷ [])

pub opened-long : (d : List ℕ) (ls : List (List ℕ)) → most_bytes < length d → opened d ls ≡ too_long
unfolding opened
opened-long d ls h = rw (lt-leb (length d) most_bytes h)

-- what a table that is too long prints, and what is due of it
all-long : (s : Split) → TooLong nothing s → answers_to s ≡ too_long
unfolding answers_to
all-long (closed d ls) h = opened-long d ls h
all-long (growing n) h = absurd h

due-long : (s : Split) → TooLong unknown s → IsPrefix (answers_to s) too_long
unfolding answers_to
due-long (closed d ls) h = begins-with (sym (opened-long d ls h))
due-long (growing n) h = go (leb (too_many + 1) n)
  where
    go : (t : Bool) → IsPrefix (cond t too_long []) too_long
    go true = begins-with refl
    go false = (too_long, refl)

-- an input that splits into a table's text and lines
pub all-opened : (s : Split) (d : List ℕ) (ls : List (List ℕ)) → SplitInto nothing s d ls → answers_to s ≡ opened d ls
unfolding answers_to
all-opened s d ls (inl e) = ap answers_to e
all-opened s d ls (inr w) = all-long s w.0 ∙ sym (opened-long d ls w.1)

pub due-opened : (s : Split) (d : List ℕ) (ls : List (List ℕ)) → SplitInto unknown s d ls → IsPrefix (answers_to s) (opened d ls)
unfolding answers_to
due-opened s d ls (inl e) = begins-with (sym (ap answers_to e))
due-opened s d ls (inr w) = subst (IsPrefix (answers_to s)) (sym (opened-long d ls w.1)) (due-long s w.0)

-- fewer bytes, and no line `--`: nothing is due
pub due-none : (n : ℕ) → n ≤ too_many → answers_to (growing n) ≡ []
unfolding answers_to
due-none n h = rw (lt-leb (too_many + 1) n (omega (arith, h)))

-- no lines have no replies
pub replies-none : (r : Run) → replies r [] ≡ []
unfolding replies
replies-none r = refl

-- THE OPERATIONS

-- the reply to a line that is no operation
abbrev pub no_operation : List ℕ
no_operation = word_line (letters "not an operation")

no-operation : (r : Run) (l : List ℕ) (ls : List (List ℕ)) → operation_of l ≡ None → replies r (l ∷ ls) ≡ no_operation
unfolding replies reply
no-operation r l ls e = rw e (append-nil no_operation)

-- 24 bytes of a line decide: whatever comes, it is no operation ..
pub replies-long : (r : Run) (l bs : List ℕ) → none_long ≤ length l → replies r (lines_from nothing l bs) ≡ no_operation
unfolding lines_from last_line
replies-long r [] [] h = absurd (not-suc-le-zero h)
replies-long r (b ∷ l) [] h = no-operation r (b ∷ l) [] (long-none (b ∷ l) h)
replies-long r l (b ∷ bs) h = go (eqb b newline) (replies-long r (l ++ (b ∷ [])) bs (omega (arith, length-append l (b ∷ []))))
  where
    go :
        (t : Bool) → replies r (lines_from nothing (l ++ (b ∷ [])) bs) ≡ no_operation
        → replies r (cond t (l ∷ lines_from nothing [] bs) (lines_from nothing (l ++ (b ∷ [])) bs)) ≡ no_operation
    go true x = no-operation r l (lines_from nothing [] bs) (long-none l h)
    go false x = x

-- .. and nothing else can be due
pub replies-due : (r : Run) (l bs : List ℕ) → none_long ≤ length l → IsPrefix (replies r (lines_from unknown l bs)) no_operation
unfolding lines_from last_line replies
replies-due r l [] h = (no_operation, refl)
replies-due r l (b ∷ bs) h = go (eqb b newline) (replies-due r (l ++ (b ∷ [])) bs (omega (arith, length-append l (b ∷ []))))
  where
    go :
        (t : Bool) → IsPrefix (replies r (lines_from unknown (l ++ (b ∷ [])) bs)) no_operation
        → IsPrefix (replies r (cond t (l ∷ lines_from unknown [] bs) (lines_from unknown (l ++ (b ∷ [])) bs))) no_operation
    go true x = begins-with (sym (no-operation r l (lines_from unknown [] bs) (long-none l h)))
    go false x = x

-- the reply to one line, and then those to the rest
pub replies-line :
    (r : Run) (l : List ℕ) (ls : List (List ℕ)) → is_last (operation_of l) ≡ false
    → replies r (l ∷ ls) ≡ reply (operation_of l) r ++ replies (run_after (operation_of l) r) ls
unfolding replies
replies-line r l ls e = rw e

pub replies-last : (r : Run) (l : List ℕ) (ls : List (List ℕ)) → is_last (operation_of l) ≡ true → replies r (l ∷ ls) ≡ reply (operation_of l) r
unfolding replies
replies-last r l ls e = rw e (append-nil (reply (operation_of l) r))
