-- WHO WORKS AND THE BOOK: the positions that work in a started run, taken through a list of entries, are the book's, whatever jobs are empty.
use mathlib.Core.Path.{◌≡◌, refl, ap, ◌∙◌}
use mathlib.Core.Bool.{false}
use mathlib.Core.List.{List, [], ◌∷◌}
use Prim.Native.Nat.{ℕ, suc, ◌<◌}
use lib.ListN.{length}
use Rattle.model.specs.Jobs.{Book, emptied, empty_in}
use Rattle.model.specs.Advance.{Entry}
use Rattle.model.specs.Lists.{book}
use Rattle.model.specs.Refusals.{reportable, taken}
use Rattle.model.specs.Search.{bit}
use Rattle.model.specs.Task.{AllValid, Table}
use Rattle.model.specs.Working.{book_working, set_where, working_asked}
use Rattle.std.proofs.lemmas.Bool.{false_from_ne_true}
use Rattle.table.specs.Words.{table_of}
use Rattle.run.specs.Answer as declared
use Rattle.run.specs.Answer.{Taken, Refused}
use Rattle.run.specs.declared.Run.{Run}
use Rattle.run.specs.Answer.{answer_meaning, by_answer, shown_by}
use Rattle.run.specs.Numbers.{fifteen, late_at}
use Rattle.run.specs.Row.{row_answer}
use Rattle.run.specs.Start.{start_of}
use Rattle.run.specs.Working.{working_in, working_meaning, working_of}
use Rattle.run.proofs.Exact.{late-decides}
use Rattle.run.proofs.Working.{working-of}
use Rattle.refinement.specs.Entries.{run_after_list}
use Rattle.refinement.specs.Refines.{first_run}
use Rattle.refinement.specs.Working.{WorkingBook, WorkingHolds}
use Rattle.refinement.proofs.EmptiedRelated.{EmptiedRelated, below-count, same-reportable}
use Rattle.refinement.proofs.Refines.{sound, represented}
use Rattle.refinement.proofs.Related.{emptied-related}
use Rattle.refinement.proofs.Represents.{Represents, same-shown-by}

module _ (s : Table) (ok : AllValid s) (b : Book) (r : Run) (h : Represents s b r) (e : ℕ) where
  -- the book with the empty jobs ended
  abbrev c : Book
  c = emptied s (empty_in b e) b

  -- a run that represents a book has its set
  same_set : EmptiedRelated s c r e → working_in r e ≡ book_working s c
  same_set seen = λ i. set_where (h.related.table.same_count i) (λ p. same-reportable s ok c r e seen p i)

  -- the value beside the answer, alone in a list
  alone : (a : declared.Answer) (x : ℕ) → shown_by a (by_answer a x 0 ∷ []) ≡ shown_by a (by_answer a (x ∷ []) [])
  alone Taken x = refl
  alone (Refused n p) x = refl

  same-working : working_meaning (working_of r e) ≡ working_asked s b e
  unfolding working_of working_asked
  same-working =
      alone (row_answer r e) (working_in r e)
      ∙ same-shown-by s ok (λ d. book_working s d ∷ []) b r h e (working_in r e ∷ []) [] (λ seen. ap (λ (x : ℕ). x ∷ []) (same_set seen))

  same-each : answer_meaning (working_of r e).answer ≡ taken → (p : ℕ) → bit (working_of r e).set p ≡ reportable s c p
  same-each t p =
      let w = working-of r e (working_of r e) refl in
      let it : (q : ℕ) → q < length s.tasks → late_at r q ≡ false =
      λ q l. false_from_ne_true (late_at r q) (λ x. w.taken.0 t 15 (suc q) (fifteen q (below-count s r h.related.table q l) ((late-decides r q).0 x))) in
      w.each t p ∙ same-reportable s ok c r e (emptied-related s ok b r h.related it e) p

-- THEOREM (working-book): for every table that start takes, Firm and Full alike, and every list of entries
pub working-book : (ws : List ℕ) → answer_meaning (start_of ws).answer ≡ taken → (xs : List Entry) → WorkingBook ws xs
working-book ws t xs = same-working (table_of ws) (sound ws t) (book (table_of ws) xs) (run_after_list (first_run ws) xs) (represented ws t xs)

-- THEOREM (working-kept): and a position is in the set exactly if a report bit is admitted for it
pub working-kept : (ws : List ℕ) → answer_meaning (start_of ws).answer ≡ taken → (xs : List Entry) → WorkingHolds ws xs
working-kept ws t xs = same-each (table_of ws) (sound ws t) (book (table_of ws) xs) (run_after_list (first_run ws) xs) (represented ws t xs)
