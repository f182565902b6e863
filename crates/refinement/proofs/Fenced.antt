-- FENCED: a started run with a fence gives the answers of the table with just its unfenced cores, and that table's rows spread over them.
use mathlib.Core.Bool.{Bool, true, false, cond}
use mathlib.Core.List.{List}
use mathlib.Core.Path.{◌≡◌, refl, ap, ◌∙◌}
use Prim.Native.Nat.{ℕ, suc}
use lib.Dec.{ltb}
use lib.ListN.{length}
use Rattle.model.specs.Jobs.{Book, emptied, empty_in}
use Rattle.model.specs.Claims.{book_row}
use Rattle.model.specs.Advance.{Entry}
use Rattle.model.specs.Refusals.{asked, emptiable, first_late, late, wrong_empties, row_refused, shown, taken}
use Rattle.model.specs.Lists.{book}
use Rattle.model.specs.Fence.{unfenced_table}
use Rattle.model.specs.Task.{Table}
use Rattle.model.proofs.Fence.{fence-lists, fence-row}
use Rattle.table.specs.Words.{table_of}
use Rattle.run.specs.Answer.{asked_in64, answer_meaning}
use Rattle.run.specs.Start.{start_of}
use Rattle.refinement.specs.Fenced.{Fenced, spread_over}
use Rattle.refinement.proofs.Refines.{refines}

-- which places are late and which may be empty does not depend on the cores, and the row is spread
spread-asked : (s : Table) (b : Book) (e : ℕ) → asked s b e ≡ spread_over s (asked (unfenced_table s) b e)
unfolding asked late wrong_empties emptiable emptied
spread-asked s b e = go (ltb (first_late s b) (length s.tasks)) (wrong_empties s b e)
  where
    c : Book
    c = emptied s (empty_in b e) b

    go : (t u : Bool)
        → cond t (row_refused 15 (suc (first_late s b))) (cond u (row_refused 20 0) (shown (book_row s c)))
        ≡ spread_over s (cond t (row_refused 15 (suc (first_late s b))) (cond u (row_refused 20 0) (shown (book_row (unfenced_table s) c))))
    go true u = refl
    go false true = refl
    go false false = ap shown (fence-row s c)

-- THEOREM (fenced): for every table that start takes and every list of entries
pub fenced : (ws : List ℕ) → answer_meaning (start_of ws).answer ≡ taken → (xs : List Entry) → Fenced ws xs
fenced ws e xs = record {
  each-answer = (refines ws e xs).each-answer ∙ (fence-lists s xs).1;
  row-after = λ x.
      (refines ws e xs).row-after x
      ∙ ap asked_in64 (spread-asked s (book s xs) x ∙ ap (λ (b : Book). spread_over s (asked (unfenced_table s) b x)) (fence-lists s xs).0);
}
  where
    s : Table
    s = table_of ws
