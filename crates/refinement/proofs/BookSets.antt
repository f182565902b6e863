-- SETS AND THE BOOK: the sets of cores of a started run, taken through a list of entries, are the book's, whatever jobs are empty; and the contract of a run's
-- sets holds of them in the book's words.
use mathlib.Core.Path.{◌≡◌, refl, sym, ap, ap₂, subst₂, ◌∙◌}
use mathlib.Core.Bool.{Bool, true, false, not, ◌&&◌, ◌||◌, cond}
use mathlib.Core.Logic.{◌⊎◌, inl, inr}
use mathlib.Core.List.{List, map}
use Prim.Native.Nat.{ℕ, suc, ◌<◌}
use lib.ListN.{length, get_or}
use lib.Dec.{ltb}
use Rattle.model.specs.Jobs.{Book, emptied, empty_in}
use Rattle.model.specs.Claims.{borrows, in_row, lent_of, newest_ended, offer}
use Rattle.model.specs.Advance.{Entry}
use Rattle.model.specs.Refusals.{first_late, wrong_empties, row_refused, shown}
use Rattle.model.specs.Lists.{book}
use Rattle.model.specs.Claims.{shown_of, task_claims, widths}
use Rattle.model.specs.Refusals.{taken}
use Rattle.model.specs.Sets.{SetsCount, SetsUnfenced, set_of, sets_asked}
use Rattle.model.specs.Sets as model
use Rattle.model.specs.Task.{AllValid, Table}
use Rattle.model.proofs.Bools.{and_left}
use Rattle.std.proofs.lemmas.Bool.{false_from_ne_true}
use Rattle.table.specs.Words.{table_of}
use Rattle.table.proofs.Decide.{fails}
use Rattle.run.specs.declared.Run.{Run}
use Rattle.run.specs.Sets.{Sets}
use Rattle.run.specs.Answer.{by_answer, answer_meaning}
use Rattle.run.specs.Numbers.{RowApplies, RunOut, fifteen, fourteen, late_at, run_out, twenty}
use Rattle.run.specs.Row.{no_bytes, row_of}
use Rattle.run.specs.Sets.{SetsOf, asked_in32, bytes_of, in32, no_sets, sets_in, sets_of, sets_meaning}
use Rattle.run.specs.Start.{start_of}
use Rattle.run.proofs.Exact.{late-decides}
use Rattle.run.proofs.Limits.{passes-runs, run-decides}
use Rattle.run.proofs.RunSets.{sets_of_lem}
use Rattle.refinement.specs.Entries.{run_after_list}
use Rattle.refinement.specs.Refines.{first_run}
use Rattle.refinement.specs.Sets.{SetsBook, SetsHold, SetsKept}
use Rattle.refinement.proofs.Refines.{sound, represented}
use Rattle.refinement.proofs.EmptiedRelated.{EmptiedRelated, SameTable, below-count, claims-below, open-works, same-cores-at, same-lent, same-lent-at, same-offer, same-shown, same-widths}
use Rattle.refinement.proofs.Related.{emptied-related}
use Rattle.refinement.proofs.Represents.{Represents, same-shown-by}

-- a run that represents a book gives its sets
same-sets : (s : Table) → AllValid s → (b : Book) (r : Run) → Represents s b r → (e : ℕ) → sets_meaning (sets_of r e) ≡ asked_in32 (sets_asked s b e)
unfolding sets_of sets_asked sets_in
same-sets s ok b r h e =
    same-shown-by s ok (λ c. in32 (model.book_sets s c)) b r h e (sets_in r e) no_sets
    (λ seen. ap (λ (gs : List (List ℕ)). in32 (map set_of gs)) (same-shown s ok (emptied s (empty_in b e) b) r e seen))
    ∙ padded (ltb (first_late s b) (length s.tasks)) (wrong_empties s b e)
  where
    padded : (t u : Bool)
        → cond t (row_refused 15 (suc (first_late s b))) (cond u (row_refused 20 0) (shown (in32 (model.book_sets s (emptied s (empty_in b e) b)))))
        ≡ asked_in32 (cond t (row_refused 15 (suc (first_late s b))) (cond u (row_refused 20 0) (shown (model.book_sets s (emptied s (empty_in b e) b)))))
    padded true u = refl
    padded false true = refl
    padded false false = refl

-- THEOREM (sets-book): for every table that start takes, Firm and Full alike, and every list of entries
pub sets-book : (ws : List ℕ) → answer_meaning (start_of ws).answer ≡ taken → (xs : List Entry) → SetsBook ws xs
sets-book ws e xs = same-sets (table_of ws) (sound ws e) (book (table_of ws) xs) (run_after_list (first_run ws) xs) (represented ws e xs)

-- THE CONTRACT OF A RUN'S SETS, for one that represents a book

module _ (s : Table) (ok : AllValid s) (b : Book) (r : Run) (h : Represents s b r) (e : ℕ) (w : Sets) (o : SetsOf r e w) where
  -- the book with the empty jobs ended
  abbrev c : Book
  c = emptied s (empty_in b e) b

  same : SameTable s r
  same = h.related.table

  -- 14 never turns the run down
  numbers : (n p : ℕ) → RowApplies r e n p → (n ≡ 15) ⊎ (n ≡ 20)
  numbers n p (fourteen x) = absurd (fails (run_out r) (RunOut r) (run-decides r) (passes-runs r h.passes) x)
  numbers n p (fifteen q l x) = inl refl
  numbers n p (twenty q x) = inr refl

  module _ (t : answer_meaning w.answer ≡ taken) where
    -- no task is late, so the run as it is seen is related to the book
    seen : EmptiedRelated s c r e
    seen = emptied-related s ok b r h.related it e
      where
        it : (p : ℕ) → p < length s.tasks → late_at r p ≡ false
        it p l = false_from_ne_true (late_at r p) (λ x. o.taken.0 t 15 (suc p) (fifteen p (below-count s r same p l) ((late-decides r p).0 x)))

    book-sets : w.sets ≡ in32 (map set_of (shown_of s c))
    unfolding sets_in
    book-sets = o.sets t ∙ ap (λ (gs : List (List ℕ)). in32 (map set_of gs)) (same-shown s ok c r e seen)

    book-count : SetsCount (widths s c.tick) (offer s c) (lent_of s c) w.sets
    book-count =
        coe 0 1 (i. SetsCount (same-widths s ok c r e seen i) (λ q. same-offer s ok c r e seen q i) (same-lent s ok c r e seen i) w.sets) (o.count t)

    book-works : (p : ℕ) → task_claims s c p && not (newest_ended s c p) ≡ true → (in_row s c p || borrows s c p) ≡ ltb 0 (get_or w.sets p 0)
    book-works p q =
        let l : p < length s.tasks = claims-below s ok c r e seen p (and_left (task_claims s c p) (not (newest_ended s c p)) q) in
        ap₂ (λ (x y : Bool). x || y) (sym (same-cores-at s ok c r e seen p)) (sym (same-lent-at s ok c r e seen p))
        ∙ o.works t p (sym (open-works s ok c r e seen p l) ∙ q)

  kept : SetsKept s c w (row_of r e).bytes
  kept = record {
    refused = λ n p q. (numbers n p ((o.refused n p).0 q).0, o.zeros n p q);
    sets = book-sets;
    size = o.size;
    past = λ p l. o.past p (rw same.same_count l);
    apart = o.apart;
    unfenced-only = subst₂ (λ (f m : ℕ). SetsUnfenced f m w.sets) same.same-fence same.same-cores o.unfenced-only;
    count = book-count;
    works = book-works;
    each = o.each;
    bytes =
        o.bytes ∙ ap₂ (λ (f m : ℕ). by_answer w.answer (bytes_of f m w.sets) no_bytes) same.same-fence same.same-cores;
  }

-- THEOREM (sets-kept): for every table that start takes, every list of entries and every set of empty jobs
pub sets-kept : (ws : List ℕ) → answer_meaning (start_of ws).answer ≡ taken → (xs : List Entry) → SetsHold ws xs
sets-kept ws t xs e =
    let r = run_after_list (first_run ws) xs in
    kept (table_of ws) (sound ws t) (book (table_of ws) xs) r (represented ws t xs) e (sets_of r e) (sets_of_lem r e (sets_of r e) refl)
