-- The firm rules are predictable for shorter jobs: what holds of every list of advances and withdrawals on a firm table, refused ones included.
use mathlib.Core.Bool.{Bool, cond, false, true, true≢false}
use mathlib.Core.List.{List}
use mathlib.Core.Path.{ap, refl, subst, sym, ◌∙◌, ◌≡◌}
use Prim.Native.Nat.{◌<◌, ℕ, ◌≤◌}
use native.Mathlib.Nat.{le_dest, le_of_eq}
use native.Mathlib.Omega.{arith}
use lib.Dec.{ltb}
use lib.ListN.{length, replicate}
use borrow.Author.Tests.{ltb-true}
use Rattle.std.proofs.lemmas.Bool.{false_from_ne_true, true_from_ne_false}
use Rattle.model.proofs.FullLength.{full-length, late-job}
use Rattle.model.proofs.Lending.{not-lending}
use Rattle.model.proofs.Runs.{full-stays, missed-at}
use Rattle.model.proofs.Search.{least-found}
use Rattle.model.proofs.Sustain.{sustained-lists, finished, none-behind}
use Rattle.model.proofs.Verdict.{verdict-exact}
use Rattle.model.specs.Jobs.{Book, emptied, empty_in}
use Rattle.model.specs.Advance.{Entry, advance}
use Rattle.model.specs.Refusals.{Answer, Asked, answer, asked, asked_by, first_late, late}
use Rattle.model.specs.Lists.{NeverMissed, book, full}
use Rattle.model.specs.Claims.{book_row}
use Rattle.model.specs.Advance.{withdraw, withdraw_all}
use Rattle.model.specs.Refusals.{wrong_empties, wrong_reports, refused, row_refused, shown, taken, unknown_position, unknown_positions}
use Rattle.model.specs.Lists.{no_reports}
use Rattle.model.specs.Compare.{NoneBehind}
use Rattle.model.specs.FirmGuarantee.{FirmGuarantee}
use Rattle.model.specs.Sets.{sets_asked, book_sets}
use Rattle.model.specs.Task.{AllValid, Table, due, task}
use Rattle.model.specs.Firm.{FirmRule, firm}
use Rattle.model.specs.Verdict.{Firm, verdict}

module _ (s : Table) (ok : AllValid s) (firmly : FirmRule s) (accepted : NeverMissed s) where
  -- a job that is due has ended
  met-due : (xs : List Entry) (p k : ℕ) → p < length s.tasks → due (task s p) k ≤ (book s xs).tick → ((book s xs).job p k).ended ≡ true
  met-due xs p k l h =
      let d = le_dest h in
      let met : ((full s (due (task s p) k)).job p k).ended ≡ true =
      true_from_ne_false ((full s (due (task s p) k)).job p k).ended (λ o. accepted p (due (task s p) k) (missed-at s p (due (task s p) k) k l refl o)) in
      finished s ok firmly xs p k l
      (subst (λ (n : ℕ). ((full s n).job p k).ended ≡ true) d.1 (full-stays s (due (task s p) k) d.0 p k met))

  -- so no task is late
  none-late : (xs : List Entry) → ltb (first_late s (book s xs)) (length s.tasks) ≡ false
  none-late xs = false_from_ne_true (ltb (first_late s (book s xs)) (length s.tasks)) (λ e.
      let l = ltb-true (first_late s (book s xs)) (length s.tasks) e in
      let x = late-job s (book s xs) (first_late s (book s xs)) (least-found (length s.tasks) (late s (book s xs)) l) in
      true≢false (sym (met-due xs (first_late s (book s xs)) x.0 l x.1) ∙ x.2))

  -- an answer's number
  number : Answer → ℕ
  number taken = 0
  number (refused n p) = n

  refusal_number : Asked → ℕ
  refusal_number (shown r) = 0
  refusal_number (row_refused n p) = n

  no-15-out : (u v : Bool) → number (cond u (cond v (refused 22 0) taken) (refused 21 0)) ≡ 15 → ⊥
  unfolding number
  no-15-out false v q = omega arith
  no-15-out true true q = omega arith
  no-15-out true false q = omega arith

  no-15 : (xs : List Entry) (x : Entry) (p : ℕ) → ¬ (answer s (book s xs) x ≡ refused 15 p)
  unfolding answer number
  no-15 xs (advance x g) p e =
      let b : Book = book s xs in
      go (wrong_empties s b g) (wrong_reports s (emptied s (empty_in b g) b) x) (rw (none-late xs) at (ap number e))
    where
      go : (u v : Bool) → number (cond u (refused 20 0) (cond v (refused 16 0) taken)) ≡ 15 → ⊥
      go true v q = omega arith
      go false true q = omega arith
      go false false q = omega arith
  no-15 xs (withdraw q) p e = no-15-out (firm s.rule s.tasks) (unknown_position s q) (ap number e)
  no-15 xs (withdraw_all x) p e = no-15-out (firm s.rule s.tasks) (unknown_positions s x) (ap number e)

  no-15-shown : (show : Book → List ℕ) (xs : List Entry) (e p : ℕ) → ¬ (asked_by show s (book s xs) e ≡ row_refused 15 p)
  unfolding refusal_number
  no-15-shown show xs e p q = go (wrong_empties s (book s xs) e) (show (emptied s (empty_in (book s xs) e) (book s xs))) (rw (none-late xs) at (ap refusal_number q))
    where
      go : (u : Bool) (r : List ℕ) → refusal_number (cond u (row_refused 20 0) (shown r)) ≡ 15 → ⊥
      go true r q = omega arith
      go false r q = omega arith

  -- the full-length run is the book of empty sets, at every tick
  scope-full : (n : ℕ) → book s (replicate n no_reports) ≡ full s n
  scope-full n = full-length s n (λ q t g. accepted q t)

  -- THE THEOREM
  pub firm-kept : (xs : List Entry) → FirmGuarantee s xs
  firm-kept xs = record {
    sustainable = λ other ys e nl. (sustained-lists s ok (not-lending s.rule other) firmly xs ys e nl).near;
    not_behind = subst (NoneBehind s (book s xs)) (sym (scope-full (book s xs).tick)) (none-behind s ok firmly xs);
    finished = λ p k l e. finished s ok firmly xs p k l (subst (λ (b : Book). (b.job p k).ended ≡ true) (scope-full (book s xs).tick) e);
    met = λ ys zs e p m. true≢false (sym (met-due ys p m.1.0 m.0 (le_of_eq m.1.1)) ∙ m.1.2);
    never-15 = no-15 xs;
    never-15-row = unfold asked in no-15-shown (book_row s) xs;
    never-15-sets = unfold sets_asked in no-15-shown (book_sets s) xs;
  }

-- the same from the verdict
pub firm-verdict : (s : Table) → AllValid s → (a b : ℕ) → verdict s ≡ Firm a b → (xs : List Entry) → FirmGuarantee s xs
firm-verdict s ok a b e = let x = ((verdict-exact s ok).firm a b).0 e in firm-kept s ok x.1 x.0
