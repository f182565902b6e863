-- Of every table and book: the sets of cores that a row shows never overlap, have no fenced core and none past the count, and have as many cores as their
-- job's width or none, but a place that may lend keeps what no place borrows, and has its width together with what is borrowed of it; and no task changes the
-- set of a task above it that has nothing to lend.
use mathlib.Core.Path.{◌≡◌, refl, sym, ap, ap₂, ◌∙◌}
use mathlib.Core.Logic.{◌⊎◌, inl, inr}
use mathlib.Core.Bool.{Bool, true, false, not, ◌&&◌, cond}
use mathlib.Core.List.{List, [], ◌++◌}
use Prim.Native.Nat.{ℕ, ◌≤◌, ◌<◌}
use lib.ListN.{length, get_or, get_or-map}
use borrow.Author.Tests.{not-true}
use Rattle.model.specs.Jobs.{Book}
use Rattle.model.specs.Claims.{borrowed, grants_of, in_row, lent_of, newest_ended, offer, seeks, shown_of, task_claims, widths}
use Rattle.model.specs.Lending.{lends}
use Rattle.model.specs.Local.{SameCoresAbove}
use Rattle.model.specs.Sets.{SetsApart, SetsCount, SetsUnfenced, set_of, book_sets}
use Rattle.model.specs.Task.{Table}
use Rattle.model.proofs.Bools.{and_right}
use Rattle.rule.proofs.Borrowed.{none-some}
use Rattle.rule.proofs.Tick.{tick-sets-apart, tick-sets-count, tick-sets-unfenced, tick-shows}

-- what is offered is what is given, or nothing; a place that seeks is given nothing
module _ (s : Table) (b : Book) where
  offers : (p : ℕ) → (offer s b p ≡ []) ⊎ (offer s b p ≡ get_or (grants_of s b) p [])
  unfolding offer
  offers p = go (lends s.rule && newest_ended s b p)
    where
      go : (t : Bool) → (cond t (get_or (grants_of s b) p []) [] ≡ []) ⊎ (cond t (get_or (grants_of s b) p []) [] ≡ get_or (grants_of s b) p [])
      go true = inr refl
      go false = inl refl

  seekers : (p : ℕ) → seeks s b p ≡ true → get_or (grants_of s b) p [] ≡ []
  unfolding seeks
  seekers p e =
      none-some (get_or (grants_of s b) p [])
      (not-true (in_row s b p) (and_right (task_claims s b p && not (newest_ended s b p)) (not (in_row s b p)) e))

  -- THE THEOREMS
  module _ (few : s.cores ≤ 64) where
    pub sets-apart : SetsApart (book_sets s b)
    sets-apart =
        tick-sets-apart s.rule (widths s b.tick) (task_claims s b) s.fence s.cores (seeks s b) (offer s b) (length s.tasks) seekers offers few

    pub sets-unfenced : SetsUnfenced s.fence s.cores (book_sets s b)
    sets-unfenced =
        tick-sets-unfenced s.rule (widths s b.tick) (task_claims s b) s.fence s.cores (seeks s b) (offer s b) (length s.tasks) seekers offers few

    pub sets-count : SetsCount (widths s b.tick) (offer s b) (lent_of s b) (book_sets s b)
    sets-count =
        tick-sets-count s.rule (widths s b.tick) (task_claims s b) s.fence s.cores (seeks s b) (offer s b) (length s.tasks) seekers offers few

  -- a place that has nothing to lend shows what it borrows, or what it is given
  keeps : (p : ℕ) → offer s b p ≡ [] → get_or (book_sets s b) p 0 ≡ set_of (borrowed s b p ++ get_or (grants_of s b) p [])
  unfolding borrowed set_of
  keeps p e =
      get_or-map set_of (shown_of s b) p []
      ∙ ap set_of (tick-shows s.rule (widths s b.tick) (task_claims s b) s.fence s.cores (seeks s b) (offer s b) (length s.tasks) seekers offers p e)

-- THE THEOREM: where positions 1 to n have the same cores in two books (`local-full`, `local-empty`, `local-lists`), one that has nothing to lend (no
-- cores are reserved for it as a holder: `offer` is empty) shows the same set in both. One that has may not, lent or not: `lending-sets`
pub local-sets :
    (n : ℕ) (s s' : Table) (b b' : Book) → SameCoresAbove n s b s' b' → (p : ℕ) → p < n → offer s b p ≡ []
    → get_or (book_sets s b) p 0 ≡ get_or (book_sets s' b') p 0
local-sets n s s' b b' h p l e =
    keeps s b p e
    ∙ (ap₂ (λ (x y : List ℕ). set_of (x ++ y)) (h.borrows p l) (h.lists p l) ∙ sym (keeps s' b' p (sym (h.offers p l) ∙ e)))
