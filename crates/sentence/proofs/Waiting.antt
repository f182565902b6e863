-- The late job of the first miss: which it is, that the book up to it is the full-length run, and the counts of its waiting ticks tick by tick.
use mathlib.Core.Path.{◌≡◌, refl, sym, ap, ◌∙◌, subst}
use mathlib.Core.Bool.{Bool, true, false, not, ◌&&◌, cond}
use mathlib.Core.List.{List, [], map}
use Prim.Native.Nat.{ℕ, suc, ◌+◌, ◌-◌, ◌≤◌, ◌<◌}
use native.Mathlib.Nat.{le_trans}
use native.Mathlib.Omega.{arith}
use lib.Dec.{leb}
use lib.ListN.{length, get_or, take, replicate, length-map, get_or-eq_default}
use lib.Seq.{get_or-take, length-take-le, ext_get_or}
use borrow.Author.Tests.{leb-true, leb-false, le-leb, lt-leb}
use Rattle.model.specs.Search.{bit, up_from}
use Rattle.model.specs.Task.{Table, AllValid, task, release, due}
use Rattle.model.specs.Jobs.{Book}
use Rattle.model.specs.Claims.{in_row, shown_of}
use Rattle.model.specs.Lists.{full, Missed}
use Rattle.model.specs.Grants.{some}
use Rattle.model.specs.Verdict.{FirstMiss}
use Rattle.model.proofs.FullLength.{empty-full, full-length}
use Rattle.model.proofs.Jobs.{newest-is}
use Rattle.model.proofs.Lists.{get_d-zeros, up-length, up_at, map_at}
use Rattle.model.proofs.Runs.{full-shown, full-tick}
use Rattle.sentence.specs.Facts.{named}
use Rattle.sentence.specs.Counting.{added, above}
use Rattle.sentence.specs.Waiting.{tally, book_at, release_of, late_job, had_by, waits, ran_while_waiting}
use Rattle.sentence.proofs.Adding.{added-at, added-length}
use Rattle.sentence.proofs.Naming.{named-behind}
use Rattle.sentence.proofs.Tallies.{tally-none, tally-more, tally-most}

-- THE LATE JOB

module _ (s : Table) (ok : AllValid s) (t p : ℕ) (f : FirstMiss s t (suc p)) where
  same_place : f.place.0 ≡ p
  same_place = omega (arith, f.place.1)

  pub missed_here : Missed s p t
  missed_here = subst (λ (q : ℕ). Missed s q t) same_place f.missed

  -- its number
  abbrev job : ℕ
  job = missed_here.1.0

  pub due-here : due (task s p) job ≡ t
  due-here = missed_here.1.1 ∙ full-tick s t

  -- it is due at t, so that it was released at t − D, and is the newest then
  pub released-here : release_of s t p ≡ release (task s p) job
  released-here = omega (arith, due-here)

  pub deadline-within : (task s p).deadline ≤ t
  deadline-within = omega (arith, due-here)

  pub late-job : late_job s t p ≡ job
  late-job =
      newest-is (task s p) job (release_of s t p) (ok p missed_here.0).constrained (omega (arith, released-here))
      (omega (arith, released-here, (ok p missed_here.0).deadline-pos))

  -- the book of empty report sets is the full-length run up to the miss
  pub same-book : (u : ℕ) → u ≤ t → book_at s u ≡ full s u
  same-book u l = full-length s u (λ q v h. f.no-earlier q v (le_trans h l))

  pub had-full : had_by s t p ≡ ((full s t).job p job).had
  had-full = ap (λ (b : Book). (b.job p (late_job s t p)).had) (same-book t (omega arith)) ∙ ap (λ (k : ℕ). ((full s t).job p k).had) late-job

-- THE TASKS THAT RUN: at full length no place lends, so that the places that are given cores are exactly those that the row shows, under rule 4 too
-- (nothing cites it: it states what `waits` of specs/Waiting says of a row)
pub shown-runs : (s : Table) (u q : ℕ) → some (get_or (shown_of s (book_at s u)) q []) ≡ in_row s (book_at s u) q
shown-runs s u q =
    ap (λ (b : Book). some (get_or (shown_of s b) q [])) (empty-full s u)
    ∙ (ap (λ (gs : List (List ℕ)). some (get_or gs q [])) (full-shown s (book_at s u).tick) ∙ ap (λ (b : Book). in_row s b q) (sym (empty-full s u)))

-- ITS WAITING TICKS

-- u is a waiting tick in which place q is in the row
abbrev pub ran_in : Table → ℕ → ℕ → ℕ → ℕ → Bool
ran_in s t p q u = waits s t p u && in_row s (book_at s u) q

-- what has been counted before a tick
pub record Counted (s : Table) (t p tick : ℕ) (ran : List ℕ) : Type 0 where
  pub size : length ran ≡ 32
  pub counts : (q : ℕ) → q < 32 → get_or ran q 0 ≡ tally tick (ran_in s t p q)

module _ (s : Table) (t p : ℕ) where
  pub counted_start : Counted s t p 0 (replicate 32 0)
  counted_start = record { size = refl; counts = λ q l. get_d-zeros 32 q ∙ sym (tally-none (ran_in s t p q)) }

  -- a tick that is no waiting tick
  pub counted-pass : (tick : ℕ) (ran : List ℕ) → Counted s t p tick ran → waits s t p tick ≡ false → Counted s t p (suc tick) ran
  counted-pass tick ran c e = record {
    size = c.size;
    counts = λ q l. c.counts q l ∙ sym (tally-more tick (ran_in s t p q) false (ap (λ (b : Bool). b && in_row s (book_at s tick) q) e));
  }

  -- a waiting tick, in which the places of a set are in the row
  pub counted-add :
      (tick granted : ℕ) (ran : List ℕ) → Counted s t p tick ran → waits s t p tick ≡ true → ((q : ℕ) → bit granted q ≡ in_row s (book_at s tick) q)
      → Counted s t p (suc tick) (added granted ran)
  counted-add tick granted ran c e g = record {
    size = added-length granted ran ∙ c.size;
    counts = λ q l.
        added-at granted ran q (omega (arith, c.size))
        ∙ (ap (λ (n : ℕ). cond (bit granted q) (n + 1) n) (c.counts q l)
        ∙ sym (tally-more tick (ran_in s t p q) (bit granted q) (ap (λ (b : Bool). b && in_row s (book_at s tick) q) e ∙ sym (g q))));
  }

  -- counts stay small
  pub counted-small : (tick : ℕ) (ran : List ℕ) → Counted s t p tick ran → (q : ℕ) → get_or ran q 0 ≤ tick
  counted-small tick ran c q = go (leb 32 q) refl
    where
      go : (b : Bool) → leb 32 q ≡ b → get_or ran q 0 ≤ tick
      go true e = omega (arith, get_or-eq_default ran 0 {n = q} (omega (arith, c.size, leb-true 32 q e)))
      go false e = omega (arith, c.counts q (leb-false 32 q e), tally-most tick (ran_in s t p q))

  -- which ticks are waiting ticks
  pub waits-before : (u : ℕ) → u < release_of s t p → waits s t p u ≡ false
  waits-before u l = ap (λ (b : Bool). b && not (in_row s (book_at s u) p)) (lt-leb (release_of s t p) u l)

  pub waits-after : (u : ℕ) (b : Bool) → release_of s t p ≤ u → in_row s (book_at s u) p ≡ b → waits s t p u ≡ not b
  waits-after u b l e = ap (λ (c : Bool). c && not (in_row s (book_at s u) p)) (le-leb (release_of s t p) u l) ∙ ap not e

  -- at the end the counts of the places above name those that ran
  pub counted-named : (ran : List ℕ) → Counted s t p t ran → p ≤ 32 → named (above p ran) ≡ named (map (ran_while_waiting s t p) (up_from 0 p))
  unfolding ran_while_waiting
  counted-named ran c l =
      named-behind 0 (take p ran) (replicate (32 - p) 0) (get_d-zeros (32 - p))
      ∙ ap named
      (ext_get_or 0 (take p ran) (map (ran_while_waiting s t p) (up_from 0 p)) (front ∙ sym (length-map (up_from 0 p) (ran_while_waiting s t p) ∙ up-length 0 p))
      (λ i h.
      let b : i < p = omega (arith, front) in
      get_or-take p ran i 0 b
      ∙ (c.counts i (omega arith)
      ∙ sym (map_at (ran_while_waiting s t p) (up_from 0 p) i 0 0 (omega (arith, up-length 0 p)) ∙ ap (ran_while_waiting s t p) (up_at 0 p i 0 b ∙ omega arith)))))
    where
      front : length (take p ran) ≡ p
      front = length-take-le p ran (omega (arith, c.size))
