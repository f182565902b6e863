-- Ticks had and ticks claimed of a job that has not ended: under rules 1 to 3 they are equal (request 109), under every rule it has had no fewer; and a job
-- that has ended and is not empty has had a tick.
use mathlib.Core.Bool.{◌&&◌, ◌||◌, Bool, cond, false, false≢true, true}
use mathlib.Core.List.{List, [], ◌∷◌}
use mathlib.Core.Path.{refl, subst, sym, ◌≡◌}
use Prim.Native.Nat.{◌<◌, ℕ, ◌≤◌}
use native.Mathlib.Omega.{arith}
use lib.ListN.{length}
use Rattle.model.proofs.Bools.{or_left_false, or_right_false}
use Rattle.model.proofs.Jobs.{even-next, start-even}
use Rattle.model.proofs.Lending.{not-borrowing, offer-none}
use Rattle.model.proofs.Runs.{Move, book-run, bounds-book, moved, moves_of, run}
use Rattle.model.specs.Jobs.{Book, Job, emptied, empty_book, empty_in, released_now}
use Rattle.model.specs.Claims.{borrowing, served}
use Rattle.model.specs.Advance.{step, Entry, advance, withdraw, withdraw_all, work, work_lent, advanced, after_taken, singleton, with_withdrawn}
use Rattle.model.specs.Refusals.{Answer, answer, refused, taken}
use Rattle.model.specs.Lists.{book, book_from, emptied_by, empty_from, empty_job, enter, entered}
use Rattle.model.specs.Search.{bit}
use Rattle.model.specs.Lending.{lends}
use Rattle.model.specs.Task.{AllValid, Table, task}

-- every job that has not ended has had as many ticks as it has claimed
abbrev pub Even : Book → Type 0
Even b = (p k : ℕ) → (b.job p k).ended ≡ false → (b.job p k).claimed ≡ (b.job p k).had

pub even-emptied : (s : Table) (e : ℕ → Bool) (b : Book) → Even b → Even (emptied s e b)
unfolding emptied
even-emptied s e b g p k = start-even (e p && released_now s b p k) (b.job p k) (g p k)

module _ (s : Table) (keeps : lends s.rule ≡ false) where
  pub even_step : (f : ℕ → Bool) (b : Book) → Even b → Even (step s f b)
  unfolding step
  even_step f b g p k =
      rw (not-borrowing s b (offer-none s b keeps) p k)
      (even-next (task s p).length (f p) (served s b p k) (b.job p k).had (b.job p k).claimed (b.job p k).ended (g p k))

  even-run : (ms : List Move) (b : Book) → Even b → Even (run s b ms)
  unfolding run
  even-run [] b e = e
  even-run (m ∷ ms) b e = even-run ms (moved s m b) (even_step m.reports (emptied s m.empties b) (even-emptied s m.empties b e))

  -- THE LAW, of every list
  pub even-book : (xs : List Entry) → Even (book s xs)
  even-book xs = subst Even (sym (book-run s xs)) (even-run (moves_of s xs) empty_book (λ p k o. refl))

-- under rule 4 too it has had no fewer than it has claimed, for a lent tick is had and not claimed
pub claimed-had :
    (s : Table) → AllValid s → (xs : List Entry) (p k : ℕ) → p < length s.tasks
    → ((book s xs).job p k).ended ≡ false → ((book s xs).job p k).claimed ≤ ((book s xs).job p k).had
claimed-had s ok xs p k l = (bounds-book s ok xs p k l).claimed-had

-- A JOB THAT HAS ENDED AND IS NOT EMPTY HAS HAD A TICK (scope: the shortest job has one tick)

-- a line with this property
abbrev Worked : Job → Type 0
Worked j = j.ended ≡ true → 1 ≤ j.had

worked-work : (C : ℕ) (f : Bool) (h c : ℕ) (e : Bool) → (e ≡ true → 1 ≤ h) → Worked (work C f (record { had = h; claimed = c; ended = e }))
unfolding work
worked-work C f h c true w x = w refl
worked-work C f h c false w x = omega arith

worked-lent : (C : ℕ) (f : Bool) (h c : ℕ) (e : Bool) → (e ≡ true → 1 ≤ h) → Worked (work_lent C f (record { had = h; claimed = c; ended = e }))
unfolding work_lent
worked-lent C f h c true w x = w refl
worked-lent C f h c false w x = omega arith

module _ (s : Table) (p k : ℕ) where
  worked-step : (f : ℕ → Bool) (b : Book) → Worked (b.job p k) → Worked ((step s f b).job p k)
  unfolding step
  worked-step f b w = go (served s b p k) (borrowing s b p k)
    where
      C : ℕ
      C = (task s p).length

      j : Job
      j = b.job p k

      go : (a c : Bool) → Worked (cond a (work C (f p) j) (cond c (work_lent C (f p) j) j))
      go true c = worked-work C (f p) j.had j.claimed j.ended w
      go false true = worked-lent C (f p) j.had j.claimed j.ended w
      go false false = w

  -- an advance that does not enter the job as empty
  worked-emptied : (e : ℕ → Bool) (b : Book) → e p && released_now s b p k ≡ false → Worked (b.job p k) → Worked ((emptied s e b).job p k)
  unfolding emptied
  worked-emptied e b n w = rw n w

  worked-from : (xs : List Entry) (b : Book) → empty_from s b xs p k ≡ false → Worked (b.job p k) → Worked ((book_from s b xs).job p k)
  unfolding book_from empty_from enter after_taken
  worked-from [] b n w = w
  worked-from (x ∷ xs) b n w = go x (answer s b x) (worked-from xs) n
    where
      go : (x : Entry) (a : Answer)
          → ((b : Book) → empty_from s b xs p k ≡ false → Worked (b.job p k) → Worked ((book_from s b xs).job p k))
          → emptied_by s b x a p k || empty_from s (entered a (after_taken s x b) b) xs p k ≡ false
          → Worked ((book_from s (entered a (after_taken s x b) b) xs).job p k)
      go (advance x e) taken ih n =
          ih (advanced s (bit x) (empty_in b e) b)
          (or_right_false (empty_in b e p && released_now s b p k) (empty_from s (advanced s (bit x) (empty_in b e) b) xs p k) n)
          (worked-step (bit x) (emptied s (empty_in b e) b)
          (worked-emptied (empty_in b e) b
          (or_left_false (empty_in b e p && released_now s b p k) (empty_from s (advanced s (bit x) (empty_in b e) b) xs p k) n) w))
      go (advance x e) (refused m q) ih n = ih b n w
      go (withdraw q) taken ih n = ih (with_withdrawn (singleton q) b) n w
      go (withdraw q) (refused m r) ih n = ih b n w
      go (withdraw_all x) taken ih n = ih (with_withdrawn x b) n w
      go (withdraw_all x) (refused m r) ih n = ih b n w

  -- THE LAW, of every list
  pub ended-worked : (xs : List Entry) → empty_job s xs p k ≡ false → ((book s xs).job p k).ended ≡ true → 1 ≤ ((book s xs).job p k).had
  ended-worked xs n = worked-from xs empty_book n (λ e. absurd (false≢true e))
