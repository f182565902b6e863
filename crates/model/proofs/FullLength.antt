-- The model's full-length run is the scope's: the book of a list whose sets are all empty, up to the first miss. And a task with C above D misses.
use mathlib.Core.Bool.{◌&&◌, Bool, cond, false, not, true, true≢false}
use mathlib.Core.Logic.{◌↔◌, ⊎_elim}
use mathlib.Core.Path.{ap, refl, subst, sym, ◌∙◌, ◌≡◌}
use Prim.Native.Nat.{◌+◌, ◌<◌, suc, suc-le-suc, zero, ℕ, ◌≤◌}
use native.Mathlib.Nat.{add-suc, add-zero, eq-or-lt_of_le, le_dest, le_of_eq, le_of_suc-le-suc, le_trans, not-suc-le-zero, zero-add}
use native.Mathlib.Omega.{arith}
use lib.Dec.{leb, ltb}
use lib.ListN.{length, replicate}
use borrow.Author.Tests.{le-ltb, leb-true, not-true}
use Rattle.model.proofs.Bools.{and_left, and_right}
use Rattle.std.proofs.lemmas.Bool.{false_from_ne_true}
use Rattle.model.proofs.Jobs.{mk, next}
use Rattle.model.proofs.Runs.{full-fresh, full-next, full-stays, full-tick, full-whole, full-withdrawn, missed-at, still-advance}
use Rattle.model.proofs.Search.{any_some, least-none, none_any}
use Rattle.model.specs.Jobs.{Book, Job, empty_in}
use Rattle.model.specs.Claims.{served}
use Rattle.model.specs.Advance.{step, work, advanced, after_taken}
use Rattle.model.specs.Refusals.{answer, first_late}
use Rattle.model.specs.Lists.{Missed, Misses, NeverMissed, book, book_from, enter, entered, full}
use Rattle.model.specs.Refusals.{late, wrong_empties, wrong_reports, refused, taken}
use Rattle.model.specs.Lists.{no_places, no_reports}
use Rattle.model.specs.Search.{any, bit}
use Rattle.model.specs.Task.{Table, due, release, task}

-- a late place has a job that is due and has not ended
pub late-job : (s : Table) (b : Book) (p : ℕ) → late s b p ≡ true → (k : ℕ) × (due (task s p) k ≤ b.tick) × ((b.job p k).ended ≡ false)
unfolding late
late-job s b p h = go (any_some (suc b.tick) (λ k. leb (due (task s p) k) b.tick && not (b.job p k).ended) h)
  where
    go : (k : ℕ) × (k < suc b.tick) × (leb (due (task s p) k) b.tick && not (b.job p k).ended ≡ true)
        → (k : ℕ) × (due (task s p) k ≤ b.tick) × ((b.job p k).ended ≡ false)
    go (k, l, e) = (
      k,
      leb-true (due (task s p) k) b.tick (and_left (leb (due (task s p) k) b.tick) (not (b.job p k).ended) e),
      not-true (b.job p k).ended (and_right (leb (due (task s p) k) b.tick) (not (b.job p k).ended) e),
    )

-- where no place is late, an advance with empty sets is taken
none-late : (s : Table) (b : Book) → ((p : ℕ) → p < length s.tasks → late s b p ≡ false) → ltb (first_late s b) (length s.tasks) ≡ false
none-late s b h =
    le-ltb (first_late s b) (length s.tasks)
    (le_of_eq (sym (least-none (length s.tasks) (late s b) (none_any (length s.tasks) (late s b) h))))

none-taken : (s : Table) (b : Book) → ((p : ℕ) → p < length s.tasks → late s b p ≡ false) → answer s b no_reports ≡ taken
unfolding answer wrong_empties wrong_reports any
none-taken s b h = rw (none-late s b h)

enter-none : (s : Table) (n : ℕ) → ((p : ℕ) → p < length s.tasks → late s (full s n) p ≡ false) → enter s no_reports (full s n) ≡ full s (suc n)
unfolding enter full after_taken
enter-none s n h = rw (none-taken s (full s n) h) (still-advance s (full s n) (full-withdrawn s n))

go_on :
    (s : Table) (n m : ℕ) → ((t p : ℕ) → t < m + n → p < length s.tasks → late s (full s t) p ≡ false)
    → book_from s (full s m) (replicate n no_reports) ≡ full s (m + n)
unfolding book_from
go_on s zero m h = ap (full s) (sym (add-zero m))
go_on s (suc n) m h =
    ap (λ (b : Book). book_from s b (replicate n no_reports)) (enter-none s m (λ p l. h m p (omega arith) l))
    ∙ (go_on s n (suc m) (λ t p g l. h t p (omega arith) l) ∙ ap (full s) (omega arith))

-- a job that is late at t has missed its deadline, at t or before
late-missed : (s : Table) (t p : ℕ) → p < length s.tasks → late s (full s t) p ≡ true → (u : ℕ) × (u ≤ t) × Missed s p u
late-missed s t p l h =
    let x = late-job s (full s t) p h in
    let d : due (task s p) x.0 ≤ t = subst (λ (n : ℕ). due (task s p) x.0 ≤ n) (full-tick s t) x.1 in
    let y = le_dest d in (
      due (task s p) x.0,
      d,
      missed-at s p (due (task s p) x.0) x.0 l refl
          (false_from_ne_true ((full s (due (task s p) x.0)).job p x.0).ended (λ e.
          true≢false (sym (full-stays s (due (task s p) x.0) y.0 p x.0 e)
          ∙ subst (λ (n : ℕ). ((full s n).job p x.0).ended ≡ false) (sym y.1) x.2))),
    )

-- THE THEOREM: for every n up to and including the tick of the first miss, and for every n where there is none
pub full-length :
    (s : Table) (n : ℕ) → ((p t : ℕ) → t < n → ¬ Missed s p t)
    → book s (replicate n no_reports) ≡ full s n
unfolding full
full-length s n h = go_on s n 0 (λ t p g l. no_places t p (omega arith) l) ∙ ap (full s) (zero-add n)
  where
    no_places : (t p : ℕ) → t < n → p < length s.tasks → late s (full s t) p ≡ false
    no_places t p g l = false_from_ne_true (late s (full s t) p) (λ e. let x = late-missed s t p l e in h p x.0 (omega arith) x.2)

-- PAST A MISS the book of empty sets stays: it is always the full-length run at its own tick

-- an advance with empty sets, where no position is withdrawn, is taken if no task is late, and else refused
pub enter-empty : (s : Table) (b : Book) → b.withdrawn ≡ 0 → enter s no_reports b ≡ cond (ltb (first_late s b) (length s.tasks)) b (step s no_places b)
unfolding enter answer after_taken wrong_empties wrong_reports any
enter-empty s b w = go (ltb (first_late s b) (length s.tasks))
  where
    go : (t : Bool) → entered (cond t (refused 15 (suc (first_late s b))) taken) (advanced s (bit 0) (empty_in b 0) b) b ≡ cond t b (step s no_places b)
    go true = refl
    go false = still-advance s b w

pub empty-more :
    (s : Table) (n t : ℕ)
    → book_from s (full s t) (replicate (suc n) no_reports)
    ≡ book_from s (cond (ltb (first_late s (full s t)) (length s.tasks)) (full s t) (step s no_places (full s t))) (replicate n no_reports)
unfolding book_from
empty-more s n t = ap (λ (b : Book). book_from s b (replicate n no_reports)) (enter-empty s (full s t) (full-withdrawn s t))

stays-full : (s : Table) (n t : ℕ) → (u : ℕ) × (book_from s (full s t) (replicate n no_reports) ≡ full s u)
stays-full s zero t = unfold book_from in (t, refl)
stays-full s (suc n) t =
    let x = go (ltb (first_late s (full s t)) (length s.tasks)) (stays-full s n t) (stays-full s n (suc t)) in
    (x.0, empty-more s n t ∙ x.1)
  where
    go : (b : Bool)
        → (u : ℕ) × (book_from s (full s t) (replicate n no_reports) ≡ full s u)
        → (u : ℕ) × (book_from s (full s (suc t)) (replicate n no_reports) ≡ full s u)
        → (u : ℕ) × (book_from s (cond b (full s t) (step s no_places (full s t))) (replicate n no_reports) ≡ full s u)
    go true x y = x
    go false x y = unfold full in y

pub empty-full : (s : Table) (n : ℕ) → book s (replicate n no_reports) ≡ full s (book s (replicate n no_reports)).tick
unfolding full
empty-full s n =
    let x = stays-full s n 0 in
    x.1 ∙ ap (full s) (sym (ap (λ (b : Book). b.tick) x.1 ∙ full-tick s x.0))

-- so no deadline is ever missed exactly if none is in the book of any number of empty sets
pub never-missed-exact : (s : Table) → NeverMissed s ↔ ((n p : ℕ) → ¬ Misses s (book s (replicate n no_reports)) p)
never-missed-exact s = (
  λ nm n p m. nm p n (subst (λ (b : Book). Misses s b p) (full-length s n (λ q t h. nm q t)) m),
  λ no_places p t. below no_places (suc t) p t (omega arith),
)
  where
    below : ((n p : ℕ) → ¬ Misses s (book s (replicate n no_reports)) p) → (n p t : ℕ) → t < n → ¬ Missed s p t
    below no_places zero p t h = absurd (not-suc-le-zero h)
    below no_places (suc n) p t h =
        ⊎_elim
        (λ (e : t ≡ n). λ m. no_places n p (subst (λ (b : Book). Misses s b p) (sym (full-length s n (below no_places n))) (subst (λ (u : ℕ). Missed s p u) e m)))
        (λ (l : t < n). below no_places n p t l)
        (eq-or-lt_of_le (le_of_suc-le-suc h))

-- A TASK WITH C ABOVE D MISSES, with every job

-- a job has at most one tick more after a tick
next_one : (C : ℕ) (f u : Bool) (h c : ℕ) (e : Bool) → (next C f u (mk h c e)).had ≤ suc h
unfolding work
next_one C f true h c true = omega arith
next_one C f true h c false = omega arith
next_one C f false h c e = omega arith

-- so z ticks after its release it has had at most z
had-most : (s : Table) (p k z : ℕ) → ((full s (release (task s p) k + z)).job p k).had ≤ z
had-most s p k zero = rw add-zero (le_of_eq (ap (λ j. j.had) (full-fresh s (release (task s p) k) p k (omega arith))))
had-most s p k (suc z) = rw add-suc (le_trans more (suc-le-suc (had-most s p k z)))
  where
    n : ℕ
    n = release (task s p) k + z

    more : ((full s (suc n)).job p k).had ≤ suc ((full s n).job p k).had
    more =
        subst (λ (j : Job). j.had ≤ suc ((full s n).job p k).had) (sym (full-next s n p k))
        (next_one (task s p).length false (served s (full s n) p k) ((full s n).job p k).had ((full s n).job p k).claimed ((full s n).job p k).ended)

pub long-misses :
    (s : Table) (p : ℕ) → p < length s.tasks → (task s p).deadline < (task s p).length → (k : ℕ) → Missed s p (due (task s p) k)
long-misses s p l h k =
    missed-at s p (due (task s p) k) k l refl
    (false_from_ne_true ((full s (due (task s p) k)).job p k).ended (λ e.
    let whole = full-whole s (due (task s p) k) p k e in
    let most = had-most s p k (task s p).deadline in
    omega arith))
