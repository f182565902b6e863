-- Books as runs of advances that are all entered: their ticks, what holds of every line, and the book of a list as such a run.
use mathlib.Core.Bool.{◌&&◌, Bool, and-false, false, false≢true, true, ◌||◌}
use mathlib.Core.List.{List, [], ◌∷◌}
use mathlib.Core.Path.{ap, ap₂, fun_ext, refl, subst, sym, ◌∙◌, ◌≡◌}
use Prim.Native.Nat.{◌+◌, ◌<◌, suc, zero, ℕ, ◌≤◌}
use lib.Bits.{bit_or}
use native.Mathlib.Nat.{add-suc, add-zero, le_trans, zero-add}
use native.Mathlib.Omega.{arith}
use lib.ListN.{length, replicate}
use borrow.Author.Tests.{ne_eqb}
use Rattle.std.proofs.lemmas.Bool.{false_from_ne_true}
use Rattle.model.proofs.Digits.{bit-none}
use Rattle.model.proofs.Jobs.{LineBounds, after-release, bounds-fresh, mk, next, start-bounds, step-ended, step-bounds, step-whole}
use Rattle.model.proofs.Lending.{not-borrowing, offer-whole, shown-given}
use Rattle.model.specs.Jobs.{Book, Job, emptied}
use Rattle.model.specs.Claims.{borrowed, borrowing}
use Rattle.model.specs.Advance.{step, work, advanced, Entry, advance, after_taken}
use Rattle.model.specs.Refusals.{Answer, answer}
use Rattle.model.specs.Lists.{Missed, book, book_from}
use Rattle.model.specs.Jobs.{empty_book, empty_in, fresh}
use Rattle.model.specs.Claims.{grants_of, job_claims, offer}
use Rattle.model.specs.Advance.{singleton}
use Rattle.model.specs.Refusals.{refused}
use Rattle.model.specs.Lists.{enter, entered, full, keep, no_places, no_reports}
use Rattle.model.specs.Jobs.{released_now}
use Rattle.model.specs.Claims.{book_row, seeks, served, shown_of}
use Rattle.model.specs.Advance.{withdraw, withdraw_all, with_withdrawn}
use Rattle.model.specs.Refusals.{taken}
use Rattle.model.specs.Lists.{taken_from, taken_of}
use Rattle.model.specs.Row.{row}
use Rattle.model.specs.Search.{bit}
use Rattle.model.specs.Task.{AllValid, Table, due, release, task}

-- an advance by its tests: which jobs are reported, and which are empty
pub record Move : Type 0 where
  pub reports : ℕ → Bool
  pub empties : ℕ → Bool

-- the book after one, entered without a test whether it is refused
abbrev pub moved : Table → Move → Book → Book
moved s m b = advanced s m.reports m.empties b

-- and after several
unfoldable pub run : Table → Book → List Move → Book
run s b [] = b
run s b (m ∷ ms) = run s (moved s m b) ms

-- an advance's, with the withdrawn set w
abbrev pub move_with : ℕ → ℕ → ℕ → Move
move_with w x e = record { reports = bit x; empties = λ p. bit e p || bit w p }

-- those of a list: a withdrawal is none, and determines which jobs are empty in the advances that follow
unfoldable pub moves_with : ℕ → List Entry → List Move
moves_with w [] = []
moves_with w (advance x e ∷ xs) = move_with w x e ∷ moves_with w xs
moves_with w (withdraw p ∷ xs) = moves_with (bit_or w (singleton p)) xs
moves_with w (withdraw_all x ∷ xs) = moves_with (bit_or w x) xs

-- those of a list's taken entries
abbrev pub moves_of : Table → List Entry → List Move
moves_of s xs = moves_with 0 (taken_of s xs)

-- the book but for the withdrawn set, which nothing reads but the entries
abbrev pub lines : Book → Book
lines b = record { tick = b.tick; job = b.job; withdrawn = 0 }

pub full-tick : (s : Table) (n : ℕ) → (full s n).tick ≡ n
unfolding full step
full-tick s zero = refl
full-tick s (suc n) = ap suc (full-tick s n)

-- a job that has not ended when it is due misses its deadline
pub missed-at : (s : Table) (p t k : ℕ) → p < length s.tasks → due (task s p) k ≡ t → ((full s t).job p k).ended ≡ false → Missed s p t
missed-at s p t k l e o = (l, (k, e ∙ sym (full-tick s t), o))

-- before its release a job stays as it is
before-release : (s : Table) (f : ℕ → Bool) (b : Book) (p k : ℕ) → b.tick < release (task s p) k → (step s f b).job p k ≡ b.job p k
unfolding step served borrowing
before-release s f b p k h = rw off
  where
    off : job_claims s b p k ≡ false
    off = false_from_ne_true (job_claims s b p k) (λ e. let r = after-release s.rule (task s p) k b.tick (b.job p k) e in omega arith)

-- so it is fresh until then
pub full-fresh : (s : Table) (n p k : ℕ) → n ≤ release (task s p) k → (full s n).job p k ≡ fresh
unfolding full
full-fresh s zero p k h = refl
full-fresh s (suc n) p k h = before-release s no_places (full s n) p k (omega (arith, full-tick s n)) ∙ full-fresh s n p k (omega arith)

-- every line of a book is good
abbrev pub BookBounds : Table → Book → Type 0
BookBounds s b = (p k : ℕ) → p < length s.tasks → LineBounds (task s p).length (b.job p k)

module _ (s : Table) (ok : AllValid s) where
  pub bounds-step : (f : ℕ → Bool) (b : Book) → BookBounds s b → BookBounds s (step s f b)
  unfolding step
  bounds-step f b g p k l =
      step-bounds (task s p).length (f p) (served s b p k) (borrowing s b p k) (b.job p k).had (b.job p k).claimed (b.job p k).ended (g p k l)

  pub bounds-emptied : (e : ℕ → Bool) (b : Book) → BookBounds s b → BookBounds s (emptied s e b)
  unfolding emptied
  bounds-emptied e b g p k l = start-bounds (task s p).length (e p && released_now s b p k) (b.job p k) (g p k l)

  bounds-moved : (m : Move) (b : Book) → BookBounds s b → BookBounds s (moved s m b)
  bounds-moved m b g = bounds-step m.reports (emptied s m.empties b) (bounds-emptied m.empties b g)

  pub bounds-start : BookBounds s empty_book
  bounds-start p k l = bounds-fresh (task s p).length (ok p l).length-pos

  pub bounds-run : (ms : List Move) (b : Book) → BookBounds s b → BookBounds s (run s b ms)
  unfolding run
  bounds-run [] b g = g
  bounds-run (m ∷ ms) b g = bounds-run ms (moved s m b) (bounds-moved m b g)

  pub bounds-full : (n : ℕ) → BookBounds s (full s n)
  unfolding full
  bounds-full zero = bounds-start
  bounds-full (suc n) = bounds-step no_places (full s n) (bounds-full n)

-- the full-length run is the run of empty sets
abbrev pub still_move : Move
still_move = record { reports = no_places; empties = no_places }

step-last : (s : Table) (n : ℕ) (b : Book) → run s (step s no_places b) (replicate n still_move) ≡ step s no_places (run s b (replicate n still_move))
unfolding run emptied
step-last s zero b = refl
step-last s (suc n) b = step-last s n (step s no_places b)

pub full-run : (s : Table) (n : ℕ) → run s empty_book (replicate n still_move) ≡ full s n
unfolding run full emptied
full-run s zero = refl
full-run s (suc n) = step-last s n empty_book ∙ ap (step s no_places) (full-run s n)

-- in the full-length run no position is withdrawn
pub full-withdrawn : (s : Table) (n : ℕ) → (full s n).withdrawn ≡ 0
unfolding full step
full-withdrawn s zero = refl
full-withdrawn s (suc n) = full-withdrawn s n

-- where no position is withdrawn no bit of the empty set names an empty job, so an advance whose sets are both empty is a step with no report
pub still-emptied : (s : Table) (b : Book) → b.withdrawn ≡ 0 → emptied s (empty_in b 0) b ≡ b
unfolding emptied
still-emptied s b w = ap (λ (f : ℕ → Bool). emptied s f b) (fun_ext absent_task)
  where
    absent_task : (p : ℕ) → empty_in b 0 p ≡ false
    absent_task p = rw (w, bit-none p)

pub still-advance : (s : Table) (b : Book) → b.withdrawn ≡ 0 → advanced s (bit 0) (empty_in b 0) b ≡ step s no_places b
still-advance s b w = ap₂ (λ (f : ℕ → Bool) (c : Book). step s f c) (fun_ext bit-none) (still-emptied s b w)

-- every job that has ended in a book has had C ticks
abbrev pub WholeBook : Table → Book → Type 0
WholeBook s b = (p k : ℕ) → (b.job p k).ended ≡ true → (task s p).length ≤ (b.job p k).had

whole-step : (s : Table) (b : Book) → WholeBook s b → WholeBook s (step s no_places b)
unfolding step
whole-step s b w p k =
    step-whole (task s p).length (served s b p k) (borrowing s b p k) (b.job p k).had (b.job p k).claimed (b.job p k).ended (w p k)

-- in it a job ends only at C ticks, and stays ended
pub full-whole : (s : Table) (n : ℕ) → WholeBook s (full s n)
unfolding full
full-whole s zero p k e = absurd (false≢true e)
full-whole s (suc n) p k e = whole-step s (full s n) (full-whole s n) p k e

-- and so in the book of empty sets, past a miss too
whole_from : (s : Table) (n : ℕ) (b : Book) → b.withdrawn ≡ 0 → WholeBook s b → WholeBook s (book_from s b (replicate n no_reports))
unfolding book_from enter after_taken
whole_from s zero b o w = w
whole_from s (suc n) b o w = whole_from s n (enter s no_reports b) (out (answer s b no_reports)) (go (answer s b no_reports))
  where
    out : (a : Answer) → (entered a (advanced s (bit 0) (empty_in b 0) b) b).withdrawn ≡ 0
    out taken = unfold step emptied in o
    out (refused n p) = o

    go : (a : Answer) → WholeBook s (entered a (advanced s (bit 0) (empty_in b 0) b) b)
    go taken = subst (WholeBook s) (sym (still-advance s b o)) (whole-step s b w)
    go (refused n p) = w

pub whole-empty : (s : Table) (n : ℕ) → WholeBook s (book s (replicate n no_reports))
whole-empty s n = whole_from s n empty_book refl (λ p k e. absurd (false≢true e))

-- the ticks claimed are no fewer than those had: no place lends, since a job that has ended has claimed C ticks
had-claimed : (C : ℕ) (f s : Bool) (h c : ℕ) (e : Bool) → h ≤ c → (next C f s (mk h c e)).had ≤ (next C f s (mk h c e)).claimed
unfolding work
had-claimed C f false h c e l = l
had-claimed C f true h c true l = omega arith
had-claimed C f true h c false l = omega arith

pub full-had : (s : Table) (n p k : ℕ) → ((full s n).job p k).had ≤ ((full s n).job p k).claimed
unfolding full step
full-had s zero p k = omega arith
full-had s (suc n) p k = go (full-had s n)
  where
    go : ((p k : ℕ) → ((full s n).job p k).had ≤ ((full s n).job p k).claimed) → ((full s (suc n)).job p k).had ≤ ((full s (suc n)).job p k).claimed
    go ih =
        let whole : (p k : ℕ) → ((full s n).job p k).ended ≡ true → (task s p).length ≤ ((full s n).job p k).claimed =
        λ q i e. le_trans (full-whole s n q i e) (ih q i) in
        let j : Job = (full s n).job p k in
        rw (not-borrowing s (full s n) (offer-whole s (full s n) whole) p k)
        (had-claimed (task s p).length false (served s (full s n) p k) j.had j.claimed j.ended (ih p k))

-- a job that has ended has claimed C ticks
pub full-claimed : (s : Table) (n p k : ℕ) → ((full s n).job p k).ended ≡ true → (task s p).length ≤ ((full s n).job p k).claimed
full-claimed s n p k e = le_trans (full-whole s n p k e) (full-had s n p k)

-- AT FULL LENGTH NOTHING IS LENT, under any rule ..
pub full-offer : (s : Table) (n q : ℕ) → offer s (full s n) q ≡ []
full-offer s n = offer-whole s (full s n) (full-claimed s n)

-- .. so the row shows the cores that are given ..
pub full-shown : (s : Table) (n : ℕ) → shown_of s (full s n) ≡ grants_of s (full s n)
full-shown s n = shown-given s (full s n) (full-offer s n)

pub full-row : (s : Table) (n : ℕ) → book_row s (full s n) ≡ row s.fence s.cores (grants_of s (full s n))
full-row s n = ap (row s.fence s.cores) (full-shown s n)

-- .. and a job goes on by these alone
pub full-next : (s : Table) (n p k : ℕ) → (full s (suc n)).job p k ≡ next (task s p).length false (served s (full s n) p k) ((full s n).job p k)
unfolding full step
full-next s n p k = rw (not-borrowing s (full s n) (full-offer s n) p k)

pub full-stays : (s : Table) (n d p k : ℕ) → ((full s n).job p k).ended ≡ true → ((full s (n + d)).job p k).ended ≡ true
full-stays s n zero p k e = rw add-zero e
full-stays s n (suc d) p k e = rw add-suc (more (full-stays s n d p k e))
  where
    more : ((full s (n + d)).job p k).ended ≡ true → ((full s (suc (n + d))).job p k).ended ≡ true
    more h = unfold full step in
        (step-ended (task s p).length false (served s (full s (n + d)) p k) (borrowing s (full s (n + d)) p k) ((full s (n + d)).job p k) h).0

pub run-tick : (s : Table) (ms : List Move) (b : Book) → (run s b ms).tick ≡ b.tick + length ms
unfolding run step emptied
run-tick s [] b = sym (add-zero b.tick)
run-tick s (m ∷ ms) b = run-tick s ms (moved s m b) ∙ omega arith

-- A JOB IS FRESH UNTIL ITS RELEASE, and as the tick of its release begins
abbrev pub Early : Table → Book → Type 0
Early s b = (p k : ℕ) → b.tick ≤ release (task s p) k → b.job p k ≡ fresh

pub early-start : (s : Table) → Early s empty_book
early-start s p k h = refl

pub early-moved : (s : Table) (m : Move) (b : Book) → Early s b → Early s (moved s m b)
early-moved s m b e p k h = before-release s m.reports (emptied s m.empties b) p k later ∙ same
  where
    later : (emptied s m.empties b).tick < release (task s p) k
    later = unfold step emptied in h

    now : released_now s b p k ≡ false
    now = unfold step emptied in ne_eqb (release (task s p) k) b.tick (omega arith)

    same : (emptied s m.empties b).job p k ≡ fresh
    same = unfold step emptied in rw (now, and-false (m.empties p)) (e p k (omega arith))

early-run : (s : Table) (ms : List Move) (b : Book) → Early s b → Early s (run s b ms)
unfolding run
early-run s [] b e = e
early-run s (m ∷ ms) b e = early-run s ms (moved s m b) (early-moved s m b e)

-- THE REFUSING LISTS: the book of a list is the run of those of its advances that are taken
book-from : (s : Table) (xs : List Entry) (b : Book) → lines (book_from s b xs) ≡ run s (lines b) (moves_with b.withdrawn (taken_from s b xs))
unfolding book_from taken_from moves_with run enter after_taken step emptied served borrowing borrowed offer seeks
book-from s [] b = refl
book-from s (x ∷ xs) b = go x (answer s b x) (book-from s xs)
  where
    go : (x : Entry) (w : Answer)
        → ((b : Book) → lines (book_from s b xs) ≡ run s (lines b) (moves_with b.withdrawn (taken_from s b xs)))
        → lines (book_from s (entered w (after_taken s x b) b) xs)
        ≡ run s (lines b) (moves_with b.withdrawn (keep w x (taken_from s (entered w (after_taken s x b) b) xs)))
    go (advance x e) taken ih = ih (advanced s (bit x) (empty_in b e) b)
    go (advance x e) (refused n p) ih = ih b
    go (withdraw p) taken ih = ih (with_withdrawn (singleton p) b)
    go (withdraw p) (refused n q) ih = ih b
    go (withdraw_all x) taken ih = ih (with_withdrawn x b)
    go (withdraw_all x) (refused n q) ih = ih b

pub book-run : (s : Table) (xs : List Entry) → lines (book s xs) ≡ run s empty_book (moves_of s xs)
book-run s xs = book-from s xs empty_book

-- the list's tick is how many are taken
pub book-tick : (s : Table) (xs : List Entry) → length (moves_of s xs) ≡ (book s xs).tick
book-tick s xs =
    let ms : List Move = moves_of s xs in
    sym (ap (λ (b : Book). b.tick) (book-run s xs) ∙ (run-tick s ms empty_book ∙ zero-add (length ms)))

-- so every line of it is good
pub bounds-book : (s : Table) → AllValid s → (xs : List Entry) → BookBounds s (book s xs)
bounds-book s ok xs =
    subst (BookBounds s) (sym (book-run s xs)) (bounds-run s ok (moves_of s xs) empty_book (bounds-start s ok))

-- and a job is fresh until its release
pub early-book : (s : Table) (xs : List Entry) → Early s (book s xs)
early-book s xs = subst (Early s) (sym (book-run s xs)) (early-run s (moves_of s xs) empty_book (early-start s))
