-- The definitions agree with the scope: one claim a task loses nothing, the bounded searches miss nothing, S and P are what they are called.
use mathlib.Core.Bool.{◌&&◌, Bool, false, not, true, true≢false}
use mathlib.Core.List.{List, [], ◌∷◌}
use mathlib.Core.Logic.{◌↔◌}
use mathlib.Core.Path.{ap, refl, subst, sym, ◌∙◌, ◌≡◌}
use Prim.Native.Nat.{◌+◌, ◌<◌, suc, ℕ, ◌≤◌}
use native.Mathlib.Nat.{add-zero, le_antisymm, le_of_eq, le_trans, mul-le-mul_left, mul-one, zero-add}
use native.Mathlib.Omega.{arith}
use lib.Dec.{eqb, leb, ltb}
use lib.ListN.{length, replicate}
use borrow.Author.Tests.{eq-eqb, eqb-true, le-leb, le-ltb, leb-false, leb-true, lt-ltb, ltb-false, ltb-true, not-true}
use Rattle.model.proofs.Bools.{and_both, and_left, and_right}
use Rattle.std.proofs.lemmas.Bool.{false_from_ne_true}
use Rattle.model.proofs.Digits.{bit_high}
use Rattle.model.proofs.FullLength.{late-job}
use Rattle.model.proofs.Jobs.{after-release, before-due, mk, newest-is}
use Rattle.model.proofs.Runs.{early-book, full-tick, missed-at}
use Rattle.model.proofs.Search.{any_of, any_some}
use Rattle.model.proofs.Starts.{Periods, S-release, hyperperiod-cycles, hyperperiod-least, hyperperiod-pos, release-first, release-from}
use Rattle.model.specs.Jobs.{Book, Job}
use Rattle.model.specs.Claims.{claims}
use Rattle.model.specs.Advance.{step, advanced, Entry, advance, after_taken}
use Rattle.model.specs.Refusals.{Answer, answer}
use Rattle.model.specs.Lists.{AllTaken, Missed, answers_from, book, book_from}
use Rattle.model.specs.Jobs.{emptied, empty_book, empty_in, ended_with}
use Rattle.model.specs.Claims.{job_claims}
use Rattle.model.specs.Advance.{singleton}
use Rattle.model.specs.Refusals.{emptiable, late, wrong_empties, wrong_reports, refused}
use Rattle.model.specs.Lists.{enter, entered, full, keep}
use Rattle.model.specs.Claims.{task_claims}
use Rattle.model.specs.Advance.{withdraw, withdraw_all, with_withdrawn}
use Rattle.model.specs.Refusals.{reportable, unknown_positions, taken}
use Rattle.model.specs.Lists.{taken_from, taken_in, taken_of, ticks_of}
use Rattle.model.specs.Horizon.{Later, LeastCommonMultiple, S, hyperperiod, release_from}
use Rattle.model.specs.Search.{any, bit}
use Rattle.model.specs.Task.{AllValid, Rule, ValidTask, Table, Task, due, newest, release, task}
use Rattle.model.specs.Verdict.{missed_at, missed_in}

-- CLAIMS

-- only the newest job of a task claims ..
pub only-newest :
    (s : Table) → AllValid s → (b : Book) (p k : ℕ) → p < length s.tasks → job_claims s b p k ≡ true → newest (task s p) b.tick ≡ k
only-newest s ok b p k l c =
    newest-is (task s p) k b.tick (ok p l).constrained
    (after-release s.rule (task s p) k b.tick (b.job p k) c)
    (before-due s.rule (task s p) k b.tick (b.job p k) c)

-- .. so a task claims exactly if some job of it does
pub claims-exact :
    (s : Table) → AllValid s → (b : Book) (p : ℕ) → p < length s.tasks
    → (task_claims s b p ≡ true) ↔ ((k : ℕ) × (job_claims s b p k ≡ true))
claims-exact s ok b p l = (
  λ e. (newest (task s p) b.tick, e),
  λ x. subst (λ (k : ℕ). job_claims s b p k ≡ true) (sym (only-newest s ok b p x.0 l x.1)) x.1,
)

-- a job does not claim at its deadline or later, whatever its line
pub no-claim-when-due : (r : Rule) (τ : Task) (k t : ℕ) (j : Job) → due τ k ≤ t → claims r τ k t j ≡ false
no-claim-when-due r τ k t j h = false_from_ne_true (claims r τ k t j) (λ e. let l = before-due r τ k t j e in omega arith)

-- nor before its release
pub no-claim-before : (r : Rule) (τ : Task) (k t : ℕ) (j : Job) → t < release τ k → claims r τ k t j ≡ false
no-claim-before r τ k t j h = false_from_ne_true (claims r τ k t j) (λ e. let l = after-release r τ k t j e in omega arith)

-- SEARCHES

-- the number of a job is at most the tick that it is due
pub job-number : (τ : Task) (k t : ℕ) → ValidTask τ → due τ k ≤ t → k < suc t
job-number τ k t ok h = omega (arith, mul-le-mul_left k (le_trans ok.deadline-pos ok.constrained), mul-one k)

-- a place is late exactly if some job of it, of any number, has r + D at or before t and has not ended
pub late-exact :
    (s : Table) → AllValid s → (b : Book) (p : ℕ) → p < length s.tasks
    → (late s b p ≡ true) ↔ ((k : ℕ) × (due (task s p) k ≤ b.tick) × ((b.job p k).ended ≡ false))
unfolding late
late-exact s ok b p l = (
  late-job s b p,
  λ x. any_of (suc b.tick) (λ k. leb (due (task s p) k) b.tick && not (b.job p k).ended) x.0
      (job-number (task s p) x.0 b.tick (ok p l) x.1)
      (and_both (leb (due (task s p) x.0) b.tick) (not (b.job p x.0).ended) (le-leb (due (task s p) x.0) b.tick x.1) (rw x.2)),
)

-- a set has a bit, however high, outside a test exactly if the search up to its number finds one
set-exact : (x : ℕ) (f : ℕ → Bool) → (any x (λ p. bit x p && not (f p)) ≡ true) ↔ ((p : ℕ) × (bit x p ≡ true) × (f p ≡ false))
set-exact x f = (
  λ e. let y = any_some x (λ p. bit x p && not (f p)) e in
      (y.0, and_left (bit x y.0) (not (f y.0)) y.2, not-true (f y.0) (and_right (bit x y.0) (not (f y.0)) y.2)),
  λ y. any_of x (λ p. bit x p && not (f p)) y.0 (low y.0 y.1)
      (and_both (bit x y.0) (not (f y.0)) y.1 (rw y.2)),
)
  where
    low : (p : ℕ) → bit x p ≡ true → p < x
    low p e = go (leb x p) refl
      where
        go : (t : Bool) → leb x p ≡ t → p < x
        go true q = absurd (true≢false (sym e ∙ bit_high x p (leb-true x p q)))
        go false q = leb-false x p q

-- a report set is refused by 16 exactly if some bit of it, however high, is set for a position that may not be reported
pub wrong-reports-exact :
    (s : Table) (b : Book) (x : ℕ)
    → (wrong_reports s b x ≡ true) ↔ ((p : ℕ) × (bit x p ≡ true) × (reportable s b p ≡ false))
unfolding wrong_reports
wrong-reports-exact s b x = set-exact x (reportable s b)

-- and a set of empty jobs by 20, where some bit is set for a position that may not be empty
pub wrong-empties-exact :
    (s : Table) (b : Book) (e : ℕ)
    → (wrong_empties s b e ≡ true) ↔ ((p : ℕ) × (bit e p ≡ true) × (emptiable s b p ≡ false))
unfolding wrong_empties
wrong-empties-exact s b e = set-exact e (emptiable s b)

-- and a set to be withdrawn by 22, where some bit is set for a position that is none of the table's
pub unknown-positions-exact : (s : Table) (x : ℕ) → (unknown_positions s x ≡ true) ↔ ((p : ℕ) × (bit x p ≡ true) × (length s.tasks ≤ p))
unfolding unknown_positions
unknown-positions-exact s x = (
  λ e. let y = (set-exact x (λ p. ltb p (length s.tasks))).0 e in (y.0, y.1, ltb-false y.0 (length s.tasks) y.2),
  λ y. (set-exact x (λ p. ltb p (length s.tasks))).1 (y.0, y.1, le-ltb y.0 (length s.tasks) y.2),
)

-- a position may be empty exactly if it is one of the table and some job of it, of any number, is released in this tick and has not ended
pub emptiable-exact :
    (s : Table) → AllValid s → (b : Book) (p : ℕ)
    → (emptiable s b p ≡ true) ↔ ((p < length s.tasks) × ((k : ℕ) × (release (task s p) k ≡ b.tick) × ((b.job p k).ended ≡ false)))
unfolding emptiable
emptiable-exact s ok b p = (
  λ e. let h = and_left (inside && now new) open-yet e in (
    ltb-true p (length s.tasks) (and_left inside (now new) h),
    (
      new,
      eqb-true (release (task s p) new) b.tick (and_right inside (now new) h),
      not-true (b.job p new).ended (and_right (inside && now new) open-yet e),
    ),
  ),
  λ x. found x.0 x.1.0 x.1.1 x.1.2,
)
  where
    new : ℕ
    new = newest (task s p) b.tick

    inside : Bool
    inside = ltb p (length s.tasks)

    now : ℕ → Bool
    now k = eqb (release (task s p) k) b.tick

    open-yet : Bool
    open-yet = not (b.job p new).ended

    found : p < length s.tasks → (k : ℕ) → release (task s p) k ≡ b.tick → (b.job p k).ended ≡ false → inside && now new && open-yet ≡ true
    found l k e o =
        let n : newest (task s p) b.tick ≡ k =
        newest-is (task s p) k b.tick (ok p l).constrained (le_of_eq e) (omega (arith, (ok p l).deadline-pos)) in
        rw (n, lt-ltb p (length s.tasks) l, eq-eqb (release (task s p) k) b.tick e, o)

-- an empty job of any list ends with no ticks, had or claimed
pub empty-ends :
    (s : Table) (xs : List Entry) (e : ℕ → Bool) (p k : ℕ) → e p ≡ true → release (task s p) k ≡ (book s xs).tick
    → (emptied s e (book s xs)).job p k ≡ mk 0 0 true
unfolding emptied
empty-ends s xs e p k h r =
    rw (h, eq-eqb (release (task s p) k) (book s xs).tick r) (ap ended_with (early-book s xs p k (le_of_eq (sym r))))

-- a deadline of place p is found missed at t exactly if it is
pub missed-exact :
    (s : Table) → AllValid s → (t p : ℕ) → p < length s.tasks → (missed_at s t p ≡ true) ↔ Missed s p t
unfolding missed_at
missed-exact s ok t p l = (
  λ e. let x = any_some (suc t) (λ k. eqb (due (task s p) k) t && not ((full s t).job p k).ended) e in
      missed-at s p t x.0 l
      (eqb-true (due (task s p) x.0) t (and_left (eqb (due (task s p) x.0) t) (not ((full s t).job p x.0).ended) x.2))
      (not-true ((full s t).job p x.0).ended (and_right (eqb (due (task s p) x.0) t) (not ((full s t).job p x.0).ended) x.2)),
  λ m. let x = m.1 in
      let e : due (task s p) x.0 ≡ t = x.1 ∙ full-tick s t in
      any_of (suc t) (λ k. eqb (due (task s p) k) t && not ((full s t).job p k).ended) x.0
      (job-number (task s p) x.0 t (ok p l) (le_of_eq e))
      (and_both (eqb (due (task s p) x.0) t) (not ((full s t).job p x.0).ended) (eq-eqb (due (task s p) x.0) t e) (rw x.2)),
)

-- and at some place of the table
pub missed-in-exact :
    (s : Table) → AllValid s → (t : ℕ) → (missed_in s t ≡ true) ↔ ((p : ℕ) × Missed s p t)
unfolding missed_in
missed-in-exact s ok t = (
  λ e. let x = any_some (length s.tasks) (missed_at s t) e in (x.0, (missed-exact s ok t x.0 x.1).0 x.2),
  λ x. any_of (length s.tasks) (missed_at s t) x.0 x.1.0 ((missed-exact s ok t x.0 x.1.0).1 x.1),
)

-- THE LIST'S TICK is the number of advances in it that were not refused
tick-from : (s : Table) (xs : List Entry) (b : Book) → (book_from s b xs).tick ≡ b.tick + taken_in xs (answers_from s b xs)
unfolding book_from answers_from taken_in enter after_taken step emptied
tick-from s [] b = sym (add-zero b.tick)
tick-from s (x ∷ xs) b = go x (answer s b x) (tick-from s xs)
  where
    go : (x : Entry) (w : Answer) → ((b : Book) → (book_from s b xs).tick ≡ b.tick + taken_in xs (answers_from s b xs))
        → (book_from s (entered w (after_taken s x b) b) xs).tick ≡ b.tick + (ticks_of x w + taken_in xs (answers_from s (entered w (after_taken s x b) b) xs))
    go (advance x e) taken ih = ih (advanced s (bit x) (empty_in b e) b) ∙ omega arith
    go (advance x e) (refused n p) ih = ih b ∙ omega arith
    go (withdraw p) taken ih = ih (with_withdrawn (singleton p) b) ∙ omega arith
    go (withdraw p) (refused n q) ih = ih b ∙ omega arith
    go (withdraw_all x) taken ih = ih (with_withdrawn x b) ∙ omega arith
    go (withdraw_all x) (refused n q) ih = ih b ∙ omega arith

pub tick-taken : (s : Table) (xs : List Entry) → (book s xs).tick ≡ taken_in xs (answers_from s empty_book xs)
tick-taken s xs = tick-from s xs empty_book ∙ zero-add (taken_in xs (answers_from s empty_book xs))

-- THE TAKEN ENTRIES of a list: the book of these alone is the book of the list ..
taken-book-from : (s : Table) (xs : List Entry) (b : Book) → book_from s b (taken_from s b xs) ≡ book_from s b xs
unfolding book_from taken_from enter
taken-book-from s [] b = refl
taken-book-from s (x ∷ xs) b = go (answer s b x) refl (taken-book-from s xs)
  where
    go : (w : Answer) → answer s b x ≡ w → ((b : Book) → book_from s b (taken_from s b xs) ≡ book_from s b xs)
        → book_from s b (keep w x (taken_from s (entered w (after_taken s x b) b) xs)) ≡ book_from s (entered w (after_taken s x b) b) xs
    go taken e ih = ap (λ (w : Answer). book_from s (entered w (after_taken s x b) b) (taken_from s (after_taken s x b) xs)) e ∙ ih (after_taken s x b)
    go (refused n p) e ih = ih b

pub taken-book : (s : Table) (xs : List Entry) → book s (taken_of s xs) ≡ book s xs
taken-book s xs = taken-book-from s xs empty_book

-- .. each of them is taken ..
taken-all-from : (s : Table) (xs : List Entry) (b : Book) → AllTaken s b (taken_from s b xs)
unfolding answers_from taken_from enter
taken-all-from s [] b = refl
taken-all-from s (x ∷ xs) b = go (answer s b x) refl (taken-all-from s xs)
  where
    go : (w : Answer) → answer s b x ≡ w → ((b : Book) → AllTaken s b (taken_from s b xs))
        → AllTaken s b (keep w x (taken_from s (entered w (after_taken s x b) b) xs))
    go taken e ih =
        ap (λ (w : Answer). w ∷ answers_from s (entered w (after_taken s x b) b) (taken_from s (after_taken s x b) xs)) e
        ∙ ap (λ (ws : List Answer). taken ∷ ws) (ih (after_taken s x b))
    go (refused n p) e ih = ih b

pub taken-all : (s : Table) (xs : List Entry) → AllTaken s empty_book (taken_of s xs)
taken-all s xs = taken-all-from s xs empty_book

-- .. and of a list whose entries are all taken none is dropped
taken-same-from : (s : Table) (xs : List Entry) (b : Book) → AllTaken s b xs → taken_from s b xs ≡ xs
unfolding answers_from taken_from enter
taken-same-from s [] b e = refl
taken-same-from s (x ∷ xs) b e =
    let h : answer s b x ≡ taken = cc in
    let t : answers_from s (entered (answer s b x) (after_taken s x b) b) xs ≡ replicate (length xs) taken = cc in
    rw h (ap (λ (l : List Entry). x ∷ l) (taken-same-from s xs (after_taken s x b) (rw h at t)))

pub taken-same : (s : Table) (xs : List Entry) → AllTaken s empty_book xs → taken_of s xs ≡ xs
taken-same s xs e = taken-same-from s xs empty_book e

-- S AND P

-- S of position 1 is its O
pub S-first : (s : Table) → S s.tasks 0 ≡ (task s 0).offset
unfolding S
S-first s = refl

pub S-later : (s : Table) → AllValid s → (p : ℕ) → suc p < length s.tasks → Later (task s (suc p)) (S s.tasks p) (S s.tasks (suc p))
unfolding S
S-later s ok p l =
    let τ : Task = task s (suc p) in
    let pos : 0 < τ.period = le_trans (ok (suc p) l).deadline-pos (ok (suc p) l).constrained in
    let at_zero : (h : S s.tasks p ≤ τ.offset) → release_from τ (S s.tasks p) ≤ release τ 0 = λ h. release-first τ (S s.tasks p) 0 pos (omega arith) in
    record {
      released = S-release s.tasks (suc p);
      not-before = release-from τ (S s.tasks p) pos;
      first = λ k. release-first τ (S s.tasks p) k pos;
      offset = λ h. le_antisymm (omega (arith, at_zero h)) (omega arith);
    }

-- P is the least of the positive common multiples of the periods
pub P-exact : (s : Table) → AllValid s → LeastCommonMultiple s.tasks (hyperperiod s.tasks)
P-exact s ok =
    let periods : Periods s.tasks = λ p l. le_trans (ok p l).deadline-pos (ok p l).constrained in
    record {
      positive = hyperperiod-pos s.tasks;
      common = λ p. hyperperiod-cycles s.tasks p periods;
      least = hyperperiod-least s.tasks periods;
    }
