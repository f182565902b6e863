-- The relation of the stepwise plan book to the rows: the ticks owed are C less those had, and its tests are the conditions of a tick.
use mathlib.Core.Bool.{◌&&◌, Bool, cond, false, false≢true, not, true, true≢false}
use mathlib.Core.List.{List}
use mathlib.Core.Logic.{◌↔◌, inl, inr}
use mathlib.Core.Path.{ap, refl, subst, sym, ◌∙◌, ◌≡◌}
use Prim.Native.Nat.{◌+◌, ◌-◌, ◌<◌, suc, zero, ℕ, ◌≤◌}
use native.Mathlib.Nat.{le_trans}
use native.Mathlib.Omega.{arith}
use lib.Dec.{eqb, leb, ltb}
use lib.ListN.{get_or, length}
use borrow.Author.Tests.{eq-eqb, eqb-false, eqb-true, leb-false, leb-true, lt-ltb, ltb-false, ltb-true, ne_eqb, not-true}
use Rattle.model.proofs.Bools.{and_left, and_right, or_left_false, or_right_false}
use Rattle.std.proofs.lemmas.Bool.{false_from_ne_true}
use Rattle.model.proofs.Jobs.{newest-is}
use Rattle.model.proofs.Search.{any_some, none_any, none-at}
use Rattle.model.specs.Search.{any, bit}
use Rattle.model.specs.Sizes.{fenced_byte}
use Rattle.model.specs.Task.{AllValid, Table, Task, due, newest, release, task, width_of}
use Rattle.plan_check.proofs.PlanBook.{due_at, faulty, late_now, opened, released_at, unknown_byte_in, owed_after_row, wrong_at}
use Rattle.plan_check.specs.Plan.{UnknownByte, cell_count, had_in_rows, runs}
use Rattle.plan_check.proofs.Newest.{newest-begun, newest-release, newest-step}
use Rattle.plan_check.proofs.Ticks.{ticks-none, ticks-on}

-- what is owed at the start of tick t, before the jobs released at it
unfoldable pub owed_at : Table → (ℕ → List ℕ) → ℕ → ℕ → ℕ
owed_at s r zero = λ p. 0
owed_at s r (suc t) = owed_after_row s t (owed_at s r t) (r t)

-- and after
abbrev pub open_at : Table → (ℕ → List ℕ) → ℕ → ℕ → ℕ
open_at s r t = opened s t (owed_at s r t)

-- one tick more is one tick less owed
pub less_one : (C h : ℕ) (b : Bool) → C - h - cond b 1 0 ≡ C - cond b (suc h) h
less_one C h true = omega arith
less_one C h false = omega arith

none-less : (b : Bool) → 0 - cond b 1 0 ≡ 0
none-less true = omega arith
none-less false = omega arith

module _ (s : Table) (ok : AllValid s) (r : ℕ → List ℕ) (p : ℕ) (l : p < length s.tasks) where
  abbrev τ : Task
  τ = task s p

  pos : 0 < τ.period
  pos = le_trans (ok p l).deadline-pos (ok p l).constrained

  -- a tick takes one from a place in the row, and without a release nothing is added
  pub owed-next : (t : ℕ) → owed_at s r (suc t) p ≡ open_at s r t p - cond (runs r p t) 1 0
  unfolding owed_at owed_after_row
  owed-next t = refl

  pub unreleased : (t : ℕ) → released_at τ t ≡ false → open_at s r t p ≡ owed_at s r t p
  unfolding opened
  unreleased t e = rw e

  -- before the offset nothing is owed, and no job is released
  not_yet : (t : ℕ) → t < τ.offset → released_at τ t ≡ false
  not_yet t h = ne_eqb (release τ (newest τ t)) t (λ e. omega arith)

  pub before-offset : (t : ℕ) → t < τ.offset → open_at s r t p ≡ 0
  before-offset zero h = unfold opened owed_at in rw (not_yet 0 h)
  before-offset (suc t) h =
      unreleased (suc t) (not_yet (suc t) h) ∙ (owed-next t ∙ (ap (λ (x : ℕ). x - cond (runs r p t) 1 0) (before-offset t (omega arith)) ∙ none-less (runs r p t)))

  -- from the offset on, C less what the newest job has had
  at-release : (t : ℕ) → released_at τ t ≡ true → open_at s r t p ≡ τ.length - had_in_rows s r p (newest τ t) t
  unfolding opened
  at-release t e =
      rw (e, ticks-none r p (release τ (newest τ t)) t (omega (arith, eqb-true (release τ (newest τ t)) t e)))
      (omega arith)

  -- the start of the offset is a release
  pub offset-release : (t : ℕ) → t ≡ τ.offset → released_at τ t ≡ true
  offset-release t e =
      eq-eqb (release τ (newest τ t)) t
      (ap (λ (x : ℕ). release τ (newest τ x)) (e ∙ omega arith) ∙ (ap (release τ) (newest-release τ pos 0) ∙ (omega arith)))

  pub open-owed : (t : ℕ) → τ.offset ≤ t → open_at s r t p ≡ τ.length - had_in_rows s r p (newest τ t) t
  open-owed zero h = at-release 0 (offset-release 0 (omega arith))
  open-owed (suc t) h = go (released_at τ (suc t)) refl (leb τ.offset t) refl (open-owed t)
    where
      go : (b : Bool) → released_at τ (suc t) ≡ b → (c : Bool) → leb τ.offset t ≡ c
          → (τ.offset ≤ t → open_at s r t p ≡ τ.length - had_in_rows s r p (newest τ t) t)
          → open_at s r (suc t) p ≡ τ.length - had_in_rows s r p (newest τ (suc t)) (suc t)
      go true e c q ih = at-release (suc t) e
      go false e false q ih = absurd (true≢false (sym (offset-release (suc t) (omega (arith, leb-false τ.offset t q))) ∙ e))
      go false e true q ih =
          let on : τ.offset ≤ t = leb-true τ.offset t q in
          let same : newest τ (suc t) ≡ newest τ t = newest-step τ pos t on (eqb-false (release τ (newest τ (suc t))) (suc t) e) in
          unreleased (suc t) e
          ∙ (owed-next t
          ∙ (ap (λ (x : ℕ). x - cond (runs r p t) 1 0) (ih on)
          ∙ (less_one τ.length (had_in_rows s r p (newest τ t) t) (runs r p t)
          ∙ (ap (λ (x : ℕ). τ.length - x) (sym (ticks-on r p (release τ (newest τ t)) t (newest-begun τ pos t on)))
          ∙ ap (λ (k : ℕ). τ.length - had_in_rows s r p k (suc t)) (sym same)))))

  -- at its deadline a job is owed C less what it has had
  pub owed-due : (k : ℕ) → owed_at s r (due τ k) p ≡ τ.length - had_in_rows s r p k (due τ k)
  owed-due k = last τ.deadline refl
    where
      last : (D : ℕ) → τ.deadline ≡ D → owed_at s r (due τ k) p ≡ τ.length - had_in_rows s r p k (due τ k)
      last zero d = absurd (omega (arith, (ok p l).deadline-pos))
      last (suc D) d =
          let u : ℕ = release τ k + D in
          let here : suc u ≡ due τ k = omega arith in
          let new : newest τ u ≡ k = newest-is τ k u (ok p l).constrained (omega arith) (omega arith) in
          let e : owed_at s r (suc u) p ≡ τ.length - had_in_rows s r p k (suc u) =
          owed-next u
          ∙ (ap (λ (x : ℕ). x - cond (runs r p u) 1 0) (open-owed u (omega arith) ∙ ap (λ (j : ℕ). τ.length - had_in_rows s r p j u) new)
          ∙ (less_one τ.length (had_in_rows s r p k u) (runs r p u)
          ∙ ap (λ (x : ℕ). τ.length - x) (sym (ticks-on r p (release τ k) u (omega arith))))) in
          subst (λ (t : ℕ). owed_at s r t p ≡ τ.length - had_in_rows s r p k t) here e

  -- a job of number k is due at its deadline
  pub due-now : (k : ℕ) → due_at τ (due τ k) ≡ true
  due-now k =
      eq-eqb (due τ (newest τ (due τ k - τ.deadline))) (due τ k)
      (ap (due τ) (ap (newest τ) (omega arith) ∙ newest-release τ pos k))

-- 25: where no task is late at t, every job due at t has had its C ticks
module _ (s : Table) (ok : AllValid s) (r : ℕ → List ℕ) where
  pub late-none :
      (t : ℕ) → late_now s t (owed_at s r t) ≡ false
      → (p k : ℕ) → p < length s.tasks → due (task s p) k ≡ t → (task s p).length ≤ had_in_rows s r p k t
  unfolding late_now
  late-none t e p k l d =
      let f : ℕ → Bool = λ q. due_at (task s q) t && ltb 0 (owed_at s r t q) in
      let off : f p ≡ false = none-at (length s.tasks) f p e l in
      let now : due_at (task s p) t ≡ true = subst (λ (x : ℕ). due_at (task s p) x ≡ true) d (due-now s ok r p l k) in
      let zero-owed : owed_at s r t p ≤ 0 = ltb-false 0 (owed_at s r t p) (second (due_at (task s p) t) (ltb 0 (owed_at s r t p)) now off) in
      let own : owed_at s r t p ≡ (task s p).length - had_in_rows s r p k t =
      subst (λ (x : ℕ). owed_at s r x p ≡ (task s p).length - had_in_rows s r p k x) d (owed-due s ok r p l k) in
      omega arith
    where
      second : (a b : Bool) → a ≡ true → a && b ≡ false → b ≡ false
      second true b e q = q
      second false b e q = absurd (false≢true e)

  -- and if some place is late, some job due at t has not
  pub late-job :
      (t : ℕ) → late_now s t (owed_at s r t) ≡ true
      → (p k : ℕ) × (p < length s.tasks) × (due (task s p) k ≡ t) × (had_in_rows s r p k t < (task s p).length)
  unfolding late_now
  late-job t e =
      let x = any_some (length s.tasks) (λ q. due_at (task s q) t && ltb 0 (owed_at s r t q)) e in
      let p : ℕ = x.0 in
      let k : ℕ = newest (task s p) (t - (task s p).deadline) in
      let d : due (task s p) k ≡ t = eqb-true (due (task s p) k) t (and_left (due_at (task s p) t) (ltb 0 (owed_at s r t p)) x.2) in
      let some-owed : 0 < owed_at s r t p = ltb-true 0 (owed_at s r t p) (and_right (due_at (task s p) t) (ltb 0 (owed_at s r t p)) x.2) in
      let own : owed_at s r t p ≡ (task s p).length - had_in_rows s r p k t =
      subst (λ (n : ℕ). owed_at s r n p ≡ (task s p).length - had_in_rows s r p k n) d (owed-due s ok r p x.1 k) in
      (p, k, x.1, d, omega arith)

-- 24: the row's test, for any ticks owed
pub record Right (s : Table) (t : ℕ) (o : ℕ → ℕ) (row : List ℕ) : Type 0 where
  pub known : (c : ℕ) → c < length row → ¬ UnknownByte s c (get_or row c 0)
  pub wide :
      (p : ℕ) → p < length s.tasks → ltb 0 (cell_count (suc p) row) ≡ true
      → cell_count (suc p) row ≡ width_of (task s p) (newest (task s p) t)
  pub owed : (p : ℕ) → p < length s.tasks → ltb 0 (cell_count (suc p) row) ≡ true → 0 < opened s t o p

-- an unknown position is one by its test, and the other way round
pub unknown-decides : (s : Table) (row : List ℕ) (c : ℕ) → (unknown_byte_in s row c ≡ true) ↔ UnknownByte s c (get_or row c 0)
unfolding unknown_byte_in
unknown-decides s row c = (there (bit s.fence c) refl, back)
  where
    x : ℕ
    x = get_or row c 0

    there : (b : Bool) → bit s.fence c ≡ b → cond b (not (eqb x fenced_byte)) (ltb (length s.tasks) x) ≡ true → UnknownByte s c x
    there true e q = inl (e, eqb-false x fenced_byte (not-true (eqb x fenced_byte) q))
    there false e q = inr (e, ltb-true (length s.tasks) x q)

    back : UnknownByte s c x → cond (bit s.fence c) (not (eqb x fenced_byte)) (ltb (length s.tasks) x) ≡ true
    back (inl (e, n)) = rw (e, ne_eqb x fenced_byte n)
    back (inr (e, l)) = rw (e, lt-ltb (length s.tasks) x l)

pub faulty-right : (s : Table) (t : ℕ) (o : ℕ → ℕ) (row : List ℕ) → faulty s t o row ≡ false → Right s t o row
unfolding faulty
faulty-right s t o row e = record {
  known = λ c l q.
      true≢false (sym ((unknown-decides s row c).1 q)
      ∙ none-at (length row) (unknown_byte_in s row) c (or_left_false (any (length row) (unknown_byte_in s row)) (any (length s.tasks) (wrong_at s t o row)) e) l);
  wide = λ p l q. eqb-true (cell_count (suc p) row) (width p) (and_left (eqb (cell_count (suc p) row) (width p)) (ltb 0 (opened s t o p)) (both p l q));
  owed = λ p l q. ltb-true 0 (opened s t o p) (and_right (eqb (cell_count (suc p) row) (width p)) (ltb 0 (opened s t o p)) (both p l q));
}
  where
    width : ℕ → ℕ
    width p = width_of (task s p) (newest (task s p) t)

    second : (a b : Bool) → a ≡ true → a && not b ≡ false → b ≡ true
    second true true e q = refl
    second true false e q = absurd (true≢false q)
    second false b e q = absurd (false≢true e)

    both : (p : ℕ) → p < length s.tasks → ltb 0 (cell_count (suc p) row) ≡ true → eqb (cell_count (suc p) row) (width p) && ltb 0 (opened s t o p) ≡ true
    both p l q =
        second (ltb 0 (cell_count (suc p) row)) (eqb (cell_count (suc p) row) (width p) && ltb 0 (opened s t o p)) q
        (unfold wrong_at in
        none-at (length s.tasks) (wrong_at s t o row) p
        (or_right_false (any (length row) (unknown_byte_in s row)) (any (length s.tasks) (wrong_at s t o row)) e) l)

pub right-faulty : (s : Table) (t : ℕ) (o : ℕ → ℕ) (row : List ℕ) → Right s t o row → faulty s t o row ≡ false
unfolding faulty
right-faulty s t o row x =
    rw (
      none_any (length row) (unknown_byte_in s row) (λ c l. false_from_ne_true (unknown_byte_in s row c) (λ q. x.known c l ((unknown-decides s row c).0 q))),
      none_any (length s.tasks) (wrong_at s t o row) (λ p l. unfold wrong_at in fine p l (ltb 0 (cell_count (suc p) row)) refl),
    )
  where
    fine : (p : ℕ) → p < length s.tasks → (b : Bool) → ltb 0 (cell_count (suc p) row) ≡ b
        → b && not (eqb (cell_count (suc p) row) (width_of (task s p) (newest (task s p) t)) && ltb 0 (opened s t o p)) ≡ false
    fine p l false e = refl
    fine p l true e = rw (eq-eqb (cell_count (suc p) row) (width_of (task s p) (newest (task s p) t)) (x.wide p l e), lt-ltb 0 (opened s t o p) (x.owed p l e))
