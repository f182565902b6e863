-- The order that follows one that misses is a permutation, and the orders that repair tries by its steps.
use mathlib.Core.Bool.{Bool, cond, false, false≢true, true}
use mathlib.Core.List.{List, [], ◌∷◌, map}
use mathlib.Core.Path.{◌≡◌, ap, ap₂, refl, subst, sym, ◌∙◌}
use Prim.Native.Nat.{ℕ, suc, zero, ◌+◌, ◌-◌, ◌<◌, ◌≤◌}
use native.Mathlib.Omega.{arith}
use lib.Dec.{ltb}
use lib.ListN.{length, length-map}
use borrow.Author.Tests.{ltb-false, ltb-true}
use Rattle.model.proofs.Lists.{up-length}
use Rattle.model.specs.Horizon.{horizon}
use Rattle.model.specs.Search.{any, up_from}
use Rattle.model.specs.Sizes.{most_tasks}
use Rattle.model.specs.Task.{AllValid, Table}
use Rattle.model.specs.Verdict.{FirstMiss, first_miss, missed_in}
use Rattle.table.proofs.Passed.{passed-valid}
use Rattle.table.proofs.Tasks.{table-length}
use Rattle.table.specs.Numbers.{NoneApplies}
use Rattle.table.specs.Words.{count, table_of}
use Rattle.judge.proofs.Contract.{judged-exact}
use Rattle.judge.specs.declared.Verdict.{Verdict}
use Rattle.judge.specs.declared.Verdict.TheVariants.{Firm, Full, Miss, Refused}
use Rattle.judge.specs.JudgeAnswer.{verdict_meaning}
use Rattle.sentence.proofs.Answers.{first_found, first-within, never}
use Rattle.sentence.specs.Facts.{Part, named_from}
use Rattle.sentence.specs.Waiting.{facts_at, ran_while_waiting}
use Rattle.priority_order.specs.Repair.{Late}
use Rattle.priority_order.specs.Orders.{Permutation, moved, reordered}
use Rattle.std.specs.Prelude.{Option, None, Some}
use Rattle.judge.specs.declared.Miss.{Miss as MissOf}
use Rattle.priority_order.specs.declared.repair.Late.{Late as LateOrder}
use Rattle.priority_order.specs.Repair.{late_in, late_with, later_of}
use Rattle.priority_order.specs.Repair.{LateIn, blocking_in, just, kept_after, late_of, most_from, most_ran, moved_above, next_by, next_order}
use Rattle.priority_order.specs.Repair.{nothing, power_after, repairs, same, verdict_in}
use Rattle.priority_order.specs.Tried.{is_accepted}
use Rattle.priority_order.proofs.Most.{most-more}
use Rattle.priority_order.proofs.Moving.{moved-permutation}
use Rattle.priority_order.proofs.Reordering.{order-table, tasks-few}

-- ---- a first miss

-- a first miss is up to and including the horizon
first_by : (s : Table) → AllValid s → (t p : ℕ) → FirstMiss s t p → t ≤ horizon s
first_by s ok t p f = go (any (suc (horizon s)) (missed_in s)) refl
  where
    go : (b : Bool) → any (suc (horizon s)) (missed_in s) ≡ b → t ≤ horizon s
    go false e = absurd (never s ok e f.place.0 t f.missed)
    go true e = least (ltb (first_miss s) t) refl
      where
        least : (b : Bool) → ltb (first_miss s) t ≡ b → t ≤ horizon s
        least true h = let g = first_found s ok e in absurd (f.no-earlier g.place.0 (first_miss s) (ltb-true (first_miss s) t h) g.missed)
        least false h = omega (arith, ltb-false (first_miss s) t h, first-within s ok e)

-- the table in an order that misses
pub record MissIn (ws o : List ℕ) (t p : ℕ) : Type 0 where
  pub passes : NoneApplies (reordered ws o)
  pub first : FirstMiss (table_of (reordered ws o)) t p
  pub some : 1 ≤ p
  pub place : p - 1 < count ws
  pub within : t ≤ horizon (table_of (reordered ws o))

pub miss-in : (ws : List ℕ) → NoneApplies ws → (o : List ℕ) → Permutation (count ws) o → (t p : ℕ) → verdict_in ws o ≡ Miss t p → MissIn ws o t p
miss-in ws none o x t p e =
    let j = ((judged-exact (reordered ws o)).miss t p).0 (ap verdict_meaning e) in
    let f = j.1 in
    let size : length (table_of (reordered ws o)).tasks ≡ length (table_of ws).tasks = (order-table ws none o x).size in record {
      passes = j.0;
      first = f;
      some = omega (arith, f.place.1);
      place = omega (arith, f.place.1, f.missed.0, size, table-length ws);
      within = first_by (table_of (reordered ws o)) (passed-valid (reordered ws o) j.0) t p f;
    }

-- what code has of it
pub late-miss : (v : Verdict) (o : List ℕ) (x : Late) → x ≡ late_of v o → x.some ≡ true → v ≡ Miss x.tick x.position
late-miss (Firm a b) o x e h = absurd (false≢true (sym (ap (λ (y : Late). y.some) e) ∙ h))
late-miss (Full a b) o x e h = absurd (false≢true (sym (ap (λ (y : Late). y.some) e) ∙ h))
late-miss (Miss t p) o x e h = λ i. Miss (ap (λ (y : Late). y.tick) (sym e) i) (ap (λ (y : Late). y.position) (sym e) i)
late-miss (Refused n p) o x e h = absurd (false≢true (sym (ap (λ (y : Late). y.some) e) ∙ h))

pub late-order : (v : Verdict) (o : List ℕ) → (late_of v o).order ≡ o
late-order (Firm a b) o = refl
late-order (Full a b) o = refl
late-order (Miss t p) o = refl
late-order (Refused n p) o = refl

-- the later of two as code finds it
module _ (x y : LateOrder) where
  pub later-none : y.missed ≡ None → late_in x ≡ later_of (late_in x) (late_in y)
  later-none e = sym (ap (λ (m : Option MissOf). later_of (late_in x) (late_with m y.order)) e)

  pub later-first : (m : MissOf) → y.missed ≡ Some m → x.missed ≡ None → late_in y ≡ later_of (late_in x) (late_in y)
  later-first m e f =
      ap (λ (m : Option MissOf). late_with m y.order) e
      ∙ sym (ap₂ (λ (k m : Option MissOf). later_of (late_with k x.order) (late_with m y.order)) f e)

  pub later-both :
      (m k : MissOf) → y.missed ≡ Some m → x.missed ≡ Some k
      → cond (ltb k.tick m.tick) (late_in y) (late_in x) ≡ later_of (late_in x) (late_in y)
  later-both m k e f =
      ap₂ (λ (j n : Option MissOf). cond (ltb k.tick m.tick) (late_with n y.order) (late_with j x.order)) f e
      ∙ sym (ap₂ (λ (j n : Option MissOf). later_of (late_with j x.order) (late_with n y.order)) f e)

-- ---- the order that follows

-- the task that ran most is above the late one
most-bound : (b : ℕ) (best : Part) (i : ℕ) (ns : List ℕ) → best.position ≤ b → i + length ns ≤ b → (most_from best (named_from i ns)).position ≤ b
unfolding most_from named_from
most-bound b best i [] l m = l
most-bound b best i (n ∷ ns) l m =
    rw (most-more best i n ns) (go (ltb best.count n) (λ x k. most-bound b x (suc i) ns k (omega arith)))
  where
    go : (t : Bool) → ((x : Part) → x.position ≤ b → (most_from x (named_from (suc i) ns)).position ≤ b)
        → (most_from (cond t (record { position = suc i; count = n }) best) (named_from (suc i) ns)).position ≤ b
    go true ih = ih (record { position = suc i; count = n }) (omega arith)
    go false ih = ih best l

pub most-above : (s : Table) (t p : ℕ) → most_ran (facts_at s t p).others ≤ p
most-above s t p =
    most-bound p (record { position = 0; count = 0 }) 0 (map (ran_while_waiting s t p) (up_from 0 p)) (omega arith)
    (omega (arith, length-map (up_from 0 p) (ran_while_waiting s t p), up-length 0 p))

moved-above : (n m p : ℕ) (o o' : List ℕ) → n ≤ most_tasks → Permutation n o → m ≤ p → p < n → moved_above m p o ≡ just o' → Permutation n o'
moved-above n zero p o o' h x l k e = let z : ◌≡◌ {A = ℕ} 0 1 = cc in absurd (omega arith)
moved-above n (suc q) p o o' h x l k e =
    let same : moved q p o ≡ o' = cc in
    subst (Permutation n) same (moved-permutation n q p o h (omega arith) k x)

-- THE LAW: an order that follows is a permutation
pub next-permutation : (ws : List ℕ) → NoneApplies ws → (o o' : List ℕ) → Permutation (count ws) o → next_order ws o ≡ just o' → Permutation (count ws) o'
unfolding next_order
next-permutation ws none o o' x e = go (verdict_in ws o) refl e
  where
    s : Table
    s = table_of (reordered ws o)

    go : (v : Verdict) → verdict_in ws o ≡ v → next_by v s o ≡ just o' → Permutation (count ws) o'
    go (Firm a b) q f = let z : ◌≡◌ {A = ℕ} 0 1 = cc in absurd (omega arith)
    go (Full a b) q f = let z : ◌≡◌ {A = ℕ} 0 1 = cc in absurd (omega arith)
    go (Miss t p) q f =
        let m = miss-in ws none o x t p q in
        moved-above (count ws) (most_ran (facts_at s t (p - 1)).others) (p - 1) o o' (tasks-few ws none) x (most-above s t (p - 1)) m.place f
    go (Refused n p) q f = let z : ◌≡◌ {A = ℕ} 0 1 = cc in absurd (omega arith)

-- .. by what code has of it
module _ (ws o : List ℕ) (x : Late) (e : x ≡ late_of (verdict_in ws o) o) where
  next_of : x.some ≡ true → next_order ws o ≡ moved_above (most_ran (facts_at (table_of (reordered ws o)) x.tick (x.position - 1)).others) (x.position - 1) o
  unfolding next_order
  next_of h = ap (λ (v : Verdict). next_by v (table_of (reordered ws o)) o) (late-miss (verdict_in ws o) o x e h)

  pub next-none : x.some ≡ false → next_order ws o ≡ nothing
  unfolding next_order
  next-none h = go (verdict_in ws o) e
    where
      go : (v : Verdict) → x ≡ late_of v o → next_by v (table_of (reordered ws o)) o ≡ nothing
      go (Firm a b) f = refl
      go (Full a b) f = refl
      go (Miss t p) f = absurd (false≢true (sym h ∙ ap (λ (y : Late). y.some) f))
      go (Refused n p) f = refl

pub next-stops : (ws : List ℕ) (x : Late) → LateIn ws x → x.some ≡ true → blocking_in ws x ≡ 0 → next_order ws x.order ≡ nothing
next-stops ws x e h z = next_of ws x.order x e h ∙ ap (λ (m : ℕ). moved_above m (x.position - 1) x.order) z

pub next-moves : (ws : List ℕ) (x : Late) → LateIn ws x → x.some ≡ true → 0 < blocking_in ws x
    → next_order ws x.order ≡ just (moved (blocking_in ws x - 1) (x.position - 1) x.order)
next-moves ws x e h l = next_of ws x.order x e h ∙ go (blocking_in ws x) l
  where
    go : (m : ℕ) → 0 < m → moved_above m (x.position - 1) x.order ≡ just (moved (m - 1) (x.position - 1) x.order)
    go zero l = absurd (omega arith)
    go (suc m) l = let q : suc m - 1 ≡ m = omega arith in ap (λ (k : ℕ). just (moved k (x.position - 1) x.order)) (sym q)

-- an accepted order is followed by none
pub next-accepted : (ws o : List ℕ) → is_accepted (verdict_in ws o) ≡ true → next_order ws o ≡ nothing
unfolding next_order
next-accepted ws o e = go (verdict_in ws o) e
  where
    go : (v : Verdict) → is_accepted v ≡ true → next_by v (table_of (reordered ws o)) o ≡ nothing
    go (Firm a b) f = refl
    go (Full a b) f = refl
    go (Miss t p) f = absurd (false≢true f)
    go (Refused n p) f = absurd (false≢true f)

-- ---- the orders that repair tries, by a step

module _ (ws : List ℕ) (kept : List ℕ) (number power : ℕ) (o : List ℕ) where
  pub repairs-none : (m : ℕ) → next_order ws o ≡ nothing → repairs ws m kept number power o ≡ []
  unfolding repairs
  repairs-none zero e = refl
  repairs-none (suc m) e = rw e

  pub repairs-kept : (m : ℕ) (n : List ℕ) → next_order ws o ≡ just n → same n kept ≡ true → repairs ws m kept number power o ≡ []
  unfolding repairs
  repairs-kept zero n e f = refl
  repairs-kept (suc m) n e f = rw (e, f)

  pub repairs-more : (m : ℕ) (n : List ℕ) → next_order ws o ≡ just n → same n kept ≡ false
      → repairs ws (suc m) kept number power o ≡ n ∷ repairs ws m (kept_after number power kept n) (suc number) (power_after number power) n
  unfolding repairs
  repairs-more m n e f = rw (e, f)

  pub repairs-spent : repairs ws 0 kept number power o ≡ []
  unfolding repairs
  repairs-spent = refl
