-- The machine and the full-length run of the book: their relation. They are related at the start, and the walk over the due events of a tick
-- and the tick itself preserve the relation as long as no task is late.
use mathlib.Core.Path.{◌≡◌, refl, sym, ◌∙◌, subst}
use mathlib.Core.Bool.{Bool, true, false, not, ◌&&◌, cond}
use mathlib.Core.List.{List}
use mathlib.Core.Logic.{⊎_elim}
use Prim.Native.Nat.{ℕ, suc, ◌+◌, ◌-◌, ◌≤◌, ◌<◌}
use native.Mathlib.Nat.{le_trans, eq-or-lt_of_le, not-suc-le-zero}
use native.Mathlib.Omega.{arith}
use lib.ListN.{length, get_or, replicate, get_or-replicate}
use lib.Dec.{leb}
use borrow.Author.Tests.{leb-true, leb-false}
use Rattle.model.specs.Search.{bit}
use Rattle.model.specs.Task.{Task, Table, task, AllValid}
use Rattle.model.specs.Jobs.{Job, empty_book}
use Rattle.model.specs.Claims.{in_row, served}
use Rattle.model.specs.Lists.{full}
use Rattle.model.proofs.Runs.{full-tick, full-claimed, full-next}
use Rattle.model.proofs.Digits.{bit-none}
use Rattle.simulation.specs.Machine.{Machine, started, with_release, finishes, worked_tick, Sized}
use Rattle.simulation.proofs.Lines.{line_on}
use Rattle.simulation.specs.PlaceRelation.{PlaceRelatedAt}
use Rattle.simulation.proofs.Place.{start-related, pass-related, release-related, tick-related}
use Rattle.simulation.proofs.Moves.{SameAt, released-sized, released-own, released-other, released-past, worked-sized, worked-left, worked-event, worked-claims, worked-past, worked-none}

-- place p of the machine is related to its jobs in the full-length run at t; the due events of `handled_to` ticks have been handled there
abbrev pub PlaceRelated : Table → ℕ → ℕ → Machine → ℕ → Type 0
PlaceRelated s t handled_to m p =
    PlaceRelatedAt (task s p) handled_to ((full s t).job p) (get_or m.left p 0) (get_or m.event p 0) (get_or m.next p 0) (bit m.claiming p)

-- tick t, with the due events of the places below i handled
pub record Walked (s : Table) (t i : ℕ) (m : Machine) : Type 0 where
  pub sized : Sized m
  pub done : (p : ℕ) → p < length s.tasks → p < i → PlaceRelated s t (suc t) m p
  pub waiting : (p : ℕ) → p < length s.tasks → i ≤ p → PlaceRelated s t t m p
  pub beyond : (p : ℕ) → length s.tasks ≤ p → bit m.claiming p ≡ false

-- before the due events of tick t are handled
abbrev pub MachineRelated : Table → ℕ → Machine → Type 0
MachineRelated s t m = Walked s t 0 m

-- after them: no task is late, and what was due is released
abbrev pub Ready : Table → ℕ → Machine → Type 0
Ready s t m = Walked s t (length s.tasks) m

-- the lists that a machine is stepped with are the columns of the table: offsets, widths, the first of each place before the second, lengths, deadlines,
-- periods
pub record Columns (s : Table) (O v C D T : List ℕ) : Type 0 where
  pub places : length O ≡ 32
  pub offsets : (p : ℕ) → p < length s.tasks → get_or O p 0 ≡ (task s p).offset
  pub odd-widths : (p : ℕ) → p < length s.tasks → get_or v p 0 ≡ (task s p).odd_width
  pub even-widths : (p : ℕ) → p < length s.tasks → get_or v (32 + p) 0 ≡ (task s p).even_width
  pub lengths : (p : ℕ) → p < length s.tasks → get_or C p 0 ≡ (task s p).length
  pub deadlines : (p : ℕ) → p < length s.tasks → get_or D p 0 ≡ (task s p).deadline
  pub periods : (p : ℕ) → p < length s.tasks → get_or T p 0 ≡ (task s p).period

-- the same numbers have the same relation
moved :
    (τ : Task) (handled_to : ℕ) (js : ℕ → Job) (l l' m m' n n' : ℕ) (c c' : Bool) → l ≡ l' → m ≡ m' → n ≡ n' → c ≡ c'
    → PlaceRelatedAt τ handled_to js l' m' n' c' → PlaceRelatedAt τ handled_to js l m n c
moved τ handled_to js l l' m m' n n' c c' el em en ec h =
    subst (λ (x : ℕ). PlaceRelatedAt τ handled_to js x m n c) (sym el)
    (subst (λ (x : ℕ). PlaceRelatedAt τ handled_to js l' x n c) (sym em)
    (subst (λ (x : ℕ). PlaceRelatedAt τ handled_to js l' m' x c) (sym en)
    (subst (λ (x : Bool). PlaceRelatedAt τ handled_to js l' m' n' x) (sym ec) h)))

same_at : (s : Table) (t handled_to : ℕ) (a b : Machine) (p : ℕ) → SameAt p a b → PlaceRelated s t handled_to b p → PlaceRelated s t handled_to a p
same_at s t handled_to a b p e =
    moved (task s p) handled_to ((full s t).job p)
    (get_or a.left p 0) (get_or b.left p 0) (get_or a.event p 0) (get_or b.event p 0) (get_or a.next p 0) (get_or b.next p 0)
    (bit a.claiming p) (bit b.claiming p)
    e.left e.event e.next e.claims

module _ (s : Table) (ok : AllValid s) (few : length s.tasks ≤ 32) where
  -- THE START
  pub related-start :
      (offsets : List ℕ) → length offsets ≡ 32 → ((p : ℕ) → p < length s.tasks → get_or offsets p 0 ≡ (task s p).offset)
      → MachineRelated s 0 (started offsets)
  unfolding full
  related-start offsets z e = record {
    sized = record { left = refl; event = z; next = z };
    done = λ p l h. absurd (not-suc-le-zero h);
    waiting = λ p l h.
        moved (task s p) 0 (empty_book.job p)
        (get_or (replicate 32 0) p 0) 0 (get_or offsets p 0) (get_or offsets p 0) (get_or offsets p 0) (get_or offsets p 0) (bit 0 p) false
        (get_or-replicate 32 p 0 0 (omega arith)) refl refl (bit-none p)
        (start-related (task s p) (get_or offsets p 0) (e p l));
    beyond = λ p h. bit-none p;
  }

  -- THE WALK OVER THE DUE EVENTS

  -- place i is not due
  pub walk-pass : (t i : ℕ) (m : Machine) → Walked s t i m → i < length s.tasks → (get_or m.event i 0 ≡ t → ⊥) → Walked s t (suc i) m
  walk-pass t i m h l away = record {
    sized = h.sized;
    done = λ p q b. ⊎_elim
        (λ (e : p ≡ i). subst (λ (x : ℕ). PlaceRelated s t (suc t) m x) (sym e) here)
        (λ (e : p < i). h.done p q e)
        (eq-or-lt_of_le (omega arith));
    waiting = λ p q b. h.waiting p q (omega arith);
    beyond = h.beyond;
  }
    where
      here : PlaceRelated s t (suc t) m i
      here =
          pass-related (task s i) t ((full s t).job i) (get_or m.left i 0) (get_or m.event i 0) (get_or m.next i 0) (bit m.claiming i)
          (h.waiting i l (omega arith)) away

  -- place i is due, and nothing is left: its next job is released
  pub walk-release :
      (t i : ℕ) (m : Machine) → Walked s t i m → i < length s.tasks → get_or m.event i 0 ≡ t → get_or m.left i 0 ≡ 0
      → (C D T : ℕ) → C ≡ (task s i).length → D ≡ (task s i).deadline → T ≡ (task s i).period → Walked s t (suc i) (with_release i t C D T m)
  walk-release t i m h l at none C D T e_c e_d e_t = record {
    sized = released-sized i t C D T m h.sized;
    done = λ p q b. ⊎_elim
        (λ (e : p ≡ i). subst (λ (x : ℕ). PlaceRelated s t (suc t) (with_release i t C D T m) x) (sym e) here)
        (λ (e : p < i). other p q (omega arith) (suc t) (h.done p q e))
        (eq-or-lt_of_le (omega arith));
    waiting = λ p q b. other p q (omega arith) t (h.waiting p q (omega arith));
    beyond = λ p q. go p q (leb 32 p) refl;
  }
    where
      own :
          (get_or (with_release i t C D T m).left i 0 ≡ C) × (get_or (with_release i t C D T m).event i 0 ≡ t + D)
          × (get_or (with_release i t C D T m).next i 0 ≡ t + T) × (bit (with_release i t C D T m).claiming i ≡ true)
      own = released-own i t C D T m h.sized (le_trans l few)

      here : PlaceRelated s t (suc t) (with_release i t C D T m) i
      here =
          moved (task s i) (suc t) ((full s t).job i)
          (get_or (with_release i t C D T m).left i 0) C (get_or (with_release i t C D T m).event i 0) (t + D) (get_or (with_release i t C D T m).next i 0) (t + T)
          (bit (with_release i t C D T m).claiming i) true
          own.0 own.1 own.2 own.3
          (release-related (task s i) (ok i l) t ((full s t).job i) (get_or m.left i 0) (get_or m.event i 0) (get_or m.next i 0) (bit m.claiming i)
          (h.waiting i l (omega arith)) at none C D T e_c e_d e_t)

      other : (p : ℕ) → p < length s.tasks → (p ≡ i → ⊥) → (handled_to : ℕ) → PlaceRelated s t handled_to m p → PlaceRelated s t handled_to (with_release i t C D T m) p
      other p q ne handled_to = same_at s t handled_to (with_release i t C D T m) m p (released-other i t C D T m p ne (le_trans q few))

      go : (p : ℕ) → length s.tasks ≤ p → (x : Bool) → leb 32 p ≡ x → bit (with_release i t C D T m).claiming p ≡ false
      go p q true e = released-past i t C D T m p (leb-true 32 p e)
      go p q false e = (released-other i t C D T m p (omega arith) (leb-false 32 p e)).claims ∙ h.beyond p q

  -- A TICK

  -- the tick that the book enters, at one place
  book-tick :
      (t p : ℕ) (handled_to l m n : ℕ) (c : Bool) → PlaceRelatedAt (task s p) handled_to (line_on s.rule (task s p) t (in_row s (full s t) p) ((full s t).job p)) l m n c
      → PlaceRelatedAt (task s p) handled_to ((full s (suc t)).job p) l m n c
  unfolding served
  book-tick t p handled_to l m n c h =
      subst (λ (js : ℕ → Job). PlaceRelatedAt (task s p) handled_to js l m n c) (λ i k. sym (full-next s t p k) i)
      (subst (λ (u : ℕ). PlaceRelatedAt (task s p) handled_to (line_on s.rule (task s p) u (in_row s (full s t) p) ((full s t).job p)) l m n c) (sym (full-tick s t)) h)

  -- a tick whose cores go to the places of the book's row preserves the relation
  pub tick-keeps :
      (t : ℕ) (m : Machine) → Ready s t m → (granted : ℕ → Bool) → ((p : ℕ) → p < length s.tasks → granted p ≡ in_row s (full s t) p)
      → MachineRelated s (suc t) (worked_tick granted m)
  tick-keeps t m h granted e = record {
    sized = worked-sized granted m h.sized;
    done = λ p l b. absurd (not-suc-le-zero b);
    waiting = λ p l b. here p l;
    beyond = λ p q. go p q (leb 32 p) refl;
  }
    where
      here : (p : ℕ) → p < length s.tasks → PlaceRelated s (suc t) (suc t) (worked_tick granted m) p
      here p l =
          moved (task s p) (suc t) ((full s (suc t)).job p)
          (get_or (worked_tick granted m).left p 0) (cond (granted p) (L - 1) L)
          (get_or (worked_tick granted m).event p 0) (cond (finishes granted m p) N M)
          (get_or (worked_tick granted m).next p 0) N
          (bit (worked_tick granted m).claiming p) (bit m.claiming p && not (finishes granted m p))
          (worked-left granted m h.sized p below) (worked-event granted m h.sized p below) same_next (worked-claims granted m h.sized p below)
          (book-tick t p (suc t) (cond (granted p) (L - 1) L) (cond (finishes granted m p) N M) N (bit m.claiming p && not (finishes granted m p))
          (subst
          (λ (w : Bool).
          PlaceRelatedAt (task s p) (suc t) (line_on s.rule (task s p) t w ((full s t).job p))
          (cond (granted p) (L - 1) L) (cond (finishes granted m p) N M) N (bit m.claiming p && not (finishes granted m p)))
          (e p l)
          (tick-related s.rule (task s p) (ok p l) t ((full s t).job p) (full-claimed s t p) L M N (bit m.claiming p) (granted p) (h.done p l l))))
        where
          L : ℕ
          L = get_or m.left p 0

          M : ℕ
          M = get_or m.event p 0

          N : ℕ
          N = get_or m.next p 0

          below : p < 32
          below = le_trans l few

          same_next : get_or (worked_tick granted m).next p 0 ≡ N
          same_next = unfold worked_tick in refl

      go : (p : ℕ) → length s.tasks ≤ p → (x : Bool) → leb 32 p ≡ x → bit (worked_tick granted m).claiming p ≡ false
      go p q true x = worked-past granted m p (leb-true 32 p x)
      go p q false x = worked-none granted m p (h.beyond p q) (leb-false 32 p x)
