-- The ticks of a jump: up to the first release, deadline or end the same tasks claim, and each that has cores is owed one tick less at every tick.
use mathlib.Core.Path.{◌≡◌, refl, sym, ap, ◌∙◌, fun_ext, subst, subst₂}
use mathlib.Core.Bool.{Bool, true, false, not, ◌&&◌, cond, and-true, true≢false, false≢true}
use mathlib.Core.List.{List, []}
use mathlib.Core.Logic.{inl, inr}
use Prim.Native.Nat.{ℕ, zero, suc, ◌+◌, ◌-◌, ◌≤◌, ◌<◌}
use native.Mathlib.Nat.{add-zero, add-suc}
use native.Mathlib.Omega.{arith}
use lib.Dec.{eqb, leb}
use lib.ListN.{length, get_or, length-map, get_or-eq_default}
use borrow.Author.Tests.{eqb-true, eqb-false, eq-eqb, ne_eqb, leb-true, leb-false}
use Rattle.model.specs.Fence.{unfenced_cores}
use Rattle.model.specs.Search.{bit}
use Rattle.model.specs.Task.{Table, task, AllValid, release, newest, width_of}
use Rattle.model.specs.Grants.{some}
use Rattle.model.specs.Jobs.{Job, Book}
use Rattle.model.specs.Claims.{claims, served, task_claims, widths, grants_of, in_row}
use Rattle.model.specs.Lists.{full}
use Rattle.model.proofs.Runs.{full-tick, full-claimed, full-next}
use Rattle.model.proofs.Grants.{grants-length}
use Rattle.simulation.specs.PlaceRelation.{PlaceRelatedAt}
use Rattle.simulation.specs.Machine.{Machine}
use Rattle.simulation.proofs.Lines.{line_on}
use Rattle.simulation.proofs.Place.{related-claims, pass-related}
use Rattle.simulation.specs.Event.{Event, NoEventBetween, Ends}
use Rattle.simulation.specs.EventState.{PlaceRepresents, MachineRepresents}
use Rattle.simulation.proofs.Between.{SameNewest, ends_at, ends_by, newest-stays, same-claims}
use Rattle.simulation.proofs.Upcoming.{upcoming-later}
use Rattle.simulation.proofs.Represents.{event-least, tick-represents, none-ends, last-ends}

-- the tick that the book enters, at one place
line-next : (s : Table) (u p : ℕ) → line_on s.rule (task s p) u (in_row s (full s u) p) ((full s u).job p) ≡ (full s (suc u)).job p
unfolding served
line-next s u p =
    ap (λ (x : ℕ). line_on s.rule (task s p) x (in_row s (full s u) p) ((full s u).job p)) (sym (full-tick s u))
    ∙ fun_ext (λ i. sym (full-next s u p i))

-- a place that is in the row is a place of the table
pub row_inside : (s : Table) (b : Book) (p : ℕ) → in_row s b p ≡ true → p < length s.tasks
row_inside s b p e = go (leb (length s.tasks) p) refl
  where
    size : length (grants_of s b) ≡ length s.tasks
    size = grants-length s.rule (widths s b.tick) (task_claims s b) (unfenced_cores s) ∙ length-map s.tasks (λ τ. width_of τ (newest τ b.tick))

    go : (x : Bool) → leb (length s.tasks) p ≡ x → p < length s.tasks
    go true q =
        absurd (false≢true (sym (ap some (get_or-eq_default (grants_of s b) [] (subst (λ (n : ℕ). n ≤ p) (sym size) (leb-true (length s.tasks) p q)))) ∙ e))
    go false q = leb-false (length s.tasks) p q

-- WHAT IS LEFT

-- one tick less
one_less : (g : Bool) (L j : ℕ) → cond g (cond g (L - j) L - 1) (cond g (L - j) L) ≡ cond g (L - suc j) L
one_less true L j = omega arith
one_less false L j = refl

-- more than one is left
not_last : (g : Bool) (L j : ℕ) → (g ≡ true → suc (suc j) ≤ L) → g && eqb (cond g (L - j) L) 1 ≡ false
not_last true L j h = ne_eqb (L - j) 1 (λ e. let q = h refl in omega arith)
not_last false L j h = refl

-- one is left
is_last : (g : Bool) (L j : ℕ) → (g ≡ true → suc j ≤ L) → g && eqb (cond g (L - j) L) 1 ≡ g && eqb L (suc j)
is_last true L j h = go (eqb L (suc j)) refl
  where
    go : (x : Bool) → eqb L (suc j) ≡ x → eqb (L - j) 1 ≡ x
    go true e = let q : L ≡ suc j = eqb-true L (suc j) e in eq-eqb (L - j) 1 (omega arith)
    go false e = ne_eqb (L - j) 1 (λ d. eqb-false L (suc j) e (let q = h refl in omega arith))
is_last false L j h = refl

module _
    (s : Table) (ok : AllValid s) (t : ℕ) (m : Machine) (h : MachineRepresents s t (suc t) m) (granted : ℕ → Bool)
    (row : (p : ℕ) → granted p ≡ in_row s (full s t) p) (k : ℕ)
    (short : (p : ℕ) → granted p ≡ true → k ≤ get_or m.left p 0)
    (near : (p : ℕ) → p < length s.tasks → t + k ≤ get_or m.event p 0)
  where
    abbrev L : ℕ → ℕ
    L p = get_or m.left p 0

    abbrev M : ℕ → ℕ
    M p = get_or m.event p 0

    abbrev N : ℕ → ℕ
    N p = get_or m.next p 0

    abbrev c : ℕ → Bool
    c p = bit m.claiming p

    -- what is left of place p after j ticks
    abbrev after_handling : ℕ → ℕ → ℕ
    after_handling j p = cond (granted p) (L p - j) (L p)

    -- place p at tick u, j ticks after t
    abbrev At : ℕ → ℕ → ℕ → Type 0
    At u j p = PlaceRelatedAt (task s p) (suc u) ((full s u).job p) (after_handling j p) (cond (c p) (M p) (N p)) (N p) (c p)

    -- it claims as it did at t
    claims-is : (u j p : ℕ) → p < length s.tasks → At u j p → task_claims s (full s u) p ≡ c p
    claims-is u j p l a =
        subst (λ (x : ℕ). claims s.rule (task s p) (newest (task s p) x) x ((full s u).job p (newest (task s p) x)) ≡ c p) (sym (full-tick s u))
        (related-claims s.rule (task s p) (ok p l) u ((full s u).job p) (full-claimed s u p) (after_handling j p) (cond (c p) (M p) (N p)) (N p) (c p) a)

    start : (p : ℕ) → p < length s.tasks → At t 0 p
    start p l = subst (λ (x : ℕ). PlaceRelatedAt (task s p) (suc t) ((full s t).job p) x (cond (c p) (M p) (N p)) (N p) (c p)) (same (granted p)) (h.places p l).related
      where
        same : (g : Bool) → L p ≡ cond g (L p - 0) (L p)
        same true = omega arith
        same false = refl

    -- no job is released after t before the k ticks are over
    newest-is : (j : ℕ) → j < k → SameNewest s t (t + j)
    newest-is j b p l =
        newest-stays (task s p) (ok p l) t (t + j) (omega arith)
        (λ i x y. absurd (omega (arith, near p l, (h.places p l).ahead.first (release (task s p) i) x (i, inl refl))))

    -- and so the same have cores
    same_at : (u j : ℕ) → SameNewest s t u → ((p : ℕ) → p < length s.tasks → At u j p) → (p : ℕ) → in_row s (full s u) p ≡ granted p
    same_at u j new a p =
        ap (λ (gs : List (List ℕ)). some (get_or gs p []))
        (same-claims s t u new (λ q l. claims-is u j q l (a q l) ∙ sym (claims-is t 0 q l (start q l)))).grants
        ∙ sym (row p)

    -- the tick u at place p
    ticked : (u j : ℕ) → SameNewest s t u → ((p : ℕ) → p < length s.tasks → At u j p) → (p : ℕ) → p < length s.tasks
        → PlaceRelatedAt (task s p) (suc u) ((full s (suc u)).job p) (cond (granted p) (L p - suc j) (L p))
        (cond (c p && not (granted p && eqb (after_handling j p) 1)) (M p) (N p)) (N p) (c p && not (granted p && eqb (after_handling j p) 1))
    ticked u j new a p l =
        subst₂ (λ (js : ℕ → Job) (x : ℕ). PlaceRelatedAt (task s p) (suc u) js x (cond c' (M p) (N p)) (N p) c')
        (ap (λ (w : Bool). line_on s.rule (task s p) u w ((full s u).job p)) (sym (same_at u j new a p)) ∙ line-next s u p)
        (one_less (granted p) (L p) j)
        (tick-represents s.rule (task s p) (ok p l) u ((full s u).job p) (full-claimed s u p) (after_handling j p) (M p) (N p) (c p) (granted p) (a p l))
      where
        c' : Bool
        c' = c p && not (granted p && eqb (after_handling j p) 1)

    -- j ticks, j below k
    pub no-event : (j : ℕ) → j < k → (p : ℕ) → p < length s.tasks → At (t + j) j p
    no-event zero b p l = subst (λ (u : ℕ). At u 0 p) (sym (add-zero t)) (start p l)
    no-event (suc j) b p l =
        subst (λ (u : ℕ). At u (suc j) p) (sym (add-suc t j))
        (pass-related (task s p) (suc (t + j)) ((full s (suc (t + j))).job p) (after_handling (suc j) p) (cond (c p) (M p) (N p)) (N p) (c p)
        (subst (λ (x : Bool). PlaceRelatedAt (task s p) (suc (t + j)) ((full s (suc (t + j))).job p) (after_handling (suc j) p) (cond x (M p) (N p)) (N p) x) still
        (ticked (t + j) j (newest-is j (omega arith)) (λ q i. no-event j (omega arith) q i) p l))
        (λ e. absurd (omega (arith, near p l, event-least (task s p) (suc t) ((full s t).job p) (L p) (M p) (N p) (c p) (h.places p l)))))
      where
        still : c p && not (granted p && eqb (after_handling j p) 1) ≡ c p
        still = ap (λ (x : Bool). c p && not x) (not_last (granted p) (L p) j (λ g. let q = short p g in omega arith)) ∙ and-true (c p)

    -- what the k ticks enter at place p
    line_at : (j : ℕ) → j < k → (p : ℕ) → line_on s.rule (task s p) (t + j) (granted p) ((full s (t + j)).job p) ≡ (full s (suc (t + j))).job p
    line_at j b p =
        ap (λ (w : Bool). line_on s.rule (task s p) (t + j) w ((full s (t + j)).job p)) (sym (same_at (t + j) j (newest-is j b) (no-event j b) p))
        ∙ line-next s (t + j) p

    left_is : (p j : ℕ) (x : Bool) → x ≡ true → cond x (L p - j) (L p) ≡ L p - j
    left_is p j true q = refl
    left_is p j false q = absurd (false≢true q)

    -- no job ends before the last of the k ticks is over
    no_end : (j : ℕ) → suc j < k → (p i : ℕ) → p < length s.tasks → ¬ Ends s p i (suc (t + j))
    no_end j b p i l x =
        true≢false
        (sym x.0
        ∙ (ap (λ (js : ℕ → Job). (js i).ended) (sym (line_at j (omega arith) p))
        ∙ none-ends s.rule (task s p) (ok p l) (t + j) ((full s (t + j)).job p) (full-claimed s (t + j) p) (after_handling j p) (cond (c p) (M p) (N p)) (N p) (c p) (granted p)
        (no-event j (omega arith) p l) more i (ends_by s (t + j) p i x)))
      where
        more : granted p ≡ true → after_handling j p ≡ 1 → ⊥
        more g e = omega (arith, short p g, left_is p j (granted p) g)

    -- so no tick before the k are over is an event
    pub none_between : NoEventBetween s t (t + k)
    none_between w a b (p, i, l, inl e) = omega (arith, near p l, (h.places p l).ahead.first w a (i, inl e))
    none_between w a b (p, i, l, inr (inl e)) = omega (arith, near p l, (h.places p l).ahead.first w a (i, inr e))
    none_between w a b (p, i, l, inr (inr x)) =
        let e : w ≡ suc (t + (w - t - 1)) = omega arith in
        no_end (w - t - 1) (omega arith) p i l (subst (Ends s p i) e x)

    -- where what is left of a place that has cores is k, its job ends when they are over
    pub ends : (j : ℕ) → k ≡ suc j → (p : ℕ) → granted p ≡ true → k ≡ L p → Event s (suc (t + j))
    ends j e p g z =
        let l : p < length s.tasks = row_inside s (full s t) p (sym (row p) ∙ g) in
        let x = last-ends s.rule (task s p) (ok p l) (t + j) ((full s (t + j)).job p) (full-claimed s (t + j) p) (after_handling j p) (cond (c p) (M p) (N p)) (N p) (c p)
        (no-event j (omega arith) p l) (omega (arith, left_is p j (granted p) g)) in (
          p,
          x.0,
          l,
          inr (inr (ends_at s (t + j) p x.0
              (ap (λ (js : ℕ → Job). (js x.0).ended)
              (sym (line_at j (omega arith) p) ∙ ap (λ (w : Bool). line_on s.rule (task s p) (t + j) w ((full s (t + j)).job p)) g)
              ∙ x.2)
              x.1)),
        )

    -- and the place represents its jobs at the tick after them
    pub landed : (j : ℕ) → k ≡ suc j → (p : ℕ) → p < length s.tasks
        → PlaceRepresents (task s p) (suc (t + j)) ((full s (suc (t + j))).job p) (cond (granted p) (L p - suc j) (L p)) (M p) (N p)
        (c p && not (granted p && eqb (L p) (suc j)))
    landed j e p l = record {
      related =
          subst
          (λ (x : Bool).
          PlaceRelatedAt (task s p) (suc (t + j)) ((full s (suc (t + j))).job p) (cond (granted p) (L p - suc j) (L p)) (cond (c p && not x) (M p) (N p)) (N p) (c p && not x))
          (is_last (granted p) (L p) j (λ g. let q = short p g in omega arith))
          (ticked (t + j) j (newest-is j (omega arith)) (no-event j (omega arith)) p l);
      ahead = upcoming-later (task s p) (suc t) (suc (t + j)) (M p) (N p) (h.places p l).ahead (omega arith) (omega (arith, near p l));
    }
