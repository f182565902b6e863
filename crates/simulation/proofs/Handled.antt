-- The due places handled: one more of them, and that the run then is that after the due events of the tick.
use mathlib.Core.Path.{◌≡◌, refl, sym, ap, ◌∙◌, fun_ext, subst}
use mathlib.Core.Bool.{Bool, true, false, ◌&&◌, ◌||◌, cond}
use mathlib.Core.List.{List}
use mathlib.Core.Logic.{⊎_elim}
use Prim.Native.Nat.{ℕ, suc, ◌+◌, ◌^◌, ◌≤◌, ◌<◌}
use native.Mathlib.Nat.{le_trans, eq-zero-or-pos}
use native.Mathlib.Omega.{arith}
use lib.Dec.{eqb, leb}
use lib.ListN.{length, get_or, set}
use borrow.Author.Tests.{eqb-true, eqb-false, leb-true, leb-false}
use Rattle.model.specs.Search.{bit}
use Rattle.model.specs.Task.{Task, Table, task, AllValid, ValidTask, due}
use Rattle.model.specs.Jobs.{Job}
use Rattle.model.specs.Lists.{full, Missed}
use Rattle.model.proofs.Runs.{missed-at}
use Rattle.simulation.specs.Places.{map_places, set_where}
use Rattle.simulation.specs.Machine.{Machine, machine, with_release, Sized}
use Rattle.simulation.specs.TickState.{toggled_by}
use Rattle.simulation.specs.PlaceRelation.{PlaceRelatedAt, WidthParity}
use Rattle.simulation.proofs.Places.{each-length, each_at, each_none, each-still, each_more}
use Rattle.simulation.proofs.Sets.{set-has, set-lt, set_past, set_is, toggled-bit}
use Rattle.simulation.proofs.Place.{overdue-has, overdue-is}
use Rattle.simulation.proofs.MachineRelated.{Ready, Columns}
use Rattle.simulation.proofs.WidthParity.{WidthToggled, Paired, parity-due}
use Rattle.simulation.specs.EventState.{PlaceRepresents, PlaceRepresentsAt, MachineRepresents}
use Rattle.simulation.specs.Jump.{handled, releases_at, handled_all}
use Rattle.simulation.proofs.Represents.{same-represents, represents-pass, represents-release, represents-event}

-- PLACE BY PLACE

-- no place is due
pub handled-none : (t : ℕ) (f : ℕ → Bool) (C D T : List ℕ) (m : Machine) → m.claiming < 2 ^ 32 → ((p : ℕ) → f p ≡ false) → handled_all t f C D T m ≡ m
unfolding handled_all
handled-none t f C D T m h e = λ i. record { left = left i; event = event i; next = next i; claiming = claiming i }
  where
    left : map_places (λ p l. cond (releases_at t f m p) (get_or C p 0) l) m.left ≡ m.left
    left = each_none (λ p l. cond (releases_at t f m p) (get_or C p 0) l) m.left (λ p x. rw (e p))

    event : map_places (λ p x. cond (f p) (cond (eqb (get_or m.next p 0) t) (t + get_or D p 0) (get_or m.next p 0)) x) m.event ≡ m.event
    event =
        each_none (λ p x. cond (f p) (cond (eqb (get_or m.next p 0) t) (t + get_or D p 0) (get_or m.next p 0)) x) m.event (λ p x. rw (e p))

    next : map_places (λ p x. cond (releases_at t f m p) (t + get_or T p 0) x) m.next ≡ m.next
    next = each_none (λ p x. cond (releases_at t f m p) (t + get_or T p 0) x) m.next (λ p x. rw (e p))

    claiming : set_where 32 (λ p. releases_at t f m p || bit m.claiming p) ≡ m.claiming
    claiming = sym (set_is 32 m.claiming (λ p. releases_at t f m p || bit m.claiming p) h (λ i l. rw (e i)))

-- the same are
pub handled-same : (t : ℕ) (f g : ℕ → Bool) (C D T : List ℕ) (m : Machine) → ((p : ℕ) → f p ≡ g p) → handled_all t f C D T m ≡ handled_all t g C D T m
handled-same t f g C D T m e = ap (λ (h : ℕ → Bool). handled_all t h C D T m) (fun_ext e)

-- of g are due those of f, and place p
module _
    (t : ℕ) (f g : ℕ → Bool) (C D T : List ℕ) (m : Machine) (p : ℕ) (off : f p ≡ false) (on : g p ≡ true) (other : (q : ℕ) → (q ≡ p → ⊥) → g q ≡ f q)
  where
    abbrev before : Machine
    before = handled_all t f C D T m

    -- its next release is as it was
    still-next : get_or before.next p 0 ≡ get_or m.next p 0
    unfolding handled_all
    still-next = each-still (λ p x. cond (releases_at t f m p) (t + get_or T p 0) x) m.next p (λ x. rw off)

    abbrev waited : Machine
    waited = machine before.left (set before.event p (get_or before.next p 0)) before.next before.claiming

    event-more :
        (v : ℕ) → cond (eqb (get_or m.next p 0) t) (t + get_or D p 0) (get_or m.next p 0) ≡ v
        → set before.event p v ≡ (handled_all t g C D T m).event
    unfolding handled_all
    event-more v e =
        each_more (λ p x. cond (f p) (cond (eqb (get_or m.next p 0) t) (t + get_or D p 0) (get_or m.next p 0)) x)
        (λ p x. cond (g p) (cond (eqb (get_or m.next p 0) t) (t + get_or D p 0) (get_or m.next p 0)) x) m.event p v (rw on e)
        (λ q x n. rw (other q n))

    -- its next job is released
    released-more : eqb (get_or m.next p 0) t ≡ true → p < 32 → with_release p t (get_or C p 0) (get_or D p 0) (get_or T p 0) before ≡ handled_all t g C D T m
    unfolding with_release
    released-more e h = λ i. record { left = left i; event = event-more (t + get_or D p 0) (rw e) i; next = next i; claiming = claims i }
      where
        left : set before.left p (get_or C p 0) ≡ (handled_all t g C D T m).left
        left = unfold handled_all in
            each_more (λ p l. cond (releases_at t f m p) (get_or C p 0) l) (λ p l. cond (releases_at t g m p) (get_or C p 0) l) m.left p (get_or C p 0) (rw (on, e))
            (λ q x n. rw (other q n))

        next : set before.next p (t + get_or T p 0) ≡ (handled_all t g C D T m).next
        next = unfold handled_all in
            each_more (λ p x. cond (releases_at t f m p) (t + get_or T p 0) x) (λ p x. cond (releases_at t g m p) (t + get_or T p 0) x) m.next p (t + get_or T p 0) (rw (on, e))
            (λ q x n. rw (other q n))

        F : ℕ → Bool
        F q = releases_at t f m q || bit m.claiming q

        G : ℕ → Bool
        G q = releases_at t g m q || bit m.claiming q

        bits : (q : ℕ) → q < 32 → (x : Bool) → eqb q p ≡ x → x || bit (set_where 32 F) q ≡ G q
        bits q l true z = subst (λ (r : ℕ). true ≡ G r) (sym (eqb-true q p z)) (rw (on, e))
        bits q l false z = set-has 32 F q l ∙ ap (λ (b : Bool). b && eqb (get_or m.next q 0) t || bit m.claiming q) (sym (other q (eqb-false q p z)))

        claims : set_where 32 (λ q. eqb q p || bit before.claiming q) ≡ (handled_all t g C D T m).claiming
        claims = unfold handled_all in
            set_is 32 (set_where 32 (λ q. eqb q p || bit (set_where 32 F) q)) G (set-lt 32 (λ q. eqb q p || bit (set_where 32 F) q))
            (λ q l. set-has 32 (λ q. eqb q p || bit (set_where 32 F) q) q l ∙ bits q l (eqb q p) refl)

    -- or it waits for its next release
    waited-more : eqb (get_or m.next p 0) t ≡ false → waited ≡ handled_all t g C D T m
    waited-more e = λ i. record { left = left i; event = event i; next = next i; claiming = claims i }
      where
        same : (q : ℕ) (x : Bool) → eqb q p ≡ x → releases_at t f m q ≡ releases_at t g m q
        same q true z = subst (λ (r : ℕ). releases_at t f m r ≡ releases_at t g m r) (sym (eqb-true q p z)) (rw (off, on) (sym e))
        same q false z = ap (λ (b : Bool). b && eqb (get_or m.next q 0) t) (sym (other q (eqb-false q p z)))

        all : releases_at t f m ≡ releases_at t g m
        all = fun_ext (λ q. same q (eqb q p) refl)

        left : before.left ≡ (handled_all t g C D T m).left
        left = unfold handled_all in ap (λ (h : ℕ → Bool). map_places (λ p l. cond (h p) (get_or C p 0) l) m.left) all

        event : set before.event p (get_or before.next p 0) ≡ (handled_all t g C D T m).event
        event = ap (λ (v : ℕ). set before.event p v) still-next ∙ event-more (get_or m.next p 0) (rw e)

        next : before.next ≡ (handled_all t g C D T m).next
        next = unfold handled_all in ap (λ (h : ℕ → Bool). map_places (λ p x. cond (h p) (t + get_or T p 0) x) m.next) all

        claims : before.claiming ≡ (handled_all t g C D T m).claiming
        claims = unfold handled_all in ap (λ (h : ℕ → Bool). set_where 32 (λ p. h p || bit m.claiming p)) all

    pub handled-more : p < 32 → handled p t (get_or C p 0) (get_or D p 0) (get_or T p 0) before ≡ handled_all t g C D T m
    unfolding handled
    handled-more h =
        ap (λ (v : ℕ). cond (eqb v t) (with_release p t (get_or C p 0) (get_or D p 0) (get_or T p 0) before) waited) still-next
        ∙ go (eqb (get_or m.next p 0) t) refl
      where
        go : (x : Bool) → eqb (get_or m.next p 0) t ≡ x → cond x (with_release p t (get_or C p 0) (get_or D p 0) (get_or T p 0) before) waited ≡ handled_all t g C D T m
        go true e = released-more e h
        go false e = waited-more e

-- LATE OR NOT

-- a place at its event with ticks left has a job that is due and has not ended
pub late-has :
    (τ : Task) (t : ℕ) (js : ℕ → Job) (l m n : ℕ) (c : Bool) → PlaceRepresents τ t js l m n c → m ≡ t → 0 < l → (k : ℕ) × (due τ k ≡ t) × ((js k).ended ≡ false)
late-has τ t js l m n true h at some = overdue-has τ t js l m n true h.related at some
late-has τ t js l m n false h at some = absurd (omega (arith, h.related.none))

-- a place that has such a job is at its event, with ticks left
pub late_is :
    (τ : Task) → ValidTask τ → (t : ℕ) (js : ℕ → Job) (l m n : ℕ) (c : Bool) → PlaceRepresents τ t js l m n c → (k : ℕ) → due τ k ≡ t → (js k).ended ≡ false
    → (m ≡ t) × (0 < l)
late_is τ ok t js l m n true h k d o = overdue-is τ ok t js l m n true h.related t k (omega arith) d o
late_is τ ok t js l m n false h k d o =
    let x = overdue-is τ ok t js l n n false h.related t k (omega arith) d o in
    absurd (omega (arith, x.1, h.related.none))

-- THE RUN AFTER THE DUE PLACES ARE HANDLED

module _
    (s : Table) (ok : AllValid s) (few : length s.tasks ≤ 32) (t : ℕ) (m : Machine) (h : MachineRepresents s t t m)
  where
    -- where no place is due
    pub none-due : ((p : ℕ) → p < length s.tasks → get_or m.event p 0 ≡ t → ⊥) → MachineRepresents s t (suc t) m
    none-due away = record {
      sized = h.sized;
      places = λ p l.
          represents-pass (task s p) t ((full s t).job p) (get_or m.left p 0) (get_or m.event p 0) (get_or m.next p 0) (bit m.claiming p)
          (h.places p l) (away p l);
      beyond = h.beyond;
    }

    module _
        (d : ℕ → Bool) (exact : (p : ℕ) → p < length s.tasks → d p ≡ eqb (get_or m.event p 0) t)
        (past : (p : ℕ) → length s.tasks ≤ p → d p ≡ false) (met : (p : ℕ) → ¬ Missed s p t)
        (O v C D T : List ℕ) (of : Columns s O v C D T)
      where
        abbrev after_handling : Machine
        after_handling = handled_all t d C D T m

        sized : Sized after_handling
        unfolding handled_all
        sized = record {
          left = each-length (λ p l. cond (releases_at t d m p) (get_or C p 0) l) m.left ∙ h.sized.left;
          event =
              each-length (λ p x. cond (d p) (cond (eqb (get_or m.next p 0) t) (t + get_or D p 0) (get_or m.next p 0)) x) m.event ∙ h.sized.event;
          next = each-length (λ p x. cond (releases_at t d m p) (t + get_or T p 0) x) m.next ∙ h.sized.next;
        }

        module _ (p : ℕ) (l : p < length s.tasks) where
          abbrev L : ℕ
          L = get_or m.left p 0

          abbrev M : ℕ
          M = get_or m.event p 0

          abbrev N : ℕ
          N = get_or m.next p 0

          abbrev c : Bool
          c = bit m.claiming p

          below : p < 32
          below = le_trans l few

          -- at its event nothing is left, since no deadline is missed
          none : M ≡ t → L ≡ 0
          none at =
              ⊎_elim
              (λ (z : L ≡ 0). z)
              (λ (z : 0 < L).
              let y = late-has (task s p) t ((full s t).job p) L M N c (h.places p l) at z in
              absurd (met p (missed-at s p t y.0 l y.1 y.2)))
              (eq-zero-or-pos L)

          here :
              (b : Bool) → d p ≡ b → (x : Bool) → eqb N t ≡ x
              → PlaceRepresents (task s p) (suc t) ((full s t).job p) (cond (b && x) (get_or C p 0) L) (cond b (cond x (t + get_or D p 0) N) M)
              (cond (b && x) (t + get_or T p 0) N) (b && x || c)
          here true e true f =
              let at : M ≡ t = eqb-true M t (sym (exact p l) ∙ e) in
              represents-release (task s p) (ok p l) t ((full s t).job p) L M N c (h.places p l) (eqb-true N t f) (none at) (get_or C p 0) (get_or D p 0) (get_or T p 0)
              (of.lengths p l) (of.deadlines p l) (of.periods p l)
          here true e false f =
              let at : M ≡ t = eqb-true M t (sym (exact p l) ∙ e) in
              represents-event (task s p) (ok p l) t ((full s t).job p) L M N c (h.places p l) at (none at) (eqb-false N t f)
          here false e x f =
              represents-pass (task s p) t ((full s t).job p) L M N c (h.places p l) (eqb-false M t (sym (exact p l) ∙ e))

          place : PlaceRepresentsAt s t (suc t) after_handling p
          unfolding handled_all
          place =
              same-represents (task s p) (suc t) ((full s t).job p)
              (get_or after_handling.left p 0) (cond (releases_at t d m p) (get_or C p 0) L)
              (get_or after_handling.event p 0) (cond (d p) (cond (eqb N t) (t + get_or D p 0) N) M)
              (get_or after_handling.next p 0) (cond (releases_at t d m p) (t + get_or T p 0) N)
              (bit after_handling.claiming p) (releases_at t d m p || c)
              (each_at (λ p l. cond (releases_at t d m p) (get_or C p 0) l) m.left p (omega (arith, h.sized.left, below)))
              (each_at (λ p x. cond (d p) (cond (eqb (get_or m.next p 0) t) (t + get_or D p 0) (get_or m.next p 0)) x) m.event p
              (omega (arith, h.sized.event, below)))
              (each_at (λ p x. cond (releases_at t d m p) (t + get_or T p 0) x) m.next p (omega (arith, h.sized.next, below)))
              (set-has 32 (λ p. releases_at t d m p || bit m.claiming p) p below)
              (here (d p) refl (eqb N t) refl)

        -- the due places have been handled
        pub handled-represents : MachineRepresents s t (suc t) after_handling
        handled-represents = record { sized = sized; places = place; beyond = λ p q. go p q (leb 32 p) refl }
          where
            go : (p : ℕ) → length s.tasks ≤ p → (x : Bool) → leb 32 p ≡ x → bit after_handling.claiming p ≡ false
            go p q true x = unfold handled_all in set_past 32 (λ p. releases_at t d m p || bit m.claiming p) p (leb-true 32 p x)
            go p q false x = unfold handled_all in
                set-has 32 (λ p. releases_at t d m p || bit m.claiming p) p (leb-false 32 p x) ∙ rw (past p q) (h.beyond p q)

-- a place that is released is turned to its other width. q is the set of the places with two, e that of those at their second
pub handled-parity :
    (s : Table) → AllValid s → (t : ℕ) (m m' : Machine) (q e : ℕ) → MachineRepresents s t t m → MachineRepresents s t (suc t) m' → Paired s q → WidthToggled s m e
    → WidthToggled s m' (toggled_by q e m.claiming m'.claiming)
handled-parity s ok t m m' q e h h' two turns p l =
    subst (WidthParity (task s p) (get_or m'.next p 0)) (sym (toggled-bit q e m.claiming m'.claiming p))
    (parity-due (task s p) (ok p l) t ((full s t).job p)
    (get_or m.left p 0) (cond (bit m.claiming p) (get_or m.event p 0) (get_or m.next p 0)) (get_or m.next p 0)
    (get_or m'.left p 0) (cond (bit m'.claiming p) (get_or m'.event p 0) (get_or m'.next p 0)) (get_or m'.next p 0)
    (bit m.claiming p) (bit m'.claiming p) (bit e p) (bit q p) (h.places p l).related (h'.places p l).related (two p l) (turns p l))

-- THE MACHINE OF CRATE SIMULATION: a place that does not claim has its next release for its event

abbrev pub plain : Machine → Machine
plain m = machine m.left (map_places (λ p d. cond (bit m.claiming p) d (get_or m.next p 0)) m.event) m.next m.claiming

-- the run is related to the book as that machine is
pub handled-ready : (s : Table) (t : ℕ) (m : Machine) → length s.tasks ≤ 32 → MachineRepresents s t (suc t) m → Ready s t (plain m)
handled-ready s t m few h = record {
  sized = record {
    left = h.sized.left;
    event = each-length (λ p d. cond (bit m.claiming p) d (get_or m.next p 0)) m.event ∙ h.sized.event;
    next = h.sized.next;
  };
  done = λ p l b.
      subst (λ (x : ℕ). PlaceRelatedAt (task s p) (suc t) ((full s t).job p) (get_or m.left p 0) x (get_or m.next p 0) (bit m.claiming p))
      (sym (each_at (λ p d. cond (bit m.claiming p) d (get_or m.next p 0)) m.event p (omega (arith, h.sized.event, le_trans l few))))
      (h.places p l).related;
  waiting = λ p l b. absurd (omega arith);
  beyond = h.beyond;
}
