-- THEOREM (jump-lands): a jump from the state of the full-length run at a tick at which no deadline is missed ends at the state of the least event
-- after it, and at every tick up to it the cores stay with the same tasks.
use mathlib.Core.Path.{◌≡◌, refl, sym, ap, ap₂, ◌∙◌, subst, subst₂}
use mathlib.Core.Bool.{Bool, true, false, not, ◌&&◌, cond, true≢false}
use mathlib.Core.List.{map}
use mathlib.Core.Logic.{inl, inr, ⊎_elim}
use Prim.Native.Nat.{ℕ, suc, ◌+◌, ◌-◌, ◌^◌, ◌≤◌, ◌<◌}
use native.Mathlib.Nat.{le_trans, eq-or-lt_of_le}
use native.Mathlib.Omega.{arith}
use lib.Dec.{eqb, leb}
use lib.ListN.{length, get_or}
use borrow.Author.Tests.{eqb-true, eqb-false, eq-eqb, le-ltb, lt-ltb, leb-true, leb-false}
use Rattle.model.specs.Search.{bit}
use Rattle.model.specs.Sizes.{most_cores, most_tasks}
use Rattle.model.specs.Task.{Table, task}
use Rattle.model.specs.Claims.{in_row}
use Rattle.model.specs.Lists.{full, Missed}
use Rattle.model.proofs.Bools.{and_left, and_right}
use Rattle.model.proofs.Digits.{bit-none}
use Rattle.model.proofs.Runs.{full-tick}
use Rattle.table.specs.declared.Loaded.{Loaded}
use Rattle.rule.specs.Widths.{widths_in}
use Rattle.simulation.specs.Machine.{Machine}
use Rattle.simulation.specs.TickState.{Numbers, loaded_numbers, choice}
use Rattle.simulation.proofs.SameClaimants.{Agrees, all-agree, row-places, row-owed}
use Rattle.simulation.proofs.MachineRelated.{Ready}
use Rattle.simulation.proofs.WidthParity.{WidthToggled}
use Rattle.table.specs.Fit.{loaded_table, Fit}
use Rattle.simulation.proofs.AtTick.{size, few, columns, paired}
use Rattle.simulation.proofs.RefinesTick.{choice-chosen}
use Rattle.simulation.specs.Event.{Event, NoEventBetween}
use Rattle.simulation.specs.EventState.{EventState, PlaceRepresents, PlaceRepresentsAt, MachineRepresents, StateRepresents, due_at, earliest_of, MetBefore}
use Rattle.simulation.specs.Jump.{handled_all, GrantedOwe, elapsed, after_handling, next_event_ahead, even_in_jump, choice_kept_in_jump, granted_in_jump, ticks_in_jump, jumped, JumpStarts, JumpLands}
use Rattle.simulation.proofs.Between.{same-between}
use Rattle.simulation.proofs.DuePlaces.{due-is, no-place-due, earliest-below, earliest-event}
use Rattle.simulation.proofs.Handled.{late_is, none-due, handled-represents, handled-parity, plain, handled-ready}
use Rattle.simulation.proofs.Passing.{passed-sized, passed-left, passed-claims, passed-past}
use Rattle.simulation.proofs.BetweenEvents.{row_inside, none_between, ends, landed}
use Rattle.simulation.proofs.Shortest.{Shortest, shortest-some, least-left-is}
use Rattle.simulation.proofs.Represents.{same-represents}

module _ (t : Loaded) (fit : Fit t) (s : EventState) (h : StateRepresents t s) where
  abbrev book : Table
  book = loaded_table t

  abbrev n : Numbers
  n = loaded_numbers t

  -- a place that is due is at its event
  pub due-exact : (p : ℕ) → p < length book.tasks → bit s.due p ≡ eqb (get_or s.machine.event p 0) s.tick
  due-exact p l =
      ap (λ (x : ℕ). bit x p) h.dues
      ∙ (due-is s.tick t.count s.machine.event fit.few p
      ∙ ap (λ (b : Bool). b && eqb (get_or s.machine.event p 0) s.tick) (lt-ltb p t.count (omega (arith, size t fit))))

  pub due-past : (p : ℕ) → length book.tasks ≤ p → bit s.due p ≡ false
  due-past p l =
      ap (λ (x : ℕ). bit x p) h.dues
      ∙ (due-is s.tick t.count s.machine.event fit.few p
      ∙ ap (λ (b : Bool). b && eqb (get_or s.machine.event p 0) s.tick) (le-ltb p t.count (omega (arith, size t fit))))

  -- and is one of the tasks
  pub due-inside : (p : ℕ) → bit s.due p ≡ true → p < length book.tasks
  due-inside p e = go (leb (length book.tasks) p) refl
    where
      go : (b : Bool) → leb (length book.tasks) p ≡ b → p < length book.tasks
      go true x = absurd (true≢false (sym e ∙ due-past p (leb-true (length book.tasks) p x)))
      go false x = leb-false (length book.tasks) p x

  -- a place that misses a deadline at the tick is due, with ticks left
  pub missed-due : (p : ℕ) → Missed book p s.tick → (bit s.due p ≡ true) × (0 < get_or s.machine.left p 0)
  missed-due p (l, x) =
      let y = late_is (task book p) (fit.valid p l) s.tick ((full book s.tick).job p) (get_or s.machine.left p 0) (get_or s.machine.event p 0)
      (get_or s.machine.next p 0) (bit s.machine.claiming p) (h.machines.places p l) x.0 (x.1 ∙ full-tick book s.tick) x.2 in
      (due-exact p l ∙ eq-eqb (get_or s.machine.event p 0) s.tick y.0, y.1)

  module _ (met : (p : ℕ) → ¬ Missed book p s.tick) where
    abbrev m : Machine
    m = after_handling n s

    abbrev next_event : ℕ
    next_event = next_event_ahead n s

    abbrev even : ℕ
    even = even_in_jump n s

    abbrev g : ℕ
    g = granted_in_jump n s

    abbrev k : ℕ
    k = ticks_in_jump n s

    -- once its due events have been handled
    pub represents-handled : MachineRepresents book s.tick (suc s.tick) m
    unfolding after_handling
    represents-handled = go (eqb s.due 0) refl
      where
        go : (b : Bool) → eqb s.due 0 ≡ b
            → MachineRepresents book s.tick (suc s.tick) (cond b s.machine (handled_all s.tick (bit s.due) n.lengths n.deadlines n.periods s.machine))
        go true e =
            none-due book fit.valid (few t fit) s.tick s.machine h.machines
            (λ p l. eqb-false (get_or s.machine.event p 0) s.tick
            (sym (due-exact p l) ∙ (ap (λ (x : ℕ). bit x p) (eqb-true s.due 0 e) ∙ bit-none p)))
        go false e =
            handled-represents book fit.valid (few t fit) s.tick s.machine h.machines (bit s.due) due-exact due-past met
            (map (λ x. x.offset) t.tasks) n.widths n.lengths n.deadlines n.periods (columns t fit)

    -- a place that is released has turned to its other width
    handled : WidthToggled book m even
    unfolding even_in_jump
    handled = handled-parity book fit.valid s.tick s.machine m n.paired s.even h.machines represents-handled (paired t fit) h.parity

    -- the next event is the earliest event to come
    next-event-is : next_event ≡ earliest_of t.count m.event
    unfolding next_event_ahead after_handling
    next-event-is = go (eqb s.due 0)
      where
        go : (b : Bool)
            → cond b s.event (earliest_of t.count (cond b s.machine (handled_all s.tick (bit s.due) n.lengths n.deadlines n.periods s.machine)).event)
            ≡ earliest_of t.count (cond b s.machine (handled_all s.tick (bit s.due) n.lengths n.deadlines n.periods s.machine)).event
        go true = h.next-event
        go false = refl

    next-event-below : (p : ℕ) → p < length book.tasks → next_event ≤ get_or m.event p 0
    next-event-below p l = omega (arith, next-event-is, earliest-below t.count m.event p (omega (arith, size t fit)))

    rings : (p : ℕ) × (p < length book.tasks) × (get_or m.event p 0 ≡ next_event)
    rings =
        let r = earliest-event t.count m.event fit.some in
        (r.0, omega (arith, r.1, size t fit), r.2 ∙ sym next-event-is)

    pub before : s.tick < next_event
    before = let r = rings in omega (arith, r.2, (represents-handled.places r.0 r.1).ahead.from)

    -- THE PLACES THAT ARE GRANTED CORES

    pub kept : g ≡ choice n m.claiming even
    unfolding granted_in_jump
    kept = go (choice_kept_in_jump n s) refl
      where
        go : (b : Bool) → choice_kept_in_jump n s ≡ b → cond b s.granted (choice n m.claiming even) ≡ choice n m.claiming even
        go true e =
            let c : m.claiming ≡ s.chosen = eqb-true m.claiming s.chosen (and_left (eqb m.claiming s.chosen) (eqb even s.even) e) in
            let w : even ≡ s.even = eqb-true even s.even (and_right (eqb m.claiming s.chosen) (eqb even s.even) e) in
            h.kept ∙ ap₂ (choice n) (sym c) (sym w)
        go false e = refl

    ready : Ready book s.tick (plain m)
    ready = handled-ready book s.tick m (few t fit) represents-handled

    -- the widths are those of the jobs that claim
    agree : Agrees book s.tick (plain m) (widths_in even n.widths)
    agree =
        all-agree book fit.valid (few t fit) s.tick (plain m) even ready handled
        (map (λ x. x.offset) t.tasks) n.widths n.lengths n.deadlines n.periods (columns t fit)

    row : (p : ℕ) → bit g p ≡ in_row book (full book s.tick) p
    row p =
        ap (λ (x : ℕ). bit x p) kept
        ∙ (choice-chosen t fit m.claiming even p
        ∙ row-places book fit.valid s.tick (plain m) ready (widths_in even n.widths) agree p)

    pub owing : GrantedOwe 1 (bit g) m
    owing p e = row-owed book fit.valid s.tick (plain m) ready (widths_in even n.widths) agree (bit g) row p e

    -- THE TICKS

    pub short : Shortest (bit g) (next_event - s.tick) m.left k
    unfolding ticks_in_jump
    short =
        least-left-is 32 (bit g) (next_event - s.tick) m.left
        (λ p e. le_trans (row_inside book (full book s.tick) p (sym (row p) ∙ e)) (few t fit))

    pub some : 0 < k
    some = shortest-some (bit g) (next_event - s.tick) m.left k short (omega (arith, before)) (λ p e. (owing p e).1)

    near : (p : ℕ) → p < length book.tasks → s.tick + k ≤ get_or m.event p 0
    near p l = omega (arith, short.within, before, next-event-below p l)

    none : NoEventBetween book s.tick (s.tick + k)
    none = none_between book fit.valid s.tick m represents-handled (bit g) row k short.below near

    last : k ≡ suc (k - 1)
    last = omega (arith, some)

    over : suc (s.tick + (k - 1)) ≡ s.tick + k
    over = omega (arith, some)

    event : Event book (s.tick + k)
    event = ⊎_elim
        (λ (z : k ≡ next_event - s.tick).
        let r = rings in
        let p = r.0 in
        let x = (represents-handled.places p r.1).ahead.marked in
        let u : get_or m.event p 0 ≡ s.tick + k = omega (arith, r.2, before) in
        (p, x.0, r.1, ⊎_elim (λ q. inl (q ∙ u)) (λ q. inr (inl (q ∙ u))) x.1))
        (λ (z : (p : ℕ) × (bit g p ≡ true) × (k ≡ get_or m.left p 0)).
        subst (Event book) over (ends book fit.valid s.tick m represents-handled (bit g) row k short.below near (k - 1) last z.0 z.1 z.2))
        short.reached

    -- WHERE IT ENDS

    abbrev there : Machine
    there = elapsed k (bit g) m

    place : (p : ℕ) → p < length book.tasks → PlaceRepresentsAt book (s.tick + k) (s.tick + k) there p
    place p l =
        same-represents (task book p) (s.tick + k) ((full book (s.tick + k)).job p)
        (get_or there.left p 0) (cond (bit g p) (get_or m.left p 0 - k) (get_or m.left p 0))
        (get_or there.event p 0) (get_or m.event p 0) (get_or there.next p 0) (get_or m.next p 0)
        (bit there.claiming p) (bit m.claiming p && not (bit g p && eqb (get_or m.left p 0) k))
        (passed-left k (bit g) m represents-handled.sized p (le_trans l (few t fit))) same-event same_next (passed-claims k (bit g) m p (le_trans l (few t fit)))
        (subst₂ At over (sym last)
        (landed book fit.valid s.tick m represents-handled (bit g) row k short.below near (k - 1) last p l))
      where
        At : ℕ → ℕ → Type 0
        At u x =
            PlaceRepresents (task book p) u ((full book u).job p) (cond (bit g p) (get_or m.left p 0 - x) (get_or m.left p 0)) (get_or m.event p 0) (get_or m.next p 0)
            (bit m.claiming p && not (bit g p && eqb (get_or m.left p 0) x))

        same-event : get_or there.event p 0 ≡ get_or m.event p 0
        same-event = unfold elapsed in refl

        same_next : get_or there.next p 0 ≡ get_or m.next p 0
        same_next = unfold elapsed in refl

    initially : MachineRepresents book (s.tick + k) (s.tick + k) there
    initially = record { sized = passed-sized k (bit g) m represents-handled.sized; places = place; beyond = λ p q. go p q (leb 32 p) refl }
      where
        go : (p : ℕ) → length book.tasks ≤ p → (x : Bool) → leb 32 p ≡ x → bit there.claiming p ≡ false
        go p q true x = passed-past k (bit g) m p (leb-true 32 p x)
        go p q false x = passed-claims k (bit g) m p (leb-false 32 p x) ∙ rw (represents-handled.beyond p q)

    -- before the next event no place is due
    dues : cond (eqb (s.tick + k) next_event) (due_at (s.tick + k) t.count m.event) 0 ≡ due_at (s.tick + k) t.count m.event
    dues = go (eqb (s.tick + k) next_event) refl
      where
        go : (b : Bool) → eqb (s.tick + k) next_event ≡ b → cond b (due_at (s.tick + k) t.count m.event) 0 ≡ due_at (s.tick + k) t.count m.event
        go true e = refl
        go false e =
            no-place-due (s.tick + k) t.count m.event
            (λ p l x. eqb-false (s.tick + k) next_event e (omega (arith, short.within, before, next-event-below p (omega (arith, size t fit)))))

    -- no deadline is missed on the way, since a deadline is an event
    met-there : MetBefore book (s.tick + k)
    met-there p w l x = go (leb w s.tick) refl
      where
        go : (b : Bool) → leb w s.tick ≡ b → ⊥
        go true e = ⊎_elim
            (λ (z : w ≡ s.tick). met p (subst (λ (u : ℕ). Missed book p u) z x))
            (λ (z : w < s.tick). h.met p w z x)
            (eq-or-lt_of_le (leb-true w s.tick e))
        go false e = none w (leb-false w s.tick e) l (p, x.1.0, x.0, inr (inl (x.1.1 ∙ full-tick book w)))

    pub lands : JumpLands t s (jumped n s)
    unfolding jumped elapsed
    lands = record {
      next = record { after = omega (arith, some); event = event; first = none };
      represents = record { machines = initially; dues = dues; next-event = next-event-is; parity = handled; kept = kept; met = met-there };
      same = λ w a b. same-between book fit.valid s.tick (s.tick + k) none w a b;
    }

pub jump-lands : (t : Loaded) (n : Numbers) (s : EventState) → JumpStarts t n s → JumpLands t s (jumped n s)
jump-lands t n s b = subst (λ (x : Numbers). JumpLands t s (jumped x s)) (sym b.numbers) (lands t b.fit s b.represents b.met)

-- WHAT CODE NEEDS of the numbers and the run of such a table
pub record Goes (n : Numbers) (s : EventState) : Type 0 where
  pub few : n.count ≤ most_tasks
  pub narrow : n.cores ≤ most_cores
  pub fits : (p : ℕ) → bit s.due p ≡ true → (s.tick + get_or n.deadlines p 0 < 2 ^ 32) × (s.tick + get_or n.periods p 0 < 2 ^ 32)
  pub before : s.tick < next_event_ahead n s
  pub owing : GrantedOwe 1 (bit (granted_in_jump n s)) (after_handling n s)
  pub short : Shortest (bit (granted_in_jump n s)) (next_event_ahead n s - s.tick) (after_handling n s).left (ticks_in_jump n s)

pub goes : (t : Loaded) (n : Numbers) (s : EventState) → JumpStarts t n s → Goes n s
goes t n s b = subst (λ (x : Numbers). Goes x s) (sym b.numbers) (record {
  few = b.fit.few;
  narrow = b.fit.narrow;
  fits = λ p e.
      let inside : p < length (loaded_table t).tasks = due-inside t b.fit s b.represents p e in
      let short = b.fit.short p (omega (arith, size t b.fit)) in (
        omega (arith, (columns t b.fit).deadlines p inside, short, (b.fit.valid p inside).constrained, b.early, b.fit.limit),
        omega (arith, (columns t b.fit).periods p inside, short, b.early, b.fit.limit),
      );
  before = before t b.fit s b.represents b.met;
  owing = owing t b.fit s b.represents b.met;
  short = short t b.fit s b.represents b.met;
})
