-- A run that represents the table's full-length run before a tick represents it before the next, where no deadline of the tick is missed.
use mathlib.Core.Path.{◌≡◌, refl, sym, ap, ◌∙◌, subst, subst₂}
use mathlib.Core.Bool.{Bool, true, false, not, ◌&&◌, cond}
use mathlib.Core.List.{List, [], map}
use Prim.Native.Nat.{ℕ, ◌^◌, ◌≤◌, ◌<◌}
use native.Mathlib.Omega.{arith}
use lib.Dec.{leb}
use lib.ListN.{length, get_or-eq_default}
use borrow.Author.Tests.{leb-true, leb-false}
use Rattle.model.specs.Fence.{unfenced_cores}
use Rattle.model.specs.Search.{bit}
use Rattle.model.specs.Task.{Table, rule_of}
use Rattle.model.specs.Grants.{claimants, grants, some}
use Rattle.model.specs.Lists.{Missed}
use Rattle.model.proofs.Grants.{grants-length}
use Rattle.model.specs.Sizes.{most_tasks}
use Rattle.table.specs.declared.Loaded.{Loaded}
use Rattle.simulation.specs.Machine.{Machine, released_due, earliest, finishes, worked_tick}
use Rattle.simulation.specs.TickState.{Numbers, numbers_by, loaded_numbers, paired_in, TickState, tick_state_of, initial_tick_state, Steppable}
use Rattle.simulation.specs.TickState.{after_events, next_event_after, toggled_by, even_at_tick, choice_kept, choice, granted_at, next_tick_state}
use Rattle.simulation.specs.declared.columns.Setting.{Setting}
use Rattle.simulation.specs.declared.machine.Registers.{Registers}
use Rattle.simulation.proofs.MachineRelated.{Ready}
use Rattle.simulation.proofs.WidthParity.{toggled-due}
use Rattle.simulation.proofs.Sets.{set-has, set_past, set-lt, toggled-none}
use Rattle.simulation.proofs.Steps.{unchanged-claims, unchanged-even}
use Rattle.simulation.proofs.Walk.{due-walked, earliest-event}
use Rattle.rule.specs.Granted.{granted}
use Rattle.rule.specs.Widths.{widths_in}
use Rattle.rule.proofs.Widths.{widths-length}
use Rattle.table.specs.Fit.{loaded_table, Fit}
use Rattle.simulation.proofs.AtTick.{size, few, columns, paired, Before, After, at-start, walk-skipped, Chosen, chosen_none, chosen-owed, next-tick}

-- before its tick the machine is related to the full-length run, no deadline has been missed, and the choice is that of the claimants it is kept for, with
-- their widths
pub record RefinesTick (t : Loaded) (s : TickState) : Type 0 where
  pub before : Before t s.machine s.even s.event s.tick
  pub chosen : Chosen t s.chosen s.even s.granted
  pub small : s.machine.claiming < 2 ^ 32

-- what code has of a table that fits where its run begins: its numbers, and the start of the machine
pub record TickStarts (t : Loaded) (x : Setting) (widths times : List ℕ) (p : Registers) (places : List ℕ) : Type 0 where
  pub fit : Fit t
  pub numbers : numbers_by x widths times ≡ loaded_numbers t
  pub state-start : tick_state_of p places ≡ initial_tick_state t

module _ (t : Loaded) (fit : Fit t) where
  abbrev book : Table
  book = loaded_table t

  abbrev n : Numbers
  n = loaded_numbers t

  -- THE START
  pub refines-start : RefinesTick t (initial_tick_state t)
  refines-start = record { before = at-start t fit; chosen = chosen_none t (paired_in t.tasks); small = omega arith }

  -- the walk over the due events of a tick without a miss
  due-after :
      (m : Machine) (even next_event tick : ℕ) → Before t m even next_event tick → ((q : ℕ) → ¬ Missed book q tick)
      → (m' : Machine) → m' ≡ released_due tick n.lengths n.deadlines n.periods t.count m
      → After t m' (toggled_by n.paired even m.claiming m'.claiming) (earliest t.count m'.event) tick
  due-after m even next_event tick b met m' e = record {
    ready = ready;
    toggles = toggled-due book fit.valid tick m m' n.paired even b.related ready (paired t fit) b.toggles;
    next-event = λ p l. earliest-event t.count m' p (omega (arith, size t fit));
  }
    where
      walked : Ready book tick (released_due tick n.lengths n.deadlines n.periods (length book.tasks) m)
      walked =
          due-walked book fit.valid (few t fit) (map (λ x. x.offset) t.tasks) n.widths n.lengths n.deadlines n.periods (columns t fit)
          tick m b.related met (length book.tasks) (omega arith)

      ready : Ready book tick m'
      ready =
          subst (Ready book tick) (sym e)
          (subst (λ (k : ℕ). Ready book tick (released_due tick n.lengths n.deadlines n.periods k m)) (size t fit) walked)

  -- the set that the rule chooses
  pub choice-chosen : (c e : ℕ) → Chosen t c e (choice n c e)
  choice-chosen c e p = go (leb most_tasks p) refl
    where
      f : ℕ → Bool
      f = granted (rule_of t.rule) (claimants (widths_in e n.widths) (bit c)) (unfenced_cores book)

      gs : List (List ℕ)
      gs = grants (rule_of t.rule) (claimants (widths_in e n.widths) (bit c)) (unfenced_cores book)

      wide : length gs ≡ most_tasks
      wide = grants-length (rule_of t.rule) (widths_in e n.widths) (bit c) (unfenced_cores book) ∙ widths-length e n.widths

      go : (x : Bool) → leb most_tasks p ≡ x → bit (choice n c e) p ≡ f p
      go true q =
          let l : length gs ≤ p = omega (arith, wide, leb-true most_tasks p q) in
          set_past most_tasks f p (leb-true most_tasks p q) ∙ sym (ap some (get_or-eq_default gs [] l))
      go false q = set-has most_tasks f p (leb-false most_tasks p q)

  module _ (s : TickState) (h : RefinesTick t s) (met : (q : ℕ) → ¬ Missed book q s.tick) where
    -- after the due events
    pub handled-after : After t (after_events n s) (even_at_tick n s) (next_event_after n s) s.tick
    unfolding after_events next_event_after even_at_tick
    handled-after = go (leb s.event s.tick) refl
      where
        due : Machine
        due = released_due s.tick n.lengths n.deadlines n.periods t.count s.machine

        go : (b : Bool) → leb s.event s.tick ≡ b
            → After t (cond b due s.machine) (toggled_by n.paired s.even s.machine.claiming (cond b due s.machine).claiming)
            (cond b (earliest t.count (cond b due s.machine).event) s.event) s.tick
        go true e = due-after s.machine s.even s.event s.tick h.before met due refl
        go false e =
            subst (λ (x : ℕ). After t s.machine x s.event s.tick) (sym (toggled-none n.paired s.even s.machine.claiming))
            (walk-skipped t fit s.machine s.even s.event s.tick h.before (leb-false s.event s.tick e))

    -- the places that are granted cores
    chosen : Chosen t (after_events n s).claiming (even_at_tick n s) (granted_at n s)
    unfolding granted_at
    chosen = go (choice_kept n s) refl
      where
        go : (b : Bool) → choice_kept n s ≡ b
            → Chosen t (after_events n s).claiming (even_at_tick n s) (cond b s.granted (choice n (after_events n s).claiming (even_at_tick n s)))
        go true e =
            subst₂ (λ (c x : ℕ). Chosen t c x s.granted) (sym (unchanged-claims n s e)) (sym (unchanged-even n s e)) h.chosen
        go false e = choice-chosen (after_events n s).claiming (even_at_tick n s)

    -- so it can be stepped
    pub steppable : s.tick ≤ 1000000000 → Steppable n s
    steppable l = record {
      few = fit.few;
      narrow = fit.narrow;
      fits = λ p b.
          let inside : p < length book.tasks = omega (arith, size t fit) in (
            omega (arith, (columns t fit).deadlines p inside, fit.short p b, (fit.valid p inside).constrained),
            omega (arith, (columns t fit).periods p inside, fit.short p b),
          );
      tick = omega arith;
      owed = chosen-owed t fit (after_events n s) (even_at_tick n s) (next_event_after n s) s.tick handled-after (granted_at n s) chosen;
    }

    -- and follows on
    refines-next : RefinesTick t (next_tick_state n s)
    unfolding next_tick_state worked_tick
    refines-next = record {
      before =
          next-tick t fit (after_events n s) (even_at_tick n s) (next_event_after n s) s.tick handled-after (worked_tick (bit (granted_at n s)) (after_events n s)) (granted_at n s)
          h.before.met chosen refl;
      chosen = chosen;
      small = set-lt most_tasks (λ p. bit (after_events n s).claiming p && not (finishes (bit (granted_at n s)) (after_events n s) p));
    }

    pub refines_on : (s' : TickState) → s' ≡ next_tick_state n s → RefinesTick t s'
    refines_on s' e = subst (RefinesTick t) (sym e) refines-next
