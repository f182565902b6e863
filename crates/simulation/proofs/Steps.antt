-- One tick as code takes it is the step of the definitions: the due events handled or the next event not yet come, the choice kept or made anew.
use mathlib.Core.Path.{◌≡◌, refl, sym, ap, ap₂, ◌∙◌}
use mathlib.Core.Bool.{Bool, true, false, not, ◌&&◌, ◌||◌, cond}
use Prim.Native.Nat.{ℕ, ◌+◌, ◌^◌, ◌≤◌, ◌<◌}
use lib.Dec.{eqb, leb}
use borrow.Author.Tests.{eqb-true, le-leb, lt-leb}
use Rattle.model.specs.Fence.{unfenced}
use Rattle.model.specs.Search.{bit}
use Rattle.model.specs.Task.{rule_of}
use Rattle.model.specs.Grants.{claimants}
use Rattle.model.proofs.Bools.{and_left, and_right}
use Rattle.rule.specs.Granted.{granted}
use Rattle.rule.specs.Widths.{widths_in}
use Rattle.simulation.specs.Machine.{Machine, released_due, earliest, DueEvents, worked_tick}
use Rattle.simulation.specs.TickState.{Numbers, TickState, after_events, next_event_after, toggled_by, even_at_tick, choice_kept, choice, granted_at, next_tick_state}
use Rattle.simulation.proofs.Sets.{set_is, toggled-none}

module _ (n : Numbers) (s : TickState) where
  abbrev due : Machine
  due = released_due s.tick n.lengths n.deadlines n.periods n.count s.machine

  after-by : (b : Bool) → leb s.event s.tick ≡ b → cond b due s.machine ≡ after_events n s
  unfolding after_events
  after-by b e = ap (λ (x : Bool). cond x due s.machine) (sym e)

  next-event-by : (b : Bool) → leb s.event s.tick ≡ b → cond b (earliest n.count (after_events n s).event) s.event ≡ next_event_after n s
  unfolding next_event_after
  next-event-by b e = ap (λ (x : Bool). cond x (earliest n.count (after_events n s).event) s.event) (sym e)

  -- the due events are handled
  pub due-handled :
      (m' : Machine) (event' : ℕ) → s.event ≤ s.tick → DueEvents s.tick n.count n.lengths n.deadlines n.periods s.machine m' event'
      → (m' ≡ after_events n s) × (event' ≡ next_event_after n s)
  due-handled m' event' l d =
      let e = le-leb s.event s.tick l in
      let x : m' ≡ after_events n s = d.machines ∙ after-by true e in
      (x, d.event ∙ ap (λ (m : Machine). earliest n.count m.event) x ∙ next-event-by true e)

  -- or the next event has not come
  pub due-skipped : s.tick < s.event → (s.machine ≡ after_events n s) × (s.event ≡ next_event_after n s)
  due-skipped l = let e = lt-leb s.event s.tick l in (after-by false e, next-event-by false e)

  -- the places at their second width
  pub even-handled : (c : ℕ) → c ≡ (after_events n s).claiming → toggled_by n.paired s.even s.machine.claiming c ≡ even_at_tick n s
  unfolding even_at_tick
  even-handled c e = ap (toggled_by n.paired s.even s.machine.claiming) e

  pub even-skipped : s.tick < s.event → s.even ≡ even_at_tick n s
  even-skipped l =
      sym (toggled-none n.paired s.even s.machine.claiming) ∙ even-handled s.machine.claiming (ap (λ (m : Machine). m.claiming) (due-skipped l).0)

  -- whether the claimants or their widths have changed
  pub unchanged-by :
      (c e : ℕ) (b : Bool) → c ≡ (after_events n s).claiming → e ≡ even_at_tick n s → not (eqb c s.chosen) || not (eqb e s.even) ≡ b → choice_kept n s ≡ not b
  unchanged-by c e b x y h =
      ap₂ (λ (u v : ℕ). eqb u s.chosen && eqb v s.even) (sym x) (sym y)
      ∙ (both (eqb c s.chosen) (eqb e s.even) ∙ ap not h)
    where
      both : (u v : Bool) → u && v ≡ not (not u || not v)
      both true true = refl
      both true false = refl
      both false v = refl

  pub unchanged-claims : choice_kept n s ≡ true → (after_events n s).claiming ≡ s.chosen
  unchanged-claims h =
      eqb-true (after_events n s).claiming s.chosen (and_left (eqb (after_events n s).claiming s.chosen) (eqb (even_at_tick n s) s.even) h)

  pub unchanged-even : choice_kept n s ≡ true → even_at_tick n s ≡ s.even
  unchanged-even h =
      eqb-true (even_at_tick n s) s.even (and_right (eqb (after_events n s).claiming s.chosen) (eqb (even_at_tick n s) s.even) h)

  granted-by : (b : Bool) → choice_kept n s ≡ b → cond b s.granted (choice n (after_events n s).claiming (even_at_tick n s)) ≡ granted_at n s
  unfolding granted_at
  granted-by b e = ap (λ (x : Bool). cond x s.granted (choice n (after_events n s).claiming (even_at_tick n s))) (sym e)

  -- the choice is kept
  pub chosen-kept : choice_kept n s ≡ true → s.granted ≡ granted_at n s
  chosen-kept h = granted-by true h

  -- or made anew
  pub chosen-anew :
      (c e g : ℕ) → c ≡ (after_events n s).claiming → e ≡ even_at_tick n s → choice_kept n s ≡ false → g < 2 ^ 32
      → ((q : ℕ) → bit g q ≡ granted (rule_of n.rule) (claimants (widths_in e n.widths) (bit c)) (unfenced n.fence n.cores) q) → g ≡ granted_at n s
  chosen-anew c e g x y new small h =
      set_is 32 g (granted (rule_of n.rule) (claimants (widths_in e n.widths) (bit c)) (unfenced n.fence n.cores)) small (λ i l. h i)
      ∙ (ap₂ (choice n) x y ∙ granted-by false new)

  -- the tick is entered
  pub step-taken :
      (m₁ m₂ : Machine) (next_event chosen given even : ℕ) → m₁ ≡ after_events n s → next_event ≡ next_event_after n s → chosen ≡ (after_events n s).claiming → given ≡ granted_at n s
      → even ≡ even_at_tick n s → m₂ ≡ worked_tick (bit given) m₁
      → record { tick = s.tick + 1; machine = m₂; event = next_event; chosen = chosen; granted = given; even = even } ≡ next_tick_state n s
  unfolding next_tick_state
  step-taken m₁ m₂ next_event chosen given even em eb ec eg ee w = λ i. record {
    tick = s.tick + 1;
    machine = (w ∙ ap₂ (λ (g : ℕ) (m : Machine). worked_tick (bit g) m) eg em) i;
    event = eb i;
    chosen = ec i;
    granted = eg i;
    even = ee i;
  }

-- the tick is the next, and the claimants of the tick are those that the choice is kept for, with their widths
pub tick-on : (n : Numbers) (s s' : TickState) → s' ≡ next_tick_state n s → s'.tick ≡ s.tick + 1
unfolding next_tick_state
tick-on n s s' e = ap (λ (x : TickState). x.tick) e

pub chosen_on : (n : Numbers) (s s' : TickState) → s' ≡ next_tick_state n s → s'.chosen ≡ (after_events n s).claiming
unfolding next_tick_state
chosen_on n s s' e = ap (λ (x : TickState). x.chosen) e

pub even-on : (n : Numbers) (s s' : TickState) → s' ≡ next_tick_state n s → s'.even ≡ even_at_tick n s
unfolding next_tick_state
even-on n s s' e = ap (λ (x : TickState). x.even) e
