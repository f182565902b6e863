-- A jump as code takes it is the jump of the definitions: the due places handled where there are any, the choice kept or made anew.
use mathlib.Core.Path.{◌≡◌, refl, sym, ap, ap₂, ◌∙◌}
use mathlib.Core.Bool.{Bool, true, false, not, ◌&&◌, ◌||◌, cond}
use Prim.Native.Nat.{ℕ, ◌+◌, ◌-◌, ◌^◌, ◌≤◌, ◌<◌}
use native.Mathlib.Omega.{arith}
use lib.Dec.{eqb}
use borrow.Author.Tests.{eq-eqb, eqb-true, ne_eqb}
use Rattle.model.specs.Fence.{unfenced}
use Rattle.model.specs.Search.{bit}
use Rattle.model.specs.Task.{rule_of}
use Rattle.model.specs.Grants.{claimants}
use Rattle.model.proofs.Bools.{and_left}
use Rattle.rule.specs.Granted.{granted}
use Rattle.rule.specs.Widths.{widths_in}
use Rattle.simulation.specs.Machine.{Machine}
use Rattle.simulation.specs.TickState.{Numbers, toggled_by, choice}
use Rattle.simulation.proofs.Sets.{set_is, toggled-none}
use Rattle.simulation.specs.EventState.{EventState, due_at, earliest_of}
use Rattle.simulation.specs.Jump.{handled_all, least_left, elapsed, after_handling, next_event_ahead, even_in_jump, choice_kept_in_jump, granted_in_jump, ticks_in_jump, jumped}

module _ (n : Numbers) (s : EventState) where
  abbrev handled_to : Machine
  handled_to = handled_all s.tick (bit s.due) n.lengths n.deadlines n.periods s.machine

  after-by : (b : Bool) → eqb s.due 0 ≡ b → cond b s.machine handled_to ≡ after_handling n s
  unfolding after_handling
  after-by b e = ap (λ (x : Bool). cond x s.machine handled_to) (sym e)

  next-event-by : (b : Bool) → eqb s.due 0 ≡ b → cond b s.event (earliest_of n.count (after_handling n s).event) ≡ next_event_ahead n s
  unfolding next_event_ahead
  next-event-by b e = ap (λ (x : Bool). cond x s.event (earliest_of n.count (after_handling n s).event)) (sym e)

  -- what the due places leave: the machine, the earliest event to come, and the places at their second width
  pub record Seen (m' : Machine) (event' even' : ℕ) : Type 0 where
    pub machines : m' ≡ after_handling n s
    pub event : event' ≡ next_event_ahead n s
    pub even : even' ≡ even_in_jump n s

  -- the due places are handled
  pub due-handled :
      (m' : Machine) (event' : ℕ) → 0 < s.due → m' ≡ handled_to → event' ≡ earliest_of n.count m'.event
      → Seen m' event' (toggled_by n.paired s.even s.machine.claiming m'.claiming)
  unfolding even_in_jump
  due-handled m' event' l d b =
      let e = ne_eqb s.due 0 (λ z. absurd (omega arith)) in
      let x : m' ≡ after_handling n s = d ∙ after-by false e in
      record {
        machines = x;
        event = b ∙ (ap (λ (m : Machine). earliest_of n.count m.event) x ∙ next-event-by false e);
        even = ap (λ (m : Machine). toggled_by n.paired s.even s.machine.claiming m.claiming) x;
      }

  -- or there are none
  pub due-skipped : s.due ≤ 0 → Seen s.machine s.event s.even
  unfolding even_in_jump
  due-skipped l =
      let e = eq-eqb s.due 0 (omega arith) in
      let x : s.machine ≡ after_handling n s = after-by true e in
      record {
        machines = x;
        event = next-event-by true e;
        even =
            sym (toggled-none n.paired s.even s.machine.claiming)
            ∙ ap (λ (m : Machine). toggled_by n.paired s.even s.machine.claiming m.claiming) x;
      }

  granted-by : (b : Bool) → choice_kept_in_jump n s ≡ b → cond b s.granted (choice n (after_handling n s).claiming (even_in_jump n s)) ≡ granted_in_jump n s
  unfolding granted_in_jump
  granted-by b e = ap (λ (x : Bool). cond x s.granted (choice n (after_handling n s).claiming (even_in_jump n s))) (sym e)

  -- the test of code, for the claimants c and the set e of those at their second width
  abbrev changed : ℕ → ℕ → Bool
  changed c e = not (eqb c s.chosen) || not (eqb e s.even)

  unchanged-by : (c e : ℕ) → c ≡ (after_handling n s).claiming → e ≡ even_in_jump n s → (b : Bool) → changed c e ≡ b → choice_kept_in_jump n s ≡ not b
  unchanged-by c e x y b h =
      ap₂ (λ (i j : ℕ). eqb i s.chosen && eqb j s.even) (sym x) (sym y)
      ∙ (both (eqb c s.chosen) (eqb e s.even) ∙ ap not h)
    where
      both : (a b : Bool) → a && b ≡ not (not a || not b)
      both true true = refl
      both true false = refl
      both false b = refl

  -- the choice is kept
  pub chosen-kept : (c e : ℕ) → c ≡ (after_handling n s).claiming → e ≡ even_in_jump n s → changed c e ≡ false → s.granted ≡ granted_in_jump n s
  chosen-kept c e x y h = granted-by true (unchanged-by c e x y false h)

  -- for these claimants
  pub kept_for : (c e : ℕ) → c ≡ (after_handling n s).claiming → e ≡ even_in_jump n s → changed c e ≡ false → s.chosen ≡ (after_handling n s).claiming
  kept_for c e x y h =
      sym (eqb-true (after_handling n s).claiming s.chosen
      (and_left (eqb (after_handling n s).claiming s.chosen) (eqb (even_in_jump n s) s.even) (unchanged-by c e x y false h)))

  -- or made anew
  pub chosen-anew :
      (c e g : ℕ) → c ≡ (after_handling n s).claiming → e ≡ even_in_jump n s → changed c e ≡ true → g < 2 ^ 32
      → ((q : ℕ) → bit g q ≡ granted (rule_of n.rule) (claimants (widths_in e n.widths) (bit c)) (unfenced n.fence n.cores) q) → g ≡ granted_in_jump n s
  chosen-anew c e g x y h small chosen =
      set_is 32 g (granted (rule_of n.rule) (claimants (widths_in e n.widths) (bit c)) (unfenced n.fence n.cores)) small (λ i l. chosen i)
      ∙ (ap₂ (choice n) x y ∙ granted-by false (unchanged-by c e x y true h))

  -- the ticks that it takes
  pub ticks-are :
      (m : Machine) (next_event granted k : ℕ) → m ≡ after_handling n s → next_event ≡ next_event_ahead n s → granted ≡ granted_in_jump n s
      → k ≡ least_left 32 (bit granted) (next_event - s.tick) m.left → k ≡ ticks_in_jump n s
  unfolding ticks_in_jump
  ticks-are m next_event granted k em eb eg e = e ∙ (λ i. least_left 32 (bit (eg i)) (eb i - s.tick) (em i).left)

  -- and where it ends
  pub jump-taken :
      (m₁ m₂ : Machine) (next_event chosen granted even k due : ℕ) → Seen m₁ next_event even → chosen ≡ (after_handling n s).claiming → granted ≡ granted_in_jump n s
      → k ≡ ticks_in_jump n s → m₂ ≡ elapsed k (bit granted) m₁ → due ≡ cond (eqb (s.tick + k) next_event) (due_at (s.tick + k) n.count m₂.event) 0
      → record { tick = s.tick + k; machine = m₂; due = due; event = next_event; chosen = chosen; granted = granted; even = even } ≡ jumped n s
  unfolding jumped
  jump-taken m₁ m₂ next_event chosen granted even k due x ec eg ek w ed = λ i. record {
    tick = s.tick + ek i;
    machine = (w ∙ there) i;
    due = (ed ∙ λ j. cond (eqb (s.tick + ek j) (x.event j)) (due_at (s.tick + ek j) n.count (same-event j)) 0) i;
    event = x.event i;
    chosen = ec i;
    granted = eg i;
    even = x.even i;
  }
    where
      em : m₁ ≡ after_handling n s
      em = x.machines

      there : elapsed k (bit granted) m₁ ≡ elapsed (ticks_in_jump n s) (bit (granted_in_jump n s)) (after_handling n s)
      there = λ i. elapsed (ek i) (bit (eg i)) (em i)

      same-event : m₂.event ≡ (after_handling n s).event
      same-event = ap (λ (m : Machine). m.event) w ∙ ((unfold elapsed in ap (λ (m : Machine). m.event) em))
