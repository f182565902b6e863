-- It steps as the definitions do, whether the due events were handled or the next event had not come, and whether the choice is kept or made anew.
use mathlib.Core.Bool.{true, false}
use mathlib.Core.Path.{◌≡◌, sym, ap, ap₂, ◌∙◌, subst₂}
use Prim.Native.Nat.{ℕ}
use Rattle.model.specs.Search.{bit}
use Rattle.model.specs.Task.{rule_of}
use Rattle.model.specs.Grants.{claimants}
use Rattle.rule.specs.Widths.{widths_in}
use Rattle.rule.proofs.Sets.{granted-unfenced}
use Rattle.simulation.specs.Machine.{Machine, machine_of, GrantedOwed}
use Rattle.simulation.specs.TickState.{Numbers, numbers_of, TickState, tick_state_of, after_events, next_event_after, even_at_tick, granted_at}
use Rattle.simulation.proofs.Steps.{due-handled, due-skipped, even-handled, even-skipped, unchanged-by, unchanged-claims, chosen-kept, chosen-anew, step-taken}
use Rattle.simulation.proofs.ticks.step.Goals as goal
use Rattle.simulation.proofs.ticks.step.Goals.{Start, Joined-event-tick, Joined-claiming-chosen, then-event-tick, else-event-tick, then-claiming-chosen, else-claiming-chosen}

-- the table's numbers, and the run where the function begins
abbrev nums : Start → Numbers
nums s = numbers_of s.args.columns.now

abbrev state : Start → TickState
state s = tick_state_of s.args.registers s.args.places.now

-- after the due events
after-of :
    (c : Joined-event-tick) → let s = (goal.at.Joined-event-tick c).Start in
    (machine_of c.if-event-tick.places c.if-event-tick.claiming ≡ after_events (nums s) (state s))
    × (c.if-event-tick.event ≡ next_event_after (nums s) (state s))
    × (c.if-event-tick.even ≡ even_at_tick (nums s) (state s))
after-of c =
    let b = (goal.at.Joined-event-tick c).Start in
    let n = nums b in
    let s = state b in
    elim c.if-event-tick.branch [
      | then-event-tick w ↦
          let d = due-handled n s _ _ w.if-event-tick.true w.release_due-due.ensures in
          (ap₂ machine_of w.places-is w.claiming-is ∙ d.0, w.event-is ∙ d.1, w.even-is ∙ even-handled n s _ (ap (λ (m : Machine). m.claiming) d.0))
      | else-event-tick w ↦
          let d = due-skipped n s w.if-event-tick.false in
          (ap₂ machine_of w.places-is w.claiming-is ∙ d.0, w.event-is ∙ d.1, w.even-is ∙ even-skipped n s w.if-event-tick.false)
    ]

-- the claimants
claims-of : (c : Joined-event-tick) → let s = (goal.at.Joined-event-tick c).Start in c.if-event-tick.claiming ≡ (after_events (nums s) (state s)).claiming
claims-of c = ap (λ (m : Machine). m.claiming) (after-of c).0

-- the places that are granted cores: kept, or chosen anew
granted-of : (c : Joined-claiming-chosen) → let s = (goal.at.Joined-claiming-chosen c).Start in c.if-claiming-chosen.granted ≡ granted_at (nums s) (state s)
granted-of c =
    let j = (goal.at.Joined-claiming-chosen c).Joined-event-tick in
    let b = (goal.at.Joined-claiming-chosen c).Start in
    let n = nums b in
    let s = state b in
    let claiming = c.if-event-tick.claiming in
    let even = c.if-event-tick.even in
    elim c.if-claiming-chosen.branch [
      | then-claiming-chosen w ↦
          w.granted-is ∙ chosen-anew n s claiming even _ (claims-of j) (after-of j).2
          (unchanged-by n s claiming even true (claims-of j) (after-of j).2 w.if-claiming-chosen.true) w.choose-granted.type_inv
          (λ q. w.choose-granted.ensures q ∙ granted-unfenced (rule_of n.rule) (claimants (widths_in even n.widths) (bit claiming)) _ n.fence n.cores
          c.requires.narrow w.unfenced_cores-free.ensures q)
      | else-claiming-chosen w ↦
          w.granted-is ∙ chosen-kept n s (unchanged-by n s claiming even false (claims-of j) (after-of j).2 w.if-claiming-chosen.false)
    ]

-- and the claimants that they were chosen from
chosen_of : (c : Joined-claiming-chosen) → let s = (goal.at.Joined-claiming-chosen c).Start in
    c.if-claiming-chosen.chosen ≡ (after_events (nums s) (state s)).claiming
chosen_of c =
    let j = (goal.at.Joined-claiming-chosen c).Joined-event-tick in
    let b = (goal.at.Joined-claiming-chosen c).Start in
    let n = nums b in
    let s = state b in
    elim c.if-claiming-chosen.branch [
      | then-claiming-chosen w ↦ w.chosen-is ∙ claims-of j
      | else-claiming-chosen w ↦
          w.chosen-is ∙ sym (unchanged-claims n s
          (unchanged-by n s c.if-event-tick.claiming c.if-event-tick.even false (claims-of j) (after-of j).2 w.if-claiming-chosen.false))
    ]

pub work-after-requires : goal.work-after-requires
work-after-requires c =
    let k = (goal.at.work-after-requires c).Joined-claiming-chosen in
    let j = (goal.at.work-after-requires c).Joined-event-tick in
    subst₂ (λ (g : ℕ) (m : Machine). GrantedOwed (bit g) m) (sym (granted-of k)) (sym (after-of j).0) c.requires.owed

pub returns : goal.returns
returns c =
    let k = (goal.at.returns c).Joined-claiming-chosen in
    let j = (goal.at.returns c).Joined-event-tick in
    let s = (goal.at.returns c).Start in
    step-taken (nums s) (state s) (machine_of c.if-event-tick.places c.if-event-tick.claiming) _ c.if-event-tick.event c.if-claiming-chosen.chosen
    c.if-claiming-chosen.granted c.if-event-tick.even (after-of j).0 (after-of j).1 (chosen_of k) (granted-of k) (after-of j).2 c.work-after.ensures
