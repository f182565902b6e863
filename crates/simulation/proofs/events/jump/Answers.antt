-- It jumps as the definitions do (`jump-lands`), whether places were due or not, and whether the choice is kept or made anew.
use native.Mathlib.Omega.{arith}
use mathlib.Core.Path.{◌≡◌, sym, ap, ap₂, ◌∙◌, subst, subst₂}
use Prim.Native.Nat.{ℕ, ◌≤◌}
use lib.ListN.{get_or}
use Rattle.model.specs.Search.{bit}
use Rattle.model.specs.Task.{rule_of}
use Rattle.model.specs.Grants.{claimants}
use Rattle.rule.specs.Widths.{widths_in}
use Rattle.rule.proofs.Sets.{granted-unfenced}
use Rattle.simulation.specs.Machine.{Machine, machine_of}
use Rattle.simulation.specs.TickState.{Numbers, numbers_of}
use Rattle.simulation.specs.EventState.{EventState, event_state_of}
use Rattle.simulation.specs.Jump.{GrantedOwe, after_handling, granted_in_jump, ticks_in_jump, JumpLands}
use Rattle.simulation.proofs.JumpLands.{Goes, goes, jump-lands}
use Rattle.simulation.proofs.Taken.{Seen, due-handled, due-skipped, chosen-kept, kept_for, chosen-anew, ticks-are, jump-taken}
use Rattle.simulation.proofs.events.jump.Goals as goal
use Rattle.simulation.proofs.events.jump.Goals.{Start, Joined-registers-gt0, Joined-claiming-chosen, After-shortest-ticks}
use Rattle.simulation.proofs.events.jump.Goals.{then-registers-gt0, else-registers-gt0, then-claiming-chosen, else-claiming-chosen}

-- the table's numbers, and the run where the function begins
abbrev nums : Start → Numbers
nums s = numbers_of s.args.columns.now

abbrev state : Start → EventState
state s = event_state_of s.args.registers s.args.places.now

going : (s : Start) → Goes (nums s) (state s)
going s = goes s.requires.0 (nums s) (state s) s.requires.1

-- after the due places
after-of :
    (c : Joined-registers-gt0) → let s = (goal.at.Joined-registers-gt0 c).Start in
    Seen (nums s) (state s) (machine_of c.if-registers-gt0.places c.if-registers-gt0.claiming) c.if-registers-gt0.event c.if-registers-gt0.even
after-of c =
    let s = (goal.at.Joined-registers-gt0 c).Start in
    elim c.if-registers-gt0.branch [
      | then-registers-gt0 w ↦
          let d = due-handled (nums s) (state s) _ _ w.if-registers-gt0.true w.handle_due-claiming.ensures w.earliest-event.ensures in
          record { machines = ap₂ machine_of w.places-is w.claiming-is ∙ d.machines; event = w.event-is ∙ d.event; even = w.even-is ∙ d.even }
      | else-registers-gt0 w ↦
          let d = due-skipped (nums s) (state s) w.if-registers-gt0.false in
          record { machines = ap₂ machine_of w.places-is w.claiming-is ∙ d.machines; event = w.event-is ∙ d.event; even = w.even-is ∙ d.even }
    ]

-- the claimants
claims-of : (c : Joined-registers-gt0) → let s = (goal.at.Joined-registers-gt0 c).Start in
    c.if-registers-gt0.claiming ≡ (after_handling (nums s) (state s)).claiming
claims-of c = ap (λ (m : Machine). m.claiming) (after-of c).machines

-- the places that are granted cores: kept, or chosen anew
granted-of : (c : Joined-claiming-chosen) → let s = (goal.at.Joined-claiming-chosen c).Start in
    c.if-claiming-chosen.granted ≡ granted_in_jump (nums s) (state s)
granted-of c =
    let j = (goal.at.Joined-claiming-chosen c).Joined-registers-gt0 in
    let s = (goal.at.Joined-claiming-chosen c).Start in
    let n = nums s in
    let claiming = c.if-registers-gt0.claiming in
    let even = c.if-registers-gt0.even in
    elim c.if-claiming-chosen.branch [
      | then-claiming-chosen w ↦
          w.granted-is ∙ chosen-anew n (state s) claiming even _ (claims-of j) (after-of j).even w.if-claiming-chosen.true w.choose-granted.type_inv
          (λ q. w.choose-granted.ensures q
          ∙ granted-unfenced (rule_of n.rule) (claimants (widths_in even n.widths) (bit claiming)) _ n.fence n.cores (going s).narrow w.unfenced_cores-free.ensures q)
      | else-claiming-chosen w ↦ w.granted-is ∙ chosen-kept n (state s) claiming even (claims-of j) (after-of j).even w.if-claiming-chosen.false
    ]

-- and the claimants that they were chosen from
chosen_of : (c : Joined-claiming-chosen) → let s = (goal.at.Joined-claiming-chosen c).Start in
    c.if-claiming-chosen.chosen ≡ (after_handling (nums s) (state s)).claiming
chosen_of c =
    let j = (goal.at.Joined-claiming-chosen c).Joined-registers-gt0 in
    let s = (goal.at.Joined-claiming-chosen c).Start in
    elim c.if-claiming-chosen.branch [
      | then-claiming-chosen w ↦ w.chosen-is ∙ claims-of j
      | else-claiming-chosen w ↦
          w.chosen-is ∙ kept_for (nums s) (state s) c.if-registers-gt0.claiming c.if-registers-gt0.even (claims-of j) (after-of j).even w.if-claiming-chosen.false
    ]

-- how many ticks it takes
ticks-of : (c : After-shortest-ticks) → let s = (goal.at.After-shortest-ticks c).Start in
    c.shortest-ticks.result ≡ ticks_in_jump (nums s) (state s)
ticks-of c =
    let k = (goal.at.After-shortest-ticks c).Joined-claiming-chosen in
    let j = (goal.at.After-shortest-ticks c).Joined-registers-gt0 in
    let s = (goal.at.After-shortest-ticks c).Start in
    ticks-are (nums s) (state s) (machine_of c.if-registers-gt0.places c.if-registers-gt0.claiming) c.if-registers-gt0.event c.if-claiming-chosen.granted
    c.shortest-ticks.result (after-of j).machines (after-of j).event (granted-of k) c.shortest-ticks.ensures

pub handle_due-claiming-requires : goal.handle_due-claiming-requires
handle_due-claiming-requires c = (going (goal.at.handle_due-claiming-requires c).Start).fits

pub overflow_sub-event : goal.overflow_sub-event
overflow_sub-event c =
    let j = (goal.at.overflow_sub-event c).Joined-registers-gt0 in
    omega (arith, (after-of j).event, (going (goal.at.overflow_sub-event c).Start).before)

pub elapse-after-requires : goal.elapse-after-requires
elapse-after-requires c =
    let h = (goal.at.elapse-after-requires c).After-shortest-ticks in
    let k = (goal.at.elapse-after-requires c).Joined-claiming-chosen in
    let j = (goal.at.elapse-after-requires c).Joined-registers-gt0 in
    let s = (goal.at.elapse-after-requires c).Start in
    let g = going s in
    subst₂ (λ (x : ℕ) (m : Machine). GrantedOwe c.shortest-ticks.result (bit x) m) (sym (granted-of k)) (sym (after-of j).machines)
    (λ p e. ((g.owing p e).0, subst (λ (x : ℕ). x ≤ get_or (after_handling (nums s) (state s)).left p 0) (sym (ticks-of h)) (g.short.below p e)))

pub overflow_add-landed : goal.overflow_add-landed
overflow_add-landed c =
    let h = (goal.at.overflow_add-landed c).After-shortest-ticks in
    let j = (goal.at.overflow_add-landed c).Joined-registers-gt0 in
    let g = going (goal.at.overflow_add-landed c).Start in
    omega (arith, ticks-of h, g.short.within, g.before, (after-of j).event)

pub returns : goal.returns
returns c =
    let h = (goal.at.returns c).After-shortest-ticks in
    let k = (goal.at.returns c).Joined-claiming-chosen in
    let j = (goal.at.returns c).Joined-registers-gt0 in
    let s = (goal.at.returns c).Start in
    let value =
    jump-taken (nums s) (state s) (machine_of c.if-registers-gt0.places c.if-registers-gt0.claiming) _ c.if-registers-gt0.event c.if-claiming-chosen.chosen
    c.if-claiming-chosen.granted c.if-registers-gt0.even c.shortest-ticks.result c.due_by.result (after-of j) (chosen_of k) (granted-of k) (ticks-of h)
    c.elapse-after.ensures c.due_by.ensures in
    record { value = value; lands = λ t b. subst (JumpLands t (state s)) (sym value) (jump-lands t (nums s) (state s) b) }
