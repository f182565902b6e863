use Rattle.std.proofs.Common.{◌≡◌, ◌<◌, ◌+◌, ℕ, List, map, get_or, length, set, rules, arith, refl, ap, ◌∙◌, length-set}
use Rattle.table.specs.Task.{no_task}
use Rattle.simulation.specs.Places.{segment}
use Rattle.simulation.specs.Machine.{Machine}
use Rattle.simulation.proofs.Fields.{Filled, filled_none, filled_more, filled-all}
use Rattle.simulation.proofs.Moves.{same-machine}
use Rattle.simulation.proofs.Parts.{stored-later}
use Rattle.simulation.proofs.machine.start.Goals as goal

pub loop-i-init : goal.loop-i-init
unfolding segment
loop-i-init c =
    let ts = c.args.table.tasks in
    let all : length ts ≡ 32 = search rules in
    let none = filled_none (λ t. t.offset) ts all in
    record { size = refl; left = refl; events = none; releases = none }

pub loop-i-preserved : goal.loop-i-preserved
loop-i-preserved c =
    let l = c.loop-i in
    let ts = c.args.table.tasks in
    let all : length ts ≡ 32 = search rules in
    let inside : l.i < 32 = omega arith in
    let stored = stored-later l.places 0 l.i _ _ inside in
    let more : (xs : List ℕ) → Filled (λ t. t.offset) ts l.i xs → Filled (λ t. t.offset) ts (l.i + 1) (set xs l.i (get_or ts l.i no_task).offset) =
    λ xs h. filled_more (λ t. t.offset) ts all l.i xs inside h in
    record {
      size = simp length-set l.invariant.size;
      left = ap (λ (m : Machine). m.left) stored ∙ l.invariant.left;
      events = rw (ap (λ (m : Machine). m.event) stored) (more (segment 32 l.places) l.invariant.events);
      releases = rw (ap (λ (m : Machine). m.next) stored) (more (segment 64 l.places) l.invariant.releases);
    }

pub returns : goal.returns
returns c =
    let ts = c.args.table.tasks in
    let l = c.loop-i in
    let all : length ts ≡ 32 = search rules in
    let e : l.i ≡ 32 = omega arith in
    let whole : (xs : List ℕ) → Filled (λ t. t.offset) ts l.i xs → xs ≡ map (λ t. t.offset) ts =
    λ xs h. filled-all (λ t. t.offset) ts all xs (rw e at h) in
    let events = whole (segment 32 l.places) l.invariant.events in
    let releases = whole (segment 64 l.places) l.invariant.releases in (
      λ j. record {
        tick = 0;
        machine = same-machine {c = 0} {c' = 0} l.invariant.left events releases refl j;
        event = 0;
        chosen = 0;
        granted = 0;
        even = c.paired_in.ensures j;
      },
      l.invariant.size,
    )
