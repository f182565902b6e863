-- The run is the one given, with the tasks of the places passed one tick on.
use Rattle.std.proofs.Common.{◌≡◌, suc, false, refl, get_or, arith, add-one}
use lib.Dec.{ltb}
use Rattle.phase.specs.Task.{next_task, past_end}
use Rattle.run.proofs.Places.{map_first-step}
use Rattle.run.proofs.RunOut.{few, has_room}
use Rattle.run.specs.Run.{map_first, rule_in}
use Rattle.plan_check.specs.Shown.{worked_with}
use Rattle.plan_check.proofs.moves.worked.Goals as goal

pub loop-i-init : goal.loop-i-init
unfolding map_first
loop-i-init c = record { few = few c.args.run c.requires; done = refl }

pub next-requires : goal.next-requires
next-requires c = has_room c.args.run c.requires c.loop-i.i (omega arith)

pub loop-i-preserved : goal.loop-i-preserved
loop-i-preserved c =
    let r = c.args.run in
    let i = c.loop-i.i in
    let step = map_first-step (λ p t. next_task (rule_in r) false (ltb 0 (get_or c.args.cells.now (suc p) 0)) false false t) i r.tasks past_end (omega arith) in
    record { few = c.loop-i.invariant.few; done = simp (c.loop-i.invariant.done, c.next.ensures, add-one, step) }

pub returns : goal.returns
unfolding worked_with
returns c =
    let r = c.args.run in
    let e : c.loop-i.i ≡ r.count = omega arith in
    rw e at c.loop-i.invariant.done
