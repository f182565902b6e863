-- One more phase is recorded.
use Rattle.std.proofs.Common.{◌≡◌, ◌+◌, ◌++◌, ◌∷◌, [], ◌∙◌, ap, map, take, get_or, arith}
use Rattle.std.proofs.Math.ListN.{length-map}
use Rattle.std.proofs.Math.Seq.{length-take-le}
use Rattle.model.proofs.Lists.{map_more}
use Rattle.phase.specs.Task.{past_end}
use Rattle.run.proofs.Written.{take_more, written-more}
use Rattle.plan_check.specs.State.{note_of, past_note}
use Rattle.plan_check.proofs.moves.noting.Goals as goal

pub loop-i-preserved : goal.loop-i-preserved
loop-i-preserved c =
    let tasks = c.args.run.tasks in
    let old = c.args.noted in
    let i = c.loop-i.i in
    let more = written-more (map note_of (take i tasks)) old i (note_of (get_or tasks i past_end)) past_note
    (length-map (take i tasks) note_of ∙ length-take-le i tasks (omega arith)) (omega arith) in
    let on : map note_of (take (i + 1) tasks) ≡ map note_of (take i tasks) ++ (note_of (get_or tasks i past_end) ∷ []) =
    ap (map note_of) (take_more tasks i past_end (omega arith)) ∙ map_more note_of (take i tasks) (get_or tasks i past_end) in
    simp (c.loop-i.invariant, on) more
