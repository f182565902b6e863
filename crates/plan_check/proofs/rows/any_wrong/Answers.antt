-- Some task is wrong: the chain tests each task below the count with the count of its position.
use Rattle.std.proofs.Common.{◌≡◌, ◌≤◌, ◌+◌, ◌∙◌, ap, suc, length, take, drop, get_or, get_or-take, rules, tests, arith}
use Rattle.std.proofs.lemmas.Grind.{common_steps, get_or_after_one}
use Rattle.std.proofs.lemmas.Iterator.{YieldsList-from_slice, YieldsList-from_zip}
use Rattle.std.proofs.lemmas.Iterator.Search.{any_from_yields_List}
use Rattle.model.proofs.Search.{any_same}
use Rattle.phase.specs.Task.{past_end}
use Rattle.run.specs.Run.{place_at}
use Rattle.plan_check.specs.Shown.{any_wrong, wrong_with}
use Rattle.plan_check.proofs.AnyPlace.{any_of_pairs}
use Rattle.plan_check.proofs.rows.any_wrong.Goals as goal

pub returns : goal.returns
unfolding any_wrong
returns c =
    let r = c.args.run in
    let cells = c.args.cells.now in
    let size : 255 ≤ length (take 255 (drop 1 cells)) = grind (arith, common_steps) in
    any_from_yields_List (λ x. wrong_with x.0 x.1) c.any.new.self _ _ c.any.ensures.ran
    (YieldsList-from_zip (YieldsList-from_slice (take r.count r.tasks) cc) (YieldsList-from_slice (take 255 (drop 1 cells)) c.zip.ensures.second.0))
    (λ x b q k. search (rules, tests))
    ∙ (any_of_pairs (λ x. wrong_with x.0 x.1) r.tasks (take 255 (drop 1 cells)) r.count past_end 0 (omega arith) (omega arith)
    ∙ any_same r.count _ _ (λ p h.
    let one : 1 + p ≡ suc p = omega arith in
    ap (wrong_with (place_at r p)) (get_or-take 255 (drop 1 cells) p 0 (omega arith) ∙ (get_or_after_one cells p 0 ∙ ap (λ k. get_or cells k 0) one))))
