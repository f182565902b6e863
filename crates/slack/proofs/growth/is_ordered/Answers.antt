-- `slack::growth::is_ordered`: each arm is the case of `ordered` for the rule's number (`ordered-none`, `ordered-firm`).
use Rattle.std.proofs.Common.{◌≡◌, ◌∙◌, sym, arith}
use Rattle.table.specs.Fit.{loaded_table}
use Rattle.slack.proofs.Judging.{ordered-firm, ordered-none}
use Rattle.slack.proofs.growth.is_ordered.Goals as goal
use Rattle.slack.proofs.growth.is_ordered.Goals.{in_default-via-then-loaded-lt3, in_default-via-else-loaded-lt3+else-loaded-lt5}

pub returns-in-3 : goal.returns-in-3
returns-in-3 c = ordered-none c.args.table.loaded.rule (loaded_table c.args.table.loaded).tasks (omega arith) (omega arith)

pub returns-in_default : goal.returns-in_default
returns-in_default c =
    let n = c.args.table.loaded.rule in
    let three : n ≡ 3 → ⊥ = λ e. elim c.in_default.branch [ in_default-via-then-loaded-lt3 w ↦ omega arith | in_default-via-else-loaded-lt3+else-loaded-lt5 w ↦ omega arith ] in
    let four : n ≡ 4 → ⊥ = λ e. elim c.in_default.branch [ in_default-via-then-loaded-lt3 w ↦ omega arith | in_default-via-else-loaded-lt3+else-loaded-lt5 w ↦ omega arith ] in
    c.is_firm.ensures ∙ sym (ordered-firm n (loaded_table c.args.table.loaded).tasks three four)
