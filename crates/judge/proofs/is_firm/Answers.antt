use Rattle.std.proofs.Common.{map, inl, inr, sym, ◌∙◌, arith}
use Rattle.table.specs.Task.{task_of}
use Rattle.judge.proofs.Widths.{firm-numbers, firm-others}
use Rattle.judge.proofs.is_firm.Goals as goal
use Rattle.judge.proofs.is_firm.Goals.{in_default-via-then-rule-lt2, in_default-via-else-rule-lt2+else-rule-lt5}

pub returns-in-2-to-4 : goal.returns-in-2-to-4
returns-in-2-to-4 c = sym (firm-numbers c.args.rule (map task_of c.args.tasks.now) (omega arith) (omega arith))

pub returns-in_default : goal.returns-in_default
returns-in_default c =
    c.parallelism_monotonic.ensures
    ∙ sym (firm-others c.args.rule (map task_of c.args.tasks.now) (elim c.in_default.branch [
      | in_default-via-then-rule-lt2 w ↦ inl (omega arith)
      | in_default-via-else-rule-lt2+else-rule-lt5 w ↦ inr (omega arith)
    ]))
