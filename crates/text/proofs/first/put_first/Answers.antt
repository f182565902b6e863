-- Each case of the verdict has its word.
use mathlib.Core.Path.{sym, subst}
use Rattle.judge.specs.declared.Verdict.{Verdict}
use Rattle.judge.specs.JudgeAnswer.{verdict_meaning}
use Rattle.text.specs.Output.{first_line}
use Rattle.text.specs.Written.{Put}
use Rattle.text.proofs.first.put_first.Goals as goal

pub returns-in-Firm : goal.returns-in-Firm
unfolding first_line
returns-in-Firm c =
    let f = c.put_pair in
    (subst (λ (v : Verdict). Put c.args.line.now 0 (first_line (verdict_meaning v)) f.new.line f.result) (sym c.in-Firm.is) f.ensures.0, f.ensures.1)

pub returns-in-Full : goal.returns-in-Full
unfolding first_line
returns-in-Full c =
    let f = c.put_pair-in-Full in
    (subst (λ (v : Verdict). Put c.args.line.now 0 (first_line (verdict_meaning v)) f.new.line f.result) (sym c.in-Full.is) f.ensures.0, f.ensures.1)

pub returns-in-Miss : goal.returns-in-Miss
unfolding first_line
returns-in-Miss c =
    let f = c.put_pair-in-Miss in
    (subst (λ (v : Verdict). Put c.args.line.now 0 (first_line (verdict_meaning v)) f.new.line f.result) (sym c.in-Miss.is) f.ensures.0, f.ensures.1)

pub returns-in-Refused : goal.returns-in-Refused
unfolding first_line
returns-in-Refused c =
    let f = c.put_pair-in-Refused in
    (subst (λ (v : Verdict). Put c.args.line.now 0 (first_line (verdict_meaning v)) f.new.line f.result) (sym c.in-Refused.is) f.ensures.0, f.ensures.1)
