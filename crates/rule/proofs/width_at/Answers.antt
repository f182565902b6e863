-- The set's digit, times the number of places, is the offset of the width.
use Rattle.std.proofs.Common.{sym, ap, ◌∙◌, ℕ, get_or}
use Rattle.rule.proofs.Widths.{read_at, widths-at}
use Rattle.rule.proofs.width_at.Goals as goal

pub returns : goal.returns
returns c =
    let a = c.args in
    ap (λ (i : ℕ). get_or a.widths.now i 0) (read_at a.even a.place) ∙ sym (widths-at a.even a.widths.now a.place c.requires)
