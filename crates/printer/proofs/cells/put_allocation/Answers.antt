-- The first bytes that are shown are the row of the model.
use mathlib.Core.List.{List, [], ◌∷◌, ◌++◌}
use mathlib.Core.Path.{ap, ◌∙◌, subst}
use Prim.Native.Nat.{ℕ, ◌-◌}
use lib.ListN.{take, replicate}
use lib.Seq.{take_at}
use Rattle.model.proofs.Rows.{row-length}
use Rattle.model.specs.Fence.{unfenced}
use Rattle.model.specs.Search.{bit}
use Rattle.model.specs.Task.{rule_of}
use Rattle.model.specs.Grants.{claimants, grants}
use Rattle.model.specs.Row.{row}
use Rattle.model.specs.Sizes.{most_cores}
use Rattle.rule.specs.Widths.{widths_in}
use Rattle.text.specs.Format.{newline}
use Rattle.text.specs.Output.{fields}
use Rattle.text.specs.Written.{Put}
use Rattle.printer.specs.Cells.{cells}
use Rattle.printer.proofs.cells.put_allocation.Goals as goal

pub returns : goal.returns
unfolding cells
returns c =
    let a = c.args in
    let s = c.put_cells in
    let ws = take a.count (widths_in a.even a.widths.now) in
    let gs = grants (rule_of a.rule) (claimants ws (bit a.claims)) (unfenced a.fence a.cores) in
    let e = ap (take a.cores) c.show-row.ensures ∙ take_at (row a.fence a.cores gs) (replicate (most_cores - a.cores) 0) a.cores (row-length a.fence a.cores gs) in
    (subst (λ (xs : List ℕ). Put a.text.now 0 (fields xs ++ (newline ∷ [])) s.new.text s.result) e s.ensures.0, s.ensures.1)
