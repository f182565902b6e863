-- Up to this place the bytes are whole lines of the table (Tables).
use native.Mathlib.Omega.{arith}
use mathlib.Core.Path.{◌∙◌, sym}
use Rattle.splitter.proofs.Tables.{table-all, table-found, table-left, line-ends, whole-next}
use Rattle.splitter.proofs.table.Goals as goal

pub returns-then-end-bytes : goal.returns-then-end-bytes
returns-then-end-bytes c = table-left _ _ _ _ c.loop-at.invariant c.end_from-end.ensures _ c.if-end-bytes.true c.unclosed.ensures

pub slice_bounds-is_dashes-end : goal.slice_bounds-is_dashes-end
slice_bounds-is_dashes-end c = omega (arith, line-ends _ _ _ c.args.ended c.loop-at.invariant c.end_from-end.ensures)

pub returns-then-is_dashes : goal.returns-then-is_dashes
returns-then-is_dashes c =
    table-found _ _ _ _ c.loop-at.invariant c.end_from-end.ensures c.if-end-bytes.false (sym c.is_dashes.ensures ∙ c.if-is_dashes.true)

pub loop-at-preserved : goal.loop-at-preserved
loop-at-preserved c =
    whole-next _ _ _ c.args.ended c.loop-at.invariant c.end_from-end.ensures c.if-end-bytes.false (sym c.is_dashes.ensures ∙ c.if-is_dashes.false)

pub returns : goal.returns
returns c = table-all _ _ _ _ c.loop-at.invariant (omega (arith, c.loop-at-test.false)) c.unclosed-2.ensures
