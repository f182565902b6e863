-- The run is stepped, its text is kept or made anew with the choice, and the line of the tick is written.
use native.Mathlib.Omega.{arith}
use mathlib.Core.List.{List}
use mathlib.Core.Path.{sym, ◌∙◌, subst₂}
use Prim.Native.Nat.{ℕ}
use lib.ListN.{length-take, take}
use Rattle.simulation.specs.TickState.{Numbers, numbers_of, TickState, tick_state_of}
use Rattle.simulation.proofs.Steps.{chosen_on, even-on}
use Rattle.text.proofs.Writing.{put-length}
use Rattle.printer.proofs.Safe.{safe-steppable}
use Rattle.printer.proofs.Step.{Text, text-kept, text-put, line-put}
use Rattle.printer.proofs.next_line.Goals as goal
use Rattle.printer.proofs.next_line.Goals.{Start, Joined-next-registers, then-next-registers, else-next-registers}

-- the table's numbers, the run where the function begins, and the text that it keeps
abbrev nums : Start → Numbers
nums s = numbers_of s.args.columns.now

abbrev state : Start → TickState
state s = tick_state_of s.args.stage.registers s.args.places.now

abbrev kept : Start → List ℕ
kept s = take s.args.stage.text s.args.text.now

-- the text of the row: kept, or made anew for the claimants of the tick and their widths in it
text_of : (c : Joined-next-registers) → let s = (goal.at.Joined-next-registers c).Start in
    Text (nums s) (state s) (kept s) c.if-next-registers.size c.if-next-registers.text
text_of c =
    let s = (goal.at.Joined-next-registers c).Start in
    let n = nums s in
    let r = c.step-next.result in
    let claims = chosen_on n (state s) _ c.step-next.ensures in
    let turned = even-on n (state s) _ c.step-next.ensures in
    elim c.if-next-registers.branch [
      | then-next-registers w ↦
          subst₂ (Text n (state s) (kept s)) (sym w.size-is) (sym w.text-is)
          (text-put n (state s) (kept s) r.chosen r.even claims turned _ _ _ w.if-next-registers.true c.requires.wide w.put_allocation-size.ensures)
      | else-next-registers w ↦
          subst₂ (Text n (state s) (kept s)) (sym w.size-is) (sym w.text-is)
          (text-kept n (state s) (kept s) r.chosen r.even claims turned w.if-next-registers.false, c.requires.text, c.requires.wide)
    ]

pub step-next-requires : goal.step-next-requires
step-next-requires c =
    let s = (goal.at.step-next-requires c).Start in
    safe-steppable (nums s) (state s) c.requires.safe c.requires.tick

pub put_allocation-size-requires : goal.put_allocation-size-requires
put_allocation-size-requires c = (c.requires.safe.cores, c.requires.safe.few, omega (arith, c.requires.wide))

pub put_row-ready-requires : goal.put_row-ready-requires
put_row-ready-requires c =
    let x = text_of (goal.at.put_row-ready-requires c).Joined-next-registers in
    let j = (goal.at.put_row-ready-requires c).Joined-next-registers.if-next-registers in
    (omega (arith, length-take j.size j.text, x.1), omega (arith, c.requires.long))

pub returns : goal.returns
returns c =
    let s = (goal.at.returns c).Start in
    let j = c.if-next-registers in
    let t = text_of (goal.at.returns c).Joined-next-registers in
    let l = c.put_row-ready.ensures in
    record {
      state = c.step-next.ensures;
      keeps = t.0;
      line = line-put (nums s) (state s) (kept s) j.size c.put_row-ready.result j.text c.args.line.now _ t.0 l.0;
      ready = l.1;
      text = t.1;
      wide = t.2;
      long = put-length l.0 (omega (arith, c.requires.long, l.1)) ∙ c.requires.long;
    }
