-- Before each tick the run represents the table's full-length run (`RefinesTick`) and the buffer has the rows so far (`Filled`); the row is kept with the
-- claimants and the widths it was made for (`RowFor`).
use native.Mathlib.Omega.{arith}
use mathlib.Core.Path.{◌≡◌, refl, sym, ap, ◌∙◌, subst, subst₂}
use mathlib.Core.List.{List, ◌++◌, append_assoc}
use Prim.Native.Nat.{ℕ, ◌+◌, ◌-◌, ◌≤◌}
use lib.ListN.{take, drop}
use lib.Seq.{paste}
use Rattle.std.proofs.lemmas.List.{drop-drop}
use borrow.Rule.Slice.PartMut.{put_mid}
use Rattle.model.specs.Lists.{Missed}
use Rattle.table.specs.Fit.{loaded_table}
use Rattle.simulation.specs.TickState.{Numbers, loaded_numbers, TickState, tick_state_of, after_events, next_event_after, even_at_tick, Steppable, next_tick_state}
use Rattle.simulation.proofs.Steps.{tick-on, chosen_on, even-on}
use Rattle.simulation.proofs.RefinesTick.{RefinesTick, refines-start, handled-after, steppable, refines_on}
use Rattle.plan.proofs.Late.{all-met}
use Rattle.plan.proofs.Writing.{RowBy, RowFor, Filled, filled-start, filled-pass, filled_more, none-changed, row-bytes}
use Rattle.plan.proofs.rows.write.Goals as goal
use Rattle.plan.proofs.rows.write.Goals.{In-loop-registers, After-step-registers, Joined-registers-shown, then-registers-shown, else-registers-shown}

-- a row's first bytes, copied into a part of the buffer
pasted : (out : List ℕ) (at : ℕ) (row : List ℕ) (n : ℕ) (part : List ℕ) → part ≡ take n row → put_mid at (at + n - at) out part ≡ paste out at row n
pasted out at row n part e =
    let many : at + n - at ≡ n = omega arith in
    rw (many, e) (ap (λ (rest : List ℕ). take at out ++ (take n row ++ rest)) (drop-drop n at out) ∙ sym (append_assoc (take at out) (take n row) (drop (at + n) out)))

-- in the loop: ticks are small, and no deadline of the tick is missed
small : (c : In-loop-registers) → c.loop-registers.registers.tick ≤ 1000000000
small c = omega (arith, c.loop-registers-test.true, c.args.fitting.fit.limit, c.requires.0)

met : (c : In-loop-registers) (q : ℕ) → ¬ Missed (loaded_table c.args.fitting.loaded) q c.loop-registers.registers.tick
met c q = all-met (loaded_table c.args.fitting.loaded) c.args.fitting.fit.valid c.args.b c.requires.1 q c.loop-registers.registers.tick c.loop-registers-test.true

-- the tick is taken: the run follows on, and its choice is for the claimants of the tick
on : (c : After-step-registers) → RefinesTick c.args.fitting.loaded (tick_state_of c.step-registers.result c.step-registers.new.places)
on c =
    let s = tick_state_of c.loop-registers.registers c.loop-registers.places in
    refines_on c.args.fitting.loaded c.args.fitting.fit s c.loop-registers.invariant.0 (met (goal.at.After-step-registers c).In-loop-registers) _
    (c.step-registers.ensures ∙ ap (λ (n : Numbers). next_tick_state n s) c.columns_of-columns.ensures)

claims : (c : After-step-registers) → c.step-registers.result.chosen
    ≡ (after_events (loaded_numbers c.args.fitting.loaded) (tick_state_of c.loop-registers.registers c.loop-registers.places)).claiming
claims c =
    let s = tick_state_of c.loop-registers.registers c.loop-registers.places in
    chosen_on _ _ _ c.step-registers.ensures ∙ ap (λ (n : Numbers). (after_events n s).claiming) c.columns_of-columns.ensures

-- .. and for their widths in it
turned : (c : After-step-registers) → c.step-registers.result.even
    ≡ even_at_tick (loaded_numbers c.args.fitting.loaded) (tick_state_of c.loop-registers.registers c.loop-registers.places)
turned c =
    let s = tick_state_of c.loop-registers.registers c.loop-registers.places in
    even-on _ _ _ c.step-registers.ensures ∙ ap (λ (n : Numbers). even_at_tick n s) c.columns_of-columns.ensures

-- from tick a on the row is that of the claimants and their widths: it was just made, or they are those it was made for
row-of : (c : Joined-registers-shown) → RowFor c.args.fitting.loaded c.step-registers.result.chosen c.step-registers.result.even c.if-registers-shown.row
row-of c =
    let r = c.step-registers.result in
    let l = c.loop-registers in
    elim c.if-registers-shown.branch [
      | then-registers-shown w ↦
          subst (λ (row : List ℕ). RowFor c.args.fitting.loaded r.chosen r.even row) (sym w.row-is)
          (subst (λ (n : Numbers). RowBy c.args.fitting.loaded n.widths r.chosen r.even w.show-fresh.result) c.columns_of-columns.ensures w.show-fresh.ensures)
      | else-registers-shown w ↦
          let same = none-changed r.chosen l.shown r.even l.even w.if-registers-shown.false in
          subst (λ (row : List ℕ). RowFor c.args.fitting.loaded r.chosen r.even row) (sym w.row-is)
          (subst₂ (λ (x y : ℕ). RowFor c.args.fitting.loaded x y l.row) (sym same.0) (sym same.1) l.invariant.1)
    ]

row_kept : (c : Joined-registers-shown) → RowFor c.args.fitting.loaded c.if-registers-shown.shown c.if-registers-shown.even c.if-registers-shown.row
row_kept c =
    let r = c.step-registers.result in
    let l = c.loop-registers in
    let same : (r.chosen ≡ c.if-registers-shown.shown) × (r.even ≡ c.if-registers-shown.even) = elim c.if-registers-shown.branch [
      | then-registers-shown w ↦ (sym w.shown-is, sym w.even-is)
      | else-registers-shown w ↦
          let h = none-changed r.chosen l.shown r.even l.even w.if-registers-shown.false in
          (h.0 ∙ sym w.shown-is, h.1 ∙ sym w.even-is)
    ] in
    subst₂ (λ (x y : ℕ). RowFor c.args.fitting.loaded x y c.if-registers-shown.row) same.0 same.1 (row-of c)

pub loop-registers-init : goal.loop-registers-init
loop-registers-init c =
    let t = c.args.fitting.loaded in
    let out = c.args.out.now in
    let begins = c.start-machine.ensures.0 in
    let e : c.start-machine.result.registers.tick ≡ 0 = ap (λ (x : TickState). x.tick) begins in (
      subst (RefinesTick t) (sym begins) (refines-start t c.args.fitting.fit),
      subst (λ (n : Numbers). RowBy t n.widths 0 0 c.show-idle.result) c.columns_of-columns.ensures c.show-idle.ensures,
      omega arith,
      subst (λ (n : ℕ). Filled t c.args.a n 0 out out) (sym e) (filled-start t c.args.a out),
    )

pub step-registers-requires : goal.step-registers-requires
step-registers-requires c =
    let s = tick_state_of c.loop-registers.registers c.loop-registers.places in
    let i = (goal.at.step-registers-requires c).In-loop-registers in
    subst (λ (n : Numbers). Steppable n s) (sym c.columns_of-columns.ensures)
    (steppable c.args.fitting.loaded c.args.fitting.fit s c.loop-registers.invariant.0 (met i) (small i))

pub loop-registers-smaller-then-a-tick : goal.loop-registers-smaller-then-a-tick
loop-registers-smaller-then-a-tick c = omega (arith, tick-on _ _ _ c.step-registers.ensures, c.loop-registers-test.true)

pub loop-registers-preserved-then-a-tick : goal.loop-registers-preserved-then-a-tick
loop-registers-preserved-then-a-tick c =
    let j = (goal.at.loop-registers-preserved-then-a-tick c).Joined-registers-shown in
    let g = (goal.at.loop-registers-preserved-then-a-tick c).After-step-registers in
    let i = (goal.at.loop-registers-preserved-then-a-tick c).In-loop-registers in
    let t = c.args.fitting.loaded in
    let n = loaded_numbers t in
    let l = c.loop-registers in
    let s = tick_state_of l.registers l.places in
    let tick = tick-on _ _ _ c.step-registers.ensures in
    let row = subst₂ (λ (x y : ℕ). RowFor t x y c.if-registers-shown.row) (claims g) (turned g) (row-of j) in (
      on g,
      row_kept j,
      omega (arith, tick, c.loop-registers-test.true),
      rw tick
          (filled_more t c.args.a c.args.b l.registers.tick l.at _ c.args.out.now l.out _ c.if-registers-shown.row
          l.invariant.3 c.if-a-tick.true c.loop-registers-test.true c.requires.2
          (row-bytes t c.args.fitting.fit (after_events n s) (even_at_tick n s) (next_event_after n s) l.registers.tick c.if-registers-shown.row
          (handled-after t c.args.fitting.fit s l.invariant.0 (met i)) row)
          refl (pasted l.out l.at c.if-registers-shown.row t.cores c.copy_from_slice.new.self c.copy_from_slice.ensures.after)),
    )

pub loop-registers-smaller : goal.loop-registers-smaller
loop-registers-smaller c = omega (arith, tick-on _ _ _ c.step-registers.ensures, c.loop-registers-test.true)

pub loop-registers-preserved : goal.loop-registers-preserved
loop-registers-preserved c =
    let l = c.loop-registers in
    let tick = tick-on _ _ _ c.step-registers.ensures in (
      on (goal.at.loop-registers-preserved c).After-step-registers,
      l.invariant.1,
      omega (arith, tick, c.loop-registers-test.true),
      subst (λ (n : ℕ). Filled c.args.fitting.loaded c.args.a n l.at c.args.out.now l.out) (sym tick)
          (filled-pass c.args.fitting.loaded c.args.a l.registers.tick l.at c.args.out.now l.out l.invariant.3 c.if-a-tick.false),
    )
