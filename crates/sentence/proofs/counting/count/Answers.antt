use Rattle.std.proofs.Common.{◌≡◌, ℕ, suc, ◌+◌, ◌-◌, ◌≤◌, ◌<◌, List, [], ◌++◌, length, take, drop, get_or, replicate, length-drop, rules, ap₂, sym, ap, ◌∙◌, subst, arith}
use Rattle.model.specs.Task.{Task, task}
use Rattle.model.specs.Verdict.{FirstMiss}
use Rattle.table.specs.declared.Loaded.{Loaded}
use Rattle.table.specs.Task.{task_of, no_task}
use Rattle.table.specs.Fit.{loaded_table, Fit}
use Rattle.table.proofs.Places.{task-at}
use Rattle.simulation.specs.declared.machine.Registers.{Registers}
use Rattle.simulation.specs.Machine.{machine_of}
use Rattle.simulation.specs.TickState.{Numbers, loaded_numbers, TickState, tick_state_of, next_tick_state}
use Rattle.simulation.proofs.AtTick.{size}
use Rattle.simulation.proofs.MachineRelated.{MachineRelated}
use Rattle.simulation.proofs.Parts.{front_at}
use Rattle.simulation.proofs.Steps.{tick-on}
use Rattle.judge.specs.FirstMiss.{Missed}
use Rattle.judge.specs.RunOn.{TicksRun}
use Rattle.judge.proofs.OneStep.{one-tick}
use mathlib.Core.List.{append-nil}
use lib.Seq.{length-take-le}
use Rattle.std.proofs.lemmas.List.{nil_from_length}
use borrow.Rule.Slice.PartMut.{put_mid}
use Rattle.sentence.specs.Counting.{above}
use Rattle.sentence.specs.Facts.{named}
use Rattle.sentence.specs.Waiting.{release_of, had_by}
use Rattle.sentence.proofs.Waiting.{missed_here, deadline-within, Counted, counted-small, counted-named}
use Rattle.sentence.proofs.CountingPass.{left-had, Counting, counting-start, met-here, counting-early, counting-runs, counting-waits}
use Rattle.sentence.proofs.counting.count.Goals as goal

module _ (t : Loaded) (fit : Fit t) (tick place : ℕ) (f : FirstMiss (loaded_table t) tick (suc place)) where
  -- the place is one of the table's
  inside : (place < t.count) × (place < 32)
  inside =
      let l = (missed_here (loaded_table t) fit.valid tick place f).0 in
      (omega (arith, size t fit), omega (arith, size t fit, fit.few))

  -- the task there
  same-task : task (loaded_table t) place ≡ task_of (get_or t.tasks place no_task)
  same-task = task-at t.tasks t.count place inside.0

  -- its job's release
  released : release_of (loaded_table t) tick place ≡ tick - (get_or t.tasks place no_task).deadline
  released = ap (λ (τ : Task). tick - τ.deadline) same-task

  -- the run goes on by one tick: no deadline of the tick is missed
  stepped : (n : Numbers) (x y : TickState) (m : Missed) (ran : List ℕ) → n ≡ loaded_numbers t → tick ≤ t.horizon → Counting t tick place x ran → x.tick < tick
      → TicksRun n x (x.tick + 1) m y → y ≡ next_tick_state (loaded_numbers t) x
  stepped n x y m ran own h k l r =
      one-tick t n x y m (record { fit = fit; numbers = own; refines = k.follows; within = omega arith; early = omega arith }) (met-here t fit tick place f x ran k l) r
      ∙ ap (λ (u : Numbers). next_tick_state u x) own

  -- at the end the tick is that of the miss, and what is left of C is what the late job did not have
  counted-end : (registers : Registers) (places ran : List ℕ) → Counting t tick place (tick_state_of registers places) ran → tick ≤ registers.tick
      → Counted (loaded_table t) tick place tick ran
  counted-end registers places ran k l =
      let e : registers.tick ≡ tick = omega (arith, k.within) in
      subst (λ (u : ℕ). Counted (loaded_table t) tick place u ran) e k.counted

  at-end : (registers : Registers) (places ran : List ℕ) → Counting t tick place (tick_state_of registers places) ran → tick ≤ registers.tick
      → (get_or places place 0 ≤ (get_or t.tasks place no_task).length)
      × ((get_or t.tasks place no_task).length - get_or places place 0 ≡ had_by (loaded_table t) tick place)
  at-end registers places ran k l =
      let e : registers.tick ≡ tick = omega (arith, k.within) in
      let h = left-had (loaded_table t) fit.valid tick place f (machine_of places registers.claiming)
      (subst (λ (u : ℕ). MachineRelated (loaded_table t) u (machine_of places registers.claiming)) e k.follows.before.related) in
      let same = ap (λ (τ : Task). τ.length) same-task in
      let at = front_at places place inside.1 in
      (omega (arith, same, at, h.0), omega (arith, same, at, h.1))

-- the counts with zeros from a place on
zeros-from : (p : ℕ) (ran zs : List ℕ) → p < 32 → length ran ≡ 32 → zs ≡ replicate (length (take (32 - p) (drop p ran))) 0 → put_mid p (32 - p) ran zs ≡ above p ran
zeros-from p ran zs h l e =
    let few : length (take (32 - p) (drop p ran)) ≡ 32 - p = length-take-le (32 - p) (drop p ran) (omega (arith, length-drop p ran)) in
    let none : drop (32 - p) (drop p ran) ≡ [] = nil_from_length (drop (32 - p) (drop p ran)) (omega (arith, length-drop (32 - p) (drop p ran), length-drop p ran)) in
    ap (λ (xs : List ℕ). take p ran ++ xs) (ap₂ (λ (xs ys : List ℕ). xs ++ ys) (e ∙ ap (λ (n : ℕ). replicate n 0) few) none ∙ append-nil (replicate (32 - p) 0))

pub overflow_sub-release : goal.overflow_sub-release
overflow_sub-release c =
    let a = c.args in
    subst (λ (τ : Task). τ.deadline ≤ a.tick) (same-task a.table c.requires.0 a.tick a.place c.requires.1)
    (deadline-within (loaded_table a.table) c.requires.0.valid a.tick a.place c.requires.1)

pub loop-registers-init : goal.loop-registers-init
loop-registers-init c =
    let a = c.args in
    subst (λ (y : TickState). Counting a.table a.tick a.place y (replicate 32 0)) (sym c.start-machine.ensures.0)
    (counting-start a.table c.requires.0 a.tick a.place c.requires.1)

pub add-requires : goal.add-requires
add-requires c q = omega (arith, counted-small _ _ _ _ _ c.loop-registers.invariant.counted q, c.loop-registers.invariant.within, c.ranges.tick)

pub loop-registers-smaller-then-not-has : goal.loop-registers-smaller-then-not-has
loop-registers-smaller-then-not-has c =
    let a = c.args in
    let e = stepped a.table c.requires.0 a.tick a.place c.requires.1 _ _ _ _ _ c.columns_of-columns.ensures c.requires.2 c.loop-registers.invariant c.loop-registers-test.true c.run_on-on.ensures in
    omega (arith, tick-on _ _ _ e, c.loop-registers-test.true)

pub loop-registers-preserved-then-not-has : goal.loop-registers-preserved-then-not-has
loop-registers-preserved-then-not-has c =
    let a = c.args in
    let e = stepped a.table c.requires.0 a.tick a.place c.requires.1 _ _ _ _ _ c.columns_of-columns.ensures c.requires.2 c.loop-registers.invariant c.loop-registers-test.true c.run_on-on.ensures in
    let r = released a.table c.requires.0 a.tick a.place c.requires.1 in
    subst (λ (l : List ℕ). Counting a.table a.tick a.place (tick_state_of c.run_on-on.result.registers c.run_on-on.new.places) l) (sym c.add.ensures)
    (counting-waits a.table c.requires.0 a.tick a.place c.requires.1 _ _ c.loop-registers.invariant c.loop-registers-test.true _ e
    (omega (arith, r, c.if-release-before.true)) (sym c.has.ensures ∙ c.if-not-has.true))

pub loop-registers-smaller-else-not-has : goal.loop-registers-smaller-else-not-has
loop-registers-smaller-else-not-has c =
    let a = c.args in
    let e = stepped a.table c.requires.0 a.tick a.place c.requires.1 _ _ _ _ _ c.columns_of-columns.ensures c.requires.2 c.loop-registers.invariant c.loop-registers-test.true c.run_on-on.ensures in
    omega (arith, tick-on _ _ _ e, c.loop-registers-test.true)

pub loop-registers-preserved-else-not-has : goal.loop-registers-preserved-else-not-has
loop-registers-preserved-else-not-has c =
    let a = c.args in
    let e = stepped a.table c.requires.0 a.tick a.place c.requires.1 _ _ _ _ _ c.columns_of-columns.ensures c.requires.2 c.loop-registers.invariant c.loop-registers-test.true c.run_on-on.ensures in
    let r = released a.table c.requires.0 a.tick a.place c.requires.1 in
    counting-runs a.table c.requires.0 a.tick a.place c.requires.1 _ _ c.loop-registers.invariant c.loop-registers-test.true _ e
    (omega (arith, r, c.if-release-before.true)) (sym c.has.ensures ∙ c.if-not-has.false)

pub loop-registers-smaller : goal.loop-registers-smaller
loop-registers-smaller c =
    let a = c.args in
    let e = stepped a.table c.requires.0 a.tick a.place c.requires.1 _ _ _ _ _ c.columns_of-columns.ensures c.requires.2 c.loop-registers.invariant c.loop-registers-test.true c.run_on-on.ensures in
    omega (arith, tick-on _ _ _ e, c.loop-registers-test.true)

pub loop-registers-preserved : goal.loop-registers-preserved
loop-registers-preserved c =
    let a = c.args in
    let e = stepped a.table c.requires.0 a.tick a.place c.requires.1 _ _ _ _ _ c.columns_of-columns.ensures c.requires.2 c.loop-registers.invariant c.loop-registers-test.true c.run_on-on.ensures in
    let r = released a.table c.requires.0 a.tick a.place c.requires.1 in
    counting-early a.table c.requires.0 a.tick a.place c.requires.1 _ _ c.loop-registers.invariant c.loop-registers-test.true _ e
    (omega (arith, r, c.if-release-before.false))

pub overflow_sub-had : goal.overflow_sub-had
overflow_sub-had c =
    let a = c.args in
    let k = c.loop-registers in
    (at-end a.table c.requires.0 a.tick a.place c.requires.1 k.registers k.places k.ran k.invariant c.loop-registers-test.false).0

pub returns : goal.returns
returns c =
    let a = c.args in
    let k = c.loop-registers in
    let same = same-task a.table c.requires.0 a.tick a.place c.requires.1 in
    let end = at-end a.table c.requires.0 a.tick a.place c.requires.1 k.registers k.places k.ran k.invariant c.loop-registers-test.false in
    let counts = counted-end a.table c.requires.0 a.tick a.place c.requires.1 k.registers k.places k.ran k.invariant c.loop-registers-test.false in
    let few = (inside a.table c.requires.0 a.tick a.place c.requires.1).1 in
    let position : a.place + 1 ≡ suc a.place = omega arith in
    let size : length k.ran ≡ 32 = search rules in
    let kept : put_mid a.place (32 - a.place) k.ran c.fill.new.self ≡ above a.place k.ran =
    zeros-from a.place k.ran c.fill.new.self few size (c.fill.ensures.after (λ y h. h)) in
    let others = ap named kept ∙ counted-named (loaded_table a.table) a.tick a.place k.ran counts (omega (arith, few)) in
    λ i. record {
      position = position i;
      tick = a.tick;
      had = end.1 i;
      length = ap (λ (τ : Task). τ.length) (sym same) i;
      others = others i;
    }
