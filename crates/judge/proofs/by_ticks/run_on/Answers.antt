-- Before each tick the run represents the table's full-length run, and no deadline has been missed (`RefinesTick`). A claimant that is at its event is the
-- first miss; at the end nothing has been missed.
use native.Mathlib.Omega.{arith}
use mathlib.Core.Path.{◌≡◌, sym, ap, ◌∙◌, subst}
use Prim.Native.Nat.{ℕ, suc, ◌+◌, ◌-◌, ◌≤◌, ◌<◌}
use lib.ListN.{get_or}
use Rattle.model.specs.Lists.{Missed}
use Rattle.model.specs.Sizes.{most_tasks}
use Rattle.table.specs.declared.Loaded.{Loaded}
use Rattle.table.specs.Fit.{loaded_table}
use Rattle.simulation.specs.Machine.{machine_of}
use Rattle.simulation.specs.Places.{segment, second}
use Rattle.simulation.specs.TickState.{Numbers, numbers_of, TickState, tick_state_of, Steppable, next_tick_state}
use Rattle.simulation.proofs.Parts.{part_at}
use Rattle.simulation.proofs.Steps.{tick-on}
use Rattle.simulation.proofs.RefinesTick.{steppable, refines_on}
use Rattle.judge.specs.RunOn.{ticks_on, TicksBegin}
use Rattle.judge.proofs.LateByTicks.{walk_begins, at-place, walk-passes, walk-misses, walk_ends, walk-skips}
use Rattle.judge.proofs.FirstMiss.{by-none, by_first}
use Rattle.judge.proofs.by_ticks.run_on.Goals as goal
use Rattle.judge.proofs.by_ticks.run_on.Goals.{In-Some, Else-registers-end, Joined-registers, then-registers+in-None, else-registers}

-- one tick more
ticks-more : (n : Numbers) (s x y : TickState) (k j : ℕ) → x ≡ ticks_on n k s → y ≡ next_tick_state n x → j ≡ suc k → y ≡ ticks_on n j s
unfolding ticks_on
ticks-more n s x y k j e f g = f ∙ (ap (next_tick_state n) e ∙ ap (λ (i : ℕ). ticks_on n i s) (sym g))

-- in a tick that is entered it is before the end, and so small
early : (e : Else-registers-end) → e.ticks.registers.tick < e.args.end
early e = omega (arith, (e.ticks.invariant.2 e.requires.0 e.requires.1).1, e.if-registers-end.false)

small : (e : Else-registers-end) → e.ticks.registers.tick ≤ 1000000000
small e = let b = e.requires.1 in omega (arith, early e, b.early, b.fit.limit)

-- in the walk: the first claimant that is left is one of 32 places
inside : (c : In-Some) → c.in-Some.place < most_tasks
inside c = (at-place _ _ _ _ _ c.loop-place.invariant c.in-Some.ensures.steps).below

event : (c : In-Some) → get_or (segment second c.ticks.places) c.in-Some.place 0 ≡ get_or c.ticks.places (most_tasks + c.in-Some.place) 0
event c = part_at most_tasks c.ticks.places c.in-Some.place (inside c)

pub ticks-init : goal.ticks-init
unfolding ticks_on
ticks-init c =
    let s = tick_state_of c.args.start c.args.places.now in
    let z : s.tick - s.tick ≡ 0 = omega arith in
    (ap (λ (k : ℕ). ticks_on (numbers_of c.args.columns.now) k s) (sym z), omega arith, λ t b. (b.refines, b.within))

pub loop-place-init : goal.loop-place-init
loop-place-init c =
    let e : c.into_iter-place-iterator.result.rest ≡ c.ticks.registers.claiming = cc in
    walk_begins (machine_of c.ticks.places c.ticks.registers.claiming) c.ticks.registers.tick _ e (c.ticks.invariant.2 c.requires.0 c.requires.1).0.small

pub overflow_add-place : goal.overflow_add-place
overflow_add-place c = omega (arith, inside c)

pub offset_bounds-places-place : goal.offset_bounds-places-place
offset_bounds-places-place c = omega (arith, inside c)

pub bounds-places-place : goal.bounds-places-place
bounds-places-place c = omega (arith, inside (goal.at.bounds-places-place c).In-Some)

pub overflow_cast-result : goal.overflow_cast-result
overflow_cast-result c = omega (arith, inside (goal.at.overflow_cast-result c).In-Some)

pub overflow_add-result : goal.overflow_add-result
overflow_add-result c = omega (arith, inside (goal.at.overflow_add-result c).In-Some)

pub loop-place-preserved : goal.loop-place-preserved
loop-place-preserved c =
    let t = (goal.at.loop-place-preserved c).In-Some in
    walk-passes _ _ _ _ _ c.loop-place.invariant c.in-Some.ensures.steps (λ e. c.if-places-place.false (sym (event t) ∙ e))

-- where the walk has ended or was not needed no deadline of the tick is missed
met : (c : Joined-registers) (t : Loaded)
    → TicksBegin t (numbers_of c.args.columns.now) (tick_state_of c.args.start c.args.places.now) c.args.end
    → (q : ℕ) → ¬ Missed (loaded_table t) q c.ticks.registers.tick
met c t b =
    let s = tick_state_of c.ticks.registers c.ticks.places in
    let h = (c.ticks.invariant.2 t b).0 in
    elim c.if-registers.branch [
      | then-registers+in-None w ↦ walk_ends t b.fit s h w.loop-place.place-iterator.rest w.loop-place.invariant w.in-None.ensures.steps.0
      | else-registers w ↦ walk-skips t b.fit s h w.if-registers.false
    ]

pub step-registers-requires : goal.step-registers-requires
step-registers-requires c =
    let j = (goal.at.step-registers-requires c).Joined-registers in
    let b = c.requires.1 in
    let s = tick_state_of c.ticks.registers c.ticks.places in
    subst (λ (n : Numbers). Steppable n s) (sym b.numbers)
    (steppable c.requires.0 b.fit s (c.ticks.invariant.2 c.requires.0 b).0 (met j c.requires.0 b) (small (goal.at.step-registers-requires c).Else-registers-end))

pub ticks-smaller : goal.ticks-smaller
ticks-smaller c = omega (arith, tick-on _ _ _ c.step-registers.ensures, early (goal.at.ticks-smaller c).Else-registers-end)

pub ticks-preserved : goal.ticks-preserved
ticks-preserved c =
    let j = (goal.at.ticks-preserved c).Joined-registers in
    let s = tick_state_of c.ticks.registers c.ticks.places in
    let on = tick-on _ _ _ c.step-registers.ensures in
    let risen = c.ticks.invariant.1 in (
      ticks-more (numbers_of c.args.columns.now) (tick_state_of c.args.start c.args.places.now) s _
          (c.ticks.registers.tick - c.args.start.tick) _ c.ticks.invariant.0 c.step-registers.ensures (omega arith),
      omega arith,
      λ t b. (
        refines_on t b.fit s (c.ticks.invariant.2 t b).0 (met j t b) _ (c.step-registers.ensures ∙ ap (λ (n : Numbers). next_tick_state n s) b.numbers),
        omega (arith, on, early (goal.at.ticks-preserved c).Else-registers-end),
      ),
    )

pub returns-then-registers-end : goal.returns-then-registers-end
returns-then-registers-end c = record {
  run =
      c.ticks.invariant.0
      ∙ ap (λ (u : ℕ). ticks_on (numbers_of c.args.columns.now) (u - c.args.start.tick) (tick_state_of c.args.start c.args.places.now))
      c.if-registers-end.true;
  missed = λ t b.
      by-none (loaded_table t) b.fit.valid _ (λ q u h. (c.ticks.invariant.2 t b).0.before.met q u (omega (arith, c.if-registers-end.true)));
}

pub returns-then-places-place : goal.returns-then-places-place
returns-then-places-place c =
    let w = (goal.at.returns-then-places-place c).In-Some in
    record {
      run = c.ticks.invariant.0;
      missed = λ t b.
          by_first (loaded_table t) b.fit.valid _ c.ticks.registers.tick (c.in-Some.place + 1) (early (goal.at.returns-then-places-place c).Else-registers-end)
          (walk-misses t b.fit (tick_state_of c.ticks.registers c.ticks.places) (c.ticks.invariant.2 t b).0 c.loop-place.place-iterator.rest c.in-Some.place
          c.next.new.self.rest c.loop-place.invariant c.in-Some.ensures.steps (event w ∙ c.if-places-place.true));
    }
