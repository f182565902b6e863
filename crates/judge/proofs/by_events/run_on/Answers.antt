-- After each jump the run represents the table's full-length run, and no deadline has been missed. A due place with ticks left is the first miss; at the
-- end nothing has been missed.
use native.Mathlib.Nat.{eq-or-lt_of_le, le_of_suc-le-suc, not-suc-le-zero}
use native.Mathlib.Omega.{arith}
use mathlib.Core.Logic.{⊎_elim}
use mathlib.Core.Path.{◌≡◌, refl, sym, ap, ◌∙◌, subst}
use Prim.Native.Nat.{ℕ, suc, ◌+◌, ◌<◌}
use lib.Bits.{bit_and}
use lib.ListN.{get_or}
use Rattle.table.specs.declared.Loaded.{Loaded}
use Rattle.table.specs.Fit.{loaded_table}
use Rattle.simulation.specs.Machine.{machine_of}
use Rattle.simulation.specs.Places.{segment}
use Rattle.simulation.specs.TickState.{Numbers, numbers_of}
use Rattle.simulation.specs.EventState.{EventState, event_state_of}
use Rattle.simulation.specs.Jump.{jumped, JumpStarts}
use Rattle.simulation.proofs.Parts.{front_at}
use Rattle.judge.specs.RunOn.{jumps_on, JumpsBegin}
use Rattle.judge.proofs.LateByEvents.{RemainingDue, walk_begins, at-place, walk-passes, walk-misses, walk_ends}
use Rattle.judge.proofs.FirstMiss.{by-none, by_first}
use Rattle.judge.proofs.by_events.run_on.Invariants.{JumpsTo}
use Rattle.judge.proofs.by_events.run_on.Goals as goal
use Rattle.judge.proofs.by_events.run_on.Goals.{In-Some, In-None}

no_jump : (n : Numbers) (s : EventState) (end : ℕ) → JumpsTo n s end s
unfolding jumps_on
no_jump n s end = record { count = 0; run = refl; before = λ i l. absurd (not-suc-le-zero l) }

-- one jump more
jump-more : (n : Numbers) (s : EventState) (end : ℕ) (x y : EventState) → JumpsTo n s end x → x.tick < end → y ≡ jumped n x → JumpsTo n s end y
unfolding jumps_on
jump-more n s end x y h l e = record {
  count = suc h.count;
  run = e ∙ ap (jumped n) h.run;
  before = λ i b.
      ⊎_elim
      (λ (q : i ≡ h.count). subst (λ (j : ℕ). (jumps_on n j s).tick < end) (sym q) (subst (λ (z : EventState). z.tick < end) h.run l))
      (λ (q : i < h.count). h.before i q)
      (eq-or-lt_of_le (le_of_suc-le-suc b));
}

-- in the walk: the lowest place that is left is one of 32
inside : (c : In-Some) → c.in-Some.place < 32
inside c = (at-place _ _ _ _ _ c.loop-place.invariant c.in-Some.ensures.steps).below

left_at : (c : In-Some) → get_or (segment 0 c.jumps.places) c.in-Some.place 0 ≡ get_or c.jumps.places c.in-Some.place 0
left_at c = front_at c.jumps.places c.in-Some.place (inside c)

-- where the walk has ended no deadline of the tick is missed, so a jump may begin
begins :
    (c : In-None) (t : Loaded)
    → JumpsBegin t (numbers_of c.args.columns.now) (event_state_of c.args.start c.args.places.now) c.args.end
    → JumpStarts t (numbers_of c.args.columns.now) (event_state_of c.jumps.registers c.jumps.places)
begins c t b =
    let h = c.jumps.invariant.1 t b in
    record {
      fit = b.fit;
      numbers = b.numbers;
      represents = h;
      met = walk_ends t b.fit (event_state_of c.jumps.registers c.jumps.places) h c.loop-place.place-iterator.rest c.loop-place.invariant c.in-None.ensures.steps.0;
      early = omega (arith, c.if-end-registers.false, b.early);
    }

pub jumps-init : goal.jumps-init
jumps-init c = (no_jump (numbers_of c.args.columns.now) (event_state_of c.args.start c.args.places.now) c.args.end, λ t b. b.represents)

pub loop-place-init : goal.loop-place-init
loop-place-init c =
    let s = event_state_of c.jumps.registers c.jumps.places in
    let e : c.into_iter-place-iterator.result.rest ≡ bit_and c.jumps.registers.claiming c.jumps.registers.due = cc in
    subst (RemainingDue (machine_of c.jumps.places c.jumps.registers.claiming) c.jumps.registers.due) (sym e)
    (walk_begins c.requires.0 c.requires.1.fit s (c.jumps.invariant.1 c.requires.0 c.requires.1))

pub offset_bounds-places-place : goal.offset_bounds-places-place
offset_bounds-places-place c = omega (arith, inside c)

pub bounds-places-place : goal.bounds-places-place
bounds-places-place c = omega (arith, inside (goal.at.bounds-places-place c).In-Some)

pub loop-place-preserved : goal.loop-place-preserved
loop-place-preserved c =
    let t = (goal.at.loop-place-preserved c).In-Some in
    walk-passes _ _ _ _ _ c.loop-place.invariant c.in-Some.ensures.steps (omega (arith, left_at t, c.if-places-place-gt0.false))

pub jump-registers-requires : goal.jump-registers-requires
jump-registers-requires c = (c.requires.0, begins (goal.at.jump-registers-requires c).In-None c.requires.0 c.requires.1)

pub jumps-smaller : goal.jumps-smaller
jumps-smaller c =
    omega (arith, c.if-end-registers.false, (c.jump-registers.ensures.lands _ (begins (goal.at.jumps-smaller c).In-None c.requires.0 c.requires.1)).next.after)

pub jumps-preserved : goal.jumps-preserved
jumps-preserved c = (
  jump-more _ _ c.args.end (event_state_of c.jumps.registers c.jumps.places) _ c.jumps.invariant.0 c.if-end-registers.false c.jump-registers.ensures.value,
  λ t b. (c.jump-registers.ensures.lands t (begins (goal.at.jumps-preserved c).In-None t b)).represents,
)

pub returns-then-end-registers : goal.returns-then-end-registers
returns-then-end-registers c =
    let h = c.jumps.invariant.0 in
    record {
      count = h.count;
      run = h.run;
      before = h.before;
      stops = c.if-end-registers.true;
      missed = λ t b. by-none (loaded_table t) b.fit.valid _ (λ q u l. (c.jumps.invariant.1 t b).met q u (omega (arith, c.if-end-registers.true)));
    }

pub returns-then-places-place-gt0 : goal.returns-then-places-place-gt0
returns-then-places-place-gt0 c =
    let w = (goal.at.returns-then-places-place-gt0 c).In-Some in
    let h = c.jumps.invariant.0 in
    record {
      count = h.count;
      run = h.run;
      before = h.before;
      stops = refl;
      missed = λ t b.
          by_first (loaded_table t) b.fit.valid _ c.jumps.registers.tick (c.in-Some.place + 1) c.if-end-registers.false
          (walk-misses t b.fit (event_state_of c.jumps.registers c.jumps.places) (c.jumps.invariant.1 t b) c.loop-place.place-iterator.rest c.in-Some.place
          c.next.new.self.rest c.loop-place.invariant c.in-Some.ensures.steps (omega (arith, left_at w, c.if-places-place-gt0.true)));
    }
