use mathlib.Core.Path.{◌≡◌, sym, ap₂, ◌∙◌}
use Prim.Native.Nat.{ℕ, ◌+◌, ◌-◌, ◌^◌, ◌≤◌, ◌<◌, max}
use native.Mathlib.Omega.{arith}
use mathlib.Core.List.{List}
use lib.ListN.{get_or}
use Rattle.simulation.specs.Places.{segment, third}
use Rattle.simulation.proofs.Parts.{part_at}
use Rattle.simulation.proofs.SetWalk.{Off, off-turn, all-left}
use Rattle.response_time.proofs.Recorded.{noted-none, noted_more, noted-all}
use Rattle.response_time.proofs.recording.record_ends.Goals as goal
use Rattle.response_time.proofs.recording.record_ends.Goals.{In-Some}

pub loop-place-init : goal.loop-place-init
loop-place-init c =
    let a = c.args in
    let e : c.into_iter-place-iterator.result.rest ≡ a.ended = cc in
    (all-left a.ended _ e c.ranges.ended.fits, noted-none a.tick (segment third a.times.now) (segment third a.places.now) a.responses.now a.ended _ e)

-- the lowest place is taken off
at : (c : In-Some) → Off c.args.ended c.loop-place.place-iterator.rest c.in-Some.place c.next.new.self.rest
at c = off-turn c.args.ended c.loop-place.place-iterator.rest c.in-Some.place c.next.new.self.rest c.loop-place.invariant.0 c.in-Some.ensures.steps

-- its period and its next release, as they are in the lists
part : (c : In-Some) (xs : List ℕ) → get_or (segment third xs) c.in-Some.place 0 ≡ get_or xs (64 + c.in-Some.place) 0
part c xs = part_at 64 xs c.in-Some.place (at c).below

-- the sum fits, and the next release is within it
small :
    (c : In-Some)
    → (c.args.tick + get_or c.args.times.now (64 + c.in-Some.place) 0 < 2 ^ 32)
    × (get_or c.args.places.now (64 + c.in-Some.place) 0 ≤ c.args.tick + get_or c.args.times.now (64 + c.in-Some.place) 0)
small c =
    let x = c.requires c.in-Some.place (c.loop-place.invariant.0.within c.in-Some.place (at c).here) in
    let T = part c c.args.times.now in
    let N = part c c.args.places.now in
    (omega (arith, x.0, T), omega (arith, x.1, T, N))

pub overflow_add-time : goal.overflow_add-time
overflow_add-time c = omega (arith, (at (goal.at.overflow_add-time c).In-Some).below)

pub offset_bounds-times-place : goal.offset_bounds-times-place
offset_bounds-times-place c = omega (arith, (at (goal.at.offset_bounds-times-place c).In-Some).below)

pub bounds-times-place : goal.bounds-times-place
bounds-times-place c = omega (arith, (at (goal.at.bounds-times-place c).In-Some).below)

pub overflow_add-time-in-loop-place : goal.overflow_add-time-in-loop-place
overflow_add-time-in-loop-place c = omega (arith, (small (goal.at.overflow_add-time-in-loop-place c).In-Some).0)

pub overflow_add-time-in-loop-place-2 : goal.overflow_add-time-in-loop-place-2
overflow_add-time-in-loop-place-2 c = omega (arith, (at (goal.at.overflow_add-time-in-loop-place-2 c).In-Some).below)

pub offset_bounds-places-place : goal.offset_bounds-places-place
offset_bounds-places-place c = omega (arith, (at (goal.at.offset_bounds-places-place c).In-Some).below)

pub bounds-places-place : goal.bounds-places-place
bounds-places-place c = omega (arith, (at (goal.at.bounds-places-place c).In-Some).below)

pub overflow_sub-time : goal.overflow_sub-time
overflow_sub-time c = (small (goal.at.overflow_sub-time c).In-Some).1

pub offset_bounds-responses-place : goal.offset_bounds-responses-place
offset_bounds-responses-place c = omega (arith, (at (goal.at.offset_bounds-responses-place c).In-Some).below)

pub bounds-responses-place : goal.bounds-responses-place
bounds-responses-place c = omega (arith, (at (goal.at.bounds-responses-place c).In-Some).below)

pub offset_bounds-responses-place-in-loop-place : goal.offset_bounds-responses-place-in-loop-place
offset_bounds-responses-place-in-loop-place c = omega (arith, (at (goal.at.offset_bounds-responses-place-in-loop-place c).In-Some).below)

pub bounds-responses-place-in-loop-place : goal.bounds-responses-place-in-loop-place
bounds-responses-place-in-loop-place c = omega (arith, (at (goal.at.bounds-responses-place-in-loop-place c).In-Some).below)

pub loop-place-preserved : goal.loop-place-preserved
loop-place-preserved c =
    let t = (goal.at.loop-place-preserved c).In-Some in
    let o = at t in
    let a = c.args in
    let l = c.loop-place in
    let p = c.in-Some.place in (
      o.left,
      noted_more a.tick (segment third a.times.now) (segment third a.places.now) a.responses.now a.ended l.place-iterator.rest p c.next.new.self.rest l.responses o
          l.invariant.1 c.max.result
          (c.max.ensures ∙ ap₂ (λ (x y : ℕ). max (get_or l.responses p 0) (a.tick + x - y)) (sym (part t a.times.now)) (sym (part t a.places.now))),
    )

pub returns : goal.returns
returns c =
    let a = c.args in
    c.loop-place.invariant.1
    ∙ noted-all a.tick (segment third a.times.now) (segment third a.places.now) a.responses.now a.ended c.loop-place.place-iterator.rest c.in-None.ensures.steps.0
