use mathlib.Core.Path.{◌≡◌, refl, sym, ap, ◌∙◌}
use mathlib.Core.Bool.{Bool, true, false, true≢false}
use Prim.Native.Nat.{ℕ, ◌^◌, ◌<◌, min}
use native.Mathlib.Omega.{arith}
use lib.Dec.{leb}
use borrow.Author.Tests.{leb-true, leb-false}
use Rattle.model.specs.Search.{bit}
use Rattle.model.proofs.Digits.{bit_past}
use Rattle.simulation.specs.Places.{segment}
use Rattle.simulation.proofs.Parts.{front_at}
use Rattle.simulation.specs.Jump.{least_left}
use Rattle.simulation.proofs.SetWalk.{taken, Off, off-turn, all-left, none-taken, all-taken}
use Rattle.simulation.proofs.Shortest.{shortest-none, shortest-same, shortest-more, shortest-one, least-left-is}
use Rattle.simulation.proofs.events.shortest.Goals as goal
use Rattle.simulation.proofs.events.shortest.Goals.{In-Some}

-- a set of 32 places has none past them
within : (g : ℕ) → g < 2 ^ 32 → (p : ℕ) → bit g p ≡ true → p < 32
within g small p e = go (leb 32 p) refl
  where
    go : (x : Bool) → leb 32 p ≡ x → p < 32
    go true q = absurd (true≢false (sym e ∙ bit_past 32 g p small (leb-true 32 p q)))
    go false q = leb-false 32 p q

pub loop-place-init : goal.loop-place-init
loop-place-init c =
    let a = c.args in
    let e : c.into_iter-place-iterator.result.rest ≡ a.granted = cc in (
      all-left a.granted _ e c.ranges.granted.fits,
      shortest-none (taken a.granted c.into_iter-place-iterator.result.rest) a.most (segment 0 a.places.now) (none-taken a.granted _ e),
    )

at : (c : In-Some) → Off c.args.granted c.loop-place.place-iterator.rest c.in-Some.place c.next.new.self.rest
at c = off-turn c.args.granted c.loop-place.place-iterator.rest c.in-Some.place c.next.new.self.rest c.loop-place.invariant.0 c.in-Some.ensures.steps

pub offset_bounds-places-place : goal.offset_bounds-places-place
offset_bounds-places-place c = omega (arith, (at (goal.at.offset_bounds-places-place c).In-Some).below)

pub bounds-places-place : goal.bounds-places-place
bounds-places-place c = omega (arith, (at (goal.at.bounds-places-place c).In-Some).below)

pub loop-place-preserved : goal.loop-place-preserved
loop-place-preserved c =
    let o = at (goal.at.loop-place-preserved c).In-Some in
    let a = c.args in
    let l = c.loop-place in
    let p = c.in-Some.place in (
      o.left,
      shortest-more (taken a.granted l.place-iterator.rest) (taken a.granted c.next.new.self.rest) a.most (segment 0 a.places.now) p l.ticks c.min-ticks.result
          o.on o.same (c.min-ticks.ensures ∙ ap (λ (x : ℕ). min l.ticks x) (sym (front_at a.places.now p o.below))) l.invariant.1,
    )

pub returns : goal.returns
returns c =
    let a = c.args in
    let l = c.loop-place in
    let left = segment 0 a.places.now in
    shortest-one (bit a.granted) a.most left l.ticks (least_left 32 (bit a.granted) a.most left)
    (shortest-same (taken a.granted l.place-iterator.rest) (bit a.granted) a.most left l.ticks
    (all-taken a.granted l.place-iterator.rest c.in-None.ensures.steps.0) l.invariant.1)
    (least-left-is 32 (bit a.granted) a.most left (within a.granted c.ranges.granted.fits))
