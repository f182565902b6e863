use mathlib.Core.Path.{◌≡◌, refl, sym, ap, ◌∙◌}
use mathlib.Core.Bool.{Bool, true, false, ◌&&◌, true≢false}
use mathlib.Core.List.{List}
use Prim.Native.Nat.{ℕ, ◌<◌}
use native.Mathlib.Omega.{arith}
use lib.Dec.{ltb}
use lib.ListN.{get_or}
use borrow.Author.Tests.{le-ltb, lt-ltb}
use Rattle.model.specs.Search.{bit}
use Rattle.model.proofs.Bools.{and_both}
use Rattle.model.proofs.Digits.{bit-none}
use Rattle.model.proofs.Members.{ended}
use Rattle.model.proofs.Search.{any_of, none_any}
use Rattle.simulation.specs.Places.{segment}
use Rattle.simulation.proofs.Parts.{front_at}
use Rattle.simulation.proofs.SetWalk.{Off, all-left}
use Rattle.judge.proofs.LateByEvents.{at-place, walk-passes}
use Rattle.response_time.specs.Recording.{any_left}
use Rattle.response_time.proofs.recording.any_left.Goals as goal
use Rattle.response_time.proofs.recording.any_left.Goals.{In-Some}

-- the lowest place that is left, and what it has left
low : (c : In-Some) → Off c.args.set c.loop-place.place-iterator.rest c.in-Some.place c.next.new.self.rest
low c = at-place _ _ _ _ _ c.loop-place.invariant c.in-Some.ensures.steps

left_at : (c : In-Some) → get_or (segment 0 c.args.places.now) c.in-Some.place 0 ≡ get_or c.args.places.now c.in-Some.place 0
left_at c = front_at c.args.places.now c.in-Some.place (low c).below

-- one is found
found : (set : ℕ) (left : List ℕ) (p : ℕ) → p < 32 → bit set p ≡ true → 0 < get_or left p 0 → true ≡ any_left set left
unfolding any_left
found set left p l on some =
    sym (any_of 32 (λ q. bit set q && ltb 0 (get_or left q 0)) p l
    (and_both (bit set p) (ltb 0 (get_or left p 0)) on (lt-ltb 0 (get_or left p 0) some)))

-- all have been handled
none_found : (set : ℕ) (left : List ℕ) → ((p : ℕ) → bit set p ≡ true → get_or left p 0 ≡ 0) → false ≡ any_left set left
unfolding any_left
none_found set left none = sym (none_any 32 (λ q. bit set q && ltb 0 (get_or left q 0)) (λ p l. go p (bit set p) refl))
  where
    go : (p : ℕ) (b : Bool) → bit set p ≡ b → b && ltb 0 (get_or left p 0) ≡ false
    go p true e = le-ltb 0 (get_or left p 0) (omega (arith, none p e))
    go p false e = refl

pub loop-place-init : goal.loop-place-init
loop-place-init c =
    let e : c.into_iter-place-iterator.result.rest ≡ c.args.set = cc in
    record {
      left = all-left c.args.set _ e c.ranges.set.fits;
      seen = λ q on off. absurd (true≢false (sym on ∙ ap (λ (x : ℕ). bit x q) (sym e) ∙ off));
    }

pub offset_bounds-places-place : goal.offset_bounds-places-place
offset_bounds-places-place c = omega (arith, (low (goal.at.offset_bounds-places-place c).In-Some).below)

pub bounds-places-place : goal.bounds-places-place
bounds-places-place c = omega (arith, (low (goal.at.bounds-places-place c).In-Some).below)

pub returns-then-places-place-gt0 : goal.returns-then-places-place-gt0
returns-then-places-place-gt0 c =
    let t = (goal.at.returns-then-places-place-gt0 c).In-Some in
    let k = low t in
    found c.args.set (segment 0 c.args.places.now) c.in-Some.place k.below (c.loop-place.invariant.left.within _ k.here)
    (omega (arith, left_at t, c.if-places-place-gt0.true))

pub loop-place-preserved : goal.loop-place-preserved
loop-place-preserved c =
    let t = (goal.at.loop-place-preserved c).In-Some in
    walk-passes _ _ _ _ _ c.loop-place.invariant c.in-Some.ensures.steps (omega (arith, left_at t, c.if-places-place-gt0.false))

pub returns : goal.returns
returns c =
    let l = c.loop-place in
    none_found c.args.set (segment 0 c.args.places.now)
    (λ p e. l.invariant.seen p e (ap (λ (r : ℕ). bit r p) (ended l.place-iterator.rest c.in-None.ensures.steps.0) ∙ bit-none p))
