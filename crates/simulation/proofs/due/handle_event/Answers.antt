use Rattle.std.proofs.Common.{◌≡◌, ℕ, ◌+◌, Bool, true, false, cond, eqb, get_or, set, sym, ap, ◌∙◌, eq-eqb, ne_eqb}
use Rattle.simulation.specs.Jump.{handled}
use Rattle.simulation.specs.Machine.{Machine, machine, machine_of, with_release}
use Rattle.simulation.specs.Places.{segment}
use Rattle.simulation.proofs.Parts.{part_at, store-event}
use Rattle.simulation.proofs.due.handle_event.Goals as goal

chosen : (b : Bool) (p t C D T : ℕ) (m : Machine) → eqb (get_or m.next p 0) t ≡ b
    → cond b (with_release p t C D T m) (machine m.left (set m.event p (get_or m.next p 0)) m.next m.claiming) ≡ handled p t C D T m
unfolding handled
chosen b p t C D T m e = ap (λ (x : Bool). cond x (with_release p t C D T m) (machine m.left (set m.event p (get_or m.next p 0)) m.next m.claiming)) (sym e)

pub returns-then-places-place : goal.returns-then-places-place
returns-then-places-place c =
    let a = c.args in
    let m = machine_of a.places.now a.claiming in
    let now = part_at 64 a.places.now a.place c.requires.0 ∙ c.if-places-place.true in
    c.release.ensures ∙ chosen true a.place a.tick _ _ _ m (eq-eqb (get_or m.next a.place 0) a.tick now)

pub returns : goal.returns
returns c =
    let a = c.args in
    let xs = a.places.now in
    let m = machine_of xs a.claiming in
    let at = part_at 64 xs a.place c.requires.0 in
    store-event xs a.claiming a.place (get_or xs (64 + a.place) 0) c.requires.0
    ∙ (ap (λ (v : ℕ). machine (segment 0 xs) (set (segment 32 xs) a.place v) (segment 64 xs) a.claiming) (sym at)
    ∙ chosen false a.place a.tick _ _ _ m (ne_eqb (get_or m.next a.place 0) a.tick (λ e. c.if-places-place.false (sym at ∙ e))))
