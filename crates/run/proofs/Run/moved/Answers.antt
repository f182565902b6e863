use Rattle.std.proofs.Common.{◌≡◌, refl, ◌∙◌, arith, rules, length, get_or, add-one}
use Rattle.std.proofs.Math.Nat.{le_refl}
use Rattle.model.specs.Search.{bit}
use Rattle.model.specs.Sizes.{most_tasks}
use Rattle.model.proofs.Digits.{or-bit}
use Rattle.phase.specs.Task.{past_end}
use Rattle.run.specs.Run.{map_first, next_at, moved}
use Rattle.run.proofs.Places.{map_first-past, map_first-step}
use Rattle.run.proofs.RunOut.{few, has_room}
use Rattle.run.proofs.Run.moved.Goals as goal

pub loop-i-init : goal.loop-i-init
unfolding map_first
loop-i-init c = record { few = few c.args.self c.requires.fact_1; so_far = refl }

pub next-requires : goal.next-requires
next-requires c =
    let r = c.args.self in
    let i = c.loop-i.i in
    simp (c.loop-i.invariant.so_far, map_first-past (next_at r (bit c.args.reports) c.args.empties) i r.tasks i past_end (le_refl i))
    (has_room r c.requires.fact_1 i (omega arith))

pub loop-i-preserved : goal.loop-i-preserved
loop-i-preserved c =
    let a = c.args in
    let r = a.self in
    let i = c.loop-i.i in
    let f = next_at r (bit a.reports) a.empties in
    let places : length r.tasks ≡ most_tasks = search rules in
    let past = map_first-past f i r.tasks i past_end (le_refl i) in
    let e : c.next.result ≡ f i (get_or r.tasks i past_end) =
    simp (c.next.ensures, c.has.ensures ∙ or-bit a.empties r.withdrawn i, c.has-in-loop-i.ensures, c.has-in-loop-i-2.ensures, c.has-in-loop-i-3.ensures, c.requires.fact_2 i, c.requires.fact_3 i, c.loop-i.invariant.so_far, past) in
    record {
      few = c.loop-i.invariant.few;
      so_far = simp (c.loop-i.invariant.so_far, e, add-one, map_first-step f i r.tasks past_end (omega arith));
    }

pub returns : goal.returns
unfolding moved
returns c =
    let e : c.loop-i.i ≡ c.args.self.count = omega arith in
    simp (c.loop-i.invariant.so_far, e)
