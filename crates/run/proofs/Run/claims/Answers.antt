use Rattle.std.proofs.Common.{Bool, ℕ, ◌≡◌, refl, ap, ◌∙◌, min, arith, rules, length, length-set}
use Rattle.model.specs.Fence.{unfenced_count}
use Rattle.model.specs.Sizes.{most_cores, most_tasks}
use Rattle.model.proofs.Digits.{or-bit}
use Rattle.phase.specs.Phase.{claiming, working, released, phase_emptied}
use Rattle.phase.specs.Task.{out_in}
use Rattle.model.proofs.Gathered.{gathered-more}
use Rattle.run.specs.Numbers.{late_at, place_out, width_limit_in}
use Rattle.run.specs.Run.{rule_in, place_at, even_at, phase_at, emptied_at}
use Rattle.run.proofs.PlaceSets.{stored_more, widths-stored}
use Rattle.run.proofs.Run.claims.Goals as goal

pub loop-i-preserved : goal.loop-i-preserved
loop-i-preserved c =
    let r = c.args.self in
    let e = c.args.empties in
    let l = c.loop-i in
    let v = l.invariant in
    let few : min r.cores most_cores ≡ r.cores = omega (arith, c.requires.1) in
    let wide : c.unfenced_count-wide.result ≡ width_limit_in r = c.unfenced_count-wide.ensures ∙ ap (unfenced_count r.fence) few in
    let phase : c.emptied-seen.result ≡ emptied_at r e l.i =
    c.emptied-seen.ensures ∙ ap (λ (empty : Bool). phase_emptied (rule_in r) empty (phase_at r l.i)) (c.has.ensures ∙ or-bit e r.withdrawn l.i) in
    record {
      size = simp length-set v.size;
      broken =
          gathered-more (place_out r) l.i l.broken c.with-broken.result c.out.result v.broken
          (c.out.ensures ∙ ap (λ (m : ℕ). out_in m (rule_in r) (place_at r l.i)) wide) c.with-broken.ensures;
      late = gathered-more (late_at r) l.i l.late c.with-late.result c.late.result v.late c.late.ensures c.with-late.ensures;
      claims =
          gathered-more (λ p. claiming (emptied_at r e p)) l.i l.claiming c.with-claiming.result c.claims.result v.claims
          (c.claims.ensures ∙ ap claiming phase) c.with-claiming.ensures;
      works =
          gathered-more (λ p. working (emptied_at r e p)) l.i l.working c.with-working.result c.works.result v.works
          (c.works.ensures ∙ ap working phase) c.with-working.ensures;
      begins =
          gathered-more (λ p. released (phase_at r p)) l.i l.released c.with-released.result c.released.result v.begins
          c.released.ensures c.with-released.ensures;
      evens = gathered-more (even_at r) l.i l.even c.with-even.result (even_at r l.i) v.evens refl c.with-even.ensures;
      stored = stored_more r l.widths l.i v.size (omega arith) v.stored;
    }

pub returns : goal.returns
returns c =
    let r = c.args.self in
    let l = c.loop-i in
    let v = l.invariant in
    let e : l.i ≡ r.count = omega arith in
    let places : length r.tasks ≡ most_tasks = search rules in
    record {
      outside-limits = rw e at v.broken;
      being-late = rw e at v.late;
      claimed = rw e at v.claims;
      worked = rw e at v.works;
      begun = rw e at v.begins;
      width = widths-stored r l.even l.widths c.requires.0 places (rw e at v.evens) (rw e at v.stored);
    }
