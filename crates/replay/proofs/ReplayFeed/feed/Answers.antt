-- Each part that is fed takes a byte or is the last, and the reply to it is sent.
use mathlib.Core.Bool.{Bool, ◌||◌, not}
use mathlib.Core.Path.{refl, sym, ap, ◌∙◌}
use Rattle.std.proofs.Common.{arith}
use Rattle.replay.proofs.Rounds.{so-far-none, round-on, round-stopped, round-done}
use Rattle.replay.proofs.ReplayFeed.feed.Goals as goal

pub loop-whole-init : goal.loop-whole-init
loop-whole-init g c = (so-far-none _ _ _, refl)

pub returns-in-Err-clause-holds : goal.returns-in-Err-clause-holds
returns-in-Err-clause-holds g c =
    let l = c.loop-whole in
    round-stopped _ _ _ _ _ l.taken l.self.session l.count c.send-sent.result c.feed-fed.result l.invariant.0 c.feed-fed.ensures c.send-sent.ensures _ c.in-Err.is

pub returns-then-ended-is_over-clause-holds : goal.returns-then-ended-is_over-clause-holds
returns-then-ended-is_over-clause-holds g c =
    let l = c.loop-whole in
    round-done _ c.args.ended _ _ _ l.taken l.self.session l.count _ c.feed-fed.result l.invariant.0 c.feed-fed.ensures c.in-Ok.ensures _ c.in-Ok.whole refl c.if-fed-eq0.true
    (sym (ap not (ap (λ (b : Bool). c.args.ended || b) (sym c.is_over.ensures) ∙ c.if-ended-is_over.true)))

pub returns-else-ended-is_over-clause-holds : goal.returns-else-ended-is_over-clause-holds
returns-else-ended-is_over-clause-holds g c =
    let l = c.loop-whole in
    round-done _ c.args.ended _ _ _ l.taken l.self.session l.count _ c.feed-fed.result l.invariant.0 c.feed-fed.ensures c.in-Ok.ensures _ c.in-Ok.whole refl c.if-fed-eq0.true
    (sym (ap not (ap (λ (b : Bool). c.args.ended || b) (sym c.is_over.ensures) ∙ c.if-ended-is_over.false)))

pub loop-whole-preserved : goal.loop-whole-preserved
loop-whole-preserved g c =
    let l = c.loop-whole in (
      round-on _ _ _ _ _ l.taken l.self.session l.count _ c.feed-fed.result l.invariant.0 c.feed-fed.ensures c.in-Ok.ensures c.in-Ok.whole refl,
      omega (arith, c.feed-fed.ensures.same, l.invariant.1),
    )
