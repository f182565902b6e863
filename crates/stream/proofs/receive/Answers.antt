-- The program is fed what was left and the bytes read.
use Rattle.stream.proofs.Fronts.{received}
use Rattle.stream.proofs.receive.Goals as goal

pub returns-clause-received : goal.returns-clause-received
returns-clause-received g c =
    received g.P.Feed.round g.P.Feed.most _ _ c.args.held c.in-Ok.end _ _ c.read.new.buffer _ _ c.in-Ok.ensures c.feed-round.ensures.holds c.feed-round.ensures.short
    c.move_to_front-held.ensures
