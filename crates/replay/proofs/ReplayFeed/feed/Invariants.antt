-- The bytes up to a place are taken, and writes took all replies. The bytes that are left fall.
use Rattle.std.proofs.Common.{◌≡◌, ◌-◌, length}
use Rattle.session.specs.Operation.{longest_reply}
use Rattle.replay.proofs.Rounds.{SoFar}
use Rattle.replay.proofs.ReplayFeed.feed.Given as goal

abbrev pub invariant-loop-whole : goal.invariant-loop-whole
invariant-loop-whole g l = SoFar l.initial.self.session l.ended l.bytes l.taken l.self.session l.count × (length l.reply ≡ longest_reply)

abbrev pub decreases-loop-whole : goal.decreases-loop-whole
decreases-loop-whole g l = length l.bytes - l.taken
