-- The message comes after the name where writes took that whole.
use Rattle.std.proofs.Common.{refl}
use Rattle.stream.proofs.Moving.{sent-then}
use Rattle.stream.proofs.report_unread.Goals as goal

pub returns : goal.returns
returns g c = sent-then 0 _ _ _ _ c.in_ok-count.ensures refl c.send-2.ensures
