-- `session::replies::write_refused`: there is space for the line that is written.
use Rattle.std.proofs.Common.{◌≡◌, length, arith, rules}
use Rattle.session.specs.Operation.{longest_reply}
use Rattle.session.proofs.TextWritten.{text-put}
use Rattle.session.proofs.replies.write_refused.Goals as goal

pub returns : goal.returns
returns c =
    let w : length c.args.out.now ≡ longest_reply = search rules in
    let put = rw c.position.ensures at (rw c.number.ensures at c.put_pair.ensures.0) in
    text-put put (omega (arith, c.put_pair.ensures.1, w))
