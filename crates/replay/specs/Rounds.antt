-- The contract of a round of the program: bytes of the input are fed to the session, and its replies are passed to writes.
use Rattle.std.specs.Prelude.{Bool, true, not, ◌&&◌, ◌||◌, List, [], ◌≡◌, ℕ, ◌-◌, ◌≤◌, ◌<◌, length, drop}
use Rattle.splitter.specs.Split.{too_many}
use Rattle.splitter.specs.Parts.{end_of}
use Rattle.session.specs.declared.Session.{Session}
use Rattle.session.specs.Session.{FedAgain, transcript_of, is_over}
use Rattle.stream.specs.declared.Round.{Round}
use Rattle.stream.specs.Received.{continues}
use Rattle.stream.specs.Sent.{SentOf, sent_of}

-- bytes of the input were fed to a session until no reply was due, unless a write took less than it was passed; the replies were passed to writes
pub record RoundOf (s : Session) (ended : Bool) (bytes : List ℕ) (new : Session) (r : Round) : Type 0 where
  pub taken : r.taken ≤ length bytes
  pub text : List ℕ
  pub feeds : FedAgain ended s bytes text (drop r.taken bytes) new
  pub sent : SentOf 0 text (sent_of r.sent)
  pub all : (sent_of r.sent).whole ≡ true → transcript_of new (end_of ended) (drop r.taken bytes) ≡ []
  pub again : continues r.flow ≡ ((sent_of r.sent).whole && not (ended || is_over new.stage))
  -- what is left is short
  pub short : continues r.flow ≡ true → length bytes - r.taken < too_many
