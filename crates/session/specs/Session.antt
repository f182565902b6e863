-- The state of a session: its transcript for the bytes to come.
use Rattle.std.specs.Prelude.{Bool, true, false, Option, List, [], ◌∷◌, ◌++◌, ◌≡◌, ℕ, ◌≤◌, ◌<◌, length, take, drop}
use Rattle.model.specs.declared.refusal.Refusal.{Refusal}
use Rattle.model.specs.Refusal.{number_of, position_of}
use Rattle.text.specs.Output.{letters, line_of}
use Rattle.splitter.specs.Split.{too_many, InputEnd, nothing, unknown, lines_from, split}
use Rattle.splitter.specs.Parts.{Comes, end_of}
use Rattle.run.specs.declared.Run.{Run}
use Rattle.session.specs.Transcript.{replies, answers_to, transcript, transcript_so_far}
use Rattle.session.specs.declared.Stage.{Stage}
use Rattle.session.specs.declared.Stage.TheVariants.{Table, Operations, Over}
use Rattle.session.specs.declared.Session.{Session}
use Rattle.session.specs.declared.Fed.{Fed}
use Rattle.session.specs.declared.operations.Operation.{Operation}
use Rattle.session.specs.Operation.{reply, run_after}

-- the transcript of a stage, with its run, for the bytes bs, by what comes after them
abbrev pub transcript_in : Stage → Run → InputEnd → List ℕ → List ℕ
transcript_in Table r e bs = answers_to (split e bs)
transcript_in Operations r e bs = replies r (lines_from e [] bs)
transcript_in Over r e bs = []

-- nothing is printed any more. As in plan_text/specs/Check: `is_over`, `FedBy`, `FedOf` and `NewOf`, there of a check
abbrev pub is_over : Stage → Bool
is_over Table = false
is_over Operations = false
is_over Over = true

-- the transcript of a session for the bytes bs; where it is unknown what comes, what it must have printed
abbrev pub transcript_of : Session → InputEnd → List ℕ → List ℕ
transcript_of s e bs = transcript_in s.stage s.run e bs

-- a text begins with another
abbrev pub IsPrefix : List ℕ → List ℕ → Type 0
IsPrefix first text = (rest : List ℕ) × (text ≡ first ++ rest)

-- where f is the transcript for these bytes and all to come: a number of bytes is taken; the reply to them is at the front of the buffer, whatever comes
-- after, and the returned session gives the rest. No answer waits: where no byte is taken none is due, and there is space for more
pub record FedBy (f : InputEnd → List ℕ → List ℕ) (ended : Bool) (bytes before after : List ℕ) (r : Fed) : Type 0 where
  pub taken : r.taken ≤ length bytes
  pub room : r.length ≤ length before
  pub same : length after ≡ length before
  pub behind : drop r.length after ≡ drop r.length before
  pub text :
      (more : List ℕ) → Comes ended nothing more
      → f nothing (bytes ++ more) ≡ take r.length after ++ transcript_of r.session nothing (drop r.taken bytes ++ more)
  pub at_once :
      ended ≡ false → (more : List ℕ)
      → IsPrefix (f unknown (bytes ++ more)) (take r.length after ++ transcript_of r.session unknown (drop r.taken bytes ++ more))
  pub rest : r.taken ≡ 0 → transcript_of r.session (end_of ended) bytes ≡ []
  pub short : r.taken ≡ 0 → ended ≡ false → length bytes < too_many

-- the contract of `feed` of a session
abbrev pub FedOf : Session → Bool → List ℕ → List ℕ → List ℕ → Fed → Type 0
FedOf s ended bytes before after r = FedBy (transcript_of s) ended bytes before after r

-- the first n bytes of the buffer are the text, and all else is as it was
pub record TextWritten (text before after : List ℕ) (n : ℕ) : Type 0 where
  pub room : n ≤ length before
  pub same : length after ≡ length before
  pub behind : drop n after ≡ drop n before
  pub front : take n after ≡ text

-- a session whose transcript is what the program prints, and whose due transcript is what the program must have printed
abbrev pub NewOf : Session → Type 0
NewOf s = (bs : List ℕ) → (transcript_of s nothing bs ≡ transcript bs) × (transcript_of s unknown bs ≡ transcript_so_far bs)

-- an operation on run r is refused: its reply is the refusal, and the run stays as it is
abbrev pub RefusedOf : Option Operation → Run → Refusal → Type 0
RefusedOf o r e = (reply o r ≡ line_of (letters "refused") (number_of e ∷ position_of e ∷ [])) × (run_after o r ≡ r)

-- a session in a stage, after a number of bytes taken and a number of bytes written
abbrev pub fed_with : Stage → Run → ℕ → ℕ → Fed
fed_with stage run taken length = record { session = record { stage = stage; run = run }; taken = taken; length = length }

-- session s is fed these bytes, and what is left of them again and again; `text` is written, then the session is s', and `left` is left
pub data FedAgain : Bool → Session → List ℕ → List ℕ → List ℕ → Session → Type 0 where
  none : {ended : Bool} {s : Session} {bytes : List ℕ} → FedAgain ended s bytes [] bytes s
  more :
      {ended : Bool} {s s' : Session} {bytes before after text left : List ℕ} {r : Fed} → FedOf s ended bytes before after r
      → FedAgain ended r.session (drop r.taken bytes) text left s' → FedAgain ended s bytes (take r.length after ++ text) left s'

-- from session s, where `left` is left of the input so far, the bytes bs come in parts of any size, and each is fed after what the one before left, until
-- nothing is due; `text` is written, then the session is s', and `left'` is left
pub data Feeds : Session → List ℕ → List ℕ → List ℕ → List ℕ → Session → Type 0 where
  none : {s : Session} {left : List ℕ} → Feeds s left [] [] left s
  more :
      {s s' s'' : Session} (left chunk : List ℕ) {bs text text' left' left'' : List ℕ} → FedAgain false s (left ++ chunk) text left' s'
      → transcript_of s' unknown left' ≡ [] → Feeds s' left' bs text' left'' s'' → Feeds s left (chunk ++ bs) (text ++ text') left'' s''
