-- The contract of a program that answers an input by one text.
use Rattle.std.specs.Prelude.{true, false, Result, Ok, Err, List, [], ◌++◌, ◌≡◌, ℕ, take}
use Rattle.stream.specs.declared.Exchange.{Exchange}
use Rattle.stream.specs.Reading.{Reading, filled, unread}
use Rattle.stream.specs.Sent.{Sent, SentOf, sent_of}

-- what was read, as code returns it
abbrev pub reading_in : {E : Type 0} → Result Exchange E → Reading
reading_in {E = E} (Ok a) = filled {E = E} 0 (Ok a.read)
reading_in (Err e) = unread 0

-- .. and what was written
abbrev pub sent_in : {E : Type 0} → Result Exchange E → Sent
sent_in (Ok a) = sent_of a.sent
sent_in (Err e) = record { count = 0; whole = true }

-- the text for the input bs is f bs; the buffer holds what was read of the input, and `sent` what was written
pub record Answered (f : List ℕ → List ℕ) (bytes : List ℕ) (reading : Reading) (sent : Sent) : Type 0 where
  -- where no read failed: the text for the bytes read and any that follow them; none follow where a read returned that the input has ended
  pub text : reading.failed ≡ false → (more : List ℕ) → (reading.ended ≡ true → more ≡ []) → SentOf 0 (f (take reading.held bytes ++ more)) sent
  -- where one failed: nothing
  pub unread : reading.failed ≡ true → sent.count ≡ 0
