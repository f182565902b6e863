-- The contract of a program that is fed an input as it comes: what was read is fed to it, after what was left of the bytes before.
use Rattle.std.specs.Prelude.{Bool, true, false, Result, IfOk, OnErr, List, ◌++◌, ◌≡◌, ◌<◌, ℕ, drop, length, take}
use lib.Dec.{eqb}
use Rattle.std.specs.declared.ops.ControlFlow.{ControlFlow}
use Rattle.std.specs.declared.ops.ControlFlow.TheVariants.{Break, Continue}
use Rattle.stream.specs.declared.Received.{Received}
use Rattle.stream.specs.declared.Round.{Round}

-- more bytes are read
abbrev pub continues : {B C : Type 0} → ControlFlow B C → Bool
continues (Continue c) = true
continues (Break b) = false

-- bytes came, or the input has ended: those that were left and those that came are fed
pub record Came {P : Type 0} (round : P → Bool → List ℕ → P → Round → Type 0) (most : ℕ) (old new : P) (left after : List ℕ) (r : Received) : Type 0 where
  pub came : List ℕ
  pub count : r.came ≡ length came
  pub holds : round old (eqb r.came 0) (left ++ came) new r.round
  -- what is left is at the front of the buffer, and there is space after it
  pub kept : take r.held after ≡ drop r.round.taken (left ++ came)
  pub room : continues r.round.flow ≡ true → r.held < most

-- one read, and its result, where this number of bytes of the buffer was left
pub record ReceivedOf {P E : Type 0} (round : P → Bool → List ℕ → P → Round → Type 0) (most : ℕ) (old new : P) (held : ℕ) (before after : List ℕ) (r : Result Received E) : Type 0 where
  pub same : length after ≡ length before
  pub read : IfOk r (Came round most old new (take held before) after)
  -- the read failed: the program is as it was
  pub unread : OnErr r (new ≡ old)
