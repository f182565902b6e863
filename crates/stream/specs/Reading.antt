-- The buffer after a read: the bytes that it held stay in place, and the bytes read come after them.
-- No contract determines which bytes a read gives.
use Rattle.std.specs.Prelude.{Bool, true, false, Result, Ok, Err, List, ◌≡◌, ℕ, ◌-◌, ◌≤◌, ◌<◌, length, take, drop}
use lib.Dec.{eqb}
use Rattle.stream.specs.declared.Filled.{Filled}

-- the number of bytes that a buffer holds, whether a read returned that the input has ended, and whether one failed
pub record Reading : Type 0 where
  pub held : ℕ
  pub ended : Bool
  pub failed : Bool

-- no bytes are counted where a read failed
abbrev pub unread : ℕ → Reading
unread held = record { held = held; ended = false; failed = true }

-- what one read after this number of bytes returns: the input has ended where none came
abbrev pub read_once : {E : Type 0} → ℕ → Result ℕ E → Reading
read_once held (Ok n) = record { held = n; ended = eqb n held; failed = false }
read_once held (Err e) = unread held

-- what reads until a buffer is full return
abbrev pub filled : {E : Type 0} → ℕ → Result Filled E → Reading
filled held (Ok r) = record { held = r.held; ended = r.ended; failed = false }
filled held (Err e) = unread held

-- after the first `held` bytes of a buffer more was read: those are as they were, and the buffer holds at most its length
pub record ReadAfter (held : ℕ) (before after : List ℕ) (r : Reading) : Type 0 where
  pub kept : take held after ≡ take held before
  pub same : length after ≡ length before
  pub least : held ≤ r.held
  pub most : r.held ≤ length before

-- one read: it gave bytes, or it returned that the input has ended, or it failed
pub record ReadOnceOf (held : ℕ) (before after : List ℕ) (r : Reading) : Type 0 where
  pub behind : ReadAfter held before after r
  pub more : r.ended ≡ false → r.failed ≡ false → held < r.held
  pub none : r.ended ≡ true → r.held ≡ held

-- repeated reads: until the buffer is full, or a read returned that the input has ended, or one failed
pub record FilledOf (held : ℕ) (before after : List ℕ) (r : Reading) : Type 0 where
  pub behind : ReadAfter held before after r
  pub full : r.ended ≡ false → r.failed ≡ false → r.held ≡ length before

-- the bytes from a place up to another are at the front of the buffer
pub record MovedToFront (from end : ℕ) (before after : List ℕ) (n : ℕ) : Type 0 where
  pub count : n ≡ end - from
  pub same : length after ≡ length before
  pub front : take n after ≡ take (end - from) (drop from before)
