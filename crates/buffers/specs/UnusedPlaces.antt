-- Words past the count of a run in a buffer (scope, 'The run in the cab': later calls neither read nor change those places).
-- `words-unread` and `words-unchanged` show it.
use Rattle.std.specs.Prelude.{◌≡◌, List, ℕ, ◌≤◌, length, take}
use Rattle.model.specs.Advance.{Entry}
use Rattle.buffers.specs.Encoding.{words_to, run_words, count_in, decode}
use Rattle.buffers.specs.Runs.{row_from, sets_from, entry_from}
use Rattle.buffers.specs.Runs.{working_from}

-- the words of a buffer that a call on it reads and may change: the head, and the places below its count
abbrev pub used_in : List ℕ → ℕ
used_in ws = words_to (count_in ws)

-- two buffers with space for a run that are equal up to the count
pub record SameUsed (ws vs : List ℕ) : Type 0 where
  pub long : run_words ≤ length ws
  pub other-long : run_words ≤ length vs
  pub used : take (used_in ws) ws ≡ take (used_in ws) vs

-- they hold the same, so that a row, its sets or who works with any empty jobs and an entry get the same answer; and after it they are equal up to the count again
pub record WordsUnread (ws vs : List ℕ) (x : Entry) : Type 0 where
  pub held : decode ws ≡ decode vs
  pub row : (e : ℕ) → row_from (decode ws) e ≡ row_from (decode vs) e
  pub sets : (e : ℕ) → sets_from (decode ws) e ≡ sets_from (decode vs) e
  pub working : (e : ℕ) → working_from (decode ws) e ≡ working_from (decode vs) e
  pub answer : (entry_from (decode ws) x ws).answer ≡ (entry_from (decode vs) x vs).answer
  pub used : take (used_in ws) (entry_from (decode ws) x ws).buffer ≡ take (used_in ws) (entry_from (decode vs) x vs).buffer
