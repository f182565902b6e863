-- Number 14 for a run in a buffer: when row, sets, advance and the withdrawals answer it. `row-14`, `sets-14`, `advance-14`,
-- `withdraw-14` and `withdraw-all-14` show that these are all its causes.
use Rattle.std.specs.Prelude.{◌≡◌, List, ◌⊎◌, ℕ, ◌+◌, ◌<◌, length, get_or}
use Rattle.run.specs.Numbers.{RunOut}
use Rattle.buffers.specs.Encoding.{parity_at, kind_at, second_number_at, third_number_at, places, words_to, run_words, count_in, run_in}

-- no phase has this kind, this second number and this third: the kind is above 3, or it is 0 or 3 (Coming, Resting) and the second number is not 0, or it is
-- not 1 (Working) and the third is not 0
abbrev pub NoPhase : ℕ → ℕ → ℕ → Type 0
NoPhase k b c = (3 < k) ⊎ ((((k ≡ 0) ⊎ (k ≡ 3)) × (0 < b)) ⊎ ((¬ (k ≡ 1)) × (0 < c)))

-- .. or the parity is none: it is above 1
abbrev pub NoTaskState : ℕ → ℕ → ℕ → ℕ → Type 0
NoTaskState n k b c = (1 < n) ⊎ NoPhase k b c

-- the words of place p are no place
abbrev pub NoPlace : List ℕ → ℕ → Type 0
NoPlace ws p =
    NoTaskState (get_or ws (words_to p + parity_at) 0) (get_or ws (words_to p + kind_at) 0) (get_or ws (words_to p + second_number_at) 0) (get_or ws (words_to p + third_number_at) 0)

-- a buffer holds no run: it is too short for one, its count is above 32, or the words of a place below the count are none
pub data NoRun (ws : List ℕ) : Type 0 where
  short : length ws < run_words → NoRun ws
  many : places < count_in ws → NoRun ws
  no_place : (p : ℕ) → p < count_in ws → NoPlace ws p → NoRun ws

-- 14 of a buffer: it holds no run, or 14 turns down the run that it holds
abbrev pub BufferRunOut : List ℕ → Type 0
BufferRunOut ws = NoRun ws ⊎ RunOut (run_in ws)
