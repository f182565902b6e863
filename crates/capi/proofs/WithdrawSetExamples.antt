-- The result of a withdrawal of several positions together in a buffer, computed from the definitions, for two tasks (O 0, C 2, D 4, T 4) of widths 2 and 1
-- on two cores: sets that are taken, and joined with those that are withdrawn; the empty set; 14 before 21 before 22; and everything as found where there is
-- no space for the answer.
use mathlib.Core.List.{List, [], ◌∷◌, ◌++◌, map}
use mathlib.Core.Path.{◌≡◌, refl}
use mathlib.Core.Bool.{false}
use Prim.Native.Nat.{ℕ}
use lib.ListN.{replicate}
use Rattle.phase.specs.declared.Phase.{Phase}
use Rattle.phase.specs.declared.Phase.TheVariants.{Working}
use Rattle.phase.specs.declared.Task.{Task}
use Rattle.capi.specs.Calls.{CallResult, call_result}
use Rattle.buffers.specs.Encoding.{place_words}
use Rattle.capi.specs.Runs.{withdraw_all_call}
use Rattle.capi.proofs.Calling.{calling}

-- A LINE: the run's words and the answer's as they are lent, the set, and what is left

pub record Line : Type 0 where
  pub run : List ℕ
  pub set : ℕ
  pub answer : List ℕ
  pub leaves : CallResult

-- the value by the definitions of a line
abbrev pub worked : Line → Line
worked l = record { run = l.run; set = l.set; answer = l.answer; leaves = withdraw_all_call l.run l.set l.answer }

-- a number of words as they are lent
abbrev lent : ℕ → List ℕ
lent n = replicate n 77

abbrev task : ℕ → Phase → Task
task v ph = record { parameters = record { offset = 0; width = v; length = 2; deadline = 4; period = 4; second = v }; even = false; phase = ph }

-- the run in words, under this rule and with this set withdrawn, the second task released a tick ago, and anything past the count
abbrev words : ℕ → ℕ → List ℕ
words n x = n ∷ 2 ∷ 2 ∷ 0 ∷ 0 ∷ x ∷ (place_words (task 2 (Working 0 0 0)) ++ (place_words (task 1 (Working 1 0 0)) ++ lent 330))

-- set x is taken, from a run with w withdrawn: then z is; of an answer of 4 words the last stays
abbrev takes : ℕ → ℕ → ℕ → ℕ → Line
takes n w x z = record { run = words n w; set = x; answer = lent 4; leaves = call_result 0 (words n z ∷ (0 ∷ 0 ∷ 0 ∷ lent 1) ∷ []) }

-- set x is refused with number m, and the run as found
abbrev refuses : List ℕ → ℕ → ℕ → Line
refuses r x m = record { run = r; set = x; answer = lent 4; leaves = call_result 0 (r ∷ (3 ∷ m ∷ 0 ∷ lent 1) ∷ []) }

-- no space for the answer
abbrev stays : List ℕ → ℕ → Line
stays r x = record { run = r; set = x; answer = lent 2; leaves = call_result 1 (r ∷ lent 2 ∷ []) }

-- the bit of position 32, and all bits
abbrev last : ℕ
last = 2147483648

abbrev ones : ℕ
ones = 4294967295

abbrev pub lines : List Line
lines =
    takes 2 0 1 1 ∷ takes 2 0 2 2 ∷ takes 2 0 3 3 ∷ takes 3 0 3 3 ∷ takes 4 0 3 3
    -- joined: positions that are withdrawn already stay so
    ∷ takes 2 1 2 3 ∷ takes 2 3 1 3 ∷ takes 2 2 3 3
    -- the empty set
    ∷ takes 2 0 0 0 ∷ takes 2 3 0 3
    -- 22: a bit past the count, and the positions below it are not withdrawn
    ∷ refuses (words 2 0) 4 22 ∷ refuses (words 2 0) 7 22 ∷ refuses (words 2 1) last 22 ∷ refuses (words 2 0) ones 22
    -- 21 for every set, the empty one too
    ∷ refuses (words 1 0) 0 21 ∷ refuses (words 1 0) 1 21 ∷ refuses (words 1 0) last 21
    -- 14: no rule, a withdrawn position past the count, words that are no run
    ∷ refuses (words 5 0) 0 14 ∷ refuses (words 2 4) 1 14 ∷ refuses (words 1 4) last 14 ∷ refuses (lent 400) 3 14 ∷ refuses [] 0 14
    -- no space
    ∷ stays (words 2 0) 3 ∷ stays (words 1 0) last ∷ stays [] 0
    ∷ []

-- every line is its value by the definitions
pub examples : map worked lines ≡ lines
unfolding calling
examples = refl
