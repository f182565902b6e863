-- The result of a row asked as sets of cores, of a run in a buffer, computed from the definitions, for two tasks (O 0, C 2, D 4, T 4) of widths 2 and 1: a
-- set of each position, with a fence, with one that lends and with empty jobs; 14 before 15 before 20, with 32 zeros; what is after the sets and the answer
-- stays, and everything as found where there is no space for either.
use mathlib.Core.List.{List, [], ◌∷◌, ◌++◌, map}
use mathlib.Core.Path.{◌≡◌, refl}
use mathlib.Core.Bool.{false}
use Prim.Native.Nat.{ℕ}
use lib.ListN.{replicate}
use Rattle.phase.specs.declared.Phase.{Phase}
use Rattle.phase.specs.declared.Phase.TheVariants.{Working, Holding, Resting}
use Rattle.phase.specs.declared.Task.{Task}
use Rattle.capi.specs.Calls.{CallResult, call_result}
use Rattle.buffers.specs.Encoding.{place_words}
use Rattle.capi.specs.Runs.{sets_call}
use Rattle.capi.proofs.Calling.{calling}

-- A LINE: the run's words, the empty jobs, the sets' words and the answer's as they are lent, and what is left

pub record Line : Type 0 where
  pub run : List ℕ
  pub empties : ℕ
  pub sets : List ℕ
  pub answer : List ℕ
  pub leaves : CallResult

-- the value by the definitions of a line
abbrev pub worked : Line → Line
worked l = record {
  run = l.run;
  empties = l.empties;
  sets = l.sets;
  answer = l.answer;
  leaves = sets_call l.run l.empties l.sets l.answer;
}

-- a number of words as they are lent
abbrev pub lent : ℕ → List ℕ
lent n = replicate n 77

abbrev task : ℕ → Phase → Task
task v ph = record { parameters = record { offset = 0; width = v; length = 2; deadline = 4; period = 4; second = v }; even = false; phase = ph }

-- the run in words, with these six words in front, its tasks in these phases, and anything past the count
abbrev pub words : List ℕ → Phase → Phase → List ℕ
words head a b = head ++ (place_words (task 2 a) ++ (place_words (task 1 b) ++ lent 330))

-- under rule n on c cores with no fence and no position withdrawn
abbrev pub plain : ℕ → ℕ → List ℕ
plain n c = n ∷ c ∷ 2 ∷ 0 ∷ 0 ∷ 0 ∷ []

-- .. and with a fence in two words
abbrev pub fenced : ℕ → ℕ → ℕ → List ℕ
fenced c low high = 1 ∷ c ∷ 2 ∷ low ∷ high ∷ 0 ∷ []

-- both tasks released in this tick; and the first holds its cores, while the second has work and none
abbrev pub fresh : List ℕ → List ℕ
fresh head = words head (Working 0 0 0) (Working 0 0 0)

abbrev pub held : ℕ → List ℕ
held n = words (plain n 2) (Holding 1 1) (Working 1 0 0)

-- the first or the second has not ended its job at its deadline
abbrev pub late : ℕ → Phase → Phase → List ℕ
late n a b = words (plain n 3) a b

-- with the empty jobs e the two tasks have these sets; of 34 words and an answer of 4 the last stay
abbrev shows : List ℕ → ℕ → ℕ → ℕ → Line
shows r e a b = record {
  run = r;
  empties = e;
  sets = lent 34;
  answer = lent 4;
  leaves = call_result 0 ((a ∷ b ∷ (replicate 30 0 ++ lent 2)) ∷ (0 ∷ 0 ∷ 0 ∷ lent 1) ∷ []);
}

-- refused with number m and position p, and 32 zeros
abbrev refuses : List ℕ → ℕ → ℕ → ℕ → Line
refuses r e m p = record {
  run = r;
  empties = e;
  sets = lent 34;
  answer = lent 4;
  leaves = call_result 0 ((replicate 32 0 ++ lent 2) ∷ (3 ∷ m ∷ p ∷ lent 1) ∷ []);
}

-- slices for the sets and for the answer with too few words
abbrev stays : List ℕ → ℕ → ℕ → Line
stays r s a = record { run = r; empties = 0; sets = lent s; answer = lent a; leaves = call_result 1 (lent s ∷ lent a ∷ []) }

-- just enough space
abbrev fits : Line
fits = record {
  run = fresh (plain 1 3);
  empties = 0;
  sets = lent 32;
  answer = lent 3;
  leaves = call_result 0 ((3 ∷ 4 ∷ replicate 30 0) ∷ (0 ∷ 0 ∷ 0 ∷ []) ∷ []);
}

abbrev pub lines : List Line
lines =
    -- the lowest cores, and nothing for one that does not fit or rests
    shows (fresh (plain 1 3)) 0 3 4 ∷ shows (fresh (plain 1 2)) 0 3 0 ∷ shows (words (plain 1 3) (Resting 2) (Working 2 1 1)) 0 0 1
    -- fenced cores are in no set: cores 1 and 3 of five, core 0 of three, all but 62 and 63
    ∷ shows (fresh (fenced 5 10 0)) 0 5 16 ∷ shows (fresh (fenced 3 1 0)) 0 6 0 ∷ shows (fresh (fenced 64 4294967295 1073741823)) 0 13835058055282163712 0
    -- empty jobs
    ∷ shows (fresh (plain 1 3)) 1 0 1 ∷ shows (fresh (plain 1 3)) 2 3 0 ∷ shows (fresh (plain 1 3)) 3 0 0 ∷ shows (fresh (fenced 5 10 0)) 1 0 1
    -- what is lent is in the borrower's set, and the rest in the holder's; under rule 3 nothing is lent
    ∷ shows (held 4) 0 2 1 ∷ shows (held 3) 0 3 0 ∷ shows (fresh (plain 4 2)) 1 2 1 ∷ shows (fresh (plain 3 2)) 1 3 0
    -- 15 with the lowest late position, also before 20
    ∷ refuses (late 1 (Working 4 1 1) (Working 4 1 1)) 0 15 1 ∷ refuses (late 2 (Resting 2) (Working 4 1 1)) 0 15 2 ∷ refuses (late 4 (Working 4 1 0) (Resting 2)) 4 15 1
    -- 20: a job that was released before, or a position past the count
    ∷ refuses (held 4) 1 20 0 ∷ refuses (held 4) 2 20 0 ∷ refuses (fresh (plain 1 3)) 4 20 0 ∷ refuses (fresh (plain 1 3)) 5 20 0
    -- 14: no rule, a fence of all cores, also before 15 and 20, words that are no run
    ∷ refuses (fresh (plain 5 3)) 0 14 0 ∷ refuses (fresh (fenced 3 7 0)) 0 14 0 ∷ refuses (late 5 (Working 4 1 1) (Resting 2)) 4 14 0 ∷ refuses (lent 400) 0 14 0 ∷ refuses [] 0 14 0
    -- the space
    ∷ fits ∷ stays (fresh (plain 1 3)) 31 3 ∷ stays (fresh (plain 1 3)) 32 2 ∷ stays (fresh (plain 1 3)) 0 0 ∷ stays [] 31 3 ∷ stays [] 34 2
    ∷ []

-- every line is its value by the definitions
pub examples : map worked lines ≡ lines
unfolding calling
examples = refl
