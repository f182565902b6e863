-- Tables in words, computed from the definitions: example A, what each number turns down, and each limit of 2, 3, 19, 7 and 8 from both sides.
use mathlib.Core.Path.{◌≡◌, refl}
use mathlib.Core.List.{List, [], ◌∷◌, map, ◌++◌}
use Prim.Native.Nat.{ℕ, zero, suc, ◌+◌, ◌-◌, ◌*◌, ◌/◌, ◌^◌}
use Prim.Native.String.{String}
use Rattle.std.specs.Prelude.{Result, Ok}
use lib.ListN.{length, replicate}
use Rattle.model.specs.Search.{any, filtered, least, up_from}
use Rattle.model.specs.Task.{Task, Table, cycle, greedy}
use Rattle.model.specs.Horizon.{S, last_s, lcm, hyperperiod, horizon, release_from}
use Rattle.model.proofs.Examples.{t, t₂, on, A}
use Rattle.table.proofs.Starts.{since}
use Rattle.table.specs.declared.Loaded.{Loaded}
use Rattle.table.specs.Words.{visited, count, chain, table_of}
use Rattle.table.specs.Answer.{header_number, last_step, ending_of, first_out, by_horizon, by_tasks, by_walk, answer_of}
use Rattle.table.specs.Load.{code_tasks, refusal, load_of}
use Rattle.table.specs.UnfencedWords.{unfenced_words}

-- a line: its name, the words of a table, and what `load` gives of them
pub record Line : Type 0 where
  pub name : String
  pub words : List ℕ
  pub gives : Result Loaded (ℕ × ℕ)

-- the value by the definitions of a line's words
abbrev pub worked : Line → Line
worked l = record { name = l.name; words = l.words; gives = load_of l.words }

abbrev line : String → List ℕ → Result Loaded (ℕ × ℕ) → Line
line n ws l = record { name = n; words = ws; gives = l }

-- a table that passes, under rule 1, with its last S, P and horizon
abbrev passes : Table → ℕ → ℕ → ℕ → Result Loaded (ℕ × ℕ)
passes s start period horizon =
    Ok record {
      count = length s.tasks;
      cores = s.cores;
      fence = s.fence;
      rule = 1;
      tasks = code_tasks s.tasks;
      start = start;
      period = period;
      horizon = horizon;
    }

-- a header with the two words of a fence, one with an empty fence, and a record's seven words, with both widths v; and with widths v and w
abbrev fenced : ℕ → ℕ → ℕ → ℕ → ℕ → List ℕ
fenced h m r low high = h ∷ m ∷ r ∷ low ∷ high ∷ []

abbrev header : ℕ → ℕ → ℕ → List ℕ
header h m r = fenced h m r 0 0

abbrev entry : ℕ → ℕ → ℕ → ℕ → ℕ → ℕ → List ℕ
entry n o v c d p = n ∷ o ∷ v ∷ c ∷ d ∷ p ∷ v ∷ []

abbrev entry₂ : ℕ → ℕ → ℕ → ℕ → ℕ → ℕ → ℕ → List ℕ
entry₂ n o v w c d p = n ∷ o ∷ v ∷ c ∷ d ∷ p ∷ w ∷ []

-- A with its records permuted and record 2 off the chain: the chain is 3, 1, 4
abbrev pub words_a : List ℕ
words_a = header 3 3 1 ++ entry 4 0 2 3 5 5 ++ entry 9 7 7 7 7 7 ++ entry 1 0 2 2 5 5 ++ entry 0 0 1 4 5 5

-- records n, n + 1 and so on, in chain order, of these periods; the last of them is followed by record `next`
unfoldable pub chained : ℕ → ℕ → List ℕ → List ℕ
chained next n [] = []
chained next n (p ∷ []) = entry next 0 1 1 1 p
chained next n (p ∷ q ∷ ps) = entry (suc n) 0 1 1 1 p ++ chained next (suc n) (q ∷ ps)

-- the primes up to 17, and from 19 to 53
abbrev low : List ℕ
low = 2 ∷ 3 ∷ 5 ∷ 7 ∷ 11 ∷ 13 ∷ 17 ∷ []

abbrev high : List ℕ
high = 19 ∷ 23 ∷ 29 ∷ 31 ∷ 37 ∷ 41 ∷ 43 ∷ 47 ∷ 53 ∷ []

-- seven tasks with P 999,999,000, the last of which has this offset
abbrev powers : List ℕ
powers = 8 ∷ 27 ∷ 125 ∷ 7 ∷ 11 ∷ 13 ∷ []

abbrev long : ℕ → List ℕ
long o = header 1 1 1 ++ chained 7 1 powers ++ entry 0 o 1 1 1 37

abbrev long_table : ℕ → Table
long_table o = on 1 greedy (map (λ p. t 0 1 1 1 p) powers ++ (t o 1 1 1 37 ∷ []))

-- the words of one task on m cores, under rule 1
abbrev alone : ℕ → Task → List ℕ
alone m τ = header 1 m 1 ++ entry₂ 0 τ.offset τ.odd_width τ.even_width τ.length τ.deadline τ.period

-- it passes; it is refused, with number n and position p
abbrev fits : String → ℕ → Task → Line
fits s m τ = line s (alone m τ) (passes (on m greedy (τ ∷ [])) τ.offset (cycle τ) (τ.offset + cycle τ))

abbrev breaks : String → ℕ → ℕ → ℕ → Task → Line
breaks s n p m τ = line s (alone m τ) (refusal n p)

-- one task of width v on m cores with this fence: it passes, or it is refused, with its number and position
abbrev fenced_words : ℕ → ℕ → ℕ → ℕ → List ℕ
fenced_words m low high v = fenced 1 m 1 low high ++ entry 0 0 v 1 1 1

abbrev fenced_passes : String → ℕ → ℕ → ℕ → ℕ → Line
fenced_passes s m low high v =
    line s (fenced_words m low high v) (passes (record { tasks = t 0 v 1 1 1 ∷ []; cores = m; fence = low + high * 2 ^ 32; rule = greedy }) 0 1 1)

abbrev fenced_refused : String → ℕ → ℕ → ℕ → ℕ → ℕ → ℕ → Line
fenced_refused s m low high p v n = line s (fenced_words m low high v) (refusal n p)

-- a header of this rule and the head 0, which number 4 turns down where the rule passes 3
abbrev ruled : String → ℕ → ℕ → Line
ruled s r n = line s (header 0 1 r ++ entry 0 0 1 1 1 1) (refusal n 0)

abbrev pub lines : List Line
lines =
    line "A, its records permuted, one of them off the chain" words_a (passes (A greedy) 0 5 5)
    ∷ line "H: two words" (3 ∷ 1 ∷ []) (refusal 1 0)
    ∷ line "229 words pass 1" (replicate 229 0) (refusal 2 0)
    ∷ line "236 words do not" (replicate 236 0) (refusal 1 0)
    ∷ line "four words" (1 ∷ 1 ∷ 1 ∷ 0 ∷ []) (refusal 1 0)
    ∷ line "five words" (1 ∷ 1 ∷ 1 ∷ 0 ∷ 0 ∷ []) (refusal 5 0)
    ∷ line "0 cores and rule 9 together" (header 1 0 9 ++ entry 0 0 1 1 1 1) (refusal 2 0)
    ∷ line "head 2 of one record" (header 2 1 1 ++ entry 0 0 1 1 1 1) (refusal 5 0)
    ∷ line "head 1 and its next 1" (header 1 1 1 ++ entry 1 0 1 1 1 1) (refusal 6 0)
    ∷ line "no whole number of records" (header 1 1 1 ++ entry 0 0 1 1 1 1 ++ 0 ∷ []) (refusal 1 0)
    ∷ ruled "rule 0" 0 3
    ∷ ruled "rule 1, and the head 0" 1 4
    ∷ ruled "rule 2, and the head 0" 2 4
    ∷ ruled "rule 3, and the head 0" 3 4
    ∷ ruled "rule 4, and the head 0" 4 4
    ∷ ruled "rule 5" 5 3
    ∷ fits "every number at its least" 1 (t 0 1 1 1 1)
    ∷ fits "64 cores and width 64" 64 (t 0 64 1 1 1)
    ∷ line "every number at its most, above a task of width 0" (header 1 64 1 ++ entry 2 1000000 64 1000000 1000000 1000000 ++ entry 0 0 0 1 1 1) (refusal 7 2)
    ∷ breaks "0 cores" 2 0 0 (t 0 1 1 1 1)
    ∷ breaks "65 cores" 2 0 65 (t 0 1 1 1 1)
    ∷ breaks "width 0" 7 1 64 (t 0 0 1 1 1)
    ∷ breaks "width 65 of 64 cores" 7 1 64 (t 0 65 1 1 1)
    ∷ breaks "width 2 of one core" 7 1 1 (t 0 2 1 1 1)
    ∷ fits "two widths, P with 2T" 64 (t₂ 0 64 1 1 1 5)
    ∷ fits "two widths the other way round" 64 (t₂ 3 1 64 1 1 5)
    ∷ breaks "second width 0" 7 1 64 (t₂ 0 1 0 1 1 1)
    ∷ breaks "second width 65 of 64 cores" 7 1 64 (t₂ 0 1 65 1 1 1)
    ∷ breaks "second width 2 of one core, and C 0" 7 1 1 (t₂ 0 1 2 0 1 1)
    ∷ line "S keeps T: the first release of position 2 not before 1, an even job's" (header 1 2 1 ++ entry 2 1 1 1 2 2 ++ entry₂ 0 0 1 2 1 1 3)
    (passes (on 2 greedy (t 1 1 1 2 2 ∷ t₂ 0 1 2 1 1 3 ∷ [])) 3 6 9)
    ∷ line "2T stands in P beside an odd period" (header 1 2 1 ++ entry 2 0 1 1 3 3 ++ entry₂ 0 0 1 2 1 1 5)
    (passes (on 2 greedy (t 0 1 1 3 3 ∷ t₂ 0 1 2 1 1 5 ∷ [])) 0 30 30)
    ∷ line "a length 0 at position 1 before a second width 0 at position 2" (header 1 2 1 ++ entry 2 0 1 0 1 1 ++ entry₂ 0 0 1 0 1 1 1) (refusal 8 1)
    ∷ breaks "O above 1,000,000" 8 1 1 (t 1000001 1 1 1 1)
    ∷ breaks "C 0" 8 1 1 (t 0 1 0 1 1)
    ∷ breaks "C above 1,000,000" 8 1 1 (t 0 1 1000001 1 1)
    ∷ breaks "D and T 0" 8 1 1 (t 0 1 1 0 0)
    ∷ breaks "T 0" 8 1 1 (t 0 1 1 1 0)
    ∷ breaks "T above 1,000,000" 8 1 1 (t 0 1 1 1 1000001)
    ∷ breaks "D 0" 8 1 1 (t 0 1 1 0 7)
    ∷ fits "D 1" 1 (t 0 1 1 1 7)
    ∷ fits "D at T, and C above D" 1 (t 0 1 8 7 7)
    ∷ breaks "D above T" 8 1 1 (t 0 1 1 8 7)
    ∷ fenced_refused "all of five cores fenced" 5 31 0 0 1 19
    ∷ fenced_passes "all but one of five cores fenced" 5 15 0 1
    ∷ fenced_refused "core 5 of five fenced" 5 32 0 0 1 19
    ∷ fenced_refused "cores 5 and 0 of five fenced" 5 33 0 0 1 19
    ∷ fenced_passes "core 32 of 33 fenced, by the second word" 33 0 1 32
    ∷ fenced_refused "core 33 of 33 fenced, by the second word" 33 0 2 0 1 19
    ∷ fenced_refused "all of 64 cores fenced" 64 4294967295 4294967295 0 1 19
    ∷ fenced_passes "all but core 63 of 64 fenced" 64 4294967295 2147483647 1
    ∷ fenced_refused "the one core fenced" 1 1 0 0 1 19
    ∷ fenced_passes "the empty fence leaves all cores" 5 0 0 5
    ∷ fenced_passes "a width of what the fence leaves, 2 of 5" 5 25 0 2
    ∷ fenced_refused "a width above what the fence leaves" 5 25 0 1 3 7
    ∷ line "2 before 19" (fenced 0 65 1 1 0 ++ entry 0 0 1 1 1 1) (refusal 2 0)
    ∷ line "3 before 19" (fenced 0 1 5 1 0 ++ entry 0 0 1 1 1 1) (refusal 3 0)
    ∷ line "19 before 4" (fenced 0 1 1 1 0 ++ entry 0 0 1 1 1 1) (refusal 19 0)
    ∷ line "19 before 5 and 7" (fenced 2 1 1 1 0 ++ entry 0 0 0 1 1 1) (refusal 19 0)
    ∷ line "the chain 1, 2, 3 of two records" (header 1 1 1 ++ entry 2 0 1 1 1 1 ++ entry 3 0 1 1 1 1) (refusal 5 0)
    ∷ line "the chain 2, 1, 2" (header 2 1 1 ++ entry 2 0 1 1 1 1 ++ entry 1 0 1 1 1 1) (refusal 6 0)
    ∷ line "a width above the core count at position 2, in record 1, which breaks 8 too" (header 2 2 1 ++ entry 0 0 3 0 1 1 ++ entry 1 0 1 1 1 1) (refusal 7 2)
    ∷ line "a length 0 at position 1, in record 2, before a width 0 at position 2" (header 2 2 1 ++ entry 0 0 0 1 1 1 ++ entry 1 0 1 0 1 1) (refusal 8 1)
    ∷ line "a deadline above the period at position 2, in record 1" (header 2 2 1 ++ entry 0 0 1 1 3 2 ++ entry 1 0 1 1 1 1) (refusal 8 2)
    ∷ line "the horizon 1,000,000,000 passes 9" (long 1000) (passes (long_table 1000) 1000 999999000 1000000000)
    ∷ line "the horizon 1,000,000,001 does not" (long 1001) (refusal 9 0)
    ∷ line "nor does a P above 2^64" (header 1 1 1 ++ chained 0 1 (low ++ high)) (refusal 9 0)
    ∷ []

-- S BY ARITHMETIC, on both sides of what could be a fork

-- a task of this offset and period, and the tick from which a release is asked for
pub record Asked : Type 0 where
  pub offset : ℕ
  pub period : ℕ
  pub tick : ℕ

abbrev asked : ℕ → ℕ → ℕ → Asked
asked o p u = record { offset = o; period = p; tick = u }

abbrev pub releases : List Asked
releases =
    -- offset 7, period 5: the tick below, one below, at and one above the offset; one before, at and one after the next release
    asked 7 5 0 ∷ asked 7 5 6 ∷ asked 7 5 7 ∷ asked 7 5 8 ∷ asked 7 5 11 ∷ asked 7 5 12 ∷ asked 7 5 13
    -- offset 0; period 1; both
    ∷ asked 0 5 0 ∷ asked 0 5 1 ∷ asked 0 5 5 ∷ asked 7 1 6 ∷ asked 7 1 7 ∷ asked 7 1 8 ∷ asked 0 1 31999969
    -- the largest offset and period, at a release and around it, and from the largest tick that is asked for
    ∷ asked 1000000 1000000 0 ∷ asked 1000000 1000000 999999 ∷ asked 1000000 1000000 1000000 ∷ asked 1000000 1000000 1000001
    ∷ asked 1000000 1000000 31999999 ∷ asked 1000000 1000000 32000000 ∷ asked 0 1000000 31000001
    ∷ []

-- the definition's value, and that of the arithmetic
abbrev defined : Asked → ℕ
defined a = release_from (t a.offset 1 1 1 a.period) a.tick

abbrev counted : Asked → ℕ
counted a = a.offset + (since a.tick a.offset + (a.period - 1)) / a.period * a.period

abbrev pub answers : List ℕ
answers =
    7 ∷ 7 ∷ 7 ∷ 12 ∷ 12 ∷ 12 ∷ 17
    ∷ 0 ∷ 5 ∷ 5 ∷ 7 ∷ 7 ∷ 8 ∷ 31999969
    ∷ 1000000 ∷ 1000000 ∷ 1000000 ∷ 2000000
    ∷ 32000000 ∷ 32000000 ∷ 32000000
    ∷ []

pub releases-defined : map defined releases ≡ answers
releases-defined = refl

pub releases-counted : map counted releases ≡ answers
releases-counted = refl

-- S at its largest: 32 tasks of period 1,000,000, each with an offset one below the one above it
abbrev descending : ℕ → ℕ → List Task
descending zero o = []
descending (suc n) o = t o 1 1 1 1000000 ∷ descending n (o - 1)

pub largest-S : last_s (descending 32 1000000) ≡ 31999969
unfolding S
largest-S = refl

-- the words with just the unfenced cores: three of five, and core 32 of 33
pub unfenced-words : unfenced_words (fenced 1 5 1 9 0 ++ entry 0 0 3 1 1 1) ≡ header 1 3 1 ++ entry 0 0 3 1 1 1
unfolding unfenced_words filtered up_from
unfenced-words = refl

pub unfenced-last : unfenced_words (fenced 1 33 2 4294967295 0 ++ entry 0 0 1 1 1 1) ≡ header 1 1 2 ++ entry 0 0 1 1 1 1
unfolding unfenced_words filtered up_from
unfenced-last = refl

-- every line is its value by the definitions: one table with one check
pub examples : map worked lines ≡ lines
unfolding chained filtered load_of answer_of by_walk by_tasks by_horizon first_out ending_of last_step header_number table_of chain count visited horizon S hyperperiod lcm least any up_from
examples = refl
