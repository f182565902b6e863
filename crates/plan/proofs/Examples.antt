-- Plans computed from the definitions, of example A, which fits, of example F, which misses at tick 1, and of tasks with two widths: each limit of
-- 10, 11 and 12 from both sides, and which comes first where two apply.
use mathlib.Core.Path.{◌≡◌, refl}
use mathlib.Core.List.{List, [], ◌++◌, ◌∷◌, map}
use Prim.Native.Nat.{ℕ}
use Prim.Native.String.{String}
use lib.ListN.{drop, length, replicate}
use Rattle.model.proofs.Computing.{computing}
use Rattle.table.specs.Words.{visited, count, chain, table_of}
use Rattle.table.specs.Answer.{header_number, last_step, ending_of, first_out, by_horizon, by_tasks, by_walk, answer_of}
use Rattle.table.proofs.Examples.{words_a}
use Rattle.plan.specs.Plan.{Planned}
use Rattle.plan.specs.Plan.{Written, Refused}
use Rattle.plan.specs.Rows.{full_rows_from}
use Rattle.plan.specs.Plan.{by_plan, planned_of, plan_meaning, buffer_of}

-- a line: its name, the words of a table, a, b and a lent buffer; the answer, and the buffer afterwards
pub record Line : Type 0 where
  pub name : String
  pub words : List ℕ
  pub a : ℕ
  pub b : ℕ
  pub lent : List ℕ
  pub result : Planned
  pub leaves : List ℕ

-- the value by the definitions of a line's words, a, b and buffer
abbrev pub worked : Line → Line
worked l =
    let v = planned_of l.words l.a l.b (length l.lent) in
    record {
      name = l.name;
      words = l.words;
      a = l.a;
      b = l.b;
      lent = l.lent;
      result = v;
      leaves = buffer_of (plan_meaning v) (table_of l.words) l.a l.b l.lent;
    }

-- a number of bytes, none of which is a position
abbrev lent : ℕ → List ℕ
lent n = replicate n 9

-- a buffer of n bytes: what is written over it, and that it is refused by number n and left as found
abbrev writes : String → List ℕ → ℕ → ℕ → ℕ → List ℕ → Line
writes s ws a b n new = record { name = s; words = ws; a = a; b = b; lent = lent n; result = Written; leaves = new }

abbrev refuses : String → List ℕ → ℕ → ℕ → ℕ → ℕ → Line
refuses s ws a b n number = record { name = s; words = ws; a = a; b = b; lent = lent n; result = Refused number 0; leaves = lent n }

-- A under a rule
abbrev ruled_a : ℕ → List ℕ
ruled_a r = 3 ∷ 3 ∷ r ∷ drop 3 words_a

-- F: one core, horizon 2, position 1 misses at tick 1
abbrev words_f : List ℕ
words_f = 1 ∷ 1 ∷ 1 ∷ 0 ∷ 0 ∷ 0 ∷ 0 ∷ 1 ∷ 2 ∷ 1 ∷ 2 ∷ 1 ∷ []

-- the tasks of A on five cores, of which 0 and 3 are fenced, and of F on 34 cores, of which all but the last are
abbrev fenced_a : List ℕ
fenced_a = 3 ∷ 5 ∷ 1 ∷ 9 ∷ 0 ∷ drop 5 words_a

abbrev fenced_f : List ℕ
fenced_f = 1 ∷ 34 ∷ 1 ∷ 4294967295 ∷ 1 ∷ drop 5 words_f

-- two cores, horizon 2: one task of widths 1 and 2, released in every tick; and below one of width 1, where position 2 misses at tick 2
abbrev pairs : List ℕ
pairs = 1 ∷ 2 ∷ 1 ∷ 0 ∷ 0 ∷ 0 ∷ 0 ∷ 1 ∷ 1 ∷ 1 ∷ 1 ∷ 2 ∷ []

abbrev behind : List ℕ
behind = 1 ∷ 2 ∷ 1 ∷ 0 ∷ 0 ∷ 2 ∷ 0 ∷ 1 ∷ 1 ∷ 1 ∷ 1 ∷ 1 ∷ 0 ∷ 0 ∷ 1 ∷ 1 ∷ 1 ∷ 1 ∷ 2 ∷ []

abbrev pub lines : List Line
lines =
    writes "A, horizon 5: no rows, into no buffer" words_a 0 0 0 []
    ∷ writes "A: no rows, into a buffer that stays as it is" words_a 3 3 2 (lent 2)
    ∷ writes "A: no rows at the horizon" words_a 5 5 0 []
    ∷ refuses "A: no rows above the horizon" words_a 6 6 0 10
    ∷ writes "b = horizon" words_a 4 5 3 (2 ∷ 2 ∷ 0 ∷ [])
    ∷ refuses "b one above the horizon" words_a 4 6 9 10
    ∷ refuses "a above b" words_a 3 2 9 10
    ∷ writes "the exact buffer" words_a 1 3 6 (1 ∷ 1 ∷ 3 ∷ 2 ∷ 2 ∷ 3 ∷ [])
    ∷ refuses "one byte less" words_a 1 3 5 11
    ∷ writes "one byte more, which is not touched" words_a 1 3 7 (1 ∷ 1 ∷ 3 ∷ 2 ∷ 2 ∷ 3 ∷ 9 ∷ [])
    ∷ writes "A under rule 3" (ruled_a 3) 1 5 12 (1 ∷ 1 ∷ 3 ∷ 2 ∷ 2 ∷ 3 ∷ 2 ∷ 2 ∷ 3 ∷ 2 ∷ 2 ∷ 0 ∷ [])
    ∷ writes "A under rule 4: the rows of rule 3" (ruled_a 4) 1 5 12 (1 ∷ 1 ∷ 3 ∷ 2 ∷ 2 ∷ 3 ∷ 2 ∷ 2 ∷ 3 ∷ 2 ∷ 2 ∷ 0 ∷ [])
    ∷ writes "F: b = the tick of the first miss" words_f 0 1 1 (1 ∷ [])
    ∷ refuses "F: b one above it" words_f 0 2 2 12
    ∷ refuses "F: no rows above it" words_f 2 2 0 12
    ∷ refuses "10 before 11" words_a 0 6 0 10
    ∷ refuses "11 before 12" words_f 0 2 1 11
    ∷ refuses "10 before 12, by b above the horizon" words_f 0 3 3 10
    ∷ refuses "10 before 12, by a above b" words_f 3 2 0 10
    ∷ refuses "2 before 10" (1 ∷ 0 ∷ 1 ∷ 0 ∷ 0 ∷ []) 3 2 0 2
    ∷ writes "255 on a fenced core, in an idle row too" fenced_a 4 5 5 (255 ∷ 2 ∷ 2 ∷ 255 ∷ 0 ∷ [])
    ∷ writes "two rows with fenced cores" fenced_a 2 4 10 (255 ∷ 2 ∷ 2 ∷ 255 ∷ 3 ∷ 255 ∷ 2 ∷ 2 ∷ 255 ∷ 3 ∷ [])
    ∷ refuses "one byte less than two rows of all cores" fenced_a 2 4 9 11
    ∷ refuses "b one above the horizon, with a fence" fenced_a 4 6 10 10
    ∷ writes "core 32 is fenced by the second word, and core 33 works" fenced_f 0 1 35 (replicate 33 255 ++ 1 ∷ 9 ∷ [])
    ∷ refuses "12 on that table" fenced_f 0 2 68 12
    ∷ writes "the same task claims in both ticks, with the other width" pairs 0 2 4 (1 ∷ 0 ∷ 1 ∷ 1 ∷ [])
    ∷ writes "the second row alone" pairs 1 2 2 (1 ∷ 1 ∷ [])
    ∷ refuses "b one above a horizon with 2T" pairs 0 3 6 10
    ∷ writes "the second width does not fit: b = the tick of that miss" behind 0 2 4 (1 ∷ 2 ∷ 1 ∷ 0 ∷ [])
    ∷ []

-- every line is its value by the definitions: one table with one check
pub examples : map worked lines ≡ lines
unfolding planned_of by_plan full_rows_from answer_of by_walk by_tasks by_horizon first_out ending_of last_step header_number table_of chain count visited computing
examples = refl
