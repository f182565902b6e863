-- Slack computed from the definitions: at its limits, and what each number turns down. And why the order of rules and widths is needed: under
-- the other rules, and under rule 1 out of the width order, a table can miss and with a longer job be accepted.
use mathlib.Core.List.{List, [], ◌++◌, map, ◌∷◌}
use mathlib.Core.Logic.{inl, inr, ◌⊎◌}
use mathlib.Core.Path.{refl, ◌≡◌}
use Prim.Native.Nat.{ℕ, suc, zero, ◌-◌}
use native.Mathlib.Omega.{arith}
use lib.ListN.{drop, length, replicate}
use Rattle.model.proofs.Computing.{computing}
use Rattle.model.proofs.Examples.{on, t}
use Rattle.model.proofs.Verdict.{verdict-exact}
use Rattle.model.specs.Lists.{NeverMissed}
use Rattle.model.specs.Sizes.{most_tasks}
use Rattle.model.specs.Task.{AllValid, Rule, Table, greedy, idling, lending}
use Rattle.model.specs.Verdict.{Firm, Full, Miss, Verdict, verdict}
use Rattle.table.proofs.Examples.{chained}
use Rattle.table.specs.Answer.{answer_of, by_horizon, by_tasks, by_walk, ending_of, first_out, header_number, last_step}
use Rattle.table.specs.Words.{chain, count, visited, table_of}
use Rattle.slack.specs.Answer.{SlackAnswer}
use Rattle.slack.specs.Answer.{slack_in, has_slack, slack_of, no_slack}
use Rattle.slack.specs.Answer as answers
use Rattle.slack.specs.GrownWords.{grown_words}
use Rattle.slack.specs.Longer.{TableLengthened, grown}
use Rattle.slack.specs.Ordered.{ordered}
use Rattle.slack.specs.Slack.{misses, slack}
use Rattle.slack.proofs.Grown.{grown-longer, valid-grown}

-- A LONGER JOB CAN SAVE A TABLE

-- B of the scope with length 1 for its first task
abbrev pub B1 : Rule → Table
B1 r = on 2 r (t 0 1 1 3 4 ∷ t 0 2 1 4 4 ∷ t 0 1 2 2 4 ∷ [])

-- the verdicts with no growth of its first task, with one tick more, and with two
abbrev three_of : Rule → List Verdict
three_of r = map (λ g. verdict (grown (B1 r) 0 g)) (0 ∷ 1 ∷ 2 ∷ [])

-- with length 1 it misses, with 2 and 3 it is accepted: under rules 3 and 4, and under rule 1, where its widths are out of order
pub longer-fits :
    (three_of idling ≡ Miss 2 3 ∷ Firm 0 4 ∷ Firm 0 4 ∷ [])
    × (three_of lending ≡ Miss 2 3 ∷ Firm 0 4 ∷ Firm 0 4 ∷ [])
    × (three_of greedy ≡ Miss 2 3 ∷ Full 0 4 ∷ Full 0 4 ∷ [])
unfolding computing
longer-fits = (refl, refl, refl)

valid-B1 : (r : Rule) → AllValid (B1 r)
valid-B1 r zero l = record { odd_pos = omega arith; even-pos = omega arith; length-pos = omega arith; deadline-pos = omega arith; constrained = omega arith }
valid-B1 r (suc zero) l = record { odd_pos = omega arith; even-pos = omega arith; length-pos = omega arith; deadline-pos = omega arith; constrained = omega arith }
valid-B1 r (suc (suc zero)) l = record { odd_pos = omega arith; even-pos = omega arith; length-pos = omega arith; deadline-pos = omega arith; constrained = omega arith }
valid-B1 r (suc (suc (suc p))) l = absurd (omega arith)

-- so `longer-misses` does not hold of a rule, whatever its widths
abbrev LongerMisses : Rule → Type 0
LongerMisses r = (s s' : Table) → AllValid s → s.rule ≡ r → TableLengthened s s' → NeverMissed s' → NeverMissed s

not-under :
    (r : Rule) → verdict (B1 r) ≡ Miss 2 3 → (verdict (grown (B1 r) 0 1) ≡ Firm 0 4) ⊎ (verdict (grown (B1 r) 0 1) ≡ Full 0 4) → ¬ LongerMisses r
not-under r short long law =
    let s : Table = B1 r in
    let s' : Table = grown (B1 r) 0 1 in
    let ok' : AllValid s' = valid-grown (B1 r) (valid-B1 r) 0 1 in
    let nm' : NeverMissed s' = (verdict-exact s' ok').accepted.0 (0, 4, long) in
    let nm : NeverMissed s = law s s' (valid-B1 r) refl (grown-longer s 0 1) nm' in
    let m = ((verdict-exact s (valid-B1 r)).miss 2 3).0 short in
    nm m.place.0 2 m.missed

pub not-under-idling : ¬ LongerMisses idling
unfolding computing
not-under-idling = not-under idling refl (inl refl)

pub not-under-lending : ¬ LongerMisses lending
unfolding computing
not-under-lending = not-under lending refl (inl refl)

pub not-out-of-order : ¬ LongerMisses greedy
unfolding computing
not-out-of-order = not-under greedy refl (inr refl)

-- LINES: the words of a table, and what is answered of them

pub record Line : Type 0 where
  pub words : List ℕ
  pub result : SlackAnswer

-- the value by the definitions of a line's words
abbrev pub worked : Line → Line
worked l = record { words = l.words; result = slack_of l.words }

-- these numbers are given, with zeros past them; the words are turned down by a number, with its position
abbrev given_line : List ℕ → List ℕ → Line
given_line ws xs = record { words = ws; result = answers.given_slack (xs ++ replicate (most_tasks - length xs) 0) }

abbrev refuses : List ℕ → ℕ → ℕ → Line
refuses ws n p = record { words = ws; result = no_slack n p }

-- a header with an empty fence, and a record's seven words, with widths v and w and with both widths v
abbrev header : ℕ → ℕ → ℕ → List ℕ
header h m r = h ∷ m ∷ r ∷ 0 ∷ 0 ∷ []

abbrev entry₂ : ℕ → ℕ → ℕ → ℕ → ℕ → ℕ → ℕ → List ℕ
entry₂ n o v w c d p = n ∷ o ∷ v ∷ c ∷ d ∷ p ∷ w ∷ []

abbrev entry : ℕ → ℕ → ℕ → ℕ → ℕ → ℕ → List ℕ
entry n o v c d p = entry₂ n o v v c d p

-- A, B, C and C2 under a rule; E; F with length c
abbrev ruled_a : ℕ → List ℕ
ruled_a r = header 1 3 r ++ entry 2 0 2 2 5 5 ++ entry 3 0 2 3 5 5 ++ entry 0 0 1 4 5 5

abbrev ruled_b : ℕ → List ℕ
ruled_b r = header 1 2 r ++ entry 2 0 1 3 3 4 ++ entry 3 0 2 1 4 4 ++ entry 0 0 1 2 2 4

abbrev ruled_c : ℕ → List ℕ
ruled_c r = header 1 2 r ++ entry 2 0 1 2 4 4 ++ entry 3 0 2 2 4 4 ++ entry 0 0 1 1 4 4

abbrev ruled_c2 : ℕ → List ℕ
ruled_c2 r = header 1 2 r ++ entry 2 0 1 2 4 4 ++ entry 3 0 1 1 4 4 ++ entry 0 0 2 2 4 4

abbrev words_e : List ℕ
words_e = header 1 1 2 ++ entry 2 1 1 1 1 2 ++ entry 0 0 1 1 2 3

abbrev words_f : ℕ → ℕ → List ℕ
words_f r c = header 1 1 r ++ entry 0 0 1 c 1 2

-- one core, rule 2: the tasks of `reordered` in other places: the chain 2, 3, 1 and a fourth record that is not on it
abbrev reordered : List ℕ
reordered = header 1 1 2 ++ entry 2 0 1 1 6 6 ++ entry 3 0 1 1 2 6 ++ entry 0 0 1 1 6 6

abbrev permuted : List ℕ
permuted = header 2 1 2 ++ entry 0 0 1 1 6 6 ++ entry 3 0 1 1 6 6 ++ entry 1 0 1 1 2 6 ++ entry 9 0 0 0 0 0

-- two cores under a rule: the first task takes one core in its odd jobs and both in its even ones, or so does the second
abbrev alternating : ℕ → List ℕ
alternating r = header 1 2 r ++ entry₂ 2 0 1 2 1 3 3 ++ entry 0 0 1 1 3 3

abbrev alternating-second : ℕ → List ℕ
alternating-second r = header 1 2 r ++ entry 2 0 1 1 3 3 ++ entry₂ 0 0 1 2 1 3 3

-- six tasks that all claim one core in tick 0, and so miss at tick 1, and a seventh; their horizon is 1,000,000,001
abbrev six-at-once : List ℕ
six-at-once = header 1 1 1 ++ chained 7 1 (8 ∷ 27 ∷ 125 ∷ 7 ∷ 11 ∷ 13 ∷ []) ++ entry 0 1001 1 1 1 37

abbrev pub lines : List Line
lines =
    -- one task alone may grow to its deadline: it has no slack, or two of them with D below T
    given_line (header 1 1 2 ++ entry 0 0 1 2 2 2) (0 ∷ []) ∷ given_line (header 1 1 2 ++ entry 0 0 1 1 3 5) (2 ∷ [])
    -- two tasks share two ticks, each alone may have them; one is bounded by the other's deadline
    ∷ given_line (header 1 1 2 ++ entry 2 0 1 1 4 4 ++ entry 0 0 1 1 4 4) (2 ∷ 2 ∷ [])
    ∷ given_line (header 1 1 2 ++ entry 2 0 1 1 4 4 ++ entry 0 0 1 1 3 4) (1 ∷ 1 ∷ [])
    -- the second has no space, and so the first none, but the third; with the records in other places
    ∷ given_line reordered (0 ∷ 0 ∷ 3 ∷ []) ∷ given_line permuted (0 ∷ 0 ∷ 3 ∷ [])
    -- C2, in the width order, under rules 1 and 2; not under 3 and 4, though it is accepted
    ∷ given_line (ruled_c2 1) (0 ∷ 1 ∷ 0 ∷ []) ∷ given_line (ruled_c2 2) (0 ∷ 1 ∷ 0 ∷ []) ∷ refuses (ruled_c2 3) 23 0 ∷ refuses (ruled_c2 4) 23 0
    -- E, whose first job is released late
    ∷ given_line words_e (0 ∷ 0 ∷ [])
    -- two widths: rule 2 needs no order, rule 1 needs the larger of each to be at most the smaller of the next
    ∷ given_line (alternating 2) (1 ∷ 1 ∷ []) ∷ refuses (alternating 1) 23 0 ∷ given_line (alternating-second 1) (1 ∷ 1 ∷ []) ∷ given_line (alternating-second 2) (1 ∷ 1 ∷ [])
    -- on the one core that the fence leaves of two, and on both
    ∷ given_line (1 ∷ 2 ∷ 2 ∷ 2 ∷ 0 ∷ entry 2 0 1 1 2 3 ++ entry 0 0 1 1 3 3) (1 ∷ 1 ∷ [])
    ∷ given_line (header 1 2 2 ++ entry 2 0 1 1 2 3 ++ entry 0 0 1 1 3 3) (1 ∷ 2 ∷ [])
    -- out of the width order under rule 1: A, B and C, which are Full
    ∷ refuses (ruled_a 1) 23 0 ∷ refuses (ruled_b 1) 23 0 ∷ refuses (ruled_c 1) 23 0
    -- a miss under rule 2: A2, B2 and C; and under rule 1 in the width order: F
    ∷ refuses (ruled_a 2) 23 0 ∷ refuses (ruled_b 2) 23 0 ∷ refuses (ruled_c 2) 23 0 ∷ refuses (words_f 1 2) 23 0 ∷ given_line (words_f 1 1) (0 ∷ [])
    -- rules 3 and 4: A and B, which are Firm
    ∷ refuses (ruled_a 3) 23 0 ∷ refuses (ruled_a 4) 23 0 ∷ refuses (ruled_b 3) 23 0 ∷ refuses (ruled_b 4) 23 0
    -- 32 places, which have 32 numbers
    ∷ given_line (header 1 32 1 ++ chained 0 1 (replicate 32 1)) (replicate 32 0)
    -- C of 1,000,000 and one more: 23 and 8
    ∷ refuses (words_f 2 1000000) 23 0 ∷ refuses (words_f 2 1000001) 8 1
    -- 1, 2 before 23, 4, 7 with its position, and 9 before 23
    ∷ refuses (drop 1 (header 1 1 1)) 1 0 ∷ refuses (header 1 0 3 ++ entry 0 0 1 1 2 2) 2 0 ∷ refuses (header 0 1 3 ++ entry 0 0 1 1 2 2) 4 0
    ∷ refuses (header 1 1 3 ++ entry 2 0 1 1 2 2 ++ entry 0 0 2 1 1 1) 7 2 ∷ refuses six-at-once 9 0
    ∷ []

-- every line is its value by the definitions
pub examples : map worked lines ≡ lines
unfolding slack_of slack_in has_slack ordered slack misses chained answer_of by_walk by_tasks by_horizon first_out ending_of last_step header_number table_of chain count
    visited computing
examples = refl

-- the words with the third task of `permuted`, its first record, longer by 3
pub grown-words : grown_words permuted 2 3 ≡ header 2 1 2 ++ entry 0 0 1 4 6 6 ++ entry 3 0 1 1 6 6 ++ entry 1 0 1 1 2 6 ++ entry 9 0 0 0 0 0
unfolding grown_words visited computing
grown-words = refl
