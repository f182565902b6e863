-- Orders computed from the definitions: one of the five, the first that is Firm, repair, none, fewer judgings, and a refusal.
use mathlib.Core.List.{List, [], ◌++◌, ◌∷◌, map}
use mathlib.Core.Path.{refl, ◌≡◌}
use Prim.Native.Nat.{ℕ, ◌-◌}
use lib.ListN.{length, replicate}
use Rattle.model.proofs.Computing.{computing}
use Rattle.model.specs.Sizes.{most_tasks}
use Rattle.table.specs.Answer.{answer_of, by_horizon, by_tasks, by_walk, ending_of, first_out, header_number, last_step}
use Rattle.table.specs.Words.{chain, count, visited, table_of}
use Rattle.judge.specs.Judged.{verdict_of}
use Rattle.conflict.specs.Relinked.{linked}
use Rattle.sentence.specs.Facts.{named_from}
use Rattle.sentence.specs.Waiting.{ran_while_waiting, tally}
use Rattle.priority_order.specs.Answer.{Outcome}
use Rattle.priority_order.specs.Answer.{Firm, Full, None, Refused}
use Rattle.priority_order.specs.Answer.{OrderAnswer}
use Rattle.priority_order.specs.Answer.{no_order, order_answer_of, positions_of}
use Rattle.priority_order.specs.Orders.{moved, own_order, reordered, source_of}
use Rattle.priority_order.specs.Repair.{most_from, next_order, repairs, same}
use Rattle.priority_order.specs.Sorted.{keys_of, sorted_order, sorted_to}
use Rattle.priority_order.specs.Tried.{first_that, latest_from, tried_orders}

-- LINES: the words of a table, the most judgings, and the answer

pub record Line : Type 0 where
  pub words : List ℕ
  pub judgings : ℕ
  pub result : OrderAnswer

-- the value by the definitions
abbrev pub worked : Line → Line
worked l = record { words = l.words; judgings = l.judgings; result = order_answer_of l.words l.judgings }

-- these positions are given; none is
abbrev gives : List ℕ → ℕ → Outcome → List ℕ → Line
gives ws m x ps = record { words = ws; judgings = m; result = record { outcome = x; order = ps ++ replicate (most_tasks - length ps) 0 } }

abbrev without : List ℕ → ℕ → Outcome → Line
without ws m x = record { words = ws; judgings = m; result = no_order x }

-- three tasks in chain order on m cores under a rule; a task is O, v, C, D, T
abbrev three : ℕ → ℕ → List ℕ → List ℕ → List ℕ → List ℕ
three m r a b c = 1 ∷ m ∷ r ∷ 0 ∷ 0 ∷ (2 ∷ a) ++ (3 ∷ b) ++ (0 ∷ c)

abbrev task : ℕ → ℕ → ℕ → ℕ → ℕ → List ℕ
task o v c d t = o ∷ v ∷ c ∷ d ∷ t ∷ v ∷ []

-- the tables A and B of the scope; one that misses in every order
abbrev A : ℕ → List ℕ
A r = three 3 r (task 0 2 2 5 5) (task 0 2 3 5 5) (task 0 1 4 5 5)

abbrev B : List ℕ
B = three 2 1 (task 0 1 3 3 4) (task 0 2 1 4 4) (task 0 1 2 2 4)

abbrev alone : List ℕ
alone = 1 ∷ 1 ∷ 1 ∷ 0 ∷ 0 ∷ 0 ∷ task 0 1 2 1 2

-- three tasks of which the five orders miss, and a repair of one step fits; three of which none does
abbrev repaired : List ℕ
repaired = three 1 2 (task 0 1 1 2 3) (task 1 1 1 2 3) (task 0 1 1 2 3)

abbrev full : List ℕ
full = three 3 1 (task 0 3 1 2 3) (task 1 2 1 2 3) (task 0 2 1 2 3)

abbrev overloaded : List ℕ
overloaded = three 1 2 (task 0 1 1 1 2) (task 1 1 1 2 2) (task 0 1 1 1 2)

abbrev pub lines : List Line
lines =
    -- the third of the five is Firm, though A's own order is accepted; of one judging it is the answer
    gives (A 1) 200 (Firm 0 5) (3 ∷ 2 ∷ 1 ∷ [])
    ∷ gives (A 1) 1 (Full 0 5) (1 ∷ 2 ∷ 3 ∷ [])
    -- by deadline
    ∷ gives B 200 (Firm 0 4) (3 ∷ 1 ∷ 2 ∷ [])
    ∷ gives (A 2) 200 (Firm 0 5) (3 ∷ 2 ∷ 1 ∷ [])
    -- by repair, with the sixth judging, and not with five
    ∷ gives repaired 200 (Firm 1 3) (3 ∷ 1 ∷ 2 ∷ [])
    ∷ gives repaired 6 (Firm 1 3) (3 ∷ 1 ∷ 2 ∷ [])
    ∷ without repaired 5 (None 5)
    ∷ gives full 200 (Full 1 3) (3 ∷ 1 ∷ 2 ∷ [])
    -- none: nobody ran, an order came again, no judging
    ∷ without alone 200 (None 5)
    ∷ without overloaded 200 (None 8)
    ∷ without (A 1) 0 (None 0)
    -- refused
    ∷ without (three 0 1 (task 0 1 1 1 1) (task 0 1 1 1 1) (task 0 1 1 1 1)) 200 (Refused 2 0)
    ∷ []

pub computed : map worked lines ≡ lines
unfolding order_answer_of positions_of tried_orders first_that latest_from repairs next_order same most_from keys_of sorted_order sorted_to moved own_order reordered source_of
    linked verdict_of answer_of by_horizon by_tasks by_walk ending_of first_out header_number last_step chain count visited table_of named_from ran_while_waiting tally computing
computed = refl
