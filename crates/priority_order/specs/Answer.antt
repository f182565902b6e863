-- The answer of `order`, and its contract (issue 45).
use Rattle.std.specs.Option.{MatchOption}
use Rattle.std.specs.Prelude.{Option, Result, Ok, Err, false}
use Rattle.std.specs.Prelude as option
use Rattle.std.specs.Prelude.{List, [], ◌++◌, map, ◌↔◌, ◌⊎◌, ◌≡◌, ℕ, suc, ◌+◌, ◌-◌, ◌<◌, get_or, length, replicate, take}
use Rattle.model.specs.Lists.{NeverMissed}
use Rattle.model.specs.Sizes.{most_tasks}
use Rattle.model.specs.Task.{Table, task}
use Rattle.model.specs.Verdict.{FirstMiss}
use Rattle.table.specs.Answer.{Answer}
use Rattle.table.specs.Answer as table
use Rattle.table.specs.Answer.{answer_of}
use Rattle.table.specs.Numbers.{First, NoneApplies}
use Rattle.table.specs.Words.{count, table_of}
use Rattle.judge.specs.declared.Verdict.{Verdict}
use Rattle.judge.specs.declared.Verdict.TheVariants as judge
use Rattle.judge.specs.Judged.{Judged}
use Rattle.model.specs.Refusal.{number_of, position_of}
use Rattle.priority_order.specs.declared.Fit.{Fit}
use Rattle.priority_order.specs.declared.Fit.TheVariants as fit
use Rattle.priority_order.specs.declared.Assignment.{Assignment}
use Rattle.priority_order.specs.declared.NoOrder.{NoOrder}
use Rattle.priority_order.specs.declared.NoOrder.TheVariants as none
use Rattle.priority_order.specs.Orders.{Permutation, reordered}
use Rattle.priority_order.specs.Repair.{Choice, just, nothing, verdict_in}
use Rattle.priority_order.specs.Tried.{chosen_of, is_accepted, tried_orders}

-- 32 numbers: the positions of the given table in an order of n tasks, highest priority first, then zeros
unfoldable pub positions_of : ℕ → List ℕ → List ℕ
positions_of n o = map suc (take n o) ++ replicate (most_tasks - n) 0

-- Firm or Full with S and P in the order given; none of this number of orders fits; or Refused with number and position
pub data Outcome : Type 0 where
  Firm : ℕ → ℕ → Outcome
  Full : ℕ → ℕ → Outcome
  None : ℕ → Outcome
  Refused : ℕ → ℕ → Outcome

-- the outcome, and beside it the order: positions of the given table, highest priority first, and zeros past the count; all zero where no order is given
pub record OrderAnswer : Type 0 where
  pub outcome : Outcome
  pub order : List ℕ

-- no order is given
abbrev pub no_order : Outcome → OrderAnswer
no_order x = record { outcome = x; order = replicate most_tasks 0 }

-- an order is given with the verdict on it, which is Firm or Full
abbrev pub given_order : Verdict → List ℕ → OrderAnswer
given_order (judge.Firm a b) ps = record { outcome = Firm a b; order = ps }
given_order (judge.Full a b) ps = record { outcome = Full a b; order = ps }
given_order (judge.Miss t p) ps = no_order (None 0)
given_order (judge.Refused n p) ps = no_order (None 0)

-- .. as code returns it
abbrev pub outcome_of : Fit → Outcome
outcome_of (fit.Firm a b) = Firm a b
outcome_of (fit.Full a b) = Full a b

abbrev pub answered : Result Assignment NoOrder → OrderAnswer
answered (Ok x) = record { outcome = outcome_of x.fit; order = x.order }
answered (Err (none.Tried n)) = no_order (None n)
answered (Err (none.Refused e)) = no_order (Refused (number_of e) (position_of e))

-- the verdict on an order that fits
abbrev pub verdict_by : Fit → Verdict
verdict_by (fit.Firm a b) = judge.Firm a b
verdict_by (fit.Full a b) = judge.Full a b

-- the assignment by a verdict and positions; none where the verdict is neither Firm nor Full
abbrev pub AssignedBy : Verdict → List ℕ → Option Assignment → Type 0
AssignedBy v ps r = MatchOption r (is_accepted v ≡ false) (λ x. (verdict_by x.fit ≡ v) × (x.order ≡ ps))

-- an assignment that is Firm
abbrev pub firm_by : Fit → Assignment → Option Assignment
firm_by (fit.Firm a b) x = option.Some x
firm_by (fit.Full a b) x = option.None

abbrev pub firm_in : Option Assignment → Option Assignment
firm_in option.None = option.None
firm_in (option.Some x) = firm_by x.fit x

-- the chosen order; or none of the orders tried, with their number
abbrev pub answer_by : List ℕ → ℕ → Choice → OrderAnswer
answer_by ws tried nothing = no_order (None tried)
answer_by ws tried (just o) = given_order (verdict_in ws o) (positions_of (count ws) o)

-- of these orders, tried after a number of others that do not fit
abbrev pub answer_in : List ℕ → ℕ → List (List ℕ) → OrderAnswer
answer_in ws tried os = answer_by ws (tried + length os) (chosen_of ws os)

-- by the table's answer
abbrev pub order_by : Answer → OrderAnswer → OrderAnswer
order_by table.Passed r = r
order_by (table.Refused n p) r = no_order (Refused n p)

-- the answer to the words, of m judgings at most
unfoldable pub order_answer_of : List ℕ → ℕ → OrderAnswer
order_answer_of ws m = order_by (answer_of ws) (answer_in ws 0 (tried_orders ws m))

-- order o is one of those tried
abbrev pub Tried : List ℕ → ℕ → List ℕ → Type 0
Tried ws m o = (i : ℕ) × (i < length (tried_orders ws m)) × (get_or (tried_orders ws m) i [] ≡ o)

-- the table in an order: the same cores, fence and rule, and at place i the task of the place that the order has there
pub record InOrder (s : Table) (o : List ℕ) (r : Table) : Type 0 where
  pub cores : r.cores ≡ s.cores
  pub fence : r.fence ≡ s.fence
  pub rule : r.rule ≡ s.rule
  pub size : length r.tasks ≡ length s.tasks
  pub tasks : (i : ℕ) → i < length s.tasks → task r i ≡ task s (get_or o i 0)

-- an order that fits, and the verdict v on the table in it: a permutation of the chain that was tried, whose words pass all numbers and miss no deadline at
-- any tick; these words are what the verdict judges
pub record Fits (ws : List ℕ) (m : ℕ) (o : List ℕ) (v : Verdict) : Type 0 where
  pub tried : Tried ws m o
  pub permutation : Permutation (count ws) o
  pub in_order : InOrder (table_of ws) o (table_of (reordered ws o))
  pub passes : NoneApplies (reordered ws o)
  pub judged : Judged (reordered ws o) v
  pub never : NeverMissed (table_of (reordered ws o))

-- an order that does not fit: the table in it misses a deadline, or is refused by 9, since S depends on the order
abbrev pub DoesNotFit : List ℕ → List ℕ → Type 0
DoesNotFit ws o = ((t p : ℕ) × FirstMiss (table_of (reordered ws o)) t p) ⊎ First (reordered ws o) 9 0

-- the contract of the answer r to the words, of m judgings at most
pub record OrderOf (ws : List ℕ) (m : ℕ) (r : OrderAnswer) : Type 0 where
  -- its value: of the orders tried the first that is Firm, else the first that is accepted
  pub value : r ≡ order_answer_of ws m
  -- refused with n and p exactly if n is the first number that applies to the words, at p
  pub refused : (n p : ℕ) → (r.outcome ≡ Refused n p) ↔ First ws n p
  -- Firm or Full: the verdict on the table in the order given
  pub firm : (a b : ℕ) → r.outcome ≡ Firm a b → (o : List ℕ) × (r.order ≡ positions_of (count ws) o) × Fits ws m o (judge.Firm a b)
  pub full : (a b : ℕ) → r.outcome ≡ Full a b → (o : List ℕ) × (r.order ≡ positions_of (count ws) o) × Fits ws m o (judge.Full a b)
  -- none of the n orders tried fits
  pub none : (n : ℕ) → r.outcome ≡ None n → (n ≡ length (tried_orders ws m)) × ((o : List ℕ) → Tried ws m o → DoesNotFit ws o)
