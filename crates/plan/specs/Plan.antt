-- The plan's answer, and the contract of it and of the buffer (scope, 'The plan').
use Rattle.std.specs.Prelude.{Result, Ok, Err, ◌≡◌, ◌||◌, cond, List, ◌++◌, ◌↔◌, ℕ, ◌+◌, ◌-◌, ◌*◌, ◌≤◌, ◌<◌, length, get_or, drop, replicate, ltb}
use Rattle.model.specs.Search.{any}
use Rattle.model.specs.Task.{Table}
use Rattle.model.specs.Claims.{book_row}
use Rattle.model.specs.Lists.{book, no_reports}
use Rattle.model.specs.Refusals as model
use Rattle.model.specs.Horizon.{horizon}
use Rattle.model.specs.Verdict.{missed_in}
use Rattle.table.specs.Answer.{Answer}
use Rattle.table.specs.Answer as table
use Rattle.table.specs.Words.{table_of}
use Rattle.table.specs.Answer.{answer_of}
use Rattle.model.specs.declared.refusal.Refusal.{Refusal}
use Rattle.model.specs.Refusal.{number_of, position_of}
use Rattle.plan.specs.Rows.{rows_of}
use Rattle.plan.specs.Numbers.{First, NoneApplies}

-- the plan's answer: the rows are written, or refused with number and position
pub data Planned : Type 0 where
  Written : Planned
  Refused : ℕ → ℕ → Planned

-- as code returns it
abbrev pub planned : {T : Type 0} → Result T Refusal → Planned
planned (Ok x) = Written
planned (Err e) = Refused (number_of e) (position_of e)

-- for a table that passes: 10, 11 and 12 in this order, by their tests, each with position 0; else written
unfoldable pub by_plan : Table → ℕ → ℕ → ℕ → Planned
by_plan s a b bytes =
    cond (ltb b a || ltb (horizon s) b) (Refused 10 0)
    (cond (ltb bytes ((b - a) * s.cores)) (Refused 11 0)
    (cond (any b (missed_in s)) (Refused 12 0) Written))

-- by the table's answer: a refusal with its number and position, else the answer v by the plan's own numbers
abbrev pub planned_by : Answer → Planned → Planned
planned_by table.Passed v = v
planned_by (table.Refused n p) v = Refused n p

-- the plan's answer to the words, a, b and a buffer of this number of bytes
unfoldable pub planned_of : List ℕ → ℕ → ℕ → ℕ → Planned
planned_of ws a b bytes = planned_by (answer_of ws) (by_plan (table_of ws) a b bytes)

-- the rows over the first bytes of the buffer, and after the last row the bytes as found
abbrev pub with_rows : Table → ℕ → ℕ → List ℕ → List ℕ
with_rows s a b old = rows_of s a b ++ drop ((b - a) * s.cores) old

-- the meaning of each case: taken where the rows are written, or refused with number and position
abbrev pub plan_meaning : Planned → model.Answer
plan_meaning Written = model.taken
plan_meaning (Refused n p) = model.refused n p

-- the buffer afterwards: the rows where the plan is taken, and as found in a refusal
abbrev pub buffer_of : model.Answer → Table → ℕ → ℕ → List ℕ → List ℕ
buffer_of model.taken s a b old = with_rows s a b old
buffer_of (model.refused n p) s a b old = old

-- the contract of the answer v to the words, a and b with a buffer that was `old` and is `new`
pub record PlanOf (ws : List ℕ) (a b : ℕ) (old new : List ℕ) (v : Planned) : Type 0 where
  -- its value
  pub value : v ≡ planned_of ws a b (length old)
  -- refused with n and p exactly if n is the first number that applies, at p; taken, with the rows written, exactly if none applies
  pub refused : (n p : ℕ) → (plan_meaning v ≡ model.refused n p) ↔ First ws a b (length old) n p
  pub written : (plan_meaning v ≡ model.taken) ↔ NoneApplies ws a b (length old)
  -- the buffer afterwards
  pub buffer : new ≡ buffer_of (plan_meaning v) (table_of ws) a b old
  -- byte by byte: the byte of core c in row t is that of the row of the book of t advances with empty sets ..
  pub byte :
      plan_meaning v ≡ model.taken → (t c : ℕ) → a ≤ t → t < b → c < (table_of ws).cores
      → get_or new ((t - a) * (table_of ws).cores + c) 0 ≡ get_or (book_row (table_of ws) (book (table_of ws) (replicate t no_reports))) c 0
  -- .. and nothing after the last row is changed
  pub past : plan_meaning v ≡ model.taken → (i : ℕ) → (b - a) * (table_of ws).cores ≤ i → get_or new i 0 ≡ get_or old i 0
  pub size : length new ≡ length old
  -- a refusal leaves the buffer as found
  pub found : (n p : ℕ) → plan_meaning v ≡ model.refused n p → new ≡ old
