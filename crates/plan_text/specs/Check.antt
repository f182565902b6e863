-- The state of a check between two parts of its input, and its answer to the bytes to come.
use Rattle.std.specs.Prelude.{Bool, false, true, Option, MatchOption, ⊤, List, [], ◌++◌, ◌≡◌, ◌-◌, ◌<◌, ℕ, ◌≤◌, drop, length}
use Rattle.plan_check.specs.Begin.{empty_state}
use Rattle.plan_check.specs.Extent.{Ready}
use Rattle.plan_check.specs.declared.extent.Extent.{Extent}
use Rattle.plan_check.specs.declared.SuppliedPlan.{SuppliedPlan}
use Rattle.splitter.specs.Split.{InputEnd, lines_from, nothing, split, too_many, unknown}
use Rattle.splitter.specs.Parts.{Comes}
use Rattle.plan_text.specs.declared.Check as code_type
use Rattle.plan_text.specs.declared.Check.TheVariants as code
use Rattle.plan_text.specs.declared.Fed as code_fed
use Rattle.plan_text.specs.declared.PlanProgress.{PlanProgress}
use Rattle.plan_text.specs.Checked.{PlanAnswer, More, answered, rows_at, checked_of, answer_so_far, rows_answer, split_answer}

-- what the next bytes are read as: the table, the plan, or nothing any more
pub data Stage : Type 0 where
  Table Plan Over : Stage

-- the state of a check: the plan, and the answer where it is over
pub record Check : Type 0 where
  pub stage : Stage
  pub rows : PlanProgress
  pub answer : PlanAnswer

-- how many bytes were taken, and the check after them
pub record Fed : Type 0 where
  pub check : Check
  pub taken : ℕ

-- as code has them: beside the table and the answer there is no plan, and here one of all zeros
abbrev pub check_in : code_type.Check → Check
check_in code.Table = record { stage = Table; rows = rows_at empty_state 0 false; answer = More }
check_in (code.Plan r) = record { stage = Plan; rows = r; answer = More }
check_in (code.Over a) = record { stage = Over; rows = rows_at empty_state 0 false; answer = answered a }

abbrev pub fed_in : code_fed.Fed → Fed
fed_in f = record { check = check_in f.check; taken = f.taken }

-- this is the extent of the plan, where it is known
abbrev pub ExtentKnown : Option Extent → SuppliedPlan → Type 0
ExtentKnown e w = MatchOption e ⊤ (λ a. Ready w.run a.start a.horizon)

-- the answer to the bytes of a plan
abbrev pub plan_answer : PlanProgress → InputEnd → List ℕ → PlanAnswer
plan_answer r e bs = rows_answer e r (lines_from e [] bs)

-- the answer of a check in a stage to the bytes bs, by what comes after them
abbrev pub answer_in : Stage → Check → InputEnd → List ℕ → PlanAnswer
answer_in Table c e bs = split_answer e (split e bs)
answer_in Plan c e bs = plan_answer c.rows e bs
answer_in Over c e bs = c.answer

abbrev pub check_answer : Check → InputEnd → List ℕ → PlanAnswer
check_answer c e bs = answer_in c.stage c e bs

-- the answer is known. As in session/specs/Session: `is_over`, `FedBy`, `FedOf` and `NewOf`, there of a session
abbrev pub is_over : Stage → Bool
is_over Table = false
is_over Plan = false
is_over Over = true

-- where f is the answer to all bytes from a place on: a number of bytes is taken, and the returned check gives the rest of the answer to what is left,
-- with any bytes after it. Where it is not over no answer was due, what is left is short, and the input has not ended
pub record FedBy (f : InputEnd → List ℕ → PlanAnswer) (from : ℕ) (ended : Bool) (bytes : List ℕ) (r : Fed) : Type 0 where
  pub taken : r.taken ≤ length bytes
  pub text : (more : List ℕ) → Comes ended nothing more → f nothing (drop from bytes ++ more) ≡ check_answer r.check nothing (drop r.taken bytes ++ more)
  pub at_once : is_over r.check.stage ≡ false → (more : List ℕ) → f unknown (drop from bytes ++ more) ≡ check_answer r.check unknown (drop r.taken bytes ++ more)
  pub silent : is_over r.check.stage ≡ false → check_answer r.check unknown (drop r.taken bytes) ≡ More
  pub short : is_over r.check.stage ≡ false → length bytes - r.taken < too_many
  pub goes_on : is_over r.check.stage ≡ false → ended ≡ false

-- a check with its answer, and one that needs more lines of the plan, after a number of bytes taken
abbrev pub over_with : PlanProgress → PlanAnswer → ℕ → Fed
over_with rows said taken = record { check = record { stage = Over; rows = rows; answer = said }; taken = taken }

abbrev pub plan_with : PlanProgress → ℕ → Fed
plan_with rows taken = record { check = record { stage = Plan; rows = rows; answer = More }; taken = taken }

-- the contract of `feed` of a check
abbrev pub FedOf : Check → Bool → List ℕ → Fed → Type 0
FedOf c ended bytes r = FedBy (check_answer c) 0 ended bytes r

-- a check whose answer is what the program prints, and whose due answer is what the program must have printed
abbrev pub NewOf : Check → Type 0
NewOf c = (bs : List ℕ) → (check_answer c nothing bs ≡ checked_of bs) × (check_answer c unknown bs ≡ answer_so_far bs)

-- from check c, where `left` is left of the input so far, the bytes bs are fed, in parts of any size, each after what the one before left;
-- then the check is c' and `left'` is left. A check that is over is fed nothing
pub data Feeds : Check → List ℕ → List ℕ → List ℕ → Check → Type 0 where
  none : {c : Check} {left : List ℕ} → Feeds c left [] left c
  more :
      {c c' : Check} (left chunk : List ℕ) {bs left' : List ℕ} (r : Fed) → is_over c.stage ≡ false → FedOf c false (left ++ chunk) r
      → Feeds r.check (drop r.taken (left ++ chunk)) bs left' c' → Feeds c left (chunk ++ bs) left' c'
