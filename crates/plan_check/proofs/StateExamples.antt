-- Single rows on states built by hand, and beginnings, computed from the definitions: each number from both sides, which comes first where two apply,
-- what is recorded and when, and what stays.
use mathlib.Core.Bool.{Bool, false, true}
use mathlib.Core.List.{List, [], map, ◌++◌, ◌∷◌}
use mathlib.Core.Path.{refl, ◌≡◌}
use Prim.Native.Nat.{◌-◌, ℕ}
use Prim.Native.String.{String}
use lib.ListN.{drop, length, replicate, take}
use Rattle.model.proofs.Computing.{computing}
use Rattle.model.specs.Refusals as book
use Rattle.model.specs.Sizes.{most_tasks}
use Rattle.table.specs.Answer.{answer_of, by_horizon, by_tasks, by_walk, ending_of, first_out, header_number, last_step}
use Rattle.table.specs.Load.{load_meaning}
use Rattle.table.specs.Words.{chain, count, visited, table_of}
use Rattle.phase.specs.declared.Phase.{Phase}
use Rattle.phase.specs.declared.Phase.TheVariants.{Coming, Holding, Resting, Working}
use Rattle.phase.specs.declared.Task.{Task}
use Rattle.phase.specs.Task.{unused}
use Rattle.run.specs.declared.Run.{Run}
use Rattle.run.specs.Numbers.{past_count, run_out}
use Rattle.run.specs.Run.{map_first}
use Rattle.run.specs.Start.{started_run}
use Rattle.plan_check.specs.declared.Note.{Note}
use Rattle.plan_check.specs.declared.SuppliedPlan.{SuppliedPlan}
use Rattle.plan_check.specs.Extent.{Extent, extent_of, first_number}
use Rattle.plan_check.specs.Begin.{begin_of}
use Rattle.plan_check.specs.Numbers.{differs, missed, state_out}
use Rattle.plan_check.specs.Plan.{cell_count}
use Rattle.plan_check.specs.Row.{faulty, any_unknown_byte, worked_row}
use Rattle.plan_check.specs.RowAnswer.{RowAnswer, accepted, refused, taken, row_answer_meaning}
use Rattle.plan_check.specs.State.{blank, note}
use Rattle.plan_check.specs.CheckRow.{answer_at, final_answer, check_row_answer, check_row_of}

-- STATES

-- a task in its state: O, v, C, D, T, w, whether its job is an even one, and its phase
abbrev at₂ : ℕ → ℕ → ℕ → ℕ → ℕ → ℕ → Bool → Phase → Task
at₂ o v c d p w e ph = record { parameters = record { offset = o; width = v; length = c; deadline = d; period = p; second = w }; even = e; phase = ph }

-- .. one of one core, at an odd job
abbrev at : ℕ → ℕ → ℕ → ℕ → Phase → Task
at o c d p ph = at₂ o 1 c d p 1 false ph

-- 32 places
abbrev places : List Task → List Task
places ts = ts ++ replicate (most_tasks - length ts) unused

abbrev notes : List Phase → List Note
notes phs = map note phs ++ drop (length phs) blank

-- a number of cores under a rule, with nothing fenced or withdrawn
abbrev on : ℕ → ℕ → List Task → Run
on rule m ts = record { rule = rule; cores = m; fence = 0; withdrawn = 0; count = length ts; tasks = places ts }

abbrev state : Run → ℕ → List Phase → SuppliedPlan
state r t phs = record { run = r; tick = t; noted = notes phs }

-- what a state shows below its count: the tick, the phases, whether each job is an even one, and what is recorded
pub record Shows : Type 0 where
  pub tick : ℕ
  pub phases : List Phase
  pub evens : List Bool
  pub noted : List Phase

abbrev shows : SuppliedPlan → Shows
shows w = record {
  tick = w.tick;
  phases = map (λ (t : Task). t.phase) (take w.run.count w.run.tasks);
  evens = map (λ (t : Task). t.even) (take w.run.count w.run.tasks);
  noted = map (λ (n : Note). n.phase) (take w.run.count w.noted);
}

-- ROWS: a line is its name, a state and a row; what is answered, and the state after it
pub record Line : Type 0 where
  pub name : String
  pub before : SuppliedPlan
  pub row : List ℕ
  pub result : RowAnswer
  pub after : Shows

abbrev pub computes : Line → Line
computes l = record {
  name = l.name;
  before = l.before;
  row = l.row;
  result = row_answer_meaning (check_row_of l.before l.row).answer;
  after = shows (check_row_of l.before l.row).plan;
}

-- turned down, the state as given
abbrev turns : String → ℕ → ℕ → SuppliedPlan → List ℕ → Line
turns name n t w row = record { name = name; before = w; row = row; result = refused n t; after = shows w }

-- taken or accepted, and then so
abbrev goes : String → RowAnswer → SuppliedPlan → List ℕ → ℕ → List Phase → List Bool → List Phase → Line
goes name a w row t phs es ns =
    record { name = name; before = w; row = row; result = a; after = record { tick = t; phases = phs; evens = es; noted = ns } }

-- one core, a task (0,1,2,4,4): the last S is 0, the horizon 4. Its phase, the tick, what is recorded
abbrev one : Phase → ℕ → Phase → SuppliedPlan
one ph t n = state (on 1 1 (at 0 2 4 4 ph ∷ [])) t (n ∷ [])

-- the same under another rule
abbrev ruled : ℕ → Phase → SuppliedPlan
ruled rule ph = state (on rule 1 (at 0 2 4 4 ph ∷ [])) 1 (Working 0 0 0 ∷ [])

-- the same with a set of withdrawn positions
abbrev without : ℕ → SuppliedPlan
without x = record {
  run = record { rule = 1; cores = 1; fence = 0; withdrawn = x; count = 1; tasks = places (at 0 2 4 4 (Working 1 0 0) ∷ []) };
  tick = 1;
  noted = blank;
}

-- no tasks
abbrev nobody : SuppliedPlan
nobody = state (on 1 1 []) 0 []

-- one core, a task (2,1,1,2,3): the last S is 2, the horizon 5
abbrev late : Phase → ℕ → Phase → SuppliedPlan
late ph t n = state (on 1 1 (at 2 1 2 3 ph ∷ [])) t (n ∷ [])

-- one core, tasks of these periods
abbrev every : List ℕ → ℕ → SuppliedPlan
every ps t = state (on 1 1 (map (λ p. at 0 1 p p (Working 0 0 0)) ps)) t []

-- two cores, of which core 1 is fenced
abbrev fenced : SuppliedPlan
fenced = record {
  run = record { rule = 1; cores = 2; fence = 2; withdrawn = 0; count = 1; tasks = places (at 0 2 4 4 (Working 1 0 0) ∷ []) };
  tick = 1;
  noted = notes (Working 0 0 0 ∷ []);
}

-- two cores, a task of widths 1 and 2 at an odd job and at an even one
abbrev wide : Bool → SuppliedPlan
wide e = state (on 1 2 (at₂ 0 1 2 4 4 2 e (Working 1 0 0) ∷ [])) 1 (Working 0 0 0 ∷ [])

abbrev pub lines : List Line
lines =
    goes "a tick of work" taken (one (Working 1 0 0) 1 (Working 0 0 0)) (1 ∷ []) 2 (Working 2 1 1 ∷ []) (false ∷ []) (Working 0 0 0 ∷ [])
    ∷ goes "a tick of waiting" taken (one (Working 1 0 0) 1 (Working 0 0 0)) (0 ∷ []) 2 (Working 2 0 0 ∷ []) (false ∷ []) (Working 0 0 0 ∷ [])
    ∷ goes "the last of C ticks" taken (one (Working 1 1 1) 1 (Working 0 0 0)) (1 ∷ []) 2 (Resting 2 ∷ []) (false ∷ []) (Working 0 0 0 ∷ [])
    ∷ goes "under rule 3 nobody holds" taken (ruled 3 (Working 1 1 1)) (1 ∷ []) 2 (Resting 2 ∷ []) (false ∷ []) (Working 0 0 0 ∷ [])
    ∷ goes "under rule 4 the counts stay equal" taken (ruled 4 (Working 1 0 0)) (1 ∷ []) 2 (Working 2 1 1 ∷ []) (false ∷ []) (Working 0 0 0 ∷ [])
    ∷ turns "14: a task Holding" 14 0 (ruled 3 (Holding 1 1)) (1 ∷ [])
    ∷ turns "14: unequal counts" 14 0 (ruled 4 (Working 2 1 0)) (1 ∷ [])
    ∷ turns "14: a position withdrawn" 14 0 (without 1) (1 ∷ [])
    ∷ turns "14: a position past the count withdrawn" 14 0 (without 2) (1 ∷ [])
    ∷ turns "14: no tasks" 14 0 nobody (0 ∷ [])
    ∷ turns "14: a phase outside its limits" 14 0 (one (Working 5 0 0) 1 (Working 0 0 0)) (1 ∷ [])
    ∷ turns "14: Resting(0)" 14 0 (one (Resting 0) 1 (Working 0 0 0)) (0 ∷ [])
    ∷ turns "14 before 10 and 11" 14 0 (state (on 3 1 (at 0 2 4 4 (Holding 1 1) ∷ [])) 9 []) []
    ∷ turns "9: seven periods, horizon 16,971,681,600" 9 0 (every (64 ∷ 31 ∷ 29 ∷ 27 ∷ 25 ∷ 23 ∷ 19 ∷ []) 0) (0 ∷ [])
    ∷ turns "9 before 10 and 11" 9 0 (every (64 ∷ 31 ∷ 29 ∷ 27 ∷ 25 ∷ 23 ∷ 19 ∷ []) 4294967295) []
    ∷ turns "six of them, horizon 893,246,400: 10 at the horizon" 10 0 (every (64 ∷ 31 ∷ 29 ∷ 27 ∷ 25 ∷ 23 ∷ []) 893246400) (0 ∷ [])
    ∷ turns "and 11 before it" 11 0 (every (64 ∷ 31 ∷ 29 ∷ 27 ∷ 25 ∷ 23 ∷ []) 893246399) []
    ∷ turns "10: at the horizon" 10 0 (one (Working 0 0 0) 4 (Working 0 0 0)) (1 ∷ [])
    ∷ turns "10: far past it" 10 0 (one (Working 0 0 0) 4294967295 (Working 0 0 0)) (1 ∷ [])
    ∷ turns "10 before 11 and 25" 10 0 (one (Working 4 1 1) 4 (Working 0 0 0)) []
    ∷ turns "11: no byte" 11 0 (one (Working 1 0 0) 1 (Working 0 0 0)) []
    ∷ turns "11: a byte too many" 11 0 (one (Working 1 0 0) 1 (Working 0 0 0)) (1 ∷ 0 ∷ [])
    ∷ turns "11 before 25" 11 0 (one (Working 4 1 1) 1 (Working 0 0 0)) []
    ∷ turns "25: Working at z = D" 25 2 (one (Working 4 1 1) 2 (Working 0 0 0)) (1 ∷ [])
    ∷ turns "25 before 24" 25 2 (one (Working 4 1 1) 2 (Working 0 0 0)) (9 ∷ [])
    ∷ turns "24: a byte past the count" 24 1 (one (Working 1 0 0) 1 (Working 0 0 0)) (2 ∷ [])
    ∷ turns "24: 255 on an open core" 24 1 (one (Working 1 0 0) 1 (Working 0 0 0)) (255 ∷ [])
    ∷ turns "24: nothing owed, Resting" 24 2 (one (Resting 2) 2 (Working 0 0 0)) (1 ∷ [])
    ∷ turns "24: nothing owed, Coming" 24 1 (late (Coming 1) 1 (Resting 0)) (1 ∷ [])
    ∷ goes "fenced: 255, and work beside it" taken fenced (1 ∷ 255 ∷ []) 2 (Working 2 1 1 ∷ []) (false ∷ []) (Working 0 0 0 ∷ [])
    ∷ turns "24: fenced without 255" 24 1 fenced (1 ∷ 0 ∷ [])
    ∷ turns "24: a position on a fenced core" 24 1 fenced (0 ∷ 1 ∷ [])
    ∷ goes "an odd job with the first width" taken (wide false) (0 ∷ 1 ∷ []) 2 (Working 2 1 1 ∷ []) (false ∷ []) (Working 0 0 0 ∷ [])
    ∷ turns "24: an odd job with the second" 24 1 (wide false) (1 ∷ 1 ∷ [])
    ∷ goes "an even job with the second" taken (wide true) (1 ∷ 1 ∷ []) 2 (Working 2 1 1 ∷ []) (true ∷ []) (Working 0 0 0 ∷ [])
    ∷ turns "24: an even job with the first" 24 1 (wide true) (1 ∷ 0 ∷ [])
    ∷ goes "the last row: accepted, the parity left aside" accepted (one (Working 3 1 1) 3 (Working 0 0 0)) (1 ∷ []) 4 (Working 0 0 0 ∷ []) (true ∷ []) (Working 0 0 0 ∷ [])
    ∷ turns "24 in the last row: its tick" 24 3 (one (Working 3 1 1) 3 (Working 0 0 0)) (2 ∷ [])
    ∷ turns "25 at the start of the last tick" 25 3 (one (Working 4 1 1) 3 (Working 0 0 0)) (1 ∷ [])
    ∷ turns "25 on the horizon" 25 4 (one (Working 3 0 0) 3 (Working 0 0 0)) (1 ∷ [])
    ∷ turns "25 on the horizon before 26" 25 4 (one (Working 3 0 0) 3 (Resting 3)) (1 ∷ [])
    ∷ turns "26: another phase" 26 4 (one (Working 3 1 1) 3 (Working 1 0 0)) (1 ∷ [])
    ∷ turns "26: one more tick had" 26 4 (one (Working 1 0 0) 3 (Working 2 0 0)) (1 ∷ [])
    ∷ goes "the same with it: tick and phases need not fit" accepted (one (Working 1 0 0) 3 (Working 2 1 1)) (1 ∷ []) 4 (Working 2 1 1 ∷ []) (false ∷ []) (Working 2 1 1 ∷ [])
    ∷ turns "26: nothing was noted" 26 4 (one (Working 3 1 1) 3 (Resting 0)) (1 ∷ [])
    ∷ turns "26: a phase that nobody is in" 26 4 (one (Working 1 1 1) 3 (Holding 2 1)) (1 ∷ [])
    ∷ goes "the tick before the last S: noted on arrival" taken (late (Coming 1) 1 (Resting 0)) (0 ∷ []) 2 (Working 0 0 0 ∷ []) (false ∷ []) (Working 0 0 0 ∷ [])
    ∷ goes "the tick before that: not yet" taken (late (Coming 2) 0 (Resting 0)) (0 ∷ []) 1 (Coming 1 ∷ []) (false ∷ []) (Resting 0 ∷ [])
    ∷ goes "from the last S on what is noted stays" taken (late (Working 0 0 0) 2 (Resting 1)) (1 ∷ []) 3 (Resting 1 ∷ []) (false ∷ []) (Resting 1 ∷ [])
    ∷ []

-- every line is its value by the definitions: one table with one check
pub state-examples : map computes lines ≡ lines
unfolding check_row_of check_row_answer answer_at final_answer differs missed state_out faulty any_unknown_byte worked_row cell_count map_first run_out past_count computing
state-examples = refl

-- EXTENTS OF PLANS: the number, the last S and the horizon

abbrev ahead : ℕ → ℕ → ℕ → Extent
ahead n s h = record { number = n; start = s; horizon = h }

-- an offset, at whatever tick; 25 and 10 are no part of it; 14 and 9 have zeros beside them; just within 9
pub extent-examples :
    map (λ (w : SuppliedPlan). extent_of w.run)
    (late (Coming 2) 0 (Resting 0)
    ∷ late (Working 0 0 0) 2 (Resting 1)
    ∷ one (Working 4 1 1) 4 (Working 0 0 0)
    ∷ late (Resting 0) 2 (Resting 1)
    ∷ without 1
    ∷ every (64 ∷ 31 ∷ 29 ∷ 27 ∷ 25 ∷ 23 ∷ 19 ∷ []) 0
    ∷ every (64 ∷ 31 ∷ 29 ∷ 27 ∷ 25 ∷ 23 ∷ []) 0
    ∷ [])
    ≡ ahead 0 2 5 ∷ ahead 0 2 5 ∷ ahead 0 0 4 ∷ ahead 14 0 0 ∷ ahead 14 0 0 ∷ ahead 9 0 0 ∷ ahead 0 0 893246400 ∷ []
unfolding extent_of first_number state_out run_out past_count computing
extent-examples = refl

-- A REFUSED ROW, AND PLACES PAST THE COUNT

-- a state with a second task and a second note past its count of one
abbrev beyond : ℕ → List Phase → SuppliedPlan
beyond t ns = record {
  run = record { rule = 1; cores = 1; fence = 0; withdrawn = 0; count = 1; tasks = at 2 1 2 3 (Coming (2 - t)) ∷ at 7 7 7 7 (Holding 7 7) ∷ replicate 30 unused };
  tick = t;
  noted = notes ns;
}

-- any number returns the whole state; a row that is taken, and notes, leaves what is past the count
pub rest-stays :
    ((check_row_of (one (Working 3 0 0) 3 (Working 0 0 0)) (1 ∷ [])).plan ≡ one (Working 3 0 0) 3 (Working 0 0 0))
    × (drop 1 (check_row_of (beyond 1 (Resting 0 ∷ Holding 8 8 ∷ [])) (0 ∷ [])).plan.run.tasks ≡ at 7 7 7 7 (Holding 7 7) ∷ replicate 30 unused)
    × ((check_row_of (beyond 1 (Resting 0 ∷ Holding 8 8 ∷ [])) (0 ∷ [])).plan.noted ≡ notes (Working 0 0 0 ∷ Holding 8 8 ∷ []))
unfolding check_row_of check_row_answer answer_at final_answer differs missed state_out faulty any_unknown_byte worked_row cell_count map_first run_out past_count computing
rest-stays = (refl, refl, refl)

-- BEGINNINGS: the words of a table, what is answered, and the state

pub record Beginning : Type 0 where
  pub name : String
  pub words : List ℕ
  pub result : book.Answer
  pub plan : Shows

abbrev pub begins : Beginning → Beginning
begins l = record { name = l.name; words = l.words; result = load_meaning (begin_of l.words).answer; plan = shows (begin_of l.words).plan }

-- a table of one task on one core under rule 1
abbrev alone : ℕ → ℕ → ℕ → ℕ → List ℕ
alone o c d p = 1 ∷ 1 ∷ 1 ∷ 0 ∷ 0 ∷ 0 ∷ o ∷ 1 ∷ c ∷ d ∷ p ∷ 1 ∷ []

abbrev begun : String → List ℕ → Phase → Phase → Beginning
begun name ws ph n = record {
  name = name;
  words = ws;
  result = book.taken;
  plan = record { tick = 0; phases = ph ∷ []; evens = false ∷ []; noted = n ∷ [] };
}

abbrev no-plan : String → List ℕ → ℕ → ℕ → Beginning
no-plan name ws n p = record {
  name = name;
  words = ws;
  result = book.refused n p;
  plan = record { tick = 0; phases = []; evens = []; noted = [] };
}

abbrev pub beginnings : List Beginning
beginnings =
    begun "the last S is 0: noted at once" (alone 0 2 4 4) (Working 0 0 0) (Working 0 0 0)
    ∷ begun "an offset: nothing noted yet" (alone 2 1 2 3) (Coming 2) (Resting 0)
    ∷ begun "F, whose verdict is a miss" (alone 0 2 1 2) (Working 0 0 0) (Working 0 0 0)
    ∷ no-plan "1: no words" [] 1 0
    ∷ no-plan "4: the head is zero" (0 ∷ 1 ∷ 1 ∷ 0 ∷ 0 ∷ []) 4 0
    ∷ no-plan "8: D above T" (alone 0 2 5 4) 8 1
    ∷ []

pub begin-examples : map begins beginnings ≡ beginnings
unfolding begin_of started_run answer_of by_walk by_tasks by_horizon first_out ending_of last_step header_number table_of chain count visited computing
begin-examples = refl

-- a refused beginning leaves what 14 turns down
pub refused-then : row_answer_meaning (check_row_of (begin_of []).plan (0 ∷ [])).answer ≡ refused 14 0
unfolding check_row_of check_row_answer state_out run_out begin_of answer_of header_number computing
refused-then = refl
