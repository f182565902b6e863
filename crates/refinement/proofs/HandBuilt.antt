-- Runs built by hand, computed from the definitions: B and B3 with their report, by phases; a first release to come; a hold that ends at D;
-- runs with a fence; and each limit of 14 from both sides: the count, the cores, the rule, the fence, the width, the times, the phases.
use mathlib.Core.Bool.{true, false}
use mathlib.Core.List.{List, [], ◌∷◌, ◌++◌, map}
use mathlib.Core.Path.{◌≡◌, refl}
use Prim.Native.Nat.{ℕ, ◌-◌, ◌^◌}
use lib.ListN.{replicate}
use Rattle.model.specs.Advance.{Entry, advance, empties_of}
use Rattle.phase.specs.declared.Phase.{Phase}
use Rattle.phase.specs.declared.Phase.TheVariants.{Coming, Working, Holding, Resting}
use Rattle.phase.specs.declared.Task.{Task}
use Rattle.run.specs.declared.Run.{Run}
use Rattle.run.specs.Answer.{Answer}
use Rattle.run.specs.Answer.{Taken, Refused}
use Rattle.run.specs.Answer.{Row}
use Rattle.phase.specs.Task.{unused}
use Rattle.run.specs.Answer.{in64}
use Rattle.run.specs.Row.{no_bytes, row_of}
use Rattle.refinement.specs.Entries.{entry_of, answers, run_after_list}
use Rattle.refinement.proofs.Running.{running}

-- the row asked before each entry of the list with its empty jobs, and after the last with none
unfoldable pub rows : Run → List Entry → List Row
rows r [] = row_of r 0 ∷ []
rows r (x ∷ xs) = row_of r (empties_of x) ∷ rows (entry_of r x).run xs

-- a line: a run and a list; the answer to each entry, the rows, and the run after the list
pub record Line : Type 0 where
  pub from : Run
  pub entries : List Entry
  pub gets : List Answer
  pub shows : List Row
  pub ends : Run

-- the value by the definitions of a line's run and list
abbrev pub worked : Line → Line
worked l = record {
  from = l.from;
  entries = l.entries;
  gets = answers l.from l.entries;
  shows = rows l.from l.entries;
  ends = run_after_list l.from l.entries;
}

-- advances with reports alone
abbrev reported : List ℕ → List Entry
reported xs = map (λ x. advance x 0) xs

-- a task as (O, v, C, D, T) in a phase, with both widths v and an odd job
abbrev pub t : ℕ → ℕ → ℕ → ℕ → ℕ → Phase → Task
t o v c d p ph = record { parameters = record { offset = o; width = v; length = c; deadline = d; period = p; second = v }; even = false; phase = ph }

-- the task with an even job
abbrev pub at-even : Task → Task
at-even a = record {
  parameters = a.parameters;
  even = true;
  phase = a.phase;
}

-- a run of one task on m cores with a fence
abbrev pub fenced_run : ℕ → ℕ → ℕ → Task → Run
fenced_run r m f a = record { rule = r; cores = m; fence = f; withdrawn = 0; count = 1; tasks = a ∷ replicate 31 unused }

-- runs of one, two and three tasks
abbrev pub one : ℕ → ℕ → Task → Run
one r m a = fenced_run r m 0 a

abbrev pub two : ℕ → ℕ → Task → Task → Run
two r m a b = record { rule = r; cores = m; fence = 0; withdrawn = 0; count = 2; tasks = a ∷ b ∷ replicate 30 unused }

abbrev pub three : ℕ → ℕ → ℕ → Task → Task → Task → Run
three r m f a b c = record { rule = r; cores = m; fence = f; withdrawn = 0; count = 3; tasks = a ∷ b ∷ c ∷ replicate 29 unused }

-- B as it starts and later, under each rule, on m cores with a fence
abbrev fenced_b : ℕ → ℕ → ℕ → Phase → Phase → Phase → Run
fenced_b r m f a b c = three r m f (t 0 1 3 3 4 a) (t 0 2 1 4 4 b) (t 0 1 2 2 4 c)

abbrev pub run_b : ℕ → Phase → Phase → Phase → Run
run_b r a b c = fenced_b r 2 0 a b c

-- E
abbrev run_e : Phase → Phase → Run
run_e a b = two 2 1 (t 1 1 1 1 2 a) (t 0 1 1 2 3 b)

-- rows
abbrev pub on1 : ℕ → Row
on1 a = record { answer = Taken; bytes = a ∷ replicate 63 0 }

abbrev pub on2 : ℕ → ℕ → Row
on2 a b = record { answer = Taken; bytes = a ∷ b ∷ replicate 62 0 }

abbrev pub no : ℕ → ℕ → Row
no n p = record { answer = Refused n p; bytes = no_bytes }

-- a run and what its row is answered
abbrev asked : Run → Row → Line
asked r w = record { from = r; entries = []; gets = []; shows = w ∷ []; ends = r }

-- one task (2, 1, 3, 4, 6) on one core in a phase, under a rule
abbrev pub limit : ℕ → Phase → Row → Line
limit r ph w = asked (one r 1 (t 2 1 3 4 6 ph)) w

-- a count of tasks, which rest, on one core; there is a task at each place below it
abbrev resting_tasks : ℕ → Row → Line
resting_tasks n w = asked (record { rule = 1; cores = 1; fence = 0; withdrawn = 0; count = n; tasks = replicate 33 (t 2 1 3 4 6 (Resting 1)) }) w

-- one task (O, v, C, D, T) in a phase, on a number of cores
abbrev sized : ℕ → Task → Row → Line
sized m a w = asked (one 1 m a) w

-- a row of these bytes, zeros behind them
abbrev pub row64 : List ℕ → Row
row64 bytes = record { answer = Taken; bytes = in64 bytes }

-- one task of width v, in a tick in which it claims, on m cores with fence f; what its row is answered
abbrev fenced_row : ℕ → ℕ → ℕ → Row → Line
fenced_row m f v w = asked (fenced_run 1 m f (t 0 v 3 4 6 (Working 0 0 0))) w

abbrev pub lines : List Line
lines =
    -- B: position 1 reported in tick 0: tick 1 goes to position 2, then 15 with position 3, for ever
    record {
      from = run_b 1 (Working 0 0 0) (Working 0 0 0) (Working 0 0 0);
      entries = reported (1 ∷ 0 ∷ 0 ∷ 2 ∷ []);
      gets = Taken ∷ Taken ∷ Refused 15 3 ∷ Refused 15 3 ∷ [];
      shows = on2 1 3 ∷ on2 2 2 ∷ no 15 3 ∷ no 15 3 ∷ no 15 3 ∷ [];
      ends = run_b 1 (Resting 2) (Resting 2) (Working 2 1 1);
    }
    -- a report for a position that gets no cores, and one past the count: 16, and the run as given
    ∷ record {
      from = run_b 1 (Working 0 0 0) (Working 0 0 0) (Working 0 0 0);
      entries = reported (2 ∷ 8 ∷ []);
      gets = Refused 16 0 ∷ Refused 16 0 ∷ [];
      shows = on2 1 3 ∷ on2 1 3 ∷ on2 1 3 ∷ [];
      ends = run_b 1 (Working 0 0 0) (Working 0 0 0) (Working 0 0 0);
    }
    -- B3: the same report changes no row; a report for a holder is 16
    ∷ record {
      from = run_b 3 (Working 0 0 0) (Working 0 0 0) (Working 0 0 0);
      entries = reported (1 ∷ 1 ∷ 0 ∷ []);
      gets = Taken ∷ Refused 16 0 ∷ Taken ∷ [];
      shows = on2 1 3 ∷ on2 1 3 ∷ on2 1 3 ∷ on2 1 0 ∷ [];
      ends = run_b 3 (Holding 2 2) (Working 2 0 0) (Resting 2);
    }
    -- E: the first release of position 1 is one tick ahead
    ∷ record {
      from = run_e (Coming 1) (Working 0 0 0);
      entries = reported (0 ∷ 0 ∷ []);
      gets = Taken ∷ Taken ∷ [];
      shows = on1 2 ∷ on1 1 ∷ on1 0 ∷ [];
      ends = run_e (Resting 1) (Resting 2);
    }
    -- a hold without cores ends at z = D, and then rests
    ∷ record {
      from = two 3 1 (t 0 1 3 3 4 (Working 0 0 0)) (t 0 1 3 3 5 (Holding 2 1));
      entries = reported (0 ∷ []);
      gets = Taken ∷ [];
      shows = on1 1 ∷ on1 1 ∷ [];
      ends = two 3 1 (t 0 1 3 3 4 (Working 1 1 1)) (t 0 1 3 3 5 (Resting 3));
    }
    -- B on four cores of which 0 and 2 are fenced: as on two cores; what is refused shows no fence
    ∷ record {
      from = fenced_b 1 4 5 (Working 0 0 0) (Working 0 0 0) (Working 0 0 0);
      entries = reported (1 ∷ 4 ∷ 0 ∷ []);
      gets = Taken ∷ Refused 16 0 ∷ Taken ∷ [];
      shows = row64 (255 ∷ 1 ∷ 255 ∷ 3 ∷ []) ∷ row64 (255 ∷ 2 ∷ 255 ∷ 2 ∷ []) ∷ row64 (255 ∷ 2 ∷ 255 ∷ 2 ∷ []) ∷ no 15 3 ∷ [];
      ends = fenced_b 1 4 5 (Resting 2) (Resting 2) (Working 2 1 1);
    }
    -- B3 on three cores of which 1 is fenced: held cores with the holder's position
    ∷ record {
      from = fenced_b 3 3 2 (Working 0 0 0) (Working 0 0 0) (Working 0 0 0);
      entries = reported (1 ∷ 0 ∷ []);
      gets = Taken ∷ Taken ∷ [];
      shows = row64 (1 ∷ 255 ∷ 3 ∷ []) ∷ row64 (1 ∷ 255 ∷ 3 ∷ []) ∷ row64 (1 ∷ 255 ∷ 0 ∷ []) ∷ [];
      ends = fenced_b 3 3 2 (Holding 2 2) (Working 2 0 0) (Resting 2);
    }
    -- the limits of 14: the count 1 to 32
    ∷ resting_tasks 0 (no 14 0) ∷ resting_tasks 1 (on1 0) ∷ resting_tasks 32 (on1 0) ∷ resting_tasks 33 (no 14 0)
    -- the rule 1 to 4
    ∷ limit 0 (Resting 1) (no 14 0) ∷ limit 1 (Resting 1) (on1 0) ∷ limit 2 (Resting 1) (on1 0) ∷ limit 3 (Resting 1) (on1 0)
    ∷ limit 4 (Resting 1) (on1 0) ∷ limit 5 (Resting 1) (no 14 0)
    -- every number at its least, and every number at its most; 0 and 65 cores
    ∷ sized 1 (t 0 1 1 1 1 (Working 0 0 0)) (on1 1)
    ∷ sized 64 (t 1000000 64 1000000 1000000 1000000 (Working 0 0 0)) (record { answer = Taken; bytes = replicate 64 1 })
    ∷ sized 0 (t 2 1 3 4 6 (Resting 1)) (no 14 0) ∷ sized 65 (t 2 1 3 4 6 (Resting 1)) (no 14 0)
    -- a width 0, and one above the cores
    ∷ sized 1 (t 2 0 3 4 6 (Resting 1)) (no 14 0) ∷ sized 1 (t 2 2 3 4 6 (Resting 1)) (no 14 0)
    -- a fence of a core past the count, and of the last: 5 of 5 cores, 33 of 33, 63 of 63, 63 of 64
    ∷ fenced_row 5 (2 ^ 5) 1 (no 14 0) ∷ fenced_row 5 (2 ^ 4) 4 (row64 (replicate 4 1 ++ 255 ∷ []))
    ∷ fenced_row 33 (2 ^ 33) 1 (no 14 0) ∷ fenced_row 33 (2 ^ 32) 32 (row64 (replicate 32 1 ++ 255 ∷ []))
    ∷ fenced_row 63 (2 ^ 63) 1 (no 14 0) ∷ fenced_row 63 (2 ^ 62) 62 (row64 (replicate 62 1 ++ 255 ∷ []))
    ∷ fenced_row 64 (2 ^ 63) 63 (row64 (replicate 63 1 ++ 255 ∷ [])) ∷ fenced_row 65 1 1 (no 14 0)
    -- all cores fenced, and all but one
    ∷ fenced_row 1 1 1 (no 14 0) ∷ fenced_row 5 31 1 (no 14 0) ∷ fenced_row 5 15 1 (row64 (replicate 4 255 ++ 1 ∷ []))
    ∷ fenced_row 64 (2 ^ 64 - 1) 1 (no 14 0) ∷ fenced_row 64 (2 ^ 63 - 1) 1 (row64 (replicate 63 255 ++ 1 ∷ []))
    -- a width of the unfenced cores, and one above them
    ∷ fenced_row 5 9 3 (row64 (255 ∷ 1 ∷ 1 ∷ 255 ∷ 1 ∷ [])) ∷ fenced_row 5 9 4 (no 14 0)
    ∷ fenced_row 64 (2 ^ 64 - 2 ^ 32) 32 (row64 (replicate 32 1 ++ replicate 32 255)) ∷ fenced_row 64 (2 ^ 64 - 2 ^ 32) 33 (no 14 0)
    -- O above 1,000,000; C and T 0, and above 1,000,000
    ∷ sized 1 (t 1000001 1 3 4 6 (Resting 1)) (no 14 0)
    ∷ sized 1 (t 2 1 0 4 6 (Resting 1)) (no 14 0) ∷ sized 1 (t 2 1 1000001 4 6 (Resting 1)) (no 14 0)
    ∷ sized 1 (t 2 1 3 0 0 (Working 0 0 0)) (no 14 0) ∷ sized 1 (t 2 1 3 1 0 (Working 0 0 0)) (no 14 0) ∷ sized 1 (t 2 1 3 4 1000001 (Resting 1)) (no 14 0)
    -- D 0, 1, T and T + 1
    ∷ sized 1 (t 2 1 3 0 6 (Resting 1)) (no 14 0) ∷ sized 1 (t 2 1 3 1 6 (Resting 1)) (on1 0)
    ∷ sized 1 (t 2 1 3 6 6 (Resting 1)) (on1 0) ∷ sized 1 (t 2 1 3 7 6 (Resting 1)) (no 14 0)
    -- Coming 1 to O
    ∷ limit 1 (Coming 0) (no 14 0) ∷ limit 1 (Coming 1) (on1 0) ∷ limit 1 (Coming 2) (on1 0) ∷ limit 1 (Coming 3) (no 14 0)
    -- Working z 0 to D, where z = D passes 14 and is 15; had below C and at most z (where had and reserved differ: LendBuilt.antt)
    ∷ limit 1 (Working 0 0 0) (on1 1) ∷ limit 1 (Working 4 0 0) (no 15 1) ∷ limit 1 (Working 5 0 0) (no 14 0)
    ∷ limit 1 (Working 3 2 2) (on1 1) ∷ limit 1 (Working 3 3 3) (no 14 0) ∷ limit 1 (Working 2 2 2) (on1 1) ∷ limit 1 (Working 1 2 2) (no 14 0)
    -- Holding under rules 3 and 4 only; z 0 to D − 1, u 0 to C − 1, u at most z
    ∷ limit 3 (Holding 1 1) (on1 1) ∷ limit 4 (Holding 1 1) (on1 1) ∷ limit 2 (Holding 1 1) (no 14 0) ∷ limit 1 (Holding 1 1) (no 14 0)
    ∷ limit 3 (Holding 0 0) (on1 1) ∷ limit 2 (Holding 0 0) (no 14 0) ∷ limit 1 (Holding 0 0) (no 14 0) ∷ limit 3 (Holding 0 1) (no 14 0)
    ∷ limit 3 (Holding 1 0) (on1 1) ∷ limit 3 (Holding 3 0) (on1 1) ∷ limit 3 (Holding 4 0) (no 14 0)
    ∷ limit 3 (Holding 3 1) (on1 1) ∷ limit 3 (Holding 4 1) (no 14 0)
    ∷ limit 3 (Holding 3 2) (on1 1) ∷ limit 3 (Holding 3 3) (no 14 0) ∷ limit 3 (Holding 2 2) (on1 1) ∷ limit 3 (Holding 1 2) (no 14 0)
    -- C of 1: a hold has claimed nothing; D of 1: it is at 0
    ∷ asked (one 3 1 (t 0 1 1 4 6 (Holding 3 0))) (on1 1) ∷ asked (one 3 1 (t 0 1 1 4 6 (Holding 1 1))) (no 14 0)
    ∷ asked (one 3 1 (t 0 1 3 1 6 (Holding 0 0))) (on1 1) ∷ asked (one 3 1 (t 0 1 3 1 6 (Holding 1 0))) (no 14 0)
    -- Resting 1 to T − 1
    ∷ limit 1 (Resting 0) (no 14 0) ∷ limit 1 (Resting 1) (on1 0) ∷ limit 1 (Resting 5) (on1 0) ∷ limit 1 (Resting 6) (no 14 0)
    ∷ []

-- every line is its value by the definitions: one table with one check
pub built-runs : map worked lines ≡ lines
unfolding running rows
built-runs = refl
