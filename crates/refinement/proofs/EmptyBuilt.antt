-- Runs built by hand with empty jobs (request 105), computed from the definitions: under each rule, at the least C, D and T, on every phase that may
-- not be empty, and in what order the numbers come. The row before each advance is asked with its empty jobs, the row after the last with none.
use mathlib.Core.List.{List, [], ◌∷◌, map}
use mathlib.Core.Path.{◌≡◌, refl}
use Prim.Native.Nat.{ℕ}
use Prim.Native.String.{String}
use Rattle.model.specs.Advance.{Entry, advance}
use Rattle.phase.specs.declared.Phase.{Phase}
use Rattle.phase.specs.declared.Phase.TheVariants.{Coming, Working, Holding, Resting}
use Rattle.run.specs.declared.Run.{Run}
use Rattle.run.specs.Answer.{Answer}
use Rattle.run.specs.Answer.{Taken, Refused}
use Rattle.run.specs.Answer.{Row}
use Rattle.refinement.proofs.HandBuilt.{Line, worked, rows, t, at-even, one, two, run_b, on1, on2, no}
use Rattle.refinement.proofs.Running.{running}

-- a line with its name
pub record Named : Type 0 where
  pub name : String
  pub line : Line

abbrev pub worked-named : Named → Named
worked-named l = record { name = l.name; line = worked l.line }

-- an advance with a set of reports and a set of empty jobs, and one with both empty
abbrev pub sets : ℕ → ℕ → Entry
sets x e = advance x e

abbrev pub none : Entry
none = sets 0 0

-- from its parts: the run, the list, its answers, the rows, the run after
abbrev pub built : String → Run → List Entry → List Answer → List Row → Run → Named
built n r xs gs ws e = record { name = n; line = record { from = r; entries = xs; gets = gs; shows = ws; ends = e } }

-- 20 and 16, and a row refused by 20
abbrev pub empty-no : Answer
empty-no = Refused 20 0

abbrev pub report-no : Answer
report-no = Refused 16 0

abbrev pub row-20 : Row
row-20 = no 20 0

-- one task (0, 1, 3, 4, 6) on one core in a phase, under a rule
abbrev pub single : ℕ → Phase → Run
single r ph = one r 1 (t 0 1 3 4 6 ph)

-- C, D and T of 1
abbrev pub least-one : ℕ → Phase → Run
least-one r ph = one r 1 (t 0 1 1 1 1 ph)

-- each of these with an even job
abbrev pub single-even : ℕ → Phase → Run
single-even r ph = one r 1 (at-even (t 0 1 3 4 6 ph))

abbrev least-even : ℕ → Phase → Run
least-even r ph = one r 1 (at-even (t 0 1 1 1 1 ph))

-- two tasks as wide as two cores, under greedy
abbrev wide : Phase → Phase → Run
wide a b = two 1 2 (t 0 2 2 5 5 a) (t 0 2 3 5 5 b)

abbrev pub empty-lines : List Named
empty-lines =
    built "greedy: an empty job claims nothing, and stands at z = 1 after its tick"
    (single 1 (Working 0 0 0)) (sets 0 1 ∷ []) (Taken ∷ []) (on1 0 ∷ on1 0 ∷ []) (single 1 (Resting 1))
    ∷ built "limited: the same"
    (single 2 (Working 0 0 0)) (sets 0 1 ∷ []) (Taken ∷ []) (on1 0 ∷ on1 0 ∷ []) (single 2 (Resting 1))
    ∷ built "idling: it holds, and claims its ticks"
    (single 3 (Working 0 0 0)) (sets 0 1 ∷ none ∷ none ∷ []) (Taken ∷ Taken ∷ Taken ∷ []) (on1 1 ∷ on1 1 ∷ on1 1 ∷ on1 0 ∷ []) (single 3 (Resting 3))
    ∷ built "idling without cores: it holds at (1,0)"
    (two 3 1 (t 0 1 2 3 3 (Working 0 0 0)) (t 0 1 1 3 3 (Working 0 0 0))) (sets 0 2 ∷ []) (Taken ∷ []) (on1 1 ∷ on1 1 ∷ [])
    (two 3 1 (t 0 1 2 3 3 (Working 1 1 1)) (t 0 1 1 3 3 (Holding 1 0)))
    ∷ built "C, D and T of 1 under greedy: the next job is released at once"
    (least-one 1 (Working 0 0 0)) (sets 0 1 ∷ []) (Taken ∷ []) (on1 0 ∷ on1 1 ∷ []) (least-even 1 (Working 0 0 0))
    ∷ built "and under idling, where the empty one has its core"
    (least-one 3 (Working 0 0 0)) (sets 0 1 ∷ []) (Taken ∷ []) (on1 1 ∷ on1 1 ∷ []) (least-even 3 (Working 0 0 0))
    ∷ built "D of 1 under idling: a hold without cores ends with its tick"
    (two 3 1 (t 0 1 1 1 1 (Working 0 0 0)) (t 0 1 1 1 2 (Working 0 0 0))) (sets 0 2 ∷ []) (Taken ∷ []) (on1 1 ∷ on1 1 ∷ [])
    (two 3 1 (at-even (t 0 1 1 1 1 (Working 0 0 0))) (t 0 1 1 1 2 (Resting 1)))
    ∷ built "C of 1 under idling: a hold with cores ends with its tick"
    (one 3 1 (t 0 1 1 2 2 (Working 0 0 0))) (sets 0 1 ∷ []) (Taken ∷ []) (on1 1 ∷ on1 0 ∷ []) (one 3 1 (t 0 1 1 2 2 (Resting 1)))
    ∷ built "an empty bit on Working(0,1): that is no run"
    (single 1 (Working 0 1 1)) (sets 0 1 ∷ []) (Refused 14 0 ∷ []) (no 14 0 ∷ no 14 0 ∷ []) (single 1 (Working 0 1 1))
    ∷ built "on a job released a tick ago that has waited"
    (single 1 (Working 1 0 0)) (sets 0 1 ∷ []) (empty-no ∷ []) (row-20 ∷ on1 1 ∷ []) (single 1 (Working 1 0 0))
    ∷ built "or has worked"
    (single 1 (Working 1 1 1)) (sets 0 1 ∷ []) (empty-no ∷ []) (row-20 ∷ on1 1 ∷ []) (single 1 (Working 1 1 1))
    ∷ built "on a holder, which is not reported either"
    (single 3 (Holding 1 1)) (sets 0 1 ∷ sets 1 0 ∷ none ∷ []) (empty-no ∷ report-no ∷ Taken ∷ []) (row-20 ∷ on1 1 ∷ on1 1 ∷ on1 1 ∷ []) (single 3 (Holding 2 2))
    ∷ built "on Holding(0,0) built by hand: it is within the limits, and no job that may be empty"
    (single 3 (Holding 0 0)) (sets 0 1 ∷ sets 1 0 ∷ none ∷ []) (empty-no ∷ report-no ∷ Taken ∷ []) (row-20 ∷ on1 1 ∷ on1 1 ∷ on1 1 ∷ []) (single 3 (Holding 1 1))
    ∷ built "on Coming, and in the tick of the release"
    (one 1 1 (t 2 1 3 4 6 (Coming 1))) (sets 0 1 ∷ none ∷ sets 0 1 ∷ []) (empty-no ∷ Taken ∷ Taken ∷ []) (row-20 ∷ on1 0 ∷ on1 0 ∷ on1 0 ∷ [])
    (one 1 1 (t 2 1 3 4 6 (Resting 1)))
    ∷ built "on Resting, and in the tick of the next release"
    (single 1 (Resting 5)) (sets 0 1 ∷ none ∷ sets 0 1 ∷ []) (empty-no ∷ Taken ∷ Taken ∷ []) (row-20 ∷ on1 0 ∷ on1 0 ∷ on1 0 ∷ []) (single-even 1 (Resting 1))
    ∷ built "past the count, also beside a good bit"
    (single 1 (Working 0 0 0)) (sets 0 2 ∷ sets 0 3 ∷ sets 0 64 ∷ []) (empty-no ∷ empty-no ∷ empty-no ∷ []) (row-20 ∷ row-20 ∷ row-20 ∷ on1 1 ∷ [])
    (single 1 (Working 0 0 0))
    ∷ built "14 before 20"
    (single 5 (Working 0 0 0)) (sets 2 2 ∷ []) (Refused 14 0 ∷ []) (no 14 0 ∷ no 14 0 ∷ []) (single 5 (Working 0 0 0))
    ∷ built "15 before 20"
    (single 1 (Working 4 0 0)) (sets 2 2 ∷ []) (Refused 15 1 ∷ []) (no 15 1 ∷ no 15 1 ∷ []) (single 1 (Working 4 0 0))
    ∷ built "20 before 16"
    (single 1 (Working 0 0 0)) (sets 2 2 ∷ sets 2 0 ∷ sets 2 1 ∷ []) (empty-no ∷ report-no ∷ report-no ∷ []) (row-20 ∷ on1 1 ∷ on1 0 ∷ on1 1 ∷ [])
    (single 1 (Working 0 0 0))
    ∷ built "a report on an empty job is 16, and nothing of that advance is kept"
    (single 1 (Working 0 0 0)) (sets 1 1 ∷ none ∷ []) (report-no ∷ Taken ∷ []) (on1 0 ∷ on1 1 ∷ on1 1 ∷ []) (single 1 (Working 1 1 1))
    ∷ built "the same under idling, where it has cores"
    (single 3 (Working 0 0 0)) (sets 1 1 ∷ sets 0 1 ∷ []) (report-no ∷ Taken ∷ []) (on1 1 ∷ on1 1 ∷ on1 1 ∷ []) (single 3 (Holding 1 1))
    ∷ built "a report on a task that gets cores only because the one above is empty"
    (wide (Working 0 0 0) (Working 0 0 0)) (sets 2 0 ∷ sets 2 1 ∷ []) (report-no ∷ Taken ∷ []) (on2 1 1 ∷ on2 2 2 ∷ on2 0 0 ∷ []) (wide (Resting 1) (Resting 1))
    ∷ built "B with position 1 empty: position 2 takes both cores, and position 3 is late"
    (run_b 1 (Working 0 0 0) (Working 0 0 0) (Working 0 0 0)) (sets 0 1 ∷ none ∷ none ∷ []) (Taken ∷ Taken ∷ Refused 15 3 ∷ [])
    (on2 2 2 ∷ on2 3 0 ∷ no 15 3 ∷ no 15 3 ∷ []) (run_b 1 (Resting 2) (Resting 2) (Working 2 1 1))
    ∷ []

-- every line is its value by the definitions: one table with one check
pub empty_runs : map worked-named empty-lines ≡ empty-lines
unfolding running rows
empty_runs = refl
