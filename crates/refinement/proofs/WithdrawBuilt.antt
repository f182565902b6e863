-- Runs built by hand with withdrawals (request 106), computed from the definitions: in every phase of a task, at its deadline, twice, under each rule,
-- beside empty bits and reports, where a withdrawal is refused and in what order, and 14 of the withdrawn set from both sides. The row before each
-- entry is asked with its empty jobs, the row after the last with none.
use mathlib.Core.List.{List, [], ◌∷◌, map}
use mathlib.Core.Path.{◌≡◌, refl}
use Prim.Native.Nat.{ℕ}
use lib.ListN.{replicate}
use Rattle.model.specs.Advance.{withdraw}
use Rattle.phase.specs.declared.Phase.{Phase}
use Rattle.phase.specs.declared.Phase.TheVariants.{Coming, Working, Holding, Resting}
use Rattle.run.specs.declared.Run.{Run}
use Rattle.run.specs.Answer.{Taken, Refused}
use Rattle.refinement.proofs.HandBuilt.{rows, t, one, two, on1, on2, no}
use Rattle.refinement.proofs.EmptyBuilt.{Named, worked-named, built, sets, none, empty-no, report-no, row-20, single, single-even, least-one}
use Rattle.refinement.proofs.Running.{running}

-- a run with a withdrawn set
abbrev pub out : ℕ → Run → Run
out x r = record { rule = r.rule; cores = r.cores; fence = r.fence; withdrawn = x; count = r.count; tasks = r.tasks }

-- a number of tasks in one phase on one core, under greedy
abbrev pub many : ℕ → Phase → Run
many n ph = record { rule = 1; cores = 1; fence = 0; withdrawn = 0; count = n; tasks = replicate 32 (t 2 1 3 4 6 ph) }

abbrev pub withdraw-lines : List Named
withdraw-lines =
    built "in the release tick only the set moves; the job of this tick is empty"
    (single 1 (Working 0 0 0)) (withdraw 1 ∷ none ∷ [])
    (Taken ∷ Taken ∷ [])
    (on1 1 ∷ on1 0 ∷ on1 0 ∷ [])
    (out 1 (single 1 (Resting 1)))
    ∷ built "a tick after the release: the job goes on"
    (single 1 (Working 1 1 1)) (withdraw 1 ∷ none ∷ none ∷ [])
    (Taken ∷ Taken ∷ Taken ∷ [])
    (on1 1 ∷ on1 1 ∷ on1 1 ∷ on1 0 ∷ [])
    (out 1 (single 1 (Resting 3)))
    ∷ built "and so does one that has waited"
    (single 2 (Working 1 0 0)) (withdraw 1 ∷ none ∷ none ∷ none ∷ [])
    (Taken ∷ Taken ∷ Taken ∷ Taken ∷ [])
    (on1 1 ∷ on1 1 ∷ on1 1 ∷ on1 1 ∷ on1 0 ∷ [])
    (out 1 (single 2 (Resting 4)))
    ∷ built "the job that goes on may be reported"
    (single 1 (Working 1 1 1)) (withdraw 1 ∷ sets 1 0 ∷ [])
    (Taken ∷ Taken ∷ [])
    (on1 1 ∷ on1 1 ∷ on1 0 ∷ [])
    (out 1 (single 1 (Resting 2)))
    ∷ built "at z = D: 15 is not looked at, 22 is"
    (single 1 (Working 4 0 0)) (none ∷ withdraw 1 ∷ none ∷ withdraw 2 ∷ withdraw 0 ∷ [])
    (Refused 15 1 ∷ Taken ∷ Refused 15 1 ∷ Refused 22 0 ∷ Refused 22 0 ∷ [])
    (no 15 1 ∷ no 15 1 ∷ no 15 1 ∷ no 15 1 ∷ no 15 1 ∷ no 15 1 ∷ [])
    (out 1 (single 1 (Working 4 0 0)))
    ∷ built "while it comes: its first job is empty"
    (one 1 1 (t 2 1 3 4 6 (Coming 1))) (withdraw 1 ∷ none ∷ none ∷ [])
    (Taken ∷ Taken ∷ Taken ∷ [])
    (on1 0 ∷ on1 0 ∷ on1 0 ∷ on1 0 ∷ [])
    (out 1 (one 1 1 (t 2 1 3 4 6 (Resting 1))))
    ∷ built "while it rests: its next job is empty"
    (single 1 (Resting 5)) (withdraw 1 ∷ none ∷ none ∷ [])
    (Taken ∷ Taken ∷ Taken ∷ [])
    (on1 0 ∷ on1 0 ∷ on1 0 ∷ on1 0 ∷ [])
    (out 1 (single-even 1 (Resting 1)))
    ∷ built "while it holds: the hold goes on"
    (single 3 (Holding 1 1)) (withdraw 1 ∷ none ∷ none ∷ [])
    (Taken ∷ Taken ∷ Taken ∷ [])
    (on1 1 ∷ on1 1 ∷ on1 1 ∷ on1 0 ∷ [])
    (out 1 (single 3 (Resting 3)))
    ∷ built "twice is once; position 0, one past the count and one above 32"
    (single 1 (Working 0 0 0)) (withdraw 1 ∷ withdraw 1 ∷ withdraw 0 ∷ withdraw 2 ∷ withdraw 33 ∷ [])
    (Taken ∷ Taken ∷ Refused 22 0 ∷ Refused 22 0 ∷ Refused 22 0 ∷ [])
    (on1 1 ∷ on1 0 ∷ on1 0 ∷ on1 0 ∷ on1 0 ∷ on1 0 ∷ [])
    (out 1 (single 1 (Working 0 0 0)))
    ∷ built "the set stays in an advance: every later job is empty"
    (one 1 1 (t 0 1 2 2 3 (Working 0 0 0))) (none ∷ withdraw 1 ∷ none ∷ none ∷ none ∷ none ∷ none ∷ none ∷ [])
    (Taken ∷ Taken ∷ Taken ∷ Taken ∷ Taken ∷ Taken ∷ Taken ∷ Taken ∷ [])
    (on1 1 ∷ on1 1 ∷ on1 1 ∷ on1 0 ∷ on1 0 ∷ on1 0 ∷ on1 0 ∷ on1 0 ∷ on1 0 ∷ [])
    (out 1 (one 1 1 (t 0 1 2 2 3 (Resting 1))))
    ∷ built "C, D and T of 1: each job is empty"
    (least-one 2 (Working 0 0 0)) (withdraw 1 ∷ none ∷ none ∷ [])
    (Taken ∷ Taken ∷ Taken ∷ [])
    (on1 1 ∷ on1 0 ∷ on1 0 ∷ on1 0 ∷ [])
    (out 1 (least-one 2 (Working 0 0 0)))
    ∷ built "idling: the cores stay held in every period"
    (one 3 1 (t 0 1 2 2 3 (Working 0 0 0))) (withdraw 1 ∷ none ∷ none ∷ none ∷ none ∷ none ∷ none ∷ [])
    (Taken ∷ Taken ∷ Taken ∷ Taken ∷ Taken ∷ Taken ∷ Taken ∷ [])
    (on1 1 ∷ on1 1 ∷ on1 1 ∷ on1 0 ∷ on1 1 ∷ on1 1 ∷ on1 0 ∷ on1 1 ∷ [])
    (out 1 (one 3 1 (t 0 1 2 2 3 (Working 0 0 0))))
    ∷ built "with an empty bit, which is no 20, and a report, which is 16"
    (single 1 (Working 0 0 0)) (withdraw 1 ∷ sets 1 0 ∷ sets 1 1 ∷ sets 0 1 ∷ [])
    (Taken ∷ report-no ∷ report-no ∷ Taken ∷ [])
    (on1 1 ∷ on1 0 ∷ on1 0 ∷ on1 0 ∷ on1 0 ∷ [])
    (out 1 (single 1 (Resting 1)))
    ∷ built "the same under idling, where it has its core"
    (single 3 (Working 0 0 0)) (withdraw 1 ∷ sets 1 0 ∷ sets 1 1 ∷ sets 0 1 ∷ sets 0 1 ∷ sets 1 0 ∷ [])
    (Taken ∷ report-no ∷ report-no ∷ Taken ∷ empty-no ∷ report-no ∷ [])
    (on1 1 ∷ on1 1 ∷ on1 1 ∷ on1 1 ∷ row-20 ∷ on1 1 ∷ on1 1 ∷ [])
    (out 1 (single 3 (Holding 1 1)))
    ∷ built "an empty bit on the job that goes on is 20"
    (single 1 (Working 1 1 1)) (withdraw 1 ∷ sets 0 1 ∷ [])
    (Taken ∷ empty-no ∷ [])
    (on1 1 ∷ row-20 ∷ on1 1 ∷ [])
    (out 1 (single 1 (Working 1 1 1)))
    ∷ built "greedy and widths that fall: 21 before 22, late or not"
    (two 1 2 (t 0 2 2 4 4 (Working 0 0 0)) (t 0 1 2 4 4 (Working 4 1 1))) (withdraw 9 ∷ withdraw 1 ∷ withdraw 0 ∷ [])
    (Refused 21 0 ∷ Refused 21 0 ∷ Refused 21 0 ∷ [])
    (no 15 2 ∷ no 15 2 ∷ no 15 2 ∷ no 15 2 ∷ [])
    (two 1 2 (t 0 2 2 4 4 (Working 0 0 0)) (t 0 1 2 4 4 (Working 4 1 1)))
    ∷ built "greedy and widths that rise"
    (two 1 2 (t 0 1 2 4 4 (Working 0 0 0)) (t 0 2 2 4 4 (Working 0 0 0))) (withdraw 1 ∷ withdraw 3 ∷ none ∷ none ∷ [])
    (Taken ∷ Refused 22 0 ∷ Taken ∷ Taken ∷ [])
    (on2 1 0 ∷ on2 2 2 ∷ on2 2 2 ∷ on2 2 2 ∷ on2 0 0 ∷ [])
    (out 1 (two 1 2 (t 0 1 2 4 4 (Resting 2)) (t 0 2 2 4 4 (Resting 2))))
    ∷ built "limited and widths that fall"
    (two 2 2 (t 0 2 2 4 4 (Working 0 0 0)) (t 0 1 2 4 4 (Working 0 0 0))) (withdraw 1 ∷ withdraw 3 ∷ none ∷ [])
    (Taken ∷ Refused 22 0 ∷ Taken ∷ [])
    (on2 1 1 ∷ on2 2 0 ∷ on2 2 0 ∷ on2 2 0 ∷ [])
    (out 1 (two 2 2 (t 0 2 2 4 4 (Resting 1)) (t 0 1 2 4 4 (Working 1 1 1))))
    ∷ built "idling and widths that fall"
    (two 3 2 (t 0 2 2 4 4 (Working 0 0 0)) (t 0 1 2 4 4 (Working 0 0 0))) (withdraw 2 ∷ withdraw 3 ∷ none ∷ [])
    (Taken ∷ Refused 22 0 ∷ Taken ∷ [])
    (on2 1 1 ∷ on2 1 1 ∷ on2 1 1 ∷ on2 1 1 ∷ [])
    (out 2 (two 3 2 (t 0 2 2 4 4 (Working 1 1 1)) (t 0 1 2 4 4 (Holding 1 0))))
    ∷ []

-- 14 of the withdrawn set, from both sides
abbrev pub set_lines : List Named
set_lines =
    built "14: a position past the count is withdrawn"
    (out 2 (single 1 (Working 0 0 0))) (none ∷ withdraw 1 ∷ withdraw 9 ∷ [])
    (Refused 14 0 ∷ Refused 14 0 ∷ Refused 14 0 ∷ [])
    (no 14 0 ∷ no 14 0 ∷ no 14 0 ∷ no 14 0 ∷ [])
    (out 2 (single 1 (Working 0 0 0)))
    ∷ built "beside one within it"
    (out 3 (single 2 (Working 0 0 0))) (none ∷ [])
    (Refused 14 0 ∷ [])
    (no 14 0 ∷ no 14 0 ∷ [])
    (out 3 (single 2 (Working 0 0 0)))
    ∷ built "far past it"
    (out 2147483648 (single 1 (Working 1 1 1))) (none ∷ [])
    (Refused 14 0 ∷ [])
    (no 14 0 ∷ no 14 0 ∷ [])
    (out 2147483648 (single 1 (Working 1 1 1)))
    ∷ built "one within the count passes"
    (out 1 (single 1 (Working 1 1 1))) (none ∷ [])
    (Taken ∷ [])
    (on1 1 ∷ on1 1 ∷ [])
    (out 1 (single 1 (Working 2 2 2)))
    ∷ built "14 before 21 and 22"
    (two 1 2 (t 0 2 2 4 4 (Working 0 0 0)) (t 0 1 2 4 4 (Working 5 0 0))) (withdraw 1 ∷ withdraw 9 ∷ [])
    (Refused 14 0 ∷ Refused 14 0 ∷ [])
    (no 14 0 ∷ no 14 0 ∷ no 14 0 ∷ [])
    (two 1 2 (t 0 2 2 4 4 (Working 0 0 0)) (t 0 1 2 4 4 (Working 5 0 0)))
    ∷ built "32 tasks: the last position, and one past it"
    (many 32 (Resting 1)) (withdraw 32 ∷ withdraw 33 ∷ withdraw 1 ∷ [])
    (Taken ∷ Refused 22 0 ∷ Taken ∷ [])
    (on1 0 ∷ on1 0 ∷ on1 0 ∷ on1 0 ∷ [])
    (out 2147483649 (many 32 (Resting 1)))
    ∷ built "32 tasks, all withdrawn"
    (out 4294967295 (many 32 (Resting 1))) []
    []
    (on1 0 ∷ [])
    (out 4294967295 (many 32 (Resting 1)))
    ∷ built "31 tasks, and the position past them"
    (out 2147483648 (many 31 (Resting 1))) []
    []
    (no 14 0 ∷ [])
    (out 2147483648 (many 31 (Resting 1)))
    ∷ []

-- every line is its value by the definitions: one table with one check
pub withdrawn-runs : map worked-named withdraw-lines ≡ withdraw-lines
unfolding running rows
withdrawn-runs = refl

-- .. and of sets, computed (cited by none: an example of what the words of a withdrawal of several give)
pub withdrawn-sets : map worked-named set_lines ≡ set_lines
unfolding running rows
withdrawn-sets = refl
