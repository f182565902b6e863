-- Withdrawals (request 106), computed from the definitions: before the first release of a task, in its release tick, after it and at its deadline, twice, under
-- each rule, beside empty bits and reports, and by which number they are refused. The row before each entry is asked with its empty jobs.
use mathlib.Core.List.{List, [], map, ◌∷◌}
use mathlib.Core.Path.{refl, ◌≡◌}
use Rattle.model.proofs.Computing.{computing}
use Rattle.model.proofs.EmptyExamples.{least-task, line, no_places, one, pair, row-20}
use Rattle.model.proofs.Examples.{B, Line, on, t, two, worked}
use Rattle.model.specs.Advance.{advance, withdraw}
use Rattle.model.specs.Refusals.{refused, row_refused, taken}
use Rattle.model.specs.Lists.{book}
use Rattle.model.specs.Task.{Table, greedy, idling, limited}
use Rattle.model.specs.Verdict.{Firm, Full, Miss}

-- E, whose position 1 comes at tick 1, and C2, whose widths never fall
abbrev pub E : Table
E = on 1 limited (t 1 1 1 1 2 ∷ t 0 1 1 2 3 ∷ [])

abbrev pub C2 : Table
C2 = on 2 greedy (t 0 1 2 4 4 ∷ t 0 1 1 4 4 ∷ t 0 2 2 4 4 ∷ [])

abbrev pub withdraw-lines : List Line
withdraw-lines =
    line "withdrawn while it comes: its first job is empty at its release, and so is each later one"
    E (Firm 3 6)
    (withdraw 1 ∷ no_places ∷ no_places ∷ no_places ∷ no_places ∷ [])
    (taken ∷ taken ∷ taken ∷ taken ∷ taken ∷ [])
    (one 2 ∷ one 2 ∷ one 0 ∷ one 0 ∷ one 2 ∷ one 0 ∷ [])
    ∷ line "withdrawn in the release tick: the job of this very tick is empty"
    (pair greedy) (Firm 0 4)
    (withdraw 1 ∷ no_places ∷ no_places ∷ no_places ∷ no_places ∷ no_places ∷ [])
    (taken ∷ taken ∷ taken ∷ taken ∷ taken ∷ taken ∷ [])
    (one 1 ∷ one 2 ∷ one 0 ∷ one 0 ∷ one 0 ∷ one 2 ∷ one 0 ∷ [])
    ∷ line "a tick after the release: that job goes on, the next one is empty"
    (pair greedy) (Firm 0 4)
    (no_places ∷ withdraw 1 ∷ no_places ∷ no_places ∷ no_places ∷ no_places ∷ no_places ∷ [])
    (taken ∷ taken ∷ taken ∷ taken ∷ taken ∷ taken ∷ taken ∷ [])
    (one 1 ∷ one 1 ∷ one 1 ∷ one 2 ∷ one 0 ∷ one 2 ∷ one 0 ∷ one 0 ∷ [])
    ∷ line "a job that was released before and has had no tick goes on too"
    (pair limited) (Firm 0 4)
    (no_places ∷ withdraw 2 ∷ no_places ∷ no_places ∷ no_places ∷ no_places ∷ no_places ∷ no_places ∷ [])
    (taken ∷ taken ∷ taken ∷ taken ∷ taken ∷ taken ∷ taken ∷ taken ∷ [])
    (one 1 ∷ one 1 ∷ one 1 ∷ one 2 ∷ one 0 ∷ one 1 ∷ one 1 ∷ one 0 ∷ one 0 ∷ [])
    ∷ line "the job that goes on may be reported"
    (pair limited) (Firm 0 4)
    (no_places ∷ withdraw 1 ∷ advance 1 0 ∷ no_places ∷ no_places ∷ no_places ∷ [])
    (taken ∷ taken ∷ taken ∷ taken ∷ taken ∷ taken ∷ [])
    (one 1 ∷ one 1 ∷ one 1 ∷ one 2 ∷ one 0 ∷ one 2 ∷ one 0 ∷ [])
    ∷ line "twice is once; position 0 and one past the count"
    C2 (Firm 0 4)
    (no_places ∷ withdraw 1 ∷ withdraw 1 ∷ withdraw 0 ∷ withdraw 4 ∷ no_places ∷ no_places ∷ no_places ∷ advance 0 1 ∷ withdraw 3 ∷ [])
    (taken ∷ taken ∷ taken ∷ refused 22 0 ∷ refused 22 0 ∷ taken ∷ taken ∷ taken ∷ taken ∷ taken ∷ [])
    (two 1 2 ∷ two 1 0 ∷ two 1 0 ∷ two 1 0 ∷ two 1 0 ∷ two 1 0 ∷ two 3 3 ∷ two 3 3 ∷ two 2 0 ∷ two 3 3 ∷ two 3 3 ∷ [])
    ∷ line "an empty bit on a withdrawn position is no 20, a report on it is 16"
    C2 (Firm 0 4)
    (withdraw 1 ∷ advance 0 1 ∷ no_places ∷ no_places ∷ no_places ∷ advance 1 0 ∷ advance 0 3 ∷ [])
    (taken ∷ taken ∷ taken ∷ taken ∷ taken ∷ refused 16 0 ∷ taken ∷ [])
    (two 1 2 ∷ two 2 0 ∷ two 3 3 ∷ two 3 3 ∷ two 0 0 ∷ two 2 0 ∷ two 3 3 ∷ two 3 3 ∷ [])
    ∷ line "an empty bit after the release tick is 20, withdrawn or not"
    C2 (Firm 0 4)
    (withdraw 1 ∷ no_places ∷ advance 0 1 ∷ no_places ∷ [])
    (taken ∷ taken ∷ refused 20 0 ∷ taken ∷ [])
    (two 1 2 ∷ two 2 0 ∷ row-20 ∷ two 3 3 ∷ two 3 3 ∷ [])
    ∷ line "under idling the cores stay held in every period; a report on the holder is 16"
    (B idling) (Firm 0 4)
    (withdraw 1 ∷ advance 1 0 ∷ no_places ∷ no_places ∷ no_places ∷ no_places ∷ no_places ∷ no_places ∷ [])
    (taken ∷ refused 16 0 ∷ taken ∷ taken ∷ taken ∷ taken ∷ taken ∷ taken ∷ [])
    (two 1 3 ∷ two 1 3 ∷ two 1 3 ∷ two 1 3 ∷ two 1 0 ∷ two 2 2 ∷ two 1 3 ∷ two 1 3 ∷ two 1 0 ∷ [])
    ∷ line "every position withdrawn under idling: the rows are those of the full-length run"
    (B idling) (Firm 0 4)
    (withdraw 3 ∷ withdraw 1 ∷ withdraw 2 ∷ no_places ∷ no_places ∷ no_places ∷ no_places ∷ [])
    (taken ∷ taken ∷ taken ∷ taken ∷ taken ∷ taken ∷ taken ∷ [])
    (two 1 3 ∷ two 1 3 ∷ two 1 3 ∷ two 1 3 ∷ two 1 3 ∷ two 1 0 ∷ two 2 2 ∷ two 1 3 ∷ [])
    ∷ line "C, D and T of 1: each job is empty"
    (least-task limited) (Firm 0 1)
    (no_places ∷ withdraw 1 ∷ no_places ∷ no_places ∷ [])
    (taken ∷ taken ∷ taken ∷ taken ∷ [])
    (one 1 ∷ one 1 ∷ one 0 ∷ one 0 ∷ one 0 ∷ [])
    ∷ line "rule and widths that are not firm: 21 before 22, in every tick, late or not"
    (B greedy) (Full 0 4)
    (withdraw 1 ∷ withdraw 0 ∷ withdraw 9 ∷ advance 1 0 ∷ no_places ∷ withdraw 1 ∷ no_places ∷ withdraw 4 ∷ [])
    (refused 21 0 ∷ refused 21 0 ∷ refused 21 0 ∷ taken ∷ taken ∷ refused 21 0 ∷ refused 15 3 ∷ refused 21 0 ∷ [])
    (two 1 3 ∷ two 1 3 ∷ two 1 3 ∷ two 1 3 ∷ two 2 2 ∷ row_refused 15 3 ∷ row_refused 15 3 ∷ row_refused 15 3 ∷ row_refused 15 3 ∷ [])
    ∷ line "between refused advances"
    (pair greedy) (Firm 0 4)
    (advance 2 0 ∷ withdraw 1 ∷ advance 1 0 ∷ advance 2 0 ∷ advance 0 4 ∷ no_places ∷ [])
    (refused 16 0 ∷ taken ∷ refused 16 0 ∷ taken ∷ refused 20 0 ∷ taken ∷ [])
    (one 1 ∷ one 1 ∷ one 2 ∷ one 2 ∷ row-20 ∷ one 0 ∷ one 0 ∷ [])
    ∷ line "F at its deadline, late: 15 is not looked at; 22 is"
    (on 1 greedy (t 0 1 2 1 2 ∷ [])) (Miss 1 1)
    (no_places ∷ no_places ∷ withdraw 1 ∷ withdraw 2 ∷ no_places ∷ [])
    (taken ∷ refused 15 1 ∷ taken ∷ refused 22 0 ∷ refused 15 1 ∷ [])
    (one 1 ∷ row_refused 15 1 ∷ row_refused 15 1 ∷ row_refused 15 1 ∷ row_refused 15 1 ∷ row_refused 15 1 ∷ [])
    ∷ []

-- every line is its value by the definitions: one table with one check
pub withdraw-examples : map worked withdraw-lines ≡ withdraw-lines
unfolding computing
withdraw-examples = refl

-- the list's tick is that of its taken advances, and the withdrawn set is kept in them: two advances and two positions, one of them twice
pub tick-and-set :
    ((book C2 (no_places ∷ withdraw 3 ∷ withdraw 1 ∷ advance 4 0 ∷ withdraw 1 ∷ no_places ∷ withdraw 4 ∷ [])).tick ≡ 2)
    × ((book C2 (no_places ∷ withdraw 3 ∷ withdraw 1 ∷ advance 4 0 ∷ withdraw 1 ∷ no_places ∷ withdraw 4 ∷ [])).withdrawn ≡ 5)
unfolding computing
tick-and-set = (refl, refl)
