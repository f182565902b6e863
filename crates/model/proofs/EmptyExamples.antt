-- Empty jobs (request 105), computed from the definitions: under each rule, at the least C, D and T, where they may not be, and in what order
-- the numbers come. The row before each advance is asked with its empty jobs, the row after the last with none.
use mathlib.Core.List.{List, [], map, ◌∷◌}
use mathlib.Core.Path.{refl, ◌≡◌}
use Prim.Native.Nat.{ℕ}
use Prim.Native.String.{String}
use Rattle.model.proofs.Computing.{computing}
use Rattle.model.proofs.Examples.{B, Line, on, t, two, worked}
use Rattle.model.specs.Advance.{Entry, advance}
use Rattle.model.specs.Refusals.{Answer, Asked, refused, row_refused, shown, taken}
use Rattle.model.specs.Task.{Rule, Table, greedy, idling, limited}
use Rattle.model.specs.Verdict.{Firm, Full, Verdict}

-- an advance with a set of reports and a set of empty jobs, and one with both empty
abbrev sets : ℕ → ℕ → Entry
sets x e = advance x e

abbrev pub no_places : Entry
no_places = sets 0 0

-- a line from its parts
abbrev pub line : String → Table → Verdict → List Entry → List Answer → List Asked → Line
line n s v xs ws rs = record { name = n; table = s; entries = xs; result = v; answers = ws; rows = rs }

-- the row of one core, and a row refused by 20
abbrev pub one : ℕ → Asked
one a = shown (a ∷ [])

abbrev pub row-20 : Asked
row-20 = row_refused 20 0

-- two tasks on one core, one task with C, D and T of 1, and two tasks as wide as the box
abbrev pub pair : Rule → Table
pair r = on 1 r (t 0 1 2 4 4 ∷ t 0 1 1 4 4 ∷ [])

abbrev pub least-task : Rule → Table
least-task r = on 1 r (t 0 1 1 1 1 ∷ [])

abbrev wide : Table
wide = on 2 greedy (t 0 2 2 5 5 ∷ t 0 2 3 5 5 ∷ [])

abbrev pub empty-lines : List Line
empty-lines =
    line "under greedy an empty job claims nothing"
    (pair greedy) (Firm 0 4) (sets 0 1 ∷ no_places ∷ no_places ∷ []) (taken ∷ taken ∷ taken ∷ []) (one 2 ∷ one 0 ∷ one 0 ∷ one 0 ∷ [])
    ∷ line "under limited an empty job claims nothing"
    (pair limited) (Firm 0 4) (sets 0 1 ∷ no_places ∷ no_places ∷ []) (taken ∷ taken ∷ taken ∷ []) (one 2 ∷ one 0 ∷ one 0 ∷ one 0 ∷ [])
    ∷ line "under idling an empty job holds for C ticks"
    (pair idling) (Firm 0 4) (sets 0 1 ∷ no_places ∷ no_places ∷ []) (taken ∷ taken ∷ taken ∷ []) (one 1 ∷ one 1 ∷ one 2 ∷ one 0 ∷ [])
    ∷ line "B3 with every job empty: the rows are those of its full-length run"
    (B idling) (Firm 0 4) (sets 0 7 ∷ no_places ∷ no_places ∷ no_places ∷ []) (taken ∷ taken ∷ taken ∷ taken ∷ [])
    (two 1 3 ∷ two 1 3 ∷ two 1 0 ∷ two 2 2 ∷ two 1 3 ∷ [])
    ∷ line "under idling an empty job without cores in its first tick, and an empty bit on the hold"
    (on 1 idling (t 0 1 2 3 3 ∷ t 0 1 1 3 3 ∷ [])) (Firm 0 3) (sets 0 2 ∷ sets 0 2 ∷ no_places ∷ [])
    (taken ∷ refused 20 0 ∷ taken ∷ []) (one 1 ∷ row-20 ∷ one 1 ∷ one 2 ∷ [])
    ∷ line "C, D and T of 1: a job is released in every tick, and each may be empty"
    (least-task limited) (Firm 0 1) (sets 0 1 ∷ no_places ∷ sets 0 1 ∷ []) (taken ∷ taken ∷ taken ∷ []) (one 0 ∷ one 1 ∷ one 0 ∷ one 1 ∷ [])
    ∷ line "the same under idling, where each has its core"
    (least-task idling) (Firm 0 1) (sets 0 1 ∷ no_places ∷ sets 0 1 ∷ []) (taken ∷ taken ∷ taken ∷ []) (one 1 ∷ one 1 ∷ one 1 ∷ one 1 ∷ [])
    ∷ line "15 before 20"
    (B greedy) (Full 0 4) (sets 1 0 ∷ no_places ∷ sets 0 8 ∷ sets 8 8 ∷ []) (taken ∷ taken ∷ refused 15 3 ∷ refused 15 3 ∷ [])
    (two 1 3 ∷ two 2 2 ∷ row_refused 15 3 ∷ row_refused 15 3 ∷ row_refused 15 3 ∷ [])
    ∷ line "20 before 16; a bit past the count is 20"
    (B greedy) (Full 0 4) (sets 8 8 ∷ sets 8 0 ∷ sets 1 8 ∷ []) (refused 20 0 ∷ refused 16 0 ∷ refused 20 0 ∷ [])
    (row-20 ∷ two 1 3 ∷ row-20 ∷ two 1 3 ∷ [])
    ∷ line "a report on an empty job is 16, and nothing of that advance is kept: position 1 still works"
    (B greedy) (Full 0 4) (sets 1 1 ∷ no_places ∷ []) (refused 16 0 ∷ taken ∷ []) (two 2 2 ∷ two 1 3 ∷ two 1 3 ∷ [])
    ∷ line "the same under idling, where it has cores; in its second tick a report on the holder is 16 and an empty bit 20"
    (B idling) (Firm 0 4) (sets 1 1 ∷ sets 0 1 ∷ sets 1 0 ∷ sets 0 1 ∷ no_places ∷ [])
    (refused 16 0 ∷ taken ∷ refused 16 0 ∷ refused 20 0 ∷ taken ∷ []) (two 1 3 ∷ two 1 3 ∷ two 1 3 ∷ row-20 ∷ two 1 3 ∷ two 1 0 ∷ [])
    ∷ line "a report on position 2, which gets cores only because position 1 is empty"
    wide (Firm 0 5) (sets 2 0 ∷ sets 2 1 ∷ []) (refused 16 0 ∷ taken ∷ []) (two 1 1 ∷ two 2 2 ∷ two 0 0 ∷ [])
    ∷ line "a job released a tick ago is not empty any more, whether it has worked or has waited"
    (pair greedy) (Firm 0 4) (no_places ∷ sets 0 1 ∷ sets 0 2 ∷ no_places ∷ []) (taken ∷ refused 20 0 ∷ refused 20 0 ∷ taken ∷ [])
    (one 1 ∷ row-20 ∷ row-20 ∷ one 1 ∷ one 2 ∷ [])
    ∷ line "E: position 1 comes at tick 1; an empty bit is 20 before, and is taken at its release"
    (on 1 limited (t 1 1 1 1 2 ∷ t 0 1 1 2 3 ∷ [])) (Firm 3 6) (sets 0 1 ∷ no_places ∷ sets 0 1 ∷ no_places ∷ [])
    (refused 20 0 ∷ taken ∷ taken ∷ taken ∷ []) (row-20 ∷ one 2 ∷ one 0 ∷ one 0 ∷ one 1 ∷ [])
    ∷ line "B with position 1 empty: position 2 takes both cores, and position 3 is late"
    (B greedy) (Full 0 4) (sets 0 1 ∷ no_places ∷ no_places ∷ []) (taken ∷ taken ∷ refused 15 3 ∷ [])
    (two 2 2 ∷ two 3 0 ∷ row_refused 15 3 ∷ row_refused 15 3 ∷ [])
    ∷ []

-- every line is its value by the definitions: one table with one check
pub empty-examples : map worked empty-lines ≡ empty-lines
unfolding computing
empty-examples = refl
