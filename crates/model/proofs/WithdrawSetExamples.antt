-- Several positions withdrawn together (request 113), computed from the definitions: all, some and none of a table's, under each rule, in the release
-- tick and after it, positions that are withdrawn already, and by which number a set is refused. The row before each entry is asked with its empty jobs
-- only.
use mathlib.Core.List.{List, [], map, ◌∷◌}
use mathlib.Core.Path.{refl, sym, ◌≡◌}
use Prim.Native.Nat.{suc, zero}
use native.Mathlib.Omega.{arith}
use Rattle.model.proofs.Computing.{computing}
use Rattle.model.proofs.EmptyExamples.{line, no_places, one, pair}
use Rattle.model.proofs.Examples.{B, Line, on, t, three, two, worked}
use Rattle.model.proofs.WithdrawSet.{members, members-bit}
use Rattle.model.proofs.WithdrawExamples.{C2, E}
use Rattle.model.specs.Advance.{advance, withdraw, withdraw_all}
use Rattle.model.specs.Refusals.{refused, row_refused, taken}
use Rattle.model.specs.Lists.{book}
use Rattle.model.specs.Local.{SameBits, SameEntries, SameReports, relevant}
use Rattle.model.specs.Task.{Table, greedy, idling, lending, limited}
use Rattle.model.specs.WithdrawSet.{Enumerates}
use Rattle.model.specs.Verdict.{Firm, Full, Miss}

-- four tasks that take turns on one core
abbrev four : Table
four = on 1 limited (t 0 1 1 4 4 ∷ t 0 1 1 4 4 ∷ t 0 1 1 4 4 ∷ t 0 1 1 4 4 ∷ [])

abbrev pub together-lines : List Line
together-lines =
    line "four out together, in the release tick of all"
    four (Firm 0 4) (withdraw_all 15 ∷ no_places ∷ no_places ∷ []) (taken ∷ taken ∷ taken ∷ []) (one 1 ∷ one 0 ∷ one 0 ∷ one 0 ∷ [])
    ∷ line "two of the four: the others run as ever"
    four (Firm 0 4)
    (withdraw_all 10 ∷ no_places ∷ no_places ∷ no_places ∷ no_places ∷ [])
    (taken ∷ taken ∷ taken ∷ taken ∷ taken ∷ [])
    (one 1 ∷ one 1 ∷ one 3 ∷ one 0 ∷ one 0 ∷ one 1 ∷ [])
    ∷ line "a bit at the count: 22, and the positions below it are not withdrawn"
    four (Firm 0 4) (withdraw_all 17 ∷ withdraw_all 16 ∷ no_places ∷ []) (refused 22 0 ∷ refused 22 0 ∷ taken ∷ []) (one 1 ∷ one 1 ∷ one 1 ∷ one 2 ∷ [])
    ∷ line "the empty set of a firm table is taken, and changes nothing"
    four (Firm 0 4) (withdraw_all 0 ∷ no_places ∷ []) (taken ∷ taken ∷ []) (one 1 ∷ one 1 ∷ one 2 ∷ [])
    ∷ line "positions that are withdrawn already: the sets are joined"
    four (Firm 0 4)
    (withdraw_all 3 ∷ withdraw 2 ∷ withdraw_all 6 ∷ no_places ∷ [])
    (taken ∷ taken ∷ taken ∷ taken ∷ [])
    (one 1 ∷ one 3 ∷ one 3 ∷ one 4 ∷ one 0 ∷ [])
    ∷ line "jobs that were released before go on, the next ones are empty"
    (pair limited) (Firm 0 4)
    (no_places ∷ withdraw_all 3 ∷ no_places ∷ no_places ∷ no_places ∷ no_places ∷ no_places ∷ [])
    (taken ∷ taken ∷ taken ∷ taken ∷ taken ∷ taken ∷ taken ∷ [])
    (one 1 ∷ one 1 ∷ one 1 ∷ one 2 ∷ one 0 ∷ one 0 ∷ one 0 ∷ one 0 ∷ [])
    ∷ line "all of a table of which one still comes"
    E (Firm 3 6) (withdraw_all 3 ∷ no_places ∷ no_places ∷ no_places ∷ []) (taken ∷ taken ∷ taken ∷ taken ∷ []) (one 2 ∷ one 0 ∷ one 0 ∷ one 0 ∷ one 0 ∷ [])
    ∷ line "rule 1 in the width order; an empty bit on a withdrawn position is no 20"
    C2 (Firm 0 4)
    (withdraw_all 5 ∷ advance 0 1 ∷ no_places ∷ no_places ∷ no_places ∷ no_places ∷ [])
    (taken ∷ taken ∷ taken ∷ taken ∷ taken ∷ taken ∷ [])
    (two 1 2 ∷ two 2 0 ∷ two 0 0 ∷ two 0 0 ∷ two 0 0 ∷ two 2 0 ∷ two 0 0 ∷ [])
    ∷ line "all under idling: the rows are those of the full-length run"
    (B idling) (Firm 0 4)
    (withdraw_all 7 ∷ no_places ∷ no_places ∷ no_places ∷ no_places ∷ [])
    (taken ∷ taken ∷ taken ∷ taken ∷ taken ∷ [])
    (two 1 3 ∷ two 1 3 ∷ two 1 3 ∷ two 1 0 ∷ two 2 2 ∷ two 1 3 ∷ [])
    ∷ line "under rule 4 two that hold, of which the first lends"
    (on 3 lending (t 0 2 3 6 6 ∷ t 0 3 1 6 6 ∷ t 0 1 2 6 6 ∷ t 0 1 2 6 6 ∷ t 0 2 2 6 6 ∷ t 0 1 1 6 6 ∷ [])) (Firm 0 6)
    (withdraw_all 3 ∷ no_places ∷ []) (taken ∷ taken ∷ []) (three 1 1 3 ∷ three 4 6 3 ∷ three 4 1 3 ∷ [])
    ∷ line "rule and widths that are not firm: 21 for every set, for the empty one too, and before 22; late or not"
    (B greedy) (Full 0 4)
    (withdraw_all 0 ∷ withdraw_all 1 ∷ withdraw_all 8 ∷ advance 1 0 ∷ no_places ∷ no_places ∷ withdraw_all 0 ∷ [])
    (refused 21 0 ∷ refused 21 0 ∷ refused 21 0 ∷ taken ∷ taken ∷ refused 15 3 ∷ refused 21 0 ∷ [])
    (two 1 3 ∷ two 1 3 ∷ two 1 3 ∷ two 1 3 ∷ two 2 2 ∷ row_refused 15 3 ∷ row_refused 15 3 ∷ row_refused 15 3 ∷ [])
    ∷ line "F at its deadline, late: 15 is not looked at; 22 is"
    (on 1 greedy (t 0 1 2 1 2 ∷ [])) (Miss 1 1)
    (no_places ∷ withdraw_all 0 ∷ withdraw_all 2 ∷ withdraw_all 3 ∷ withdraw_all 1 ∷ no_places ∷ [])
    (taken ∷ taken ∷ refused 22 0 ∷ refused 22 0 ∷ taken ∷ refused 15 1 ∷ [])
    (one 1 ∷ row_refused 15 1 ∷ row_refused 15 1 ∷ row_refused 15 1 ∷ row_refused 15 1 ∷ row_refused 15 1 ∷ row_refused 15 1 ∷ [])
    ∷ []

-- every line is its value by the definitions: one table with one check
pub together-examples : map worked together-lines ≡ together-lines
unfolding computing
together-examples = refl

-- a set adds no tick and is joined; one that is refused, and the empty one, leave the withdrawn set as it is
pub tick-and-set :
    ((book C2 (withdraw_all 5 ∷ no_places ∷ withdraw_all 8 ∷ withdraw_all 10 ∷ withdraw_all 0 ∷ [])).tick ≡ 1)
    × ((book C2 (withdraw_all 5 ∷ no_places ∷ withdraw_all 8 ∷ withdraw_all 10 ∷ withdraw_all 0 ∷ [])).withdrawn ≡ 5)
    × ((book C2 (withdraw 1 ∷ withdraw_all 6 ∷ [])).withdrawn ≡ 7)
unfolding computing
tick-and-set = (refl, refl, refl)

-- a list of the places of a set in another order, one of them twice
pub any_order : Enumerates 5 (2 ∷ 0 ∷ 2 ∷ [])
unfolding members
any_order q = sym (members-bit (2 ∷ 0 ∷ 2 ∷ []) q)

-- entries restricted to position 1: withdrawals below it are dropped, single or of a set; a set that has it is equal to the single one, whatever positions
-- below it are in the set
pub same-reports :
    SameReports 1 (withdraw 2 ∷ []) []
    × SameReports 1 (withdraw_all 2 ∷ no_places ∷ []) (no_places ∷ [])
    × SameReports 1 (withdraw_all 3 ∷ []) (withdraw 1 ∷ [])
    × SameReports 1 (withdraw 1 ∷ []) (withdraw_all 3 ∷ [])
    × SameReports 1 (withdraw_all 3 ∷ []) (withdraw_all 1 ∷ [])
    × SameReports 1 (advance 3 1 ∷ []) (advance 1 3 ∷ [])
unfolding computing relevant SameEntries
same-reports = (tt, ((λ q l. refl, λ q l. refl), tt), (more, tt), (fewer, tt), (more, tt), ((more, fewer), tt))
  where
    more : SameBits 1 3 1
    more zero l = refl
    more (suc q) l = absurd (omega arith)

    fewer : SameBits 1 1 3
    fewer q l = sym (more q l)
