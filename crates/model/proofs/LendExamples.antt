-- Lending (request 109), computed from the definitions: figure 3 of Goossens and Berten, which places lend and borrow which cores, that a lent tick is work
-- and no reserved tick, and which jobs may be reported. The row before each entry is asked with its empty jobs.
use mathlib.Core.List.{List, [], map, ◌∷◌}
use mathlib.Core.Path.{refl, ◌≡◌}
use Rattle.model.proofs.Computing.{computing}
use Rattle.model.proofs.EmptyExamples.{line, no_places, one}
use Rattle.model.proofs.Examples.{B, Line, fenced_on, on, t, t₂, three, two, worked}
use Rattle.model.specs.Advance.{advance, withdraw}
use Rattle.model.specs.Refusals.{refused, shown, taken}
use Rattle.model.specs.Task.{Table, lending}
use Rattle.model.specs.Verdict.{Firm, Miss}

-- the jobs of figure 3 of Goossens and Berten, limited slack reclaiming, as tasks of period 6
abbrev pub figure-3 : Table
figure-3 = on 3 lending (t 0 2 3 6 6 ∷ t 0 3 1 6 6 ∷ t 0 1 2 6 6 ∷ t 0 1 2 6 6 ∷ t 0 2 2 6 6 ∷ t 0 1 1 6 6 ∷ [])

abbrev pub lend-lines : List Line
lend-lines =
    line "figure 3, left: at full length nobody lends"
    figure-3 (Firm 0 6)
    (no_places ∷ no_places ∷ no_places ∷ no_places ∷ no_places ∷ [])
    (taken ∷ taken ∷ taken ∷ taken ∷ taken ∷ [])
    (three 1 1 3 ∷ three 1 1 3 ∷ three 1 1 4 ∷ three 2 2 2 ∷ three 4 5 5 ∷ three 5 5 6 ∷ [])
    ∷ line "figure 3, right: position 1 ends in tick 0 and lends, first to 4 and 6, then to 5"
    figure-3 (Firm 0 6)
    (advance 1 0 ∷ no_places ∷ no_places ∷ no_places ∷ no_places ∷ no_places ∷ [])
    (taken ∷ taken ∷ taken ∷ taken ∷ taken ∷ taken ∷ [])
    (three 1 1 3 ∷ three 4 6 3 ∷ three 5 5 4 ∷ three 2 2 2 ∷ three 4 5 5 ∷ three 5 5 6 ∷ three 1 1 3 ∷ [])
    ∷ line "a lender may not be reported, nor one that gets nothing; one that is served may"
    figure-3 (Firm 0 6)
    (advance 1 0 ∷ advance 1 0 ∷ advance 16 0 ∷ advance 2 0 ∷ advance 8 0 ∷ no_places ∷ [])
    (taken ∷ refused 16 0 ∷ refused 16 0 ∷ refused 16 0 ∷ taken ∷ taken ∷ [])
    (three 1 1 3 ∷ three 4 6 3 ∷ three 4 6 3 ∷ three 4 6 3 ∷ three 4 6 3 ∷ three 5 5 4 ∷ three 2 2 2 ∷ [])
    ∷ line "an empty job lends in its release tick, and who is served may be reported in that very advance"
    figure-3 (Firm 0 6)
    (advance 1 1 ∷ advance 8 1 ∷ no_places ∷ [])
    (refused 16 0 ∷ taken ∷ taken ∷ [])
    (three 4 6 3 ∷ three 4 6 3 ∷ three 5 5 3 ∷ three 5 5 4 ∷ [])
    ∷ line "a withdrawn one lends in every release tick from then on"
    (on 2 lending (t 0 2 1 3 3 ∷ t 0 1 2 3 3 ∷ [])) (Firm 0 3)
    (no_places ∷ no_places ∷ withdraw 1 ∷ no_places ∷ no_places ∷ no_places ∷ [])
    (taken ∷ taken ∷ taken ∷ taken ∷ taken ∷ taken ∷ [])
    (two 1 1 ∷ two 2 0 ∷ two 2 0 ∷ two 2 0 ∷ two 2 1 ∷ two 2 0 ∷ two 2 0 ∷ [])
    ∷ line "the row shows the borrower, and the lender on what it keeps"
    (on 3 lending (t 0 3 2 4 4 ∷ t 0 2 2 4 4 ∷ [])) (Firm 0 4)
    (advance 1 0 ∷ no_places ∷ no_places ∷ [])
    (taken ∷ taken ∷ taken ∷ [])
    (three 1 1 1 ∷ three 2 2 1 ∷ three 2 2 0 ∷ three 2 2 0 ∷ [])
    ∷ line "the lowest unlent cores in turn, by priority"
    (on 4 lending (t 0 4 2 4 4 ∷ t 0 1 1 4 4 ∷ t 0 2 1 4 4 ∷ t 0 1 1 4 4 ∷ [])) (Firm 0 4)
    (advance 1 0 ∷ no_places ∷ [])
    (taken ∷ taken ∷ [])
    (shown (1 ∷ 1 ∷ 1 ∷ 1 ∷ []) ∷ shown (2 ∷ 3 ∷ 3 ∷ 4 ∷ []) ∷ shown (2 ∷ 3 ∷ 3 ∷ 4 ∷ []) ∷ [])
    ∷ line "one that fits only in part is passed over, for one below it"
    (on 3 lending (t 0 3 2 9 9 ∷ t 0 2 2 9 9 ∷ t 0 2 2 9 9 ∷ t 0 1 1 9 9 ∷ [])) (Firm 0 9)
    (advance 1 0 ∷ no_places ∷ no_places ∷ [])
    (taken ∷ taken ∷ taken ∷ [])
    (three 1 1 1 ∷ three 2 2 4 ∷ three 2 2 4 ∷ three 3 3 0 ∷ [])
    ∷ line "two lenders, and one as wide as both: it gets nothing"
    (on 2 lending (t 0 1 2 9 9 ∷ t 0 1 2 9 9 ∷ t 0 2 1 9 9 ∷ [])) (Firm 0 9)
    (advance 3 0 ∷ advance 4 0 ∷ no_places ∷ no_places ∷ [])
    (taken ∷ refused 16 0 ∷ taken ∷ taken ∷ [])
    (two 1 2 ∷ two 1 2 ∷ two 1 2 ∷ two 3 3 ∷ two 0 0 ∷ [])
    ∷ line "two lenders, and one that fits in each: the first serves it, once"
    (on 2 lending (t 0 1 2 9 9 ∷ t 0 1 2 9 9 ∷ t 0 1 3 9 9 ∷ [])) (Firm 0 9)
    (advance 3 0 ∷ no_places ∷ no_places ∷ [])
    (taken ∷ taken ∷ taken ∷ [])
    (two 1 2 ∷ two 3 2 ∷ two 3 0 ∷ two 3 0 ∷ [])
    ∷ line "two lenders, and two that fit in each: one from each"
    (on 2 lending (t 0 1 2 9 9 ∷ t 0 1 2 9 9 ∷ t 0 1 3 9 9 ∷ t 0 1 2 9 9 ∷ [])) (Firm 0 9)
    (advance 3 0 ∷ advance 8 0 ∷ advance 8 0 ∷ no_places ∷ [])
    (taken ∷ taken ∷ refused 16 0 ∷ taken ∷ [])
    (two 1 2 ∷ two 3 4 ∷ two 3 4 ∷ two 3 4 ∷ two 3 4 ∷ [])
    ∷ line "too wide for the first lender, served by the second"
    (on 3 lending (t 0 1 2 9 9 ∷ t 0 2 2 9 9 ∷ t 0 2 1 9 9 ∷ [])) (Firm 0 9)
    (advance 3 0 ∷ no_places ∷ no_places ∷ [])
    (taken ∷ taken ∷ taken ∷ [])
    (three 1 2 2 ∷ three 1 3 3 ∷ three 3 3 0 ∷ three 0 0 0 ∷ [])
    ∷ line "one that ends in this tick lends from the next"
    (on 1 lending (t 0 1 2 4 4 ∷ t 0 1 2 4 4 ∷ [])) (Firm 0 4)
    (advance 1 0 ∷ no_places ∷ no_places ∷ no_places ∷ [])
    (taken ∷ taken ∷ taken ∷ taken ∷ [])
    (one 1 ∷ one 2 ∷ one 2 ∷ one 2 ∷ one 1 ∷ [])
    ∷ line "work ends by lent ticks; its own cores are then held, and lent"
    (on 1 lending (t 0 1 3 9 9 ∷ t 0 1 2 9 9 ∷ t 0 1 2 9 9 ∷ [])) (Firm 0 9)
    (advance 1 0 ∷ no_places ∷ no_places ∷ advance 2 0 ∷ advance 4 0 ∷ no_places ∷ no_places ∷ [])
    (taken ∷ taken ∷ taken ∷ refused 16 0 ∷ taken ∷ taken ∷ taken ∷ [])
    (one 1 ∷ one 2 ∷ one 2 ∷ one 3 ∷ one 3 ∷ one 2 ∷ one 3 ∷ one 3 ∷ [])
    ∷ line "a lent tick is no reserved one: position 2 has had its two, and holds in tick 3"
    (on 2 lending (t 0 2 2 9 9 ∷ t 0 1 2 9 9 ∷ t 0 2 1 9 9 ∷ [])) (Firm 0 9)
    (advance 1 0 ∷ no_places ∷ no_places ∷ no_places ∷ no_places ∷ [])
    (taken ∷ taken ∷ taken ∷ taken ∷ taken ∷ [])
    (two 1 1 ∷ two 2 1 ∷ two 2 0 ∷ two 2 0 ∷ two 3 3 ∷ two 0 0 ∷ [])
    ∷ line "one that ended while it borrowed, reported, holds all its C ticks later"
    (on 2 lending (t 0 2 2 9 9 ∷ t 0 1 2 9 9 ∷ t 0 2 1 9 9 ∷ [])) (Firm 0 9)
    (advance 1 0 ∷ advance 2 0 ∷ no_places ∷ advance 2 0 ∷ no_places ∷ no_places ∷ [])
    (taken ∷ taken ∷ taken ∷ refused 16 0 ∷ taken ∷ taken ∷ [])
    (two 1 1 ∷ two 2 1 ∷ two 2 0 ∷ two 2 0 ∷ two 2 0 ∷ two 3 3 ∷ two 0 0 ∷ [])
    ∷ line "one that ended by lent ticks has nothing to lend before cores are reserved for it"
    (on 2 lending (t 0 2 3 9 9 ∷ t 0 1 1 9 9 ∷ t 0 2 1 9 9 ∷ t 0 1 3 9 9 ∷ [])) (Firm 0 9)
    (advance 1 0 ∷ no_places ∷ no_places ∷ no_places ∷ [])
    (taken ∷ taken ∷ taken ∷ taken ∷ [])
    (two 1 1 ∷ two 2 4 ∷ two 3 3 ∷ two 2 4 ∷ two 4 3 ∷ [])
    ∷ line "one that has not come borrows nothing"
    (on 1 lending (t 0 1 2 5 5 ∷ t 1 1 1 4 5 ∷ [])) (Firm 1 5)
    (advance 0 1 ∷ no_places ∷ no_places ∷ [])
    (taken ∷ taken ∷ taken ∷ [])
    (one 1 ∷ one 2 ∷ one 2 ∷ one 0 ∷ [])
    ∷ line "figure 3 with a fence"
    (fenced_on 5 5 lending figure-3.tasks) (Firm 0 6)
    (advance 1 0 ∷ no_places ∷ no_places ∷ [])
    (taken ∷ taken ∷ taken ∷ [])
    (shown (255 ∷ 1 ∷ 255 ∷ 1 ∷ 3 ∷ []) ∷ shown (255 ∷ 4 ∷ 255 ∷ 6 ∷ 3 ∷ []) ∷ shown (255 ∷ 5 ∷ 255 ∷ 5 ∷ 4 ∷ []) ∷ shown (255 ∷ 2 ∷ 255 ∷ 2 ∷ 2 ∷ []) ∷ [])
    ∷ line "two widths: position 2 is too wide in its odd job, and borrows one of two cores in its even one"
    (on 2 lending (t₂ 0 1 2 2 3 3 ∷ t₂ 0 2 1 1 3 3 ∷ [])) (Firm 0 6)
    (advance 1 0 ∷ no_places ∷ no_places ∷ advance 1 0 ∷ no_places ∷ no_places ∷ [])
    (taken ∷ taken ∷ taken ∷ taken ∷ taken ∷ taken ∷ [])
    (two 1 0 ∷ two 1 0 ∷ two 2 2 ∷ two 1 1 ∷ two 2 1 ∷ two 2 0 ∷ two 1 0 ∷ [])
    ∷ line "nobody is left to borrow: the rows are those of the full-length run"
    (B lending) (Firm 0 4)
    (withdraw 3 ∷ withdraw 1 ∷ withdraw 2 ∷ no_places ∷ no_places ∷ no_places ∷ no_places ∷ [])
    (taken ∷ taken ∷ taken ∷ taken ∷ taken ∷ taken ∷ taken ∷ [])
    (two 1 3 ∷ two 1 3 ∷ two 1 3 ∷ two 1 3 ∷ two 1 3 ∷ two 1 0 ∷ two 2 2 ∷ two 1 3 ∷ [])
    ∷ line "a miss is idling's"
    (on 1 lending (t 0 1 1 2 2 ∷ t 0 1 2 2 2 ∷ [])) (Miss 2 2)
    [] [] (one 1 ∷ [])
    ∷ []

-- every line is its value by the definitions: one table with one check
pub lend-examples : map worked lend-lines ≡ lend-lines
unfolding computing
lend-examples = refl
