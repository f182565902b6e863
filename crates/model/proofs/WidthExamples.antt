-- Odd and even widths (request 108), computed from the definitions: which job has which width, what P counts with, what is firm, and that
-- the parity changes with every job, an empty or withdrawn one included. The row before each entry is asked with its empty jobs.
use mathlib.Core.List.{List, [], map, ◌∷◌}
use mathlib.Core.Path.{refl, ◌≡◌}
use Rattle.model.proofs.Computing.{computing}
use Rattle.model.proofs.EmptyExamples.{line, no_places}
use Rattle.model.proofs.Examples.{Line, fenced_on, on, t, t₂, two, worked}
use Rattle.model.specs.Advance.{advance, withdraw}
use Rattle.model.specs.Refusals.{refused, row_refused, shown, taken}
use Rattle.model.specs.Search.{up_from}
use Rattle.model.specs.Task.{Rule, Table, cycle, greedy, idling, limited, narrowest, widest, width_of}
use Rattle.model.specs.Verdict.{Firm, Full, Miss}

-- one task with C, D and T of 1, and widths 1 and 2
abbrev pub alternating : Rule → Table
alternating r = on 2 r (t₂ 0 1 2 1 1 1 ∷ [])

abbrev pub width-lines : List Line
width-lines =
    line "a job is released where the one before it ends: the same claimant, the other width"
    (alternating limited) (Firm 0 2) (no_places ∷ no_places ∷ no_places ∷ []) (taken ∷ taken ∷ taken ∷ []) (two 1 0 ∷ two 1 1 ∷ two 1 0 ∷ two 1 1 ∷ [])
    ∷ line "first wide, then narrow, for all of the job"
    (on 2 greedy (t₂ 0 2 1 2 3 3 ∷ t 0 1 1 3 3 ∷ [])) (Full 0 6) (no_places ∷ no_places ∷ no_places ∷ no_places ∷ no_places ∷ []) (taken ∷ taken ∷ taken ∷ taken ∷ taken ∷ [])
    (two 1 1 ∷ two 1 1 ∷ two 2 0 ∷ two 1 2 ∷ two 1 0 ∷ two 0 0 ∷ [])
    ∷ line "the even job of position 2 does not fit, and misses in the second half of 2T: P takes 2T"
    (on 2 greedy (t 0 1 1 1 1 ∷ t₂ 0 1 2 1 1 1 ∷ [])) (Miss 2 2) (no_places ∷ no_places ∷ no_places ∷ []) (taken ∷ taken ∷ refused 15 2 ∷ [])
    (two 1 2 ∷ two 1 0 ∷ row_refused 15 2 ∷ row_refused 15 2 ∷ [])
    ∷ line "2T stands in P, T in S: position 2 begins at its second release, an even one"
    (on 2 limited (t 1 1 1 2 2 ∷ t₂ 0 1 2 1 2 3 ∷ [])) (Firm 3 6) (no_places ∷ no_places ∷ no_places ∷ no_places ∷ []) (taken ∷ taken ∷ taken ∷ taken ∷ [])
    (two 2 0 ∷ two 1 0 ∷ two 0 0 ∷ two 1 0 ∷ two 2 2 ∷ [])
    ∷ line "the larger width of each task is at most the smaller of the next: firm"
    (on 2 greedy (t 0 1 1 2 2 ∷ t₂ 0 1 2 1 2 2 ∷ [])) (Firm 0 4) (no_places ∷ no_places ∷ no_places ∷ []) (taken ∷ taken ∷ taken ∷ []) (two 1 2 ∷ two 0 0 ∷ two 1 0 ∷ two 2 2 ∷ [])
    ∷ line "both widths rise but cross, 1 and 3 before 2 and 3: full, and a withdrawal is 21"
    (on 3 greedy (t₂ 0 1 3 1 2 2 ∷ t₂ 0 2 3 1 2 2 ∷ [])) (Full 0 4) (withdraw 1 ∷ []) (refused 21 0 ∷ [])
    (shown (1 ∷ 2 ∷ 2 ∷ []) ∷ shown (1 ∷ 2 ∷ 2 ∷ []) ∷ [])
    ∷ line "v rises and w rises, and where position 1 ends early position 3 is late"
    (on 4 greedy (t₂ 1 2 1 2 2 4 ∷ t₂ 2 3 1 1 3 4 ∷ t₂ 0 4 2 1 1 2 ∷ [])) (Full 2 8)
    (no_places ∷ advance 1 0 ∷ no_places ∷ no_places ∷ []) (taken ∷ taken ∷ taken ∷ refused 15 3 ∷ [])
    (shown (3 ∷ 3 ∷ 3 ∷ 3 ∷ []) ∷ shown (1 ∷ 1 ∷ 0 ∷ 0 ∷ []) ∷ shown (2 ∷ 2 ∷ 2 ∷ 0 ∷ []) ∷ row_refused 15 3 ∷ row_refused 15 3 ∷ [])
    ∷ line "one task alone is firm with any two widths"
    (alternating greedy) (Firm 0 2) (withdraw 1 ∷ []) (taken ∷ []) (two 1 0 ∷ two 0 0 ∷ [])
    ∷ line "limited is firm with any widths"
    (on 3 limited (t₂ 0 3 1 1 2 2 ∷ t₂ 0 2 1 1 2 2 ∷ [])) (Firm 0 4) (no_places ∷ no_places ∷ no_places ∷ []) (taken ∷ taken ∷ taken ∷ [])
    (shown (1 ∷ 1 ∷ 1 ∷ []) ∷ shown (2 ∷ 2 ∷ 0 ∷ []) ∷ shown (1 ∷ 2 ∷ 0 ∷ []) ∷ shown (0 ∷ 0 ∷ 0 ∷ []) ∷ [])
    ∷ line "an empty job is one: the next has the other width"
    (alternating limited) (Firm 0 2) (advance 0 1 ∷ advance 0 1 ∷ no_places ∷ advance 0 1 ∷ []) (taken ∷ taken ∷ taken ∷ taken ∷ [])
    (two 0 0 ∷ two 0 0 ∷ two 1 0 ∷ two 0 0 ∷ two 1 0 ∷ [])
    ∷ line "a withdrawn task's jobs, held under idling, take turns too"
    (alternating idling) (Firm 0 2) (withdraw 1 ∷ no_places ∷ no_places ∷ no_places ∷ []) (taken ∷ taken ∷ taken ∷ taken ∷ []) (two 1 0 ∷ two 1 0 ∷ two 1 1 ∷ two 1 0 ∷ two 1 1 ∷ [])
    ∷ line "a hold keeps the width of its job"
    (on 2 idling (t₂ 0 2 1 2 3 3 ∷ [])) (Firm 0 6) (advance 1 0 ∷ no_places ∷ no_places ∷ advance 1 0 ∷ []) (taken ∷ taken ∷ taken ∷ taken ∷ [])
    (two 1 1 ∷ two 1 1 ∷ two 0 0 ∷ two 1 0 ∷ two 1 0 ∷ [])
    ∷ line "with a fence between the cores"
    (fenced_on 3 2 limited (t₂ 0 1 2 1 1 1 ∷ [])) (Firm 0 2) (no_places ∷ no_places ∷ []) (taken ∷ taken ∷ [])
    (shown (1 ∷ 255 ∷ 0 ∷ []) ∷ shown (1 ∷ 255 ∷ 1 ∷ []) ∷ shown (1 ∷ 255 ∷ 0 ∷ []) ∷ [])
    ∷ []

-- every line is its value by the definitions: one table with one check
pub width-examples : map worked width-lines ≡ width-lines
unfolding computing
width-examples = refl

-- the widths of the first five jobs, the larger and the smaller, and T or 2T
pub widths-of : map (width_of (t₂ 0 4 2 1 1 5)) (up_from 0 5) ≡ 4 ∷ 2 ∷ 4 ∷ 2 ∷ 4 ∷ []
unfolding up_from
widths-of = refl

pub widest-narrowest : widest (t₂ 0 4 2 1 1 5) ∷ narrowest (t₂ 0 4 2 1 1 5) ∷ widest (t₂ 0 2 4 1 1 5) ∷ narrowest (t₂ 0 2 4 1 1 5) ∷ [] ≡ 4 ∷ 2 ∷ 4 ∷ 2 ∷ []
widest-narrowest = refl

pub cycles : cycle (t₂ 0 4 2 1 1 5) ∷ cycle (t₂ 0 2 4 1 1 5) ∷ cycle (t 0 4 1 1 5) ∷ [] ≡ 10 ∷ 10 ∷ 5 ∷ []
cycles = refl
