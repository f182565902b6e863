-- The positions that work in a tick (issue 47), computed from the definitions: holders with cores and lenders do not, borrowers do; empty jobs, and refusals.
use mathlib.Core.List.{List, [], ◌∷◌, map}
use mathlib.Core.Path.{◌≡◌, refl}
use Rattle.model.proofs.Computing.{computing}
use Rattle.model.proofs.EmptyExamples.{no_places}
use Rattle.model.proofs.Examples.{B}
use Rattle.model.proofs.LendExamples.{figure-3}
use Rattle.model.proofs.SetsExamples.{Line, all-wide, early, line}
use Rattle.model.specs.Advance.{advance, withdraw_all}
use Rattle.model.specs.Lists.{book}
use Rattle.model.specs.Refusals.{row_refused, shown}
use Rattle.model.specs.Task.{greedy, idling, lending, limited}
use Rattle.model.specs.Working.{set_where, working_asked}

-- the value by the definitions, of a line as of sets
abbrev pub answered : Line → Line
answered l = line l.name l.table l.entries l.empties (working_asked l.table (book l.table l.entries) l.empties)

abbrev pub working-lines : List Line
working-lines =
    line "those with cores" (all-wide greedy) [] 0 (shown (1 ∷ []))
    ∷ line "lent cores work, those of a lender that has lent all do not" figure-3 (advance 1 0 ∷ []) 0 (shown (44 ∷ []))
    ∷ line "a lender that has kept a core does not work" (early lending) (advance 1 0 ∷ []) 0 (shown (2 ∷ []))
    ∷ line "a holder under rule 3 has cores, and none works" (early idling) (advance 1 0 ∷ []) 0 (shown (0 ∷ []))
    ∷ line "under rules 1 and 2 the next one works" (early limited) (advance 1 0 ∷ []) 0 (shown (2 ∷ []))
    ∷ line "withdrawn: it lends at once" (early lending) (withdraw_all 1 ∷ []) 0 (shown (2 ∷ []))
    ∷ line "an empty job does not work, under rule 1" (all-wide greedy) [] 1 (shown (2 ∷ []))
    ∷ line ".. under rule 3 it holds its cores" (all-wide idling) [] 1 (shown (0 ∷ []))
    ∷ line ".. and under rule 4 it lends them" (all-wide lending) [] 1 (shown (2 ∷ []))
    ∷ line "20: no job is released" (all-wide greedy) (no_places ∷ []) 1 (row_refused 20 0)
    ∷ line "15 before 20" (B greedy) (advance 1 0 ∷ no_places ∷ []) 8 (row_refused 15 3)
    ∷ []

pub working-examples : map answered working-lines ≡ working-lines
unfolding computing set_where working_asked
working-examples = refl
