-- Runs built by hand with odd and even widths (request 108), computed from the definitions: the parity changes at every release from the second on, of
-- empty and withdrawn jobs too, and at nothing else; a hold keeps the width of its job; what does not fit is skipped or ends the choosing; 14 of
-- the parity and of the second width from both sides; and 21 by both widths. The row before each entry is asked with its empty jobs,
-- the row after the last with none.
use mathlib.Core.Bool.{false}
use mathlib.Core.List.{List, [], ◌∷◌, map}
use mathlib.Core.Path.{◌≡◌, refl}
use Prim.Native.Nat.{ℕ}
use lib.ListN.{replicate}
use Rattle.model.specs.Advance.{withdraw}
use Rattle.phase.specs.declared.Phase.{Phase}
use Rattle.phase.specs.declared.Phase.TheVariants.{Coming, Working, Holding, Resting}
use Rattle.phase.specs.declared.Task.{Task}
use Rattle.phase.specs.Task.{unused}
use Rattle.run.specs.declared.Run.{Run}
use Rattle.run.specs.Answer.{Taken, Refused}
use Rattle.refinement.proofs.HandBuilt.{rows, t, at-even, fenced_run, one, two, three, on2, no, row64}
use Rattle.refinement.proofs.EmptyBuilt.{Named, worked-named, built, sets, none, empty-no, report-no, row-20}
use Rattle.refinement.proofs.WithdrawBuilt.{out}
use Rattle.refinement.proofs.Running.{running}

-- a task as (O, v/w, C, D, T) in a phase, with an odd job
abbrev pub t₂ : ℕ → ℕ → ℕ → ℕ → ℕ → ℕ → Phase → Task
t₂ o v w c d p ph = record { parameters = record { offset = o; width = v; length = c; deadline = d; period = p; second = w }; even = false; phase = ph }

-- one task (0, 1/2, 1, 1, 1) on two cores that works, with an odd job and with an even one
abbrev odd : ℕ → Run
odd r = one r 2 (t₂ 0 1 2 1 1 1 (Working 0 0 0))

abbrev even : ℕ → Run
even r = one r 2 (at-even (t₂ 0 1 2 1 1 1 (Working 0 0 0)))

-- an even job of width 2 between two tasks of width 1, on two cores
abbrev between : ℕ → Phase → Phase → Phase → Run
between r a b c = three r 2 0 (t 0 1 4 4 4 a) (at-even (t₂ 0 1 2 1 2 2 b)) (t 0 1 1 4 4 c)

-- two tasks with C of 1 and these widths, on three cores
abbrev pairs : ℕ → ℕ → ℕ → ℕ → ℕ → Run
pairs r v w v' w' = two r 3 (t₂ 0 v w 1 4 4 (Working 0 0 0)) (t₂ 0 v' w' 1 4 4 (Working 0 0 0))

-- a count of 1, and a task past it that 14 would turn down
abbrev beside : Task → Run
beside a = record { rule = 1; cores = 2; fence = 0; withdrawn = 0; count = 1; tasks = a ∷ at-even (t₂ 2 1 2 3 4 6 (Coming 1)) ∷ replicate 30 unused }

-- the parity, and the widths by it
abbrev pub width-lines : List Named
width-lines =
    built "a job ends at its deadline and the next is released in the same tick: the same claimant, the other width"
    (odd 1) (none ∷ none ∷ none ∷ [])
    (Taken ∷ Taken ∷ Taken ∷ [])
    (on2 1 0 ∷ on2 1 1 ∷ on2 1 0 ∷ on2 1 1 ∷ [])
    (even 1)
    ∷ built "what the narrower job leaves goes to the task below"
    (two 1 2 (t₂ 0 2 1 2 2 2 (Working 1 1 1)) (t 0 1 1 4 4 (Working 1 0 0))) (none ∷ none ∷ [])
    (Taken ∷ Taken ∷ [])
    (on2 1 1 ∷ on2 1 2 ∷ on2 1 0 ∷ [])
    (two 1 2 (at-even (t₂ 0 2 1 2 2 2 (Working 1 1 1))) (t 0 1 1 4 4 (Resting 3)))
    ∷ built "greedy passes over an even job that does not fit, which is then late"
    (between 1 (Working 0 0 0) (Working 0 0 0) (Working 0 0 0)) (none ∷ none ∷ none ∷ [])
    (Taken ∷ Taken ∷ Refused 15 2 ∷ [])
    (on2 1 3 ∷ on2 1 0 ∷ no 15 2 ∷ no 15 2 ∷ [])
    (between 1 (Working 2 2 2) (Working 2 0 0) (Resting 2))
    ∷ built "under limited it ends the choosing"
    (between 2 (Working 0 0 0) (Working 0 0 0) (Working 0 0 0)) (sets 4 0 ∷ none ∷ [])
    (report-no ∷ Taken ∷ [])
    (on2 1 0 ∷ on2 1 0 ∷ on2 1 0 ∷ [])
    (between 2 (Working 1 1 1) (Working 1 0 0) (Working 1 0 0))
    ∷ built "the first release is of an odd job, after that they take turns"
    (one 1 2 (t₂ 2 1 2 1 1 1 (Coming 2))) (none ∷ none ∷ none ∷ none ∷ [])
    (Taken ∷ Taken ∷ Taken ∷ Taken ∷ [])
    (on2 0 0 ∷ on2 0 0 ∷ on2 1 0 ∷ on2 1 1 ∷ on2 1 0 ∷ [])
    (one 1 2 (t₂ 2 1 2 1 1 1 (Working 0 0 0)))
    ∷ built "after an empty job the parity changes too"
    (odd 2) (sets 0 1 ∷ none ∷ sets 0 1 ∷ none ∷ [])
    (Taken ∷ Taken ∷ Taken ∷ Taken ∷ [])
    (on2 0 0 ∷ on2 1 1 ∷ on2 0 0 ∷ on2 1 1 ∷ on2 1 0 ∷ [])
    (odd 2)
    ∷ built "an empty job under idling holds the width that it has"
    (one 3 2 (t₂ 0 1 2 2 2 2 (Working 0 0 0))) (sets 0 1 ∷ none ∷ sets 0 1 ∷ none ∷ [])
    (Taken ∷ Taken ∷ Taken ∷ Taken ∷ [])
    (on2 1 0 ∷ on2 1 0 ∷ on2 1 1 ∷ on2 1 1 ∷ on2 1 0 ∷ [])
    (one 3 2 (t₂ 0 1 2 2 2 2 (Working 0 0 0)))
    ∷ built "a reported even job under idling holds its width"
    (one 3 2 (at-even (t₂ 0 1 2 3 4 5 (Working 0 0 0)))) (sets 1 0 ∷ none ∷ [])
    (Taken ∷ Taken ∷ [])
    (on2 1 1 ∷ on2 1 1 ∷ on2 1 1 ∷ [])
    (one 3 2 (at-even (t₂ 0 1 2 3 4 5 (Holding 2 2))))
    ∷ built "a withdrawn job, held under idling, changes it"
    (odd 3) (withdraw 1 ∷ none ∷ none ∷ none ∷ [])
    (Taken ∷ Taken ∷ Taken ∷ Taken ∷ [])
    (on2 1 0 ∷ on2 1 0 ∷ on2 1 1 ∷ on2 1 0 ∷ on2 1 1 ∷ [])
    (out 1 (even 3))
    ∷ built "and one that claims nothing"
    (odd 2) (withdraw 1 ∷ none ∷ none ∷ none ∷ [])
    (Taken ∷ Taken ∷ Taken ∷ Taken ∷ [])
    (on2 1 0 ∷ on2 0 0 ∷ on2 0 0 ∷ on2 0 0 ∷ on2 0 0 ∷ [])
    (out 1 (even 2))
    ∷ built "a withdrawal and a refusal change none"
    (even 1) (sets 2 0 ∷ sets 0 2 ∷ withdraw 2 ∷ withdraw 1 ∷ [])
    (report-no ∷ empty-no ∷ Refused 22 0 ∷ Taken ∷ [])
    (on2 1 1 ∷ row-20 ∷ on2 1 1 ∷ on2 1 1 ∷ on2 0 0 ∷ [])
    (out 1 (even 1))
    ∷ built "what stands past the count is not looked at, and stays"
    (beside (t₂ 0 1 2 1 1 1 (Working 0 0 0))) (none ∷ [])
    (Taken ∷ [])
    (on2 1 0 ∷ on2 1 1 ∷ [])
    (beside (at-even (t₂ 0 1 2 1 1 1 (Working 0 0 0))))
    ∷ []

-- one task (2, 1/2, 3, 4, 6) on two cores, with an odd job and with an even one
abbrev odd-in : ℕ → Phase → Run
odd-in r ph = one r 2 (t₂ 2 1 2 3 4 6 ph)

abbrev even-in : ℕ → Phase → Run
even-in r ph = one r 2 (at-even (t₂ 2 1 2 3 4 6 ph))

-- 14 and 21
abbrev pub limit-lines : List Named
limit-lines =
    built "14: an even job on a task Coming" (even-in 1 (Coming 1)) (none ∷ withdraw 1 ∷ []) (Refused 14 0 ∷ Refused 14 0 ∷ [])
    (no 14 0 ∷ no 14 0 ∷ no 14 0 ∷ []) (even-in 1 (Coming 1))
    ∷ built "an odd one passes" (odd-in 1 (Coming 1)) [] [] (on2 0 0 ∷ []) (odd-in 1 (Coming 1))
    ∷ built "and so does an even one that works" (even-in 1 (Working 0 0 0)) [] [] (on2 1 1 ∷ []) (even-in 1 (Working 0 0 0))
    ∷ built "that holds" (even-in 3 (Holding 1 0)) [] [] (on2 1 1 ∷ []) (even-in 3 (Holding 1 0))
    ∷ built "or that rests" (even-in 1 (Resting 1)) [] [] (on2 0 0 ∷ []) (even-in 1 (Resting 1))
    ∷ built "15 of an even job" (even-in 1 (Working 4 0 0)) [] [] (no 15 1 ∷ []) (even-in 1 (Working 4 0 0))
    ∷ built "14: a second width of 0, of an odd job" (one 1 2 (t₂ 0 1 0 3 4 6 (Working 0 0 0))) [] [] (no 14 0 ∷ []) (one 1 2 (t₂ 0 1 0 3 4 6 (Working 0 0 0)))
    ∷ built "above the cores" (one 1 2 (t₂ 0 1 3 3 4 6 (Working 0 0 0))) [] [] (no 14 0 ∷ []) (one 1 2 (t₂ 0 1 3 3 4 6 (Working 0 0 0)))
    ∷ built "above the unfenced ones"
    (fenced_run 1 3 2 (t₂ 0 1 3 3 4 6 (Working 0 0 0))) [] [] (no 14 0 ∷ []) (fenced_run 1 3 2 (t₂ 0 1 3 3 4 6 (Working 0 0 0)))
    ∷ built "all of these"
    (fenced_run 1 3 2 (at-even (t₂ 0 1 2 3 4 6 (Working 0 0 0)))) [] [] (row64 (1 ∷ 255 ∷ 1 ∷ []) ∷ []) (fenced_run 1 3 2 (at-even (t₂ 0 1 2 3 4 6 (Working 0 0 0))))
    ∷ built "14: a first width above the cores, of an even job"
    (one 1 2 (at-even (t₂ 0 3 1 3 4 6 (Working 0 0 0)))) [] [] (no 14 0 ∷ []) (one 1 2 (at-even (t₂ 0 3 1 3 4 6 (Working 0 0 0))))
    ∷ built "21: first widths rise, second ones fall"
    (pairs 1 1 3 2 2) (withdraw 1 ∷ withdraw 9 ∷ []) (Refused 21 0 ∷ Refused 21 0 ∷ [])
    (row64 (1 ∷ 2 ∷ 2 ∷ []) ∷ row64 (1 ∷ 2 ∷ 2 ∷ []) ∷ row64 (1 ∷ 2 ∷ 2 ∷ []) ∷ []) (pairs 1 1 3 2 2)
    ∷ built "21: both rise, and cross"
    (pairs 1 1 3 2 3) (withdraw 2 ∷ []) (Refused 21 0 ∷ []) (row64 (1 ∷ 2 ∷ 2 ∷ []) ∷ row64 (1 ∷ 2 ∷ 2 ∷ []) ∷ []) (pairs 1 1 3 2 3)
    ∷ built "the larger of each is at most the smaller of the next: firm"
    (pairs 1 2 1 3 2) (withdraw 2 ∷ []) (Taken ∷ []) (row64 (1 ∷ 1 ∷ []) ∷ row64 (1 ∷ 1 ∷ []) ∷ []) (out 2 (pairs 1 2 1 3 2))
    ∷ built "limited is firm with any"
    (pairs 2 1 3 2 2) (withdraw 2 ∷ []) (Taken ∷ []) (row64 (1 ∷ 2 ∷ 2 ∷ []) ∷ row64 (1 ∷ []) ∷ []) (out 2 (pairs 2 1 3 2 2))
    ∷ built "and so is idling"
    (pairs 3 3 1 2 1) (withdraw 2 ∷ []) (Taken ∷ []) (row64 (1 ∷ 1 ∷ 1 ∷ []) ∷ row64 (1 ∷ 1 ∷ 1 ∷ []) ∷ []) (out 2 (pairs 3 3 1 2 1))
    ∷ []

-- every line is its value by the definitions: one table with one check
pub width_runs : map worked-named width-lines ≡ width-lines
unfolding running rows
width_runs = refl

pub width-limits : map worked-named limit-lines ≡ limit-lines
unfolding running rows
width-limits = refl
