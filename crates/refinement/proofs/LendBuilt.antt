-- Runs built by hand under rule 4 (request 109), computed from the definitions: which places lend and borrow, that a lent tick is work and no reserved tick,
-- that work ends by the ticks had and a hold by the reserved ones, which jobs may be reported; and 14 of the two counts from both sides. The row before each
-- entry is asked with its empty jobs, the row after the last with none.
use mathlib.Core.List.{List, [], ◌∷◌, map}
use mathlib.Core.Path.{◌≡◌, refl}
use Prim.Native.Nat.{ℕ}
use lib.ListN.{replicate}
use Rattle.model.specs.Advance.{withdraw}
use Rattle.phase.specs.declared.Phase.{Phase}
use Rattle.phase.specs.declared.Phase.TheVariants.{Working, Holding, Resting}
use Rattle.phase.specs.declared.Task.{Task}
use Rattle.phase.specs.Task.{unused}
use Rattle.run.specs.declared.Run.{Run}
use Rattle.run.specs.Answer.{Taken, Refused}
use Rattle.refinement.proofs.HandBuilt.{Line, worked, rows, t, at-even, one, two, three, on1, on2, no, limit, row64}
use Rattle.refinement.proofs.EmptyBuilt.{Named, worked-named, built, sets, none, empty-no, report-no, row-20}
use Rattle.refinement.proofs.WithdrawBuilt.{out}
use Rattle.refinement.proofs.WidthBuilt.{t₂}
use Rattle.refinement.proofs.Running.{running}

-- a task as wide as the two cores, and one below it, under rule 4
abbrev lend : Phase → Phase → Run
lend a b = two 4 2 (t 0 2 3 6 6 a) (t 0 1 2 6 6 b)

-- a run of four tasks
abbrev four : ℕ → ℕ → Task → Task → Task → Task → Run
four r m a b c d = record { rule = r; cores = m; fence = 0; withdrawn = 0; count = 4; tasks = a ∷ b ∷ c ∷ d ∷ replicate 28 unused }

abbrev pub lend-lines : List Named
lend-lines =
    built "a lent tick is work and no reserved tick"
    (lend (Holding 1 1) (Working 1 0 0)) (none ∷ [])
    (Taken ∷ [])
    (on2 2 1 ∷ on2 2 1 ∷ [])
    (lend (Holding 2 2) (Working 2 1 0))
    ∷ built "work ends by the ticks had: its own cores are then held, and nothing was reserved yet"
    (lend (Holding 1 1) (Working 1 1 0)) (none ∷ [])
    (Taken ∷ [])
    (on2 2 1 ∷ on2 1 1 ∷ [])
    (lend (Holding 2 2) (Holding 2 0))
    ∷ built "so it is where some were"
    (lend (Holding 1 1) (Working 2 1 1)) (none ∷ [])
    (Taken ∷ [])
    (on2 2 1 ∷ on2 1 1 ∷ [])
    (lend (Holding 2 2) (Holding 3 1))
    ∷ built "a served task may be reported"
    (lend (Holding 1 1) (Working 1 0 0)) (sets 2 0 ∷ [])
    (Taken ∷ [])
    (on2 2 1 ∷ on2 1 1 ∷ [])
    (lend (Holding 2 2) (Holding 2 0))
    ∷ built "a holder may not, nor one that neither has nor borrows cores"
    (three 4 2 0 (t 0 2 3 6 6 (Holding 1 1)) (t 0 1 2 6 6 (Working 1 0 0)) (t 0 2 1 6 6 (Working 1 0 0))) (sets 1 0 ∷ sets 4 0 ∷ sets 2 0 ∷ [])
    (report-no ∷ report-no ∷ Taken ∷ [])
    (on2 2 1 ∷ on2 2 1 ∷ on2 2 1 ∷ on2 3 3 ∷ [])
    (three 4 2 0 (t 0 2 3 6 6 (Holding 2 2)) (t 0 1 2 6 6 (Holding 2 0)) (t 0 2 1 6 6 (Working 2 0 0)))
    ∷ built "a tick of its own counts as both; a hold ends by reserved ticks"
    (lend (Resting 3) (Working 3 1 0)) (none ∷ none ∷ [])
    (Taken ∷ Taken ∷ [])
    (on2 2 0 ∷ on2 2 0 ∷ on2 0 0 ∷ [])
    (lend (Resting 5) (Resting 5))
    ∷ built "a reserved tick that it lends is one more of the hold"
    (lend (Holding 2 2) (Working 2 0 0)) (none ∷ none ∷ [])
    (Taken ∷ Taken ∷ [])
    (on2 2 1 ∷ on2 2 0 ∷ on2 2 0 ∷ [])
    (lend (Resting 4) (Holding 4 1))
    ∷ built "work that ends by lent ticks at z = D rests"
    (two 4 2 (t 0 2 3 6 6 (Holding 1 1)) (t 0 1 2 2 6 (Working 1 1 0))) (none ∷ [])
    (Taken ∷ [])
    (on2 2 1 ∷ on2 1 1 ∷ [])
    (two 4 2 (t 0 2 3 6 6 (Holding 2 2)) (t 0 1 2 2 6 (Resting 2)))
    ∷ built "and at z = T its next job is released"
    (two 4 2 (t 0 2 3 6 6 (Holding 1 1)) (t 0 1 2 2 2 (Working 1 1 0))) (none ∷ [])
    (Taken ∷ [])
    (on2 2 1 ∷ on2 2 1 ∷ [])
    (two 4 2 (t 0 2 3 6 6 (Holding 2 2)) (at-even (t 0 1 2 2 2 (Working 0 0 0))))
    ∷ built "C of 1: one lent tick ends the work, and one reserved tick the hold"
    (two 4 2 (t 0 2 2 6 6 (Holding 1 1)) (t 0 1 1 6 6 (Working 1 0 0))) (none ∷ none ∷ [])
    (Taken ∷ Taken ∷ [])
    (on2 2 1 ∷ on2 2 0 ∷ on2 0 0 ∷ [])
    (two 4 2 (t 0 2 2 6 6 (Resting 3)) (t 0 1 1 6 6 (Resting 3)))
    ∷ built "an empty job lends in the tick of its release"
    (lend (Working 0 0 0) (Working 0 0 0)) (sets 2 1 ∷ [])
    (Taken ∷ [])
    (on2 2 1 ∷ on2 1 1 ∷ [])
    (lend (Holding 1 1) (Holding 1 0))
    ∷ built "and so does a withdrawn one"
    (lend (Working 0 0 0) (Working 0 0 0)) (withdraw 1 ∷ none ∷ none ∷ [])
    (Taken ∷ Taken ∷ Taken ∷ [])
    (on2 1 1 ∷ on2 2 1 ∷ on2 2 1 ∷ on2 1 1 ∷ [])
    (out 1 (lend (Holding 2 2) (Holding 2 0)))
    ∷ built "an empty job borrows nothing, and may not be reported"
    (lend (Holding 1 1) (Working 0 0 0)) (sets 2 2 ∷ sets 0 2 ∷ [])
    (report-no ∷ Taken ∷ [])
    (on2 1 1 ∷ on2 1 1 ∷ on2 1 1 ∷ [])
    (lend (Holding 2 2) (Holding 1 0))
    ∷ built "an empty bit on one that has borrowed is 20"
    (lend (Holding 1 1) (Working 1 1 0)) (sets 0 2 ∷ [])
    (empty-no ∷ [])
    (row-20 ∷ on2 2 1 ∷ [])
    (lend (Holding 1 1) (Working 1 1 0))
    ∷ built "a holder without cores lends none"
    (three 4 2 0 (t 0 2 3 6 6 (Working 0 0 0)) (t 0 1 2 6 6 (Holding 1 0)) (t 0 1 2 6 6 (Working 1 0 0))) (sets 4 0 ∷ none ∷ [])
    (report-no ∷ Taken ∷ [])
    (on2 1 1 ∷ on2 1 1 ∷ on2 1 1 ∷ [])
    (three 4 2 0 (t 0 2 3 6 6 (Working 1 1 1)) (t 0 1 2 6 6 (Holding 2 0)) (t 0 1 2 6 6 (Working 2 0 0)))
    ∷ built "nobody lends to one above it"
    (three 4 2 0 (t 0 1 3 6 6 (Working 1 1 1)) (t 0 2 1 6 6 (Working 1 0 0)) (t 0 1 2 6 6 (Holding 1 1))) (sets 2 0 ∷ none ∷ [])
    (report-no ∷ Taken ∷ [])
    (on2 1 3 ∷ on2 1 3 ∷ on2 1 0 ∷ [])
    (three 4 2 0 (t 0 1 3 6 6 (Working 2 2 2)) (t 0 2 1 6 6 (Working 2 0 0)) (t 0 1 2 6 6 (Resting 2)))
    ∷ built "one that does not fit is passed over for one below it"
    (four 4 2 (t 0 1 3 6 6 (Holding 1 1)) (t 0 2 1 6 6 (Working 1 0 0)) (t 0 1 2 6 6 (Holding 1 0)) (t 0 1 2 6 6 (Working 1 0 0))) (none ∷ [])
    (Taken ∷ [])
    (on2 4 3 ∷ on2 4 3 ∷ [])
    (four 4 2 (t 0 1 3 6 6 (Holding 2 2)) (t 0 2 1 6 6 (Working 2 0 0)) (t 0 1 2 6 6 (Holding 2 1)) (t 0 1 2 6 6 (Working 2 1 0)))
    ∷ built "two lenders, and one that fits in each: it is served once"
    (three 4 2 0 (t 0 1 3 6 6 (Holding 1 1)) (t 0 1 3 6 6 (Holding 1 1)) (t 0 1 2 6 6 (Working 1 0 0))) (none ∷ [])
    (Taken ∷ [])
    (on2 3 2 ∷ on2 3 2 ∷ [])
    (three 4 2 0 (t 0 1 3 6 6 (Holding 2 2)) (t 0 1 3 6 6 (Holding 2 2)) (t 0 1 2 6 6 (Working 2 1 0)))
    ∷ built "two lenders, and two that fit: one from each"
    (four 4 2 (t 0 1 3 6 6 (Holding 1 1)) (t 0 1 3 6 6 (Holding 1 1)) (t 0 1 2 6 6 (Working 1 0 0)) (t 0 1 2 6 6 (Working 1 0 0))) (none ∷ [])
    (Taken ∷ [])
    (on2 3 4 ∷ on2 3 4 ∷ [])
    (four 4 2 (t 0 1 3 6 6 (Holding 2 2)) (t 0 1 3 6 6 (Holding 2 2)) (t 0 1 2 6 6 (Working 2 1 0)) (t 0 1 2 6 6 (Working 2 1 0)))
    ∷ built "two lenders, and one as wide as both: it gets nothing"
    (three 4 2 0 (t 0 1 3 6 6 (Holding 1 1)) (t 0 1 3 6 6 (Holding 1 1)) (t 0 2 2 6 6 (Working 1 0 0))) (sets 4 0 ∷ none ∷ [])
    (report-no ∷ Taken ∷ [])
    (on2 1 2 ∷ on2 1 2 ∷ on2 1 2 ∷ [])
    (three 4 2 0 (t 0 1 3 6 6 (Holding 2 2)) (t 0 1 3 6 6 (Holding 2 2)) (t 0 2 2 6 6 (Working 2 0 0)))
    ∷ built "the lowest unlent cores in turn; the lender shows on what it keeps"
    (three 4 4 0 (t 0 4 3 6 6 (Holding 1 1)) (t 0 1 2 6 6 (Working 1 0 0)) (t 0 2 2 6 6 (Working 1 0 0))) (none ∷ [])
    (Taken ∷ [])
    (row64 (2 ∷ 3 ∷ 3 ∷ 1 ∷ []) ∷ row64 (2 ∷ 3 ∷ 3 ∷ 1 ∷ []) ∷ [])
    (three 4 4 0 (t 0 4 3 6 6 (Holding 2 2)) (t 0 1 2 6 6 (Working 2 1 0)) (t 0 2 2 6 6 (Working 2 1 0)))
    ∷ built "with a fence between"
    (three 4 6 10 (t 0 4 3 6 6 (Holding 1 1)) (t 0 1 2 6 6 (Working 1 0 0)) (t 0 2 2 6 6 (Working 1 0 0))) (none ∷ [])
    (Taken ∷ [])
    (row64 (2 ∷ 255 ∷ 3 ∷ 255 ∷ 3 ∷ 1 ∷ []) ∷ row64 (2 ∷ 255 ∷ 3 ∷ 255 ∷ 3 ∷ 1 ∷ []) ∷ [])
    (three 4 6 10 (t 0 4 3 6 6 (Holding 2 2)) (t 0 1 2 6 6 (Working 2 1 0)) (t 0 2 2 6 6 (Working 2 1 0)))
    ∷ built "an even job borrows its second width"
    (two 4 2 (t 0 2 3 6 6 (Holding 1 1)) (at-even (t₂ 0 1 2 2 6 6 (Working 1 0 0)))) (none ∷ [])
    (Taken ∷ [])
    (on2 2 2 ∷ on2 2 2 ∷ [])
    (two 4 2 (t 0 2 3 6 6 (Holding 2 2)) (at-even (t₂ 0 1 2 2 6 6 (Working 2 1 0))))
    ∷ built "nobody seeks: the lender shows on all its cores"
    (lend (Holding 1 1) (Resting 3)) (none ∷ [])
    (Taken ∷ [])
    (on2 1 1 ∷ on2 1 1 ∷ [])
    (lend (Holding 2 2) (Resting 4))
    ∷ built "15 is looked at first, and 16 only then"
    (lend (Holding 1 1) (Working 6 1 0)) (sets 1 0 ∷ [])
    (Refused 15 2 ∷ [])
    (no 15 2 ∷ no 15 2 ∷ [])
    (lend (Holding 1 1) (Working 6 1 0))
    ∷ built "under idling the same run lends nothing"
    (two 3 2 (t 0 2 3 6 6 (Holding 1 1)) (t 0 1 2 6 6 (Working 1 0 0))) (sets 2 0 ∷ none ∷ [])
    (report-no ∷ Taken ∷ [])
    (on2 1 1 ∷ on2 1 1 ∷ on2 1 1 ∷ [])
    (two 3 2 (t 0 2 3 6 6 (Holding 2 2)) (t 0 1 2 6 6 (Working 2 0 0)))
    ∷ built "the counts at their most, reserved far behind"
    (one 4 1 (t 0 1 1000000 1000000 1000000 (Working 999998 999998 0))) (none ∷ none ∷ [])
    (Taken ∷ Taken ∷ [])
    (on1 1 ∷ on1 1 ∷ on1 1 ∷ [])
    (one 4 1 (at-even (t 0 1 1000000 1000000 1000000 (Working 0 0 0))))
    ∷ []

-- 14 of the two counts, from both sides
abbrev pub count-lines : List Line
count-lines =
    -- rule 4: reserved at most had, had below C and at most z
    limit 4 (Working 2 2 0) (on1 1) ∷ limit 4 (Working 2 2 1) (on1 1) ∷ limit 4 (Working 2 2 2) (on1 1) ∷ limit 4 (Working 2 2 3) (no 14 0)
    ∷ limit 4 (Working 2 1 2) (no 14 0) ∷ limit 4 (Working 2 0 1) (no 14 0) ∷ limit 4 (Working 0 0 0) (on1 1) ∷ limit 4 (Working 0 0 1) (no 14 0)
    ∷ limit 4 (Working 3 3 0) (no 14 0) ∷ limit 4 (Working 3 2 0) (on1 1) ∷ limit 4 (Working 1 2 0) (no 14 0) ∷ limit 4 (Working 1 1 0) (on1 1)
    -- z = D passes 14 and is 15
    ∷ limit 4 (Working 4 2 0) (no 15 1) ∷ limit 4 (Working 5 2 0) (no 14 0)
    -- rules 1 to 3: the two are equal
    ∷ limit 1 (Working 2 1 1) (on1 1) ∷ limit 1 (Working 2 1 0) (no 14 0) ∷ limit 1 (Working 2 1 2) (no 14 0) ∷ limit 2 (Working 2 1 1) (on1 1)
    ∷ limit 2 (Working 2 1 0) (no 14 0) ∷ limit 2 (Working 2 1 2) (no 14 0) ∷ limit 3 (Working 2 1 1) (on1 1) ∷ limit 3 (Working 2 1 0) (no 14 0)
    ∷ limit 3 (Working 2 1 2) (no 14 0)
    -- Holding under rule 4: z 0 to D − 1, reserved 0 to C − 1 and at most z
    ∷ limit 4 (Holding 0 0) (on1 1) ∷ limit 4 (Holding 0 1) (no 14 0) ∷ limit 4 (Holding 3 2) (on1 1) ∷ limit 4 (Holding 3 3) (no 14 0)
    ∷ limit 4 (Holding 4 0) (no 14 0) ∷ limit 4 (Holding 2 2) (on1 1) ∷ limit 4 (Holding 1 2) (no 14 0)
    -- rules 0 and 5 are none
    ∷ limit 0 (Working 2 1 1) (no 14 0) ∷ limit 5 (Working 2 1 1) (no 14 0) ∷ limit 5 (Working 2 1 0) (no 14 0) ∷ limit 5 (Holding 1 1) (no 14 0)
    ∷ []

-- every line is its value by the definitions: one table with one check
pub lending-runs : map worked-named lend-lines ≡ lend-lines
unfolding running rows
lending-runs = refl

pub lending-counts : map worked count-lines ≡ count-lines
unfolding running rows
lending-counts = refl
