-- Runs built by hand with several positions withdrawn together (request 113), computed from the definitions: none, some and all of the positions, up to
-- all 32, in several phases and under each rule, positions that are withdrawn already, and 14, 21 and 22 in their order. The row before each entry is
-- asked with its empty jobs, the row after the last with none.
use mathlib.Core.Bool.{true, false}
use mathlib.Core.List.{List, [], ◌∷◌, map}
use mathlib.Core.Path.{◌≡◌, refl}
use Prim.Native.Nat.{ℕ}
use Rattle.model.specs.Advance.{withdraw, withdraw_all}
use Rattle.model.specs.Search.{any, up_from}
use Rattle.phase.specs.declared.Phase.{Phase}
use Rattle.phase.specs.declared.Phase.TheVariants.{Coming, Working, Holding, Resting}
use Rattle.run.specs.declared.Run.{Run}
use Rattle.run.specs.Answer.{Taken, Refused}
use Rattle.refinement.specs.Listing.{listed, entries_in}
use Rattle.refinement.proofs.HandBuilt.{rows, t, at-even, two, on1, on2, no}
use Rattle.refinement.proofs.EmptyBuilt.{Named, worked-named, built, none, single}
use Rattle.refinement.proofs.WithdrawBuilt.{out, many}
use Rattle.refinement.proofs.Running.{running}

-- two tasks on two cores, the first as wide as the box, under a rule; and with the narrow one first
abbrev falling : ℕ → Phase → Phase → Run
falling r a b = two r 2 (t 0 2 2 4 4 a) (t 0 1 2 4 4 b)

abbrev rising : ℕ → Phase → Phase → Run
rising r a b = two r 2 (t 0 1 2 4 4 a) (t 0 2 2 4 4 b)

abbrev pub together-lines : List Named
together-lines =
    built "both in the release tick: only the set moves, and the jobs of this tick are empty"
    (falling 2 (Working 0 0 0) (Working 0 0 0)) (withdraw_all 3 ∷ none ∷ [])
    (Taken ∷ Taken ∷ [])
    (on2 1 1 ∷ on2 0 0 ∷ on2 0 0 ∷ [])
    (out 3 (falling 2 (Resting 1) (Resting 1)))
    ∷ built "the same by single withdrawals, in another order, one of them twice"
    (falling 2 (Working 0 0 0) (Working 0 0 0)) (withdraw 2 ∷ withdraw 1 ∷ withdraw 2 ∷ none ∷ [])
    (Taken ∷ Taken ∷ Taken ∷ Taken ∷ [])
    (on2 1 1 ∷ on2 1 1 ∷ on2 0 0 ∷ on2 0 0 ∷ on2 0 0 ∷ [])
    (out 3 (falling 2 (Resting 1) (Resting 1)))
    ∷ built "a job that was released before goes on, beside one that is empty"
    (rising 1 (Working 1 1 1) (Working 0 0 0)) (withdraw_all 3 ∷ none ∷ none ∷ [])
    (Taken ∷ Taken ∷ Taken ∷ [])
    (on2 1 0 ∷ on2 1 0 ∷ on2 0 0 ∷ on2 0 0 ∷ [])
    (out 3 (rising 1 (Resting 3) (Resting 2)))
    ∷ built "idling: both hold"
    (falling 3 (Working 0 0 0) (Working 0 0 0)) (withdraw_all 3 ∷ none ∷ [])
    (Taken ∷ Taken ∷ [])
    (on2 1 1 ∷ on2 1 1 ∷ on2 1 1 ∷ [])
    (out 3 (falling 3 (Holding 1 1) (Holding 1 0)))
    ∷ built "lending: the first holds and lends to the second, which goes on"
    (falling 4 (Working 0 0 0) (Working 0 0 0)) (withdraw_all 1 ∷ none ∷ [])
    (Taken ∷ Taken ∷ [])
    (on2 1 1 ∷ on2 2 1 ∷ on2 2 1 ∷ [])
    (out 1 (falling 4 (Holding 1 1) (Working 1 1 0)))
    ∷ built "while they come and rest"
    (two 2 1 (t 2 1 1 4 6 (Coming 2)) (t 0 1 1 4 6 (Resting 3))) (withdraw_all 3 ∷ none ∷ none ∷ none ∷ none ∷ [])
    (Taken ∷ Taken ∷ Taken ∷ Taken ∷ Taken ∷ [])
    (on1 0 ∷ on1 0 ∷ on1 0 ∷ on1 0 ∷ on1 0 ∷ on1 0 ∷ [])
    (out 3 (two 2 1 (t 2 1 1 4 6 (Resting 2)) (at-even (t 0 1 1 4 6 (Resting 1)))))
    ∷ built "the empty set of a firm run: taken, and the run as given"
    (falling 2 (Working 0 0 0) (Working 0 0 0)) (withdraw_all 0 ∷ [])
    (Taken ∷ [])
    (on2 1 1 ∷ on2 1 1 ∷ [])
    (falling 2 (Working 0 0 0) (Working 0 0 0))
    ∷ built "positions that are withdrawn already: the sets are joined, and the empty one takes nobody out of it"
    (out 1 (falling 2 (Working 1 1 1) (Working 1 0 0))) (withdraw_all 2 ∷ withdraw_all 1 ∷ withdraw_all 3 ∷ withdraw_all 0 ∷ [])
    (Taken ∷ Taken ∷ Taken ∷ Taken ∷ [])
    (on2 1 1 ∷ on2 1 1 ∷ on2 1 1 ∷ on2 1 1 ∷ on2 1 1 ∷ [])
    (out 3 (falling 2 (Working 1 1 1) (Working 1 0 0)))
    ∷ built "22: a bit at the count, alone and beside one below it, which is not withdrawn; and one far past it"
    (falling 2 (Working 0 0 0) (Working 0 0 0)) (withdraw_all 4 ∷ withdraw_all 5 ∷ withdraw_all 2147483649 ∷ [])
    (Refused 22 0 ∷ Refused 22 0 ∷ Refused 22 0 ∷ [])
    (on2 1 1 ∷ on2 1 1 ∷ on2 1 1 ∷ on2 1 1 ∷ [])
    (falling 2 (Working 0 0 0) (Working 0 0 0))
    ∷ built "21 where rule and widths are not firm, for the empty set too, and before 22; late or not"
    (falling 1 (Working 0 0 0) (Working 4 1 1)) (withdraw_all 0 ∷ withdraw_all 1 ∷ withdraw_all 4 ∷ [])
    (Refused 21 0 ∷ Refused 21 0 ∷ Refused 21 0 ∷ [])
    (no 15 2 ∷ no 15 2 ∷ no 15 2 ∷ no 15 2 ∷ [])
    (falling 1 (Working 0 0 0) (Working 4 1 1))
    ∷ built "at z = D: 15 is not looked at, 22 is"
    (single 1 (Working 4 0 0)) (withdraw_all 0 ∷ withdraw_all 3 ∷ withdraw_all 1 ∷ none ∷ [])
    (Taken ∷ Refused 22 0 ∷ Taken ∷ Refused 15 1 ∷ [])
    (no 15 1 ∷ no 15 1 ∷ no 15 1 ∷ no 15 1 ∷ no 15 1 ∷ [])
    (out 1 (single 1 (Working 4 0 0)))
    ∷ built "14 before 21 and 22, for the empty set too"
    (falling 1 (Working 0 0 0) (Working 5 0 0)) (withdraw_all 0 ∷ withdraw_all 1 ∷ withdraw_all 4 ∷ [])
    (Refused 14 0 ∷ Refused 14 0 ∷ Refused 14 0 ∷ [])
    (no 14 0 ∷ no 14 0 ∷ no 14 0 ∷ no 14 0 ∷ [])
    (falling 1 (Working 0 0 0) (Working 5 0 0))
    ∷ built "14: a position past the count is withdrawn already"
    (out 2 (single 1 (Working 0 0 0))) (withdraw_all 0 ∷ withdraw_all 1 ∷ [])
    (Refused 14 0 ∷ Refused 14 0 ∷ [])
    (no 14 0 ∷ no 14 0 ∷ no 14 0 ∷ [])
    (out 2 (single 1 (Working 0 0 0)))
    ∷ built "32 tasks: all positions together"
    (many 32 (Resting 1)) (withdraw_all 4294967295 ∷ withdraw_all 2147483648 ∷ [])
    (Taken ∷ Taken ∷ [])
    (on1 0 ∷ on1 0 ∷ on1 0 ∷ [])
    (out 4294967295 (many 32 (Resting 1)))
    ∷ built "31 tasks: the bit of position 32, and all below it"
    (many 31 (Resting 1)) (withdraw_all 4294967295 ∷ withdraw_all 2147483648 ∷ withdraw_all 2147483647 ∷ [])
    (Refused 22 0 ∷ Refused 22 0 ∷ Taken ∷ [])
    (on1 0 ∷ on1 0 ∷ on1 0 ∷ on1 0 ∷ [])
    (out 2147483647 (many 31 (Resting 1)))
    ∷ []

-- every line is its value by the definitions: one table with one check
pub together-runs : map worked-named together-lines ≡ together-lines
unfolding running rows
together-runs = refl

-- in words a set is of kind 2 with a last word of 0; of a kind above it there is no entry
pub kinds :
    (listed (2 ∷ 5 ∷ 0 ∷ []) ≡ true) × (entries_in (2 ∷ 5 ∷ 0 ∷ 1 ∷ 5 ∷ 0 ∷ []) ≡ withdraw_all 5 ∷ withdraw 5 ∷ [])
    × (listed (2 ∷ 5 ∷ 1 ∷ []) ≡ false) × (listed (3 ∷ 5 ∷ 0 ∷ []) ≡ false)
unfolding listed any up_from
kinds = (refl, refl, refl, refl)
