-- What does not hold under rule 4 (request 109), computed. Of two lists at one tick, no job is longer in the first, and yet the first is behind on a job:
-- position 2, reported in tick 1, lets position 3, which is wider, borrow before position 4. And a task below changes what a row shows of one above.
use mathlib.Core.Bool.{Bool, false, false≢true, true, true≢false}
use mathlib.Core.List.{List, [], ◌∷◌}
use mathlib.Core.Logic.{inl, inr}
use mathlib.Core.Path.{ap, refl, subst₂, sym, ◌∙◌, ◌≡◌}
use Prim.Native.Nat.{◌<◌, suc, zero, ℕ, ◌≤◌}
use native.Mathlib.Omega.{arith}
use Rattle.model.proofs.Computing.{computing}
use Rattle.model.proofs.Examples.{on, reports, t}
use Rattle.model.proofs.Jobs.{mk}
use Rattle.model.proofs.Runs.{early-book}
use Rattle.model.specs.Jobs.{Job}
use Rattle.model.specs.Claims.{borrowed, grants_of}
use Rattle.model.specs.Advance.{Entry}
use Rattle.model.specs.Refusals.{asked, shown}
use Rattle.model.specs.Lists.{book, no_reports}
use Rattle.model.specs.Compare.{Behind, Sustainable, Longer, NoneLonger}
use Rattle.model.specs.Local.{EqualAbove}
use Rattle.model.specs.Sets.{sets_asked}
use Rattle.model.specs.Task.{Table, lending, release, task}
use Rattle.model.specs.Verdict.{Firm, verdict}

-- BETWEEN TWO SHORTENED RUNS

abbrev pub counterexample : Table
counterexample = on 2 lending (t 0 2 3 6 6 ∷ t 0 1 2 6 6 ∷ t 0 2 1 6 6 ∷ t 0 1 2 6 6 ∷ [])

-- the first list reports position 2 in tick 1, the second does not
abbrev pub reporting : List Entry
reporting = reports 1 ∷ reports 2 ∷ no_reports ∷ []

abbrev pub unreported : List Entry
unreported = reports 1 ∷ no_reports ∷ no_reports ∷ []

-- the first jobs after each
first : (xs : List Entry) → Job × Job × Job × Job
first xs = ((book counterexample xs).job 0 0, (book counterexample xs).job 1 0, (book counterexample xs).job 2 0, (book counterexample xs).job 3 0)

competing : first reporting ≡ (mk 1 3 true, mk 1 0 true, mk 1 0 true, mk 1 0 false)
unfolding first computing
competing = refl

free : first unreported ≡ (mk 1 3 true, mk 2 0 true, mk 0 0 false, mk 2 0 true)
unfolding first computing
free = refl

ticks : ((book counterexample reporting).tick ≡ 3) × ((book counterexample unreported).tick ≡ 3)
unfolding computing
ticks = (refl, refl)

-- an ended job that had no more ticks is not longer
not-longer : (h c h' c' : ℕ) (e' : Bool) → h ≤ h' → ¬ Longer (mk h c true) (mk h' c' e')
not-longer h c h' c' e' l (e, inl d) = omega arith
not-longer h c h' c' e' l (e, inr d) = true≢false d.1

-- every second job is released later
second : (p k : ℕ) → p < 4 → (book counterexample unreported).tick ≤ release (task counterexample p) (suc k)
second zero k l = omega (arith, ticks.1)
second (suc zero) k l = omega (arith, ticks.1)
second (suc (suc zero)) k l = omega (arith, ticks.1)
second (suc (suc (suc zero))) k l = omega (arith, ticks.1)
second (suc (suc (suc (suc p)))) k l = absurd (omega arith)

none-longer : NoneLonger counterexample (book counterexample reporting) (book counterexample unreported)
unfolding first
none-longer p (suc k) l = λ x. false≢true (sym (ap (λ (j : Job). j.ended) (early-book counterexample unreported p (suc k) (second p k l))) ∙ x.0)
none-longer zero zero l =
    subst₂ (λ (a b : Job). ¬ Longer a b) (sym (ap (λ x. x.0) competing)) (sym (ap (λ x. x.0) free)) (not-longer 1 3 1 3 true (omega arith))
none-longer (suc zero) zero l =
    subst₂ (λ (a b : Job). ¬ Longer a b) (sym (ap (λ x. x.1) competing)) (sym (ap (λ x. x.1) free)) (not-longer 1 0 2 0 true (omega arith))
none-longer (suc (suc zero)) zero l =
    subst₂ (λ (a b : Job). ¬ Longer a b) (sym (ap (λ x. x.2) competing)) (sym (ap (λ x. x.2) free)) (λ x. false≢true x.0)
none-longer (suc (suc (suc zero))) zero l =
    subst₂ (λ (a b : Job). ¬ Longer a b) (sym (ap (λ x. x.3) competing)) (sym (ap (λ x. x.3) free)) fewer
  where
    fewer : ¬ Longer (mk 1 0 false) (mk 2 0 true)
    fewer (e, inl d) = omega arith
    fewer (e, inr d) = omega arith
none-longer (suc (suc (suc (suc p)))) zero l = absurd (omega arith)

-- at tick 3 position 4 has ended where nothing more was reported, and has had one tick where position 2 was
pub counterexample-behind : Behind ((book counterexample reporting).job 3 0) ((book counterexample unreported).job 3 0)
unfolding first
counterexample-behind = subst₂ Behind (sym (ap (λ x. x.3) competing)) (sym (ap (λ x. x.3) free)) (refl, inl refl)

-- THE WITNESS: the table is Firm, and is not sustainable between two such lists
pub lending-not-sustainable : (verdict counterexample ≡ Firm 0 6) × (¬ Sustainable counterexample reporting unreported)
lending-not-sustainable = (unfold computing in refl, λ h. h (ticks.0 ∙ sym ticks.1) none-longer 3 0 (omega arith) counterexample-behind)

-- WHAT A ROW SHOWS: two tables that differ below position 1 only, after the same report

abbrev alone : Table
alone = on 3 lending (t 0 3 2 4 4 ∷ [])

abbrev served-below : Table
served-below = on 3 lending (t 0 3 2 4 4 ∷ t 0 2 2 4 4 ∷ [])

pub equal-above-borrower : EqualAbove 1 alone served-below
equal-above-borrower = record { rules = refl; cores = refl; fences = refl; tasks = refl }

-- the cores reserved for position 1 are the same, and it borrows none; the row shows it on the one that it has not lent
pub lending-shows :
    (grants_of alone (book alone (reports 1 ∷ [])) ≡ (0 ∷ 1 ∷ 2 ∷ []) ∷ [])
    × (grants_of served-below (book served-below (reports 1 ∷ [])) ≡ (0 ∷ 1 ∷ 2 ∷ []) ∷ [] ∷ [])
    × (borrowed served-below (book served-below (reports 1 ∷ [])) 1 ≡ 0 ∷ 1 ∷ [])
    × (asked alone (book alone (reports 1 ∷ [])) 0 ≡ shown (1 ∷ 1 ∷ 1 ∷ []))
    × (asked served-below (book served-below (reports 1 ∷ [])) 0 ≡ shown (2 ∷ 2 ∷ 1 ∷ []))
unfolding computing
lending-shows = (refl, refl, refl, refl, refl)

-- .. and as sets: that of a holder, which has cores to lend, is another where some place borrows of them
pub lending-sets :
    (sets_asked alone (book alone (reports 1 ∷ [])) 0 ≡ shown (7 ∷ []))
    × (sets_asked served-below (book served-below (reports 1 ∷ [])) 0 ≡ shown (4 ∷ 3 ∷ []))
unfolding computing
lending-sets = (refl, refl)
