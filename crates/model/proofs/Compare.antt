-- The meaning of 'longer' and 'behind': as tests, of every kind of pair of lines, and of books: no book is longer than the full-length one,
-- and on a table that is Full and not Firm a list with no longer job can be behind.
use mathlib.Core.Bool.{Bool, ◌&&◌, ◌||◌, false, not, true}
use mathlib.Core.List.{List, [], map, ◌∷◌}
use mathlib.Core.Logic.{inl, inr, ◌↔◌, ◌⊎◌}
use mathlib.Core.Path.{refl, ◌≡◌}
use Prim.Native.Nat.{◌<◌, suc, zero, ℕ}
use native.Mathlib.Omega.{arith}
use lib.Dec.{eqb, ltb}
use lib.ListN.{replicate}
use borrow.Author.Tests.{eq-eqb, eqb-true, lt-ltb, ltb-true, not-true}
use Rattle.model.proofs.Bools.{and_both, and_left, and_right, or_cases, or_left, or_right}
use Rattle.model.proofs.Computing.{computing}
use Rattle.model.proofs.Examples.{B, reports}
use Rattle.model.proofs.Jobs.{mk}
use Rattle.model.proofs.Runs.{BookBounds, WholeBook, bounds-book, whole-empty}
use Rattle.model.specs.Jobs.{Book, Job}
use Rattle.model.specs.Advance.{Entry}
use Rattle.model.specs.Lists.{book, no_reports}
use Rattle.model.specs.Compare.{Behind, FullLongest, Sustainable, Longer, NoneLonger, behind, longer}
use Rattle.model.specs.Task.{AllValid, Table, greedy}
use Rattle.model.specs.Verdict.{Full, verdict}

-- THE TESTS

pub longer-exact : (a b : Job) → (longer a b ≡ true) ↔ Longer a b
unfolding longer
longer-exact a b = (
  λ e. (and_left b.ended rest e, says (or_cases more even (and_right b.ended rest e))),
  λ l. and_both b.ended rest l.0 (found l.1),
)
  where
    more : Bool
    more = ltb b.had a.had

    even : Bool
    even = eqb a.had b.had && not a.ended

    rest : Bool
    rest = more || even

    says : (more ≡ true) ⊎ (even ≡ true) → (b.had < a.had) ⊎ ((a.had ≡ b.had) × (a.ended ≡ false))
    says (inl e) = inl (ltb-true b.had a.had e)
    says (inr e) = inr (
      eqb-true a.had b.had (and_left (eqb a.had b.had) (not a.ended) e),
      not-true a.ended (and_right (eqb a.had b.had) (not a.ended) e),
    )

    found : (b.had < a.had) ⊎ ((a.had ≡ b.had) × (a.ended ≡ false)) → rest ≡ true
    found (inl h) = or_left more even (lt-ltb b.had a.had h)
    found (inr h) = or_right more even (and_both (eqb a.had b.had) (not a.ended) (eq-eqb a.had b.had h.0) (rw h.1))

pub behind-exact : (a b : Job) → (behind a b ≡ true) ↔ Behind a b
unfolding behind
behind-exact a b = (
  λ e. (not-true a.ended (and_left (not a.ended) rest e), says (or_cases b.ended fewer (and_right (not a.ended) rest e))),
  λ l. and_both (not a.ended) rest (rw l.0) (found l.1),
)
  where
    fewer : Bool
    fewer = not b.ended && ltb a.had b.had

    rest : Bool
    rest = b.ended || fewer

    says : (b.ended ≡ true) ⊎ (fewer ≡ true) → (b.ended ≡ true) ⊎ ((b.ended ≡ false) × (a.had < b.had))
    says (inl e) = inl e
    says (inr e) = inr (
      not-true b.ended (and_left (not b.ended) (ltb a.had b.had) e),
      ltb-true a.had b.had (and_right (not b.ended) (ltb a.had b.had) e),
    )

    found : (b.ended ≡ true) ⊎ ((b.ended ≡ false) × (a.had < b.had)) → rest ≡ true
    found (inl e) = or_left b.ended fewer e
    found (inr h) = or_right b.ended fewer (and_both (not b.ended) (ltb a.had b.had) (rw h.0) (lt-ltb a.had b.had h.1))

-- EVERY KIND OF PAIR

-- two lines of one job; whether the first is longer, the second is longer, the first is behind, the second is behind
pub record Pair : Type 0 where
  pub first : Job
  pub second : Job
  pub first-longer : Bool
  pub second-longer : Bool
  pub first-behind : Bool
  pub second-behind : Bool

-- the value by the definitions of a pair
abbrev pub compared : Pair → Pair
compared l = record {
  first = l.first;
  second = l.second;
  first-longer = longer l.first l.second;
  second-longer = longer l.second l.first;
  first-behind = behind l.first l.second;
  second-behind = behind l.second l.first;
}

-- a line from its parts
abbrev pair : Job → Job → Bool → Bool → Bool → Bool → Pair
pair a b la lb ba bb = record { first = a; second = b; first-longer = la; second-longer = lb; first-behind = ba; second-behind = bb }

-- a job that has not ended, and one that has: ticks had, ticks claimed
abbrev going : ℕ → ℕ → Job
going h c = mk h c false

abbrev ended : ℕ → ℕ → Job
ended h c = mk h c true

-- neither, one or both have ended; the first has had fewer, as many or more; the ticks claimed do not matter
abbrev pub pairs : List Pair
pairs =
    pair (going 1 1) (going 2 2) false false true false
    ∷ pair (going 1 5) (going 2 2) false false true false
    ∷ pair (going 2 2) (going 2 2) false false false false
    ∷ pair (going 2 1) (going 2 5) false false false false
    ∷ pair (going 1 1) (ended 2 2) false false true false
    ∷ pair (going 1 5) (ended 2 2) false false true false
    ∷ pair (going 2 2) (ended 2 2) true false true false
    ∷ pair (going 2 2) (ended 2 5) true false true false
    ∷ pair (going 3 3) (ended 2 2) true false true false
    ∷ pair (going 3 3) (ended 2 5) true false true false
    ∷ pair (ended 1 1) (ended 2 2) false true false false
    ∷ pair (ended 1 5) (ended 2 2) false true false false
    ∷ pair (ended 2 2) (ended 2 2) false false false false
    ∷ pair (ended 2 2) (ended 2 5) false false false false
    ∷ []

-- every pair is its value by the definitions: one table with one check
pub pairs-compared : map compared pairs ≡ pairs
unfolding longer behind
pairs-compared = refl

-- BOOKS

-- a book of good lines has no longer job than one in which jobs end only at C ticks
pub none-longer : (s : Table) (a b : Book) → BookBounds s a → WholeBook s b → NoneLonger s a b
none-longer s a b good whole p k l (e, x) = go x
  where
    go : ((b.job p k).had < (a.job p k).had) ⊎ (((a.job p k).had ≡ (b.job p k).had) × ((a.job p k).ended ≡ false)) → ⊥
    go (inl h) = omega (arith, (good p k l).within, whole p k e)
    go (inr h) = omega (arith, (good p k l).short h.1, h.0, whole p k e)

-- THE THEOREM: under every rule, Firm or not, no book is longer than the full-length one
pub full-longest : (s : Table) → AllValid s → FullLongest s
full-longest s ok xs n = none-longer s (book s xs) (book s (replicate n no_reports)) (bounds-book s ok xs) (whole-empty s n)

-- B UNDER GREEDY

valid-B : AllValid (B greedy)
valid-B zero l = record { odd_pos = omega arith; even-pos = omega arith; length-pos = omega arith; deadline-pos = omega arith; constrained = omega arith }
valid-B (suc zero) l = record { odd_pos = omega arith; even-pos = omega arith; length-pos = omega arith; deadline-pos = omega arith; constrained = omega arith }
valid-B (suc (suc zero)) l = record { odd_pos = omega arith; even-pos = omega arith; length-pos = omega arith; deadline-pos = omega arith; constrained = omega arith }
valid-B (suc (suc (suc p))) l = absurd (omega arith)

-- position 1 reported in tick 0, and the same ticks at full length
abbrev one-reported : List Entry
one-reported = reports 1 ∷ no_reports ∷ []

abbrev none-reported : List Entry
none-reported = no_reports ∷ no_reports ∷ []

-- at tick 2 the job of position 3 has ended at full length, and has had one tick where position 1 was reported in tick 0
pub B-behind : Behind ((book (B greedy) one-reported).job 2 0) ((book (B greedy) none-reported).job 2 0)
unfolding computing
B-behind = (refl, inl refl)

-- both lists are at tick 2 and no job is longer in the first, which is behind: B is Full, and is not kept abreast
pub full-not-sustainable : (verdict (B greedy) ≡ Full 0 4) × (¬ Sustainable (B greedy) one-reported none-reported)
unfolding computing
full-not-sustainable = (refl, λ h. h refl (full-longest (B greedy) valid-B one-reported 2) 2 0 (omega arith) B-behind)
