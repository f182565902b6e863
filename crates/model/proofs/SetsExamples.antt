-- Rows as sets of cores (request 114), computed from the definitions: borrowers and lenders, holders of each rule, a withdrawn set, the fence, core 63,
-- 64 cores, an even job, empty jobs, and what is refused; and sets that no tick has.
use mathlib.Core.Bool.{cond, true≢false}
use mathlib.Core.List.{List, [], cons≢nil, map, ◌∷◌}
use mathlib.Core.Logic.{⊎_elim}
use mathlib.Core.Path.{refl, ◌≡◌}
use Prim.Native.Nat.{ℕ, ◌-◌, ◌<◌, ◌^◌}
use Prim.Native.String.{String}
use native.Mathlib.Omega.{arith}
use lib.Count.{ones}
use lib.Dec.{eqb}
use Rattle.model.proofs.Computing.{computing}
use Rattle.model.proofs.EmptyExamples.{no_places}
use Rattle.model.proofs.Examples.{B, fenced_on, on, t, t₂}
use Rattle.model.proofs.LendExamples.{figure-3}
use Rattle.model.specs.Advance.{Entry, advance, withdraw_all}
use Rattle.model.specs.Refusals.{Asked, row_refused, shown}
use Rattle.model.specs.Lists.{book}
use Rattle.model.specs.Lending.{among}
use Rattle.model.specs.Search.{filtered, member}
use Rattle.model.specs.Sets.{SetsApart, SetsCount, SetsUnfenced, set_of, sets_asked}
use Rattle.model.specs.Task.{Rule, Table, greedy, idling, lending, limited}

-- a line: its name, a table and a list, the empty jobs of the row asked after it; and the answer
pub record Line : Type 0 where
  pub name : String
  pub table : Table
  pub entries : List Entry
  pub empties : ℕ
  pub sets : Asked

-- the value by the definitions
abbrev pub answered : Line → Line
answered l = record {
  name = l.name;
  table = l.table;
  entries = l.entries;
  empties = l.empties;
  sets = sets_asked l.table (book l.table l.entries) l.empties;
}

-- a line from its parts
abbrev pub line : String → Table → List Entry → ℕ → Asked → Line
line n s xs e a = record { name = n; table = s; entries = xs; empties = e; sets = a }

-- position 1 is wide and ends early, position 2 is narrower
abbrev pub early : Rule → Table
early r = on 3 r (t 0 3 2 4 4 ∷ t 0 2 2 4 4 ∷ [])

-- all jobs are released in tick 0, and position 1 takes every core
abbrev pub all-wide : Rule → Table
all-wide r = on 2 r (t 0 2 1 3 3 ∷ t 0 1 1 3 3 ∷ [])

abbrev pub sets-lines : List Line
sets-lines =
    line "lent cores are the borrowers', and who has lent all has none" figure-3 (advance 1 0 ∷ []) 0 (shown (0 ∷ 0 ∷ 4 ∷ 1 ∷ 0 ∷ 2 ∷ []))
    ∷ line "a tick later" figure-3 (advance 1 0 ∷ no_places ∷ []) 0 (shown (0 ∷ 0 ∷ 0 ∷ 4 ∷ 3 ∷ 0 ∷ []))
    ∷ line "a lender keeps what it has not lent" (early lending) (advance 1 0 ∷ []) 0 (shown (4 ∷ 3 ∷ []))
    ∷ line "a holder of whom nobody borrows has its width" (on 3 lending (t 0 2 2 6 6 ∷ t 0 3 1 6 6 ∷ [])) (advance 1 0 ∷ []) 0 (shown (3 ∷ 0 ∷ []))
    ∷ line "withdrawn in a set: it lends at once" (early lending) (withdraw_all 1 ∷ []) 0 (shown (4 ∷ 3 ∷ []))
    ∷ line "a set that is refused" (early lending) (withdraw_all 5 ∷ []) 0 (shown (7 ∷ 0 ∷ []))
    ∷ line "a holder under rule 3 keeps all" (early idling) (advance 1 0 ∷ []) 0 (shown (7 ∷ 0 ∷ []))
    ∷ line "under rules 1 and 2 it has none" (early limited) (advance 1 0 ∷ []) 0 (shown (0 ∷ 3 ∷ []))
    ∷ line "one that ended by lent ticks and has no cores reserved has none"
    (on 2 lending (t 0 2 3 9 9 ∷ t 0 1 1 9 9 ∷ t 0 2 1 9 9 ∷ t 0 1 3 9 9 ∷ [])) (advance 1 0 ∷ no_places ∷ []) 0 (shown (0 ∷ 0 ∷ 3 ∷ 0 ∷ []))
    ∷ line "a fenced core is in no set, lent or not" (fenced_on 5 5 lending figure-3.tasks) (advance 1 0 ∷ []) 0 (shown (0 ∷ 0 ∷ 16 ∷ 2 ∷ 0 ∷ 8 ∷ []))
    ∷ line "all cores but the last are fenced" (fenced_on 64 (2 ^ 63 - 1) greedy (t 0 1 1 1 1 ∷ [])) [] 0 (shown (2 ^ 63 ∷ []))
    ∷ line "a width of 64" (on 64 greedy (t 0 64 1 1 1 ∷ [])) [] 0 (shown ((2 ^ 64 - 1) ∷ []))
    ∷ line "an even job has its own width" (on 2 greedy (t₂ 0 1 2 1 1 1 ∷ [])) (no_places ∷ []) 0 (shown (3 ∷ []))
    ∷ line "empties before cores, under rule 1" (all-wide greedy) [] 1 (shown (0 ∷ 1 ∷ []))
    ∷ line ".. under rule 3" (all-wide idling) [] 1 (shown (3 ∷ 0 ∷ []))
    ∷ line ".. and under rule 4" (all-wide lending) [] 1 (shown (2 ∷ 1 ∷ []))
    ∷ line "20: no job is released" (all-wide greedy) (no_places ∷ []) 1 (row_refused 20 0)
    ∷ line "15 before 20" (B greedy) (advance 1 0 ∷ no_places ∷ []) 8 (row_refused 15 3)
    ∷ []

-- every line is its value by the definitions: one table with one check
pub sets-examples : map answered sets-lines ≡ sets-lines
unfolding computing
sets-examples = refl

-- WHAT IS NOT SO OF THE SETS OF A TICK

-- core 0 in two sets
pub not-apart : ¬ SetsApart (3 ∷ 1 ∷ [])
not-apart h = let e : ◌≡◌ {A = ℕ} 0 1 = h 0 1 0 refl refl in omega arith

-- a fenced core, and one at the count
pub not-open : (¬ SetsUnfenced 1 2 (1 ∷ [])) × (¬ SetsUnfenced 0 2 (4 ∷ []))
not-open = (λ h. true≢false (h 0 0 refl).1, λ h. let l : 2 < 2 = (h 0 2 refl).0 in omega arith)

-- one core of a job of width 2, and nothing to lend
pub not-counted : ¬ SetsCount (2 ∷ []) (λ p. []) ([] ∷ []) (1 ∷ [])
unfolding ones
not-counted h = ⊎_elim (λ (e : 1 ≡ 2). omega arith) (λ (e : 1 ≡ 0). omega arith) (h.width 0 refl)

-- the borrower's core left in the holder's set
pub not-kept : ¬ SetsCount (2 ∷ 1 ∷ []) (λ p. cond (eqb p 0) (0 ∷ 1 ∷ []) []) ([] ∷ (0 ∷ []) ∷ []) (3 ∷ 1 ∷ [])
unfolding set_of filtered among member
not-kept h = let e : ◌≡◌ {A = ℕ} 3 2 = h.lender 0 cons≢nil in omega arith

-- a holder of width 2 that has one core to lend, of which no place borrows
pub not-whole : ¬ SetsCount (2 ∷ []) (λ p. 0 ∷ []) ([] ∷ []) (1 ∷ [])
unfolding ones filtered among member
not-whole h = let e : ◌≡◌ {A = ℕ} 1 2 = h.parts 0 cons≢nil in omega arith
