-- Runs built by hand, asked who works (issue 47), computed from the definitions: holders and lenders do not, borrowers do, whatever cores their sets have;
-- 32 positions, empty and withdrawn jobs; and each refusal, with the empty set.
use mathlib.Core.List.{List, [], ◌∷◌, map}
use mathlib.Core.Path.{◌≡◌, refl}
use Prim.Native.Nat.{ℕ, ◌-◌, ◌^◌}
use Prim.Native.String.{String}
use lib.ListN.{replicate}
use Rattle.model.specs.Sets.{set_of}
use Rattle.model.specs.Working.{set_where}
use Rattle.phase.specs.declared.Phase.TheVariants.{Coming, Working, Holding, Resting}
use Rattle.run.specs.declared.Run.{Run}
use Rattle.run.specs.Working.{WorkingPositions}
use Rattle.run.specs.Answer.{Taken, Refused}
use Rattle.run.specs.Working.{working_of}
use Rattle.refinement.proofs.HandBuilt.{t, three}
use Rattle.refinement.proofs.Running.{running}
use Rattle.refinement.proofs.SetsBuilt.{lenders, pair}
use Rattle.refinement.proofs.WithdrawBuilt.{out}

-- a line: its name, a run and a set of empty jobs; the answer and the set
pub record Line : Type 0 where
  pub name : String
  pub from : Run
  pub empties : ℕ
  pub gets : WorkingPositions

-- the value by the definitions
abbrev pub asked : Line → Line
asked l = record { name = l.name; from = l.from; empties = l.empties; gets = working_of l.from l.empties }

abbrev works : String → Run → ℕ → ℕ → Line
works n r e set = record { name = n; from = r; empties = e; gets = record { answer = Taken; set = set } }

abbrev refuses : String → Run → ℕ → ℕ → ℕ → Line
refuses n r e number position = record { name = n; from = r; empties = e; gets = record { answer = Refused number position; set = 0 } }

-- as many positions as there may be, each on a core of its own
abbrev all : Run
all = record { rule = 1; cores = 32; fence = 0; withdrawn = 0; count = 32; tasks = replicate 32 (t 0 1 2 6 6 (Working 1 0 0)) }

abbrev pub working-lines : List Line
working-lines =
    works "a lender that keeps a core does not work, the borrower does" (pair 4 (Holding 1 1) (Working 1 0 0)) 0 2
    ∷ works "a holder under rule 3 has all cores, and none works" (pair 3 (Holding 1 1) (Working 1 0 0)) 0 0
    ∷ works "two lenders, and those that borrow of them" lenders 0 24
    ∷ works "who rests or has not come does not work" (three 1 2 0 (t 0 2 3 6 6 (Resting 3)) (t 3 1 2 6 6 (Coming 1)) (t 0 1 2 6 6 (Working 1 0 0))) 0 4
    ∷ works "nor does who has no cores" (pair 1 (Working 0 0 0) (Working 0 0 0)) 0 1
    ∷ works "empties before cores" (pair 1 (Working 0 0 0) (Working 0 0 0)) 1 2
    ∷ works "and so with a withdrawn one, which lends" (out 1 (pair 4 (Working 0 0 0) (Working 0 0 0))) 0 2
    ∷ works "32 positions" all 0 (2 ^ 32 - 1)
    ∷ refuses "14: the rule" (pair 5 (Working 0 0 0) (Working 0 0 0)) 0 14 0
    ∷ refuses "14 before 15: a phase" (pair 1 (Working 6 0 0) (Holding 1 1)) 0 14 0
    ∷ refuses "15, with the lowest late position" (pair 1 (Working 1 0 0) (Working 6 0 0)) 0 15 2
    ∷ refuses "15 before 20" (pair 1 (Working 6 0 0) (Working 6 0 0)) 1 15 1
    ∷ refuses "20: not released in this tick" (pair 1 (Working 1 0 0) (Working 0 0 0)) 1 20 0
    ∷ refuses "20: past the count" (pair 1 (Working 0 0 0) (Working 0 0 0)) 4 20 0
    ∷ []

pub working-examples : map asked working-lines ≡ working-lines
unfolding running working_of set_where set_of
working-examples = refl
