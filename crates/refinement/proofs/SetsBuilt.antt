-- Runs built by hand, asked as sets of cores (request 114), computed from the definitions: lenders and borrowers, holders with and without cores, the fence,
-- 64 cores, an even job, withdrawn and empty jobs; and each refusal, whose sets are all empty. The row's bytes are beside the sets; and how the sets
-- of a run, and those of the book, are made 32.
use mathlib.Core.List.{List, [], ◌∷◌, ◌++◌, map}
use mathlib.Core.Path.{◌≡◌, refl}
use Prim.Native.Nat.{ℕ, ◌-◌, ◌^◌}
use Prim.Native.String.{String}
use lib.ListN.{length, replicate}
use Rattle.model.specs.Refusals.{row_refused, shown}
use Rattle.model.specs.Sets.{set_of}
use Rattle.phase.specs.declared.Phase.{Phase}
use Rattle.phase.specs.declared.Phase.TheVariants.{Coming, Working, Holding, Resting}
use Rattle.phase.specs.Task.{unused}
use Rattle.run.specs.declared.Run.{Run}
use Rattle.run.specs.Sets.{Sets}
use Rattle.run.specs.Answer.{Taken, Refused}
use Rattle.run.specs.Row.{row_of}
use Rattle.run.specs.Sets.{asked_in32, sets_in, sets_of, sets_meaning}
use Rattle.refinement.proofs.HandBuilt.{at-even, one, t, three, two, fenced_run}
use Rattle.refinement.proofs.Running.{running}
use Rattle.refinement.proofs.WidthBuilt.{t₂}
use Rattle.refinement.proofs.WithdrawBuilt.{out}

-- a line: its name, a run and a set of empty jobs; the sets, and the row's bytes
pub record Line : Type 0 where
  pub name : String
  pub from : Run
  pub empties : ℕ
  pub gets : Sets
  pub row : List ℕ

-- the value by the definitions
abbrev pub asked : Line → Line
asked l = record {
  name = l.name;
  from = l.from;
  empties = l.empties;
  gets = sets_of l.from l.empties;
  row = (row_of l.from l.empties).bytes;
}

-- a line whose sets are shown
abbrev shows : String → Run → ℕ → List ℕ → List ℕ → Line
shows n r e sets bytes = record {
  name = n;
  from = r;
  empties = e;
  gets = record { answer = Taken; sets = sets ++ replicate (32 - length sets) 0 };
  row = bytes;
}

-- one whose 32 sets are written out
abbrev all_shown : String → Run → ℕ → List ℕ → List ℕ → Line
all_shown n r e sets bytes = record {
  name = n;
  from = r;
  empties = e;
  gets = record { answer = Taken; sets = sets };
  row = bytes;
}

-- the first bytes of a row, of 64
abbrev first : ℕ → List ℕ → List ℕ
first k bytes = bytes ++ replicate (64 - k) 0

-- a task as wide as the two cores, and one below it, under a rule
abbrev pub pair : ℕ → Phase → Phase → Run
pair r a b = two r 2 (t 0 2 3 6 6 a) (t 0 1 2 6 6 b)

-- two holders of two cores each, and below them tasks of widths 3, 1 and 2 that work, under rule 4 on four cores
abbrev pub lenders : Run
lenders = record {
  rule = 4;
  cores = 4;
  fence = 0;
  withdrawn = 0;
  count = 5;
  tasks =
      t 0 2 3 6 6 (Holding 1 1)
      ∷ t 0 2 3 6 6 (Holding 1 1)
      ∷ t 0 3 2 6 6 (Working 1 0 0)
      ∷ t 0 1 2 6 6 (Working 1 0 0)
      ∷ t 0 2 2 6 6 (Working 1 0 0)
      ∷ replicate 27 unused;
}

abbrev pub sets-lines : List Line
sets-lines =
    all_shown "all 32 sets" (pair 4 (Holding 1 1) (Working 1 0 0)) 0
    (2 ∷ 1 ∷ 0 ∷ 0 ∷ 0 ∷ 0 ∷ 0 ∷ 0 ∷ 0 ∷ 0 ∷ 0 ∷ 0 ∷ 0 ∷ 0 ∷ 0 ∷ 0 ∷ 0 ∷ 0 ∷ 0 ∷ 0 ∷ 0 ∷ 0 ∷ 0 ∷ 0 ∷ 0 ∷ 0 ∷ 0 ∷ 0 ∷ 0 ∷ 0 ∷ 0 ∷ 0 ∷ []) (first 2 (2 ∷ 1 ∷ []))
    ∷ shows "a lender keeps what it has not lent" (pair 4 (Holding 1 1) (Working 1 0 0)) 0 (2 ∷ 1 ∷ []) (first 2 (2 ∷ 1 ∷ []))
    ∷ shows "one that has lent all has none"
    (three 4 2 0 (t 0 2 3 6 6 (Holding 1 1)) (t 0 1 2 6 6 (Working 1 0 0)) (t 0 1 2 6 6 (Working 1 0 0))) 0 (0 ∷ 1 ∷ 2 ∷ []) (first 2 (2 ∷ 3 ∷ []))
    ∷ shows "a holder under rule 3 keeps all" (pair 3 (Holding 1 1) (Working 1 0 0)) 0 (3 ∷ 0 ∷ []) (first 2 (1 ∷ 1 ∷ []))
    ∷ shows "a holder without cores has none, and lends none"
    (three 4 2 0 (t 0 2 3 6 6 (Working 0 0 0)) (t 0 1 2 6 6 (Holding 1 0)) (t 0 1 2 6 6 (Working 1 0 0))) 0 (3 ∷ 0 ∷ 0 ∷ []) (first 2 (1 ∷ 1 ∷ []))
    ∷ shows "under rule 3 too a holder without cores has none" (pair 3 (Working 0 0 0) (Holding 1 0)) 0 (3 ∷ 0 ∷ []) (first 2 (1 ∷ 1 ∷ []))
    ∷ shows "two lenders: each serves who fits in what it has left" lenders 0 (2 ∷ 0 ∷ 0 ∷ 1 ∷ 12 ∷ []) (first 4 (4 ∷ 1 ∷ 5 ∷ 5 ∷ []))
    ∷ shows "a fenced core is in no set, lent or not"
    (three 4 4 2 (t 0 2 3 4 5 (Holding 1 1)) (t 0 1 2 3 5 (Working 1 1 1)) (t 0 2 2 4 5 (Working 1 0 0))) 0 (0 ∷ 8 ∷ 5 ∷ []) (first 4 (3 ∷ 255 ∷ 3 ∷ 2 ∷ []))
    ∷ shows "who rests or has not come has none"
    (three 1 2 0 (t 0 2 3 6 6 (Resting 3)) (t 3 1 2 6 6 (Coming 1)) (t 0 1 2 6 6 (Working 1 0 0))) 0 (0 ∷ 0 ∷ 1 ∷ []) (first 2 (3 ∷ 0 ∷ []))
    ∷ shows "an even job has its own width" (one 1 2 (at-even (t₂ 0 1 2 1 1 1 (Working 0 0 0)))) 0 (3 ∷ []) (first 2 (1 ∷ 1 ∷ []))
    ∷ shows "empties before cores" (pair 1 (Working 0 0 0) (Working 0 0 0)) 1 (0 ∷ 1 ∷ []) (first 2 (2 ∷ 0 ∷ []))
    ∷ shows "and so with a withdrawn one, which lends" (out 1 (pair 4 (Working 0 0 0) (Working 0 0 0))) 0 (2 ∷ 1 ∷ []) (first 2 (2 ∷ 1 ∷ []))
    ∷ shows "a width of 64" (one 1 64 (t 0 64 1 1 1 (Working 0 0 0))) 0 ((2 ^ 64 - 1) ∷ []) (replicate 64 1)
    ∷ []

-- refused: the sets are all empty, and the bytes are 0
abbrev refuses : String → Run → ℕ → ℕ → ℕ → Line
refuses n r e number position = record {
  name = n;
  from = r;
  empties = e;
  gets = record { answer = Refused number position; sets = replicate 32 0 };
  row = replicate 64 0;
}

abbrev pub refused-lines : List Line
refused-lines =
    refuses "14: the rule" (pair 5 (Working 0 0 0) (Working 0 0 0)) 0 14 0
    ∷ refuses "14 before 15: a phase" (pair 1 (Working 6 0 0) (Holding 1 1)) 0 14 0
    ∷ refuses "15, with the lowest late position" (pair 1 (Working 1 0 0) (Working 6 0 0)) 0 15 2
    ∷ refuses "15 before 20" (pair 1 (Working 6 0 0) (Working 6 0 0)) 1 15 1
    ∷ refuses "20: not released in this tick" (pair 1 (Working 1 0 0) (Working 0 0 0)) 1 20 0
    ∷ refuses "20: past the count" (pair 1 (Working 0 0 0) (Working 0 0 0)) 4 20 0
    ∷ refuses "a fence, and no bytes of it" (fenced_run 1 2 3 (t 0 1 1 1 1 (Working 0 0 0))) 0 14 0
    ∷ []

pub sets-examples : map asked sets-lines ≡ sets-lines
unfolding running sets_of sets_in set_of
sets-examples = refl

pub refused-examples : map asked refused-lines ≡ refused-lines
unfolding running sets_of sets_in set_of
refused-examples = refl

-- the meaning: the 32 sets, or the refusal; and of the book's sets, as 32
pub meaning-as : (sets_meaning (sets_of (pair 4 (Holding 1 1) (Working 1 0 0)) 0) ≡ shown (2 ∷ 1 ∷ replicate 30 0))
    × (sets_meaning (sets_of (pair 1 (Working 1 0 0) (Working 6 0 0)) 0) ≡ row_refused 15 2)
    × (asked_in32 (shown (2 ∷ 1 ∷ [])) ≡ shown (2 ∷ 1 ∷ replicate 30 0))
    × (asked_in32 (row_refused 15 2) ≡ row_refused 15 2)
unfolding running sets_of sets_in set_of
meaning-as = (refl, refl, refl, refl)
