-- The result of asking who works, of a run in a buffer, computed from the definitions, for the tasks of SetsExamples: of the first two cores a holder keeps or
-- lends, empty jobs; 14 before 15 before 20, with 0; what is after the set and the answer stays, and everything as found where there is no space for either.
use mathlib.Core.List.{List, [], ◌∷◌, map}
use mathlib.Core.Path.{◌≡◌, refl}
use Prim.Native.Nat.{ℕ}
use Rattle.model.specs.Working.{set_where}
use Rattle.phase.specs.declared.Phase.TheVariants.{Working, Resting}
use Rattle.run.specs.Working.{working_of}
use Rattle.capi.specs.Calls.{call_result}
use Rattle.capi.specs.Runs.{working_call}
use Rattle.capi.proofs.Calling.{calling}
use Rattle.capi.proofs.SetsExamples.{Line, fenced, fresh, held, late, lent, plain, words}

-- the value by the definitions of a line as of sets, the set's words in place of the sets'
abbrev pub worked : Line → Line
worked l = record {
  run = l.run;
  empties = l.empties;
  sets = l.sets;
  answer = l.answer;
  leaves = working_call l.run l.empties l.sets l.answer;
}

-- with the empty jobs e these positions work; of 3 words and an answer of 4 the last stay
abbrev works : List ℕ → ℕ → ℕ → Line
works r e set = record {
  run = r;
  empties = e;
  sets = lent 3;
  answer = lent 4;
  leaves = call_result 0 ((set ∷ lent 2) ∷ (0 ∷ 0 ∷ 0 ∷ lent 1) ∷ []);
}

-- refused with number m and position p, and 0
abbrev refuses : List ℕ → ℕ → ℕ → ℕ → Line
refuses r e m p = record {
  run = r;
  empties = e;
  sets = lent 3;
  answer = lent 4;
  leaves = call_result 0 ((0 ∷ lent 2) ∷ (3 ∷ m ∷ p ∷ lent 1) ∷ []);
}

-- slices for the set and for the answer with too few words
abbrev stays : List ℕ → ℕ → ℕ → Line
stays r s a = record { run = r; empties = 0; sets = lent s; answer = lent a; leaves = call_result 1 (lent s ∷ lent a ∷ []) }

-- just enough space
abbrev fits : Line
fits = record {
  run = fresh (plain 1 3);
  empties = 0;
  sets = lent 1;
  answer = lent 3;
  leaves = call_result 0 ((3 ∷ []) ∷ (0 ∷ 0 ∷ 0 ∷ []) ∷ []);
}

abbrev pub lines : List Line
lines =
    -- both, the one that fits, the one that does not rest, those with unfenced cores
    works (fresh (plain 1 3)) 0 3 ∷ works (fresh (plain 1 2)) 0 1 ∷ works (words (plain 1 3) (Resting 2) (Working 2 1 1)) 0 2 ∷ works (fresh (fenced 3 1 0)) 0 1
    -- empty jobs, and who holds or lends
    ∷ works (fresh (plain 1 3)) 1 2 ∷ works (fresh (plain 1 3)) 3 0 ∷ works (held 4) 0 2 ∷ works (held 3) 0 0 ∷ works (fresh (plain 4 2)) 1 2 ∷ works (fresh (plain 3 2)) 1 0
    -- 15 with the lowest late position, 20 and 14, in their order
    ∷ refuses (late 1 (Working 4 1 1) (Working 4 1 1)) 0 15 1 ∷ refuses (late 4 (Working 4 1 0) (Resting 2)) 4 15 1 ∷ refuses (held 4) 1 20 0 ∷ refuses (fresh (plain 1 3)) 4 20 0
    ∷ refuses (late 5 (Working 4 1 1) (Resting 2)) 4 14 0 ∷ refuses (lent 400) 0 14 0 ∷ refuses [] 0 14 0
    -- the space
    ∷ fits ∷ stays (fresh (plain 1 3)) 0 3 ∷ stays (fresh (plain 1 3)) 1 2 ∷ stays [] 0 0
    ∷ []

pub examples : map worked lines ≡ lines
unfolding calling working_call working_of set_where
examples = refl
