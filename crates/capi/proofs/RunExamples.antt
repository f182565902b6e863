-- The results of the calls on a run in a buffer, computed from the definitions, for one task (O 0, v 1, C 3, D 3, T 4, w 2) on two cores under greedy:
-- which of the two sets of an advance is which, the set of a row, the positions of a withdrawal, and the parity of a job.
use mathlib.Core.Path.{◌≡◌, refl}
use mathlib.Core.Bool.{Bool, true, false}
use mathlib.Core.List.{List, [], ◌∷◌, ◌++◌}
use Prim.Native.Nat.{ℕ}
use lib.ListN.{replicate}
use Rattle.phase.specs.declared.Phase.{Phase}
use Rattle.phase.specs.declared.Phase.TheVariants.{Coming, Working, Resting}
use Rattle.capi.specs.Calls.{CallResult}
use Rattle.buffers.specs.Encoding.{place_words}
use Rattle.capi.specs.Runs.{row_call, advance_call, withdraw_call}
use Rattle.capi.proofs.Calling.{calling}

-- a number of words as they are lent
abbrev lent : ℕ → List ℕ
lent n = replicate n 77

-- the run in words, with this set withdrawn, its task at an odd or an even job in this phase, and anything past the count
abbrev words : ℕ → Bool → Phase → List ℕ
words x e ph =
    1 ∷ 2 ∷ 1 ∷ 0 ∷ 0 ∷ x
    ∷ (place_words (record { parameters = record { offset = 0; width = 1; length = 3; deadline = 3; period = 4; second = 2 }; even = e; phase = ph }) ++ lent 341)

-- at an odd job, with this set withdrawn
abbrev without : ℕ → Phase → List ℕ
without x ph = words x false ph

-- .. with no position withdrawn, and so at an even one
abbrev one : Phase → List ℕ
one ph = words 0 false ph

abbrev second : Phase → List ℕ
second ph = words 0 true ph

-- the call is answered
abbrev answered : List (List ℕ) → CallResult
answered ls = record { value = 0; lent = ls }

-- taken, and refused with number n
abbrev taken : List ℕ
taken = 0 ∷ 0 ∷ 0 ∷ []

abbrev refused : ℕ → List ℕ
refused n = 3 ∷ n ∷ 0 ∷ []

-- a row: without an empty job, with one, and with one a tick too late
pub row-worked : row_call (one (Working 0 0 0)) 0 (lent 65) (lent 3) ≡ answered ((1 ∷ (replicate 63 0 ++ lent 1)) ∷ taken ∷ [])
unfolding calling
row-worked = refl

pub row-emptied : row_call (one (Working 0 0 0)) 1 (lent 65) (lent 3) ≡ answered ((replicate 64 0 ++ lent 1) ∷ taken ∷ [])
unfolding calling
row-emptied = refl

pub row-refused : row_call (one (Working 1 1 1)) 1 (lent 65) (lent 3) ≡ answered ((replicate 64 0 ++ lent 1) ∷ refused 20 ∷ [])
unfolding calling
row-refused = refl

-- an advance: the reports first, then the empties
pub advance-reported : advance_call (one (Working 1 1 1)) 1 0 (lent 3) ≡ answered (one (Resting 2) ∷ taken ∷ [])
unfolding calling
advance-reported = refl

pub advance-not-emptied : advance_call (one (Working 1 1 1)) 0 1 (lent 3) ≡ answered (one (Working 1 1 1) ∷ refused 20 ∷ [])
unfolding calling
advance-not-emptied = refl

pub advance-both : advance_call (one (Working 0 0 0)) 1 1 (lent 3) ≡ answered (one (Working 0 0 0) ∷ refused 16 ∷ [])
unfolding calling
advance-both = refl

-- a withdrawal: the position 1, neither 0 nor 2; and what it leaves of a job released in this tick, and of one that works
pub withdraw-first : withdraw_call (one (Working 0 0 0)) 1 (lent 3) ≡ answered (without 1 (Working 0 0 0) ∷ taken ∷ [])
unfolding calling
withdraw-first = refl

pub withdraw-none : withdraw_call (one (Working 0 0 0)) 0 (lent 3) ≡ answered (one (Working 0 0 0) ∷ refused 22 ∷ [])
unfolding calling
withdraw-none = refl

pub withdraw-second : withdraw_call (one (Working 0 0 0)) 2 (lent 3) ≡ answered (one (Working 0 0 0) ∷ refused 22 ∷ [])
unfolding calling
withdraw-second = refl

pub row-without : row_call (without 1 (Working 0 0 0)) 0 (lent 65) (lent 3) ≡ answered ((replicate 64 0 ++ lent 1) ∷ taken ∷ [])
unfolding calling
row-without = refl

pub row-goes-on : row_call (without 1 (Working 1 1 1)) 0 (lent 65) (lent 3) ≡ answered ((1 ∷ (replicate 63 0 ++ lent 1)) ∷ taken ∷ [])
unfolding calling
row-goes-on = refl

-- a bit past the count is no run's
pub row_out : row_call (without 2 (Working 1 1 1)) 0 (lent 65) (lent 3) ≡ answered ((replicate 64 0 ++ lent 1) ∷ refused 14 ∷ [])
unfolding calling
row_out = refl

-- an even job has the second width; the next release turns to it, and the one after that back
pub row-even : row_call (second (Working 0 0 0)) 0 (lent 65) (lent 3) ≡ answered ((1 ∷ 1 ∷ (replicate 62 0 ++ lent 1)) ∷ taken ∷ [])
unfolding calling
row-even = refl

pub advance-to-even : advance_call (one (Resting 3)) 0 0 (lent 3) ≡ answered (second (Working 0 0 0) ∷ taken ∷ [])
unfolding calling
advance-to-even = refl

pub advance-to-odd : advance_call (second (Resting 3)) 0 0 (lent 3) ≡ answered (one (Working 0 0 0) ∷ taken ∷ [])
unfolding calling
advance-to-odd = refl

-- no even job is coming
pub row-coming : row_call (second (Coming 1)) 0 (lent 65) (lent 3) ≡ answered ((replicate 64 0 ++ lent 1) ∷ refused 14 ∷ [])
unfolding calling
row-coming = refl
