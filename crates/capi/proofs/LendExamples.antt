-- The results of the calls on a run in a buffer under rule 4, computed from the definitions, for two tasks (O 0, C 2, D 4, T 4) of widths 2 and 1 on two cores:
-- what a holder lends is shown with the borrower's position, a lent tick is had and not reserved, and the borrower may be reported, not the holder.
use mathlib.Core.Path.{◌≡◌, refl}
use mathlib.Core.Bool.{false}
use mathlib.Core.List.{List, [], ◌∷◌, ◌++◌}
use Prim.Native.Nat.{ℕ}
use lib.ListN.{replicate}
use Rattle.phase.specs.declared.Phase.{Phase}
use Rattle.phase.specs.declared.Phase.TheVariants.{Working, Holding, Resting}
use Rattle.phase.specs.declared.Task.{Task}
use Rattle.capi.specs.Calls.{CallResult}
use Rattle.buffers.specs.Encoding.{place_words}
use Rattle.capi.specs.Runs.{row_call, advance_call}
use Rattle.capi.proofs.Calling.{calling}

-- a number of words as they are lent
abbrev found : ℕ → List ℕ
found n = replicate n 77

abbrev task : ℕ → Phase → Task
task v ph = record { parameters = record { offset = 0; width = v; length = 2; deadline = 4; period = 4; second = v }; even = false; phase = ph }

-- the run in words, under this rule, its tasks in these phases, and anything past the count
abbrev words : ℕ → Phase → Phase → List ℕ
words n a b = n ∷ 2 ∷ 2 ∷ 0 ∷ 0 ∷ 0 ∷ (place_words (task 2 a) ++ (place_words (task 1 b) ++ found 330))

-- the first task holds its cores, and the second has work and none
abbrev pub held : ℕ → List ℕ
held n = words n (Holding 1 1) (Working 1 0 0)

-- the call is answered
abbrev answered : List (List ℕ) → CallResult
answered ls = record { value = 0; lent = ls }

-- taken, and refused with number n
abbrev taken : List ℕ
taken = 0 ∷ 0 ∷ 0 ∷ []

abbrev refused : ℕ → List ℕ
refused n = 3 ∷ n ∷ 0 ∷ []

-- the row of the two cores
abbrev shown : ℕ → ℕ → List ℕ
shown a b = a ∷ b ∷ (replicate 62 0 ++ found 1)

-- the row shows the borrower, and what of its own the holder has not lent; under rule 3 nothing is lent
pub row-lent : row_call (held 4) 0 (found 65) (found 3) ≡ answered (shown 2 1 ∷ taken ∷ [])
unfolding calling
row-lent = refl

pub row-held : row_call (held 3) 0 (found 65) (found 3) ≡ answered (shown 1 1 ∷ taken ∷ [])
unfolding calling
row-held = refl

-- an empty job lends in the tick of its release
pub row-empty : row_call (words 4 (Working 0 0 0) (Working 0 0 0)) 1 (found 65) (found 3) ≡ answered (shown 2 1 ∷ taken ∷ [])
unfolding calling
row-empty = refl

-- the tick is one that the borrower has had, and one that was reserved for the holder
pub advance-lent : advance_call (held 4) 0 0 (found 3) ≡ answered (words 4 (Resting 2) (Working 2 1 0) ∷ taken ∷ [])
unfolding calling
advance-lent = refl

pub advance-held : advance_call (held 3) 0 0 (found 3) ≡ answered (words 3 (Resting 2) (Working 2 0 0) ∷ taken ∷ [])
unfolding calling
advance-held = refl

-- the borrower is reported: with no tick reserved it holds from now on
pub borrower-reported : advance_call (held 4) 2 0 (found 3) ≡ answered (words 4 (Resting 2) (Holding 2 0) ∷ taken ∷ [])
unfolding calling
borrower-reported = refl

-- .. but not the holder, nor under rule 3 one that has no cores
pub holder-reported : advance_call (held 4) 1 0 (found 3) ≡ answered (held 4 ∷ refused 16 ∷ [])
unfolding calling
holder-reported = refl

pub waiting-reported : advance_call (held 3) 2 0 (found 3) ≡ answered (held 3 ∷ refused 16 ∷ [])
unfolding calling
waiting-reported = refl

-- more ticks had than reserved are a run's under rule 4 alone, and more reserved than had are no run's
pub row-ahead : row_call (words 4 (Resting 2) (Working 2 1 0)) 0 (found 65) (found 3) ≡ answered (shown 2 0 ∷ taken ∷ [])
unfolding calling
row-ahead = refl

pub row-unequal : row_call (words 3 (Resting 2) (Working 2 1 0)) 0 (found 65) (found 3) ≡ answered (shown 0 0 ∷ refused 14 ∷ [])
unfolding calling
row-unequal = refl

pub row-behind : row_call (words 4 (Resting 2) (Working 2 0 1)) 0 (found 65) (found 3) ≡ answered (shown 0 0 ∷ refused 14 ∷ [])
unfolding calling
row-behind = refl
