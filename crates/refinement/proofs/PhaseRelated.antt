-- A task's phase and its line of jobs in the book: their relation, and which job claims.
use mathlib.Core.Path.{◌≡◌, refl}
use mathlib.Core.Bool.{Bool, true, false, not, ◌||◌, false≢true, true≢false}
use Prim.Native.Nat.{ℕ, suc, ◌+◌, ◌%◌, ◌≤◌, ◌<◌}
use native.Mathlib.Nat.{div-lt_iff_lt-mul, le-div_iff_mul-le, le_antisymm, le_of_suc-le-suc}
use native.Mathlib.Omega.{arith}
use lib.Dec.{eqb}
use borrow.Author.Tests.{ltb-true, lt-ltb, eqb-true, eqb-false, eq-eqb, ne_eqb}
use Rattle.model.specs.Task.{Task, Rule, greedy, limited, idling, lending, release, newest}
use Rattle.model.specs.Jobs.{Job, fresh}
use Rattle.model.specs.Claims.{holds, claims}
use Rattle.std.proofs.lemmas.Bool.{false_from_ne_true}
use Rattle.model.proofs.Jobs.{mk, after-release, before-due, still}
use Rattle.phase.specs.declared.Phase.{Phase}
use Rattle.phase.specs.declared.Phase.TheVariants.{Coming, Working, Holding, Resting}
use Rattle.phase.specs.declared.TaskState.{TaskState}
use Rattle.phase.specs.Phase.{idles}

-- THE RELATION

-- Coming left: the first release is `left` ticks ahead, every job is fresh, and the first is an odd one
pub record Comes (τ : Task) (t : ℕ) (js : ℕ → Job) (even : Bool) (left : ℕ) : Type 0 where
  pub some : 1 ≤ left
  pub when : t + left ≡ τ.offset
  pub unmet : (i : ℕ) → js i ≡ fresh
  pub odd : even ≡ false

-- the job of this number was released z ticks ago; those before it have ended, those after it are fresh; its number has the run's parity: numbers
-- count from 0, so that an odd number is an even job
pub record Present (τ : Task) (t : ℕ) (js : ℕ → Job) (even : Bool) (number z : ℕ) : Type 0 where
  pub when : release τ number + z ≡ t
  pub past : (i : ℕ) → i < number → (js i).ended ≡ true
  pub ahead : (i : ℕ) → number < i → js i ≡ fresh
  pub parity : eqb (number % 2) 0 ≡ not even

-- Working z h u: the present job has not ended, has had h ticks and claimed u
pub record Works (τ : Task) (t : ℕ) (js : ℕ → Job) (even : Bool) (z h u : ℕ) : Type 0 where
  pub number : ℕ
  pub present : Present τ t js even number z
  pub by-due : z ≤ τ.deadline
  pub short : h < τ.length
  pub within : h ≤ z
  pub reserved-had : u ≤ h
  pub line : js number ≡ mk h u false

-- Holding z u: under a rule by which ended work holds, the present job has ended, has claimed u ticks and is not yet due
pub record Holds (r : Rule) (τ : Task) (t : ℕ) (js : ℕ → Job) (even : Bool) (z u : ℕ) : Type 0 where
  pub number : ℕ
  pub present : Present τ t js even number z
  pub idle : idles r ≡ true
  pub in-time : z < τ.deadline
  pub short : u < τ.length
  pub over : (js number).ended ≡ true
  pub held : (js number).claimed ≡ u

-- Resting z: the present job has ended, and holds no more before it is due
pub record Rests (r : Rule) (τ : Task) (t : ℕ) (js : ℕ → Job) (even : Bool) (z : ℕ) : Type 0 where
  pub number : ℕ
  pub present : Present τ t js even number z
  pub short : z < τ.period
  pub over : (js number).ended ≡ true
  pub done : holds r τ (js number) ≡ true → τ.deadline ≤ z

-- the relation of a phase, as it is stored or as it is seen in a tick, and the parity of its job to the line of its task's jobs (that stored ones are
-- within their limits is `Passes`)
abbrev pub PhaseRelated : Rule → Task → ℕ → (ℕ → Job) → Bool → Phase → Type 0
PhaseRelated r τ t js even (Coming left) = Comes τ t js even left
PhaseRelated r τ t js even (Working z h u) = Works τ t js even z h u
PhaseRelated r τ t js even (Holding z u) = Holds r τ t js even z u
PhaseRelated r τ t js even (Resting z) = Rests r τ t js even z

abbrev pub StateRelatedAt : Rule → Task → ℕ → (ℕ → Job) → TaskState → Type 0
StateRelatedAt r τ t js w = PhaseRelated r τ t js w.even w.phase

-- the next number has the other parity
pub parity-suc : (k : ℕ) (even : Bool) → eqb (k % 2) 0 ≡ not even → eqb (suc k % 2) 0 ≡ not (not even)
parity-suc k true e = let n = eqb-false (k % 2) 0 e in eq-eqb (suc k % 2) 0 (omega arith)
parity-suc k false e = let n : k % 2 ≡ 0 = eqb-true (k % 2) 0 e in ne_eqb (suc k % 2) 0 (λ (q : suc k % 2 ≡ 0). omega arith)

-- WHICH JOB IS THE NEWEST, AND WHICH CLAIMS

pub newest-in : (τ : Task) (k t : ℕ) → 0 < τ.period → release τ k ≤ t → t < release τ k + τ.period → newest τ t ≡ k
newest-in τ k t pos h l =
    le_antisymm
    (le_of_suc-le-suc ((div-lt_iff_lt-mul pos).1 (omega arith)))
    ((le-div_iff_mul-le pos).1 (omega arith))

-- before the first release the newest is the first
pub newest-first : (τ : Task) (t : ℕ) → 0 < τ.period → t < τ.offset → newest τ t ≡ 0
newest-first τ t pos l = le_antisymm (le_of_suc-le-suc ((div-lt_iff_lt-mul pos).1 (omega arith))) (omega arith)

-- none claims before the first release
pub early : (r : Rule) (τ : Task) (t i : ℕ) (j : Job) → t < τ.offset → claims r τ i t j ≡ false
early r τ t i j l = false_from_ne_true (claims r τ i t j) (λ e. absurd (omega (arith, after-release r τ i t j e)))

-- HOLDING

pub hold-if : (r : Rule) (τ : Task) (j : Job) → idles r ≡ true → j.claimed < τ.length → holds r τ j ≡ true
hold-if greedy τ j e l = absurd (false≢true e)
hold-if limited τ j e l = absurd (false≢true e)
hold-if idling τ j e l = lt-ltb j.claimed τ.length l
hold-if lending τ j e l = lt-ltb j.claimed τ.length l

-- a job that has claimed C ticks holds no more
pub full-done : (r : Rule) (τ : Task) (j : Job) → τ.length ≤ j.claimed → holds r τ j ≡ true → ⊥
full-done greedy τ j l e = false≢true e
full-done limited τ j l e = false≢true e
full-done idling τ j l e = omega (arith, ltb-true j.claimed τ.length e)
full-done lending τ j l e = omega (arith, ltb-true j.claimed τ.length e)

-- under rules 1 and 2 no job holds
pub none-holds : (r : Rule) (τ : Task) (j : Job) → idles r ≡ false → holds r τ j ≡ true → ⊥
none-holds greedy τ j n e = false≢true e
none-holds limited τ j n e = false≢true e
none-holds idling τ j n e = true≢false n
none-holds lending τ j n e = true≢false n

-- holding goes by the ticks claimed
pub same-holds : (r : Rule) (τ : Task) (a b : Job) → a.claimed ≡ b.claimed → holds r τ a ≡ holds r τ b
same-holds greedy τ a b e = refl
same-holds limited τ a b e = refl
same-holds idling τ a b e = rw e
same-holds lending τ a b e = rw e

-- an ended job claims if it holds
ended-only : (a b : Bool) → a ≡ true → not a || b ≡ true → b ≡ true
ended-only true b e h = h
ended-only false b e h = absurd (false≢true e)

pub ended-also : (a b : Bool) → a ≡ true → b ≡ true → not a || b ≡ true
ended-also true b e h = h
ended-also false b e h = refl

-- a job that has ended and holds no more before it is due does not claim
pub rests-off :
    (r : Rule) (τ : Task) (t : ℕ) (j : Job) (k z : ℕ) → release τ k + z ≡ t → j.ended ≡ true → (holds r τ j ≡ true → τ.deadline ≤ z)
    → claims r τ k t j ≡ false
rests-off r τ t j k z when over done =
    false_from_ne_true (claims r τ k t j)
    (λ e.
    let d : τ.deadline ≤ z = done (ended-only j.ended (holds r τ j) over (still r τ k t j e)) in
    absurd (omega (arith, before-due r τ k t j e)))
