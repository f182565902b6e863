-- Numbers 14, 9, 10, 11, 25, 24 and 26 for what a row is turned down with (request 112): when each applies, with its tick, and which is the first.
use Rattle.std.specs.Prelude.{Bool, ◌&&◌, false, not, true, ◌||◌, List, [], ◌∷◌, ◌⊎◌, ◌≡◌, ◌<◌, suc, ℕ, ◌≤◌, eqb, length}
use Rattle.model.specs.Search.{any, bit}
use Rattle.model.specs.Sizes.{fenced_byte}
use Rattle.table.specs.Limits.{HorizonOut}
use Rattle.table.specs.Numbers.{NoneOf, place_from}
use Rattle.phase.specs.declared.Phase.{Phase}
use Rattle.phase.specs.declared.Phase.TheVariants.{Coming, Holding, Resting, Working}
use Rattle.phase.specs.Task.{width_now}
use Rattle.run.specs.declared.Run.{Run}
use Rattle.run.specs.Run.{phase_at, place_at}
use Rattle.run.specs.Numbers.{PlaceLate, RunOut, late_at, run_out}
use Rattle.plan_check.specs.declared.SuppliedPlan.{SuppliedPlan}
use Rattle.plan_check.specs.Plan.{cell_count}
use Rattle.plan_check.specs.Row.{byte_at, shown_in_row, worked_row}
use Rattle.plan_check.specs.State.{state_at, horizon_in, noted_at}

-- THE CONDITION OF EACH NUMBER

-- no supplied plan leaves a task in this phase: it holds cores, or its counts are unequal
abbrev pub UnreachablePhase : Phase → Type 0
UnreachablePhase ph =
    ((z reserved : ℕ) × (ph ≡ Holding z reserved))
    ⊎ ((z had reserved : ℕ) × (ph ≡ Working z had reserved) × (¬ (reserved ≡ had)))

-- 14 would turn the run down, or a position is withdrawn, or a task holds or has unequal counts
abbrev pub StateOut : Run → Type 0
StateOut r = RunOut r ⊎ ((¬ (r.withdrawn ≡ 0)) ⊎ ((p : ℕ) × (p < r.count) × UnreachablePhase (phase_at r p)))

-- a deadline is missed: some task is Working at z = D
abbrev pub AnyLate : Run → Type 0
AnyLate r = (p : ℕ) × (p < r.count) × PlaceLate r p

-- core c is fenced without 255, or another core with a byte that is neither 0 nor a position: an unknown position
abbrev pub UnknownByteAt : Run → List ℕ → ℕ → Type 0
UnknownByteAt r row c =
    ((bit r.fence c ≡ true) × (¬ (byte_at row c ≡ fenced_byte)))
    ⊎ ((bit r.fence c ≡ false) × (r.count < byte_at row c))

-- place p has work still owed: its task is Working (at z = D 25 comes before)
abbrev pub WorkOwed : Run → ℕ → Type 0
WorkOwed r p = (z had reserved : ℕ) × (phase_at r p ≡ Working z had reserved)

-- place p is in the row, with another width than its job's, or with nothing owed
abbrev pub WrongAt : Run → List ℕ → ℕ → Type 0
WrongAt r row p = (shown_in_row row p ≡ true) × ((¬ (cell_count (suc p) row ≡ width_now (place_at r p))) ⊎ (¬ WorkOwed r p))

-- an unknown position, or a place in the row with a wrong width or nothing owed
abbrev pub Faulty : Run → List ℕ → Type 0
Faulty r row = ((c : ℕ) × (c < length row) × UnknownByteAt r row c) ⊎ ((p : ℕ) × (p < r.count) × WrongAt r row p)

-- some task's phase is not the recorded one, apart from parity
abbrev pub Differs : SuppliedPlan → Type 0
Differs w = (p : ℕ) × (p < w.run.count) × (¬ (phase_at w.run p ≡ noted_at w p))

-- the state after the row, one tick on
abbrev pub after_row : SuppliedPlan → List ℕ → SuppliedPlan
after_row w row = state_at (worked_row w.run row) (suc w.tick) w.noted

-- the row is the last: the tick after it is the horizon
abbrev pub Last : SuppliedPlan → Type 0
Last w = suc w.tick ≡ horizon_in w.run

-- number n applies to a row, with tick t. As in table/specs/Numbers, with a tick for the position: `Applies`, `First`, `NoneApplies`, `EarlierFault`, `row_order`
pub data Applies (w : SuppliedPlan) (row : List ℕ) : ℕ → ℕ → Type 0 where
  -- 14. The run is one that 14 turns down, or has a task Holding, withdrawn or with unequal counts.
  fourteen : StateOut w.run → Applies w row 14 0
  -- 9. The horizon of its tasks exceeds 1,000,000,000.
  nine : HorizonOut (horizon_in w.run) → Applies w row 9 0
  -- 10. The row is past the horizon.
  ten : horizon_in w.run ≤ w.tick → Applies w row 10 0
  -- 11. The row's length isn't the core count.
  eleven : ¬ (length row ≡ w.run.cores) → Applies w row 11 0
  -- 25. A deadline is missed at the start of this tick; after the last row, on the horizon.
  late-now : AnyLate w.run → Applies w row 25 w.tick
  late-last : Last w → AnyLate (worked_row w.run row) → Applies w row 25 (suc w.tick)
  -- 24. An unknown position in the row, a wrong width, or nothing owed.
  twenty-four : Faulty w.run row → Applies w row 24 w.tick
  -- 26. After the last row the phases differ from those recorded at the last S.
  twenty-six : Last w → Differs (after_row w row) → Applies w row 26 (suc w.tick)

-- WHICH IS THE FIRST

-- 14, 9, 10 and 11 are checked in this order; 24 to 26 come after them
abbrev pub row_order : List ℕ
row_order = 14 ∷ 9 ∷ 10 ∷ 11 ∷ []

-- they are checked tick by tick; at the start of a tick 25, then 24; after the last row 25, then 26
abbrev pub in_tick : List ℕ
in_tick = 25 ∷ 24 ∷ 26 ∷ []

-- number m with tick s is checked before number n with tick t
abbrev pub EarlierFault : ℕ → ℕ → ℕ → ℕ → Type 0
EarlierFault m s n t =
    (place_from 1 row_order m < place_from 1 row_order n)
    ⊎ ((place_from 1 row_order m ≡ place_from 1 row_order n)
    × ((s < t) ⊎ ((s ≡ t) × (place_from 1 in_tick m < place_from 1 in_tick n))))

-- of the numbers that apply, n is the first, with tick t (`first-only`: there is one at most)
abbrev pub First : SuppliedPlan → List ℕ → ℕ → ℕ → Type 0
First w row n t = Applies w row n t × ((m s : ℕ) → EarlierFault m s n t → ¬ Applies w row m s)

-- no number applies
abbrev pub NoneApplies : SuppliedPlan → List ℕ → Type 0
NoneApplies w row = NoneOf (Applies w row)

-- THE TESTS THAT DECIDE THEM

-- `unreachable-decides`
abbrev pub unreachable_phase : Phase → Bool
unreachable_phase (Coming left) = false
unreachable_phase (Working z had reserved) = not (eqb reserved had)
unreachable_phase (Holding z reserved) = true
unreachable_phase (Resting z) = false

-- 14 (`state-decides`)
unfoldable pub state_out : Run → Bool
state_out r = run_out r || (not (eqb r.withdrawn 0) || any r.count (λ p. unreachable_phase (phase_at r p)))

-- 25 (`missed-decides`)
unfoldable pub missed : Run → Bool
missed r = any r.count (late_at r)

-- two phases are the same (`same-phase`)
abbrev pub same_phase : Phase → Phase → Bool
same_phase (Coming a) (Coming b) = eqb a b
same_phase (Coming a) (Working z had reserved) = false
same_phase (Coming a) (Holding z reserved) = false
same_phase (Coming a) (Resting z) = false
same_phase (Working a b c) (Coming left) = false
same_phase (Working a b c) (Working z had reserved) = eqb a z && (eqb b had && eqb c reserved)
same_phase (Working a b c) (Holding z reserved) = false
same_phase (Working a b c) (Resting z) = false
same_phase (Holding a b) (Coming left) = false
same_phase (Holding a b) (Working z had reserved) = false
same_phase (Holding a b) (Holding z reserved) = eqb a z && eqb b reserved
same_phase (Holding a b) (Resting z) = false
same_phase (Resting a) (Coming left) = false
same_phase (Resting a) (Working z had reserved) = false
same_phase (Resting a) (Holding z reserved) = false
same_phase (Resting a) (Resting z) = eqb a z

-- 26 (`differs-decides`)
unfoldable pub differs : SuppliedPlan → Bool
differs w = any w.run.count (λ p. not (same_phase (phase_at w.run p) (noted_at w p)))
