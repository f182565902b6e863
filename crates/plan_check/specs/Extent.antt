-- The extent of a supplied plan, as code keeps it between rows: the last S and the horizon of its run, computed once.
use Rattle.std.specs.Prelude.{cond, false, ◌≡◌, ℕ, ◌≤◌, eqb, Result, Ok, Err}
use Rattle.model.specs.declared.refusal.Refusal.{Refusal}
use Rattle.model.specs.Refusal.{number_of}
use Rattle.table.specs.Limits.{horizon_out, most_horizon}
use Rattle.run.specs.declared.Run.{Run}
use Rattle.plan_check.specs.declared.extent.Extent as code
use Rattle.plan_check.specs.Numbers.{state_out}
use Rattle.plan_check.specs.State.{horizon_in, start_in}

-- the number that turns every row down, 14 or 9, with zeros; or 0, with the last S and the horizon
pub record Extent : Type 0 where
  pub number : ℕ
  pub start : ℕ
  pub horizon : ℕ

-- as code returns it
abbrev pub extent_in : Result code.Extent Refusal → Extent
extent_in (Ok a) = record { number = 0; start = a.start; horizon = a.horizon }
extent_in (Err e) = record { number = number_of e; start = 0; horizon = 0 }

-- the run passes 14 and 9, and these are its last S and its horizon
pub record Ready (r : Run) (s h : ℕ) : Type 0 where
  pub passes : state_out r ≡ false
  pub start : s ≡ start_in r
  pub horizon : h ≡ horizon_in r
  pub within : horizon_in r ≤ most_horizon

-- 14, then 9, for any row; 0 where neither applies
unfoldable pub first_number : Run → ℕ
first_number r = cond (state_out r) 14 (cond (horizon_out (horizon_in r)) 9 0)

-- the extent of a run: that number, and beside 0 the last S and the horizon, beside 14 and 9 zeros
unfoldable pub extent_of : Run → Extent
extent_of r = record {
  number = first_number r;
  start = cond (eqb (first_number r) 0) (start_in r) 0;
  horizon = cond (eqb (first_number r) 0) (horizon_in r) 0;
}

-- the contract of it
pub record ExtentOf (r : Run) (a : Extent) : Type 0 where
  -- its value
  pub value : a ≡ extent_of r
  -- and by it the number, and a run that is ready where the number is 0
  pub number : a.number ≡ first_number r
  pub ready : a.number ≡ 0 → Ready r a.start a.horizon
