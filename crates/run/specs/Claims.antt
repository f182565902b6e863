-- What the rule reads of the tasks of a run in the present tick, as sets of places and an array with both widths of each.
use Rattle.std.specs.Prelude.{◌≡◌, ◌&&◌, ℕ, take, ltb}
use Rattle.model.specs.Search.{bit}
use Rattle.rule.specs.Widths.{widths_in}
use Rattle.run.specs.declared.Run.{Run}
use Rattle.run.specs.declared.choosing.Claims.{Claims}
use Rattle.phase.specs.Phase.{claiming, working, released}
use Rattle.run.specs.Numbers.{late_at, place_out}
use Rattle.run.specs.Run.{phase_at, emptied_at, widths_now}

-- the places below the count that break 14, that are late (15), that claim as seen with the empty jobs e, that are then Working, and whose job is
-- released in this tick; and the widths of the tasks below the count, each the first or the second as its job is odd or even
pub record ClaimsOf (r : Run) (e : ℕ) (c : Claims) : Type 0 where
  pub outside-limits : (p : ℕ) → bit c.broken p ≡ ltb p r.count && place_out r p
  pub being-late : (p : ℕ) → bit c.late p ≡ ltb p r.count && late_at r p
  pub claimed : (p : ℕ) → bit c.claiming p ≡ ltb p r.count && claiming (emptied_at r e p)
  pub worked : (p : ℕ) → bit c.working p ≡ ltb p r.count && working (emptied_at r e p)
  pub begun : (p : ℕ) → bit c.released p ≡ ltb p r.count && released (phase_at r p)
  pub width : take r.count (widths_in c.even c.widths) ≡ widths_now r
