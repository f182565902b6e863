-- The cells of a row as code keeps them: for each byte, how many cores show it; its faults, and the tick by them.
use Rattle.std.specs.Prelude.{◌&&◌, Bool, false, true, Option, None, Some, [], not, List, ◌≡◌, ◌<◌, suc, ℕ, eqb, ltb, get_or}
use Rattle.model.specs.Search.{any}
use Rattle.phase.specs.declared.Task.{Task}
use Rattle.phase.specs.Phase.{working}
use Rattle.phase.specs.Task.{next_task, width_now}
use Rattle.run.specs.declared.Run.{Run}
use Rattle.run.specs.Run.{map_first, place_at, rule_in}
use Rattle.plan_check.specs.Plan.{cell_count}
use Rattle.plan_check.specs.Row.{any_unknown_byte}

-- whether the row shows an unknown position; and where it does not, how many cores show each byte
pub record Shown : Type 0 where
  pub unknown : Bool
  pub cells : List ℕ

-- as code returns it: the counts, where no position is unknown
abbrev pub shown_in : Option (List ℕ) → Shown
shown_in None = record { unknown = true; cells = [] }
shown_in (Some ns) = record { unknown = false; cells = ns }

-- an unknown position is met, or for each byte the number of cores that show it is kept
pub record ShownOf (fence count : ℕ) (row : List ℕ) (s : Shown) : Type 0 where
  pub unknown : s.unknown ≡ any_unknown_byte fence count row
  pub counted : s.unknown ≡ false → (b : ℕ) → b < 256 → get_or s.cells b 0 ≡ cell_count b row

-- a task with n cores of the row has another number than its job's width, or nothing owed
abbrev pub wrong_with : Task → ℕ → Bool
wrong_with t n = ltb 0 n && not (eqb n (width_now t) && working t.phase)

-- some task of the run is wrong in a row of these counts
unfoldable pub any_wrong : Run → List ℕ → Bool
any_wrong r ns = any r.count (λ p. wrong_with (place_at r p) (get_or ns (suc p) 0))

-- the run one tick on, in a row of these counts
unfoldable pub worked_with : Run → List ℕ → Run
worked_with r ns = record {
  rule = r.rule;
  cores = r.cores;
  fence = r.fence;
  withdrawn = r.withdrawn;
  count = r.count;
  tasks = map_first (λ p t. next_task (rule_in r) false (ltb 0 (get_or ns (suc p) 0)) false false t) r.count r.tasks;
}
