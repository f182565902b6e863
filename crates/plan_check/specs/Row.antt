-- A supplied row for a run (request 112): the tasks in it, its faults, and the tick in which exactly these have worked.
use Rattle.std.specs.Prelude.{◌&&◌, Bool, cond, false, not, ◌||◌, List, suc, ℕ, eqb, ltb, get_or, length}
use Rattle.model.specs.Search.{any, bit}
use Rattle.model.specs.Sizes.{fenced_byte}
use Rattle.phase.specs.declared.Task.{Task}
use Rattle.phase.specs.Phase.{working}
use Rattle.phase.specs.Task.{next_task, width_now}
use Rattle.run.specs.declared.Run.{Run}
use Rattle.run.specs.Run.{map_first, phase_at, place_at, rule_in}
use Rattle.plan_check.specs.Plan.{cell_count}

-- the byte of core c
abbrev pub byte_at : List ℕ → ℕ → ℕ
byte_at row c = get_or row c 0

-- place p is in the row: some core shows its position
abbrev pub shown_in_row : List ℕ → ℕ → Bool
shown_in_row row p = ltb 0 (cell_count (suc p) row)

-- core c shows an unknown position: it is fenced without 255, or another core with a byte above the last position
abbrev pub unknown_byte_at : ℕ → ℕ → List ℕ → ℕ → Bool
unknown_byte_at fence count row c = cond (bit fence c) (not (eqb (byte_at row c) fenced_byte)) (ltb count (byte_at row c))

unfoldable pub any_unknown_byte : ℕ → ℕ → List ℕ → Bool
any_unknown_byte fence count row = any (length row) (unknown_byte_at fence count row)

-- place p is in the row with another width than its job's, or with nothing owed: its task is not Working
abbrev pub wrong_at : Run → List ℕ → ℕ → Bool
wrong_at r row p = shown_in_row row p && not (eqb (cell_count (suc p) row) (width_now (place_at r p)) && working (phase_at r p))

-- 24: an unknown position, a wrong width or nothing owed (`faulty-decides`)
unfoldable pub faulty : Run → List ℕ → Bool
faulty r row = any_unknown_byte r.fence r.count row || any r.count (wrong_at r row)

-- the task at place p after the tick: where it is in the row it is given its cores; no job is empty, reported or lent any
abbrev pub worked_at : Run → List ℕ → ℕ → Task → Task
worked_at r row p t = next_task (rule_in r) false (shown_in_row row p) false false t

-- the run one tick on: each task below the count changes, all else stays
unfoldable pub worked_row : Run → List ℕ → Run
worked_row r row = record {
  rule = r.rule;
  cores = r.cores;
  fence = r.fence;
  withdrawn = r.withdrawn;
  count = r.count;
  tasks = map_first (worked_at r row) r.count r.tasks;
}
