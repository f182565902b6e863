-- One tick of a run in a row: by its counts it is what it is by its bytes; the tasks stay, and what is past the count.
use mathlib.Core.Bool.{Bool, false, true, ◌||◌}
use mathlib.Core.List.{List, [], ◌∷◌}
use mathlib.Core.Path.{ap, refl, sym, ◌∙◌, ◌≡◌}
use Prim.Native.Nat.{◌+◌, ◌<◌, suc, zero, ℕ, ◌≤◌}
use native.Mathlib.Omega.{arith}
use lib.Dec.{ltb}
use lib.ListN.{drop, get_or, length}
use Rattle.model.proofs.Bools.{or_left}
use Rattle.model.proofs.Search.{any_same}
use Rattle.model.specs.Horizon.{horizon, hyperperiod, last_s}
use Rattle.model.specs.Search.{any}
use Rattle.model.specs.Sizes.{most_tasks}
use Rattle.model.specs.Task as model
use Rattle.phase.specs.Task.{next_task}
use Rattle.phase.specs.declared.Task.{Task}
use Rattle.run.proofs.Places.{drop-map_first, length-map_first, take-kept}
use Rattle.run.specs.Run.{map_first, place_at, rule_in, tasks_in}
use Rattle.run.specs.declared.Run.{Run}
use Rattle.plan_check.specs.Plan.{cell_count}
use Rattle.plan_check.specs.Row.{faulty, any_unknown_byte, worked_row, worked_at, wrong_at}
use Rattle.plan_check.specs.Shown.{ShownOf, any_wrong, worked_with, wrong_with}
use Rattle.plan_check.specs.State.{horizon_in}
use Rattle.plan_check.specs.Shown.{Shown}

-- changes that agree on the first n places
map_first-same :
    (f g : ℕ → Task → Task) (n : ℕ) (ts : List Task) → ((p : ℕ) (t : Task) → p < n → f p t ≡ g p t) → map_first f n ts ≡ map_first g n ts
unfolding map_first
map_first-same f g zero ts h = refl
map_first-same f g (suc n) [] h = refl
map_first-same f g (suc n) (t ∷ ts) h =
    rw (h 0 t (omega arith), map_first-same (λ p. f (suc p)) (λ p. g (suc p)) n ts (λ p u l. h (suc p) u (omega arith)))

module _ (r : Run) (ns row : List ℕ) (few : r.count ≤ most_tasks) (same : (b : ℕ) → b < 256 → get_or ns b 0 ≡ cell_count b row) where
  count_at : (p : ℕ) → p < r.count → get_or ns (suc p) 0 ≡ cell_count (suc p) row
  count_at p l = same (suc p) (omega arith)

  -- the counts represent the bytes: what is wrong ..
  pub wrong-counted : any_unknown_byte r.fence r.count row || any_wrong r ns ≡ faulty r row
  unfolding faulty any_wrong
  wrong-counted =
      ap (λ (t : Bool). any_unknown_byte r.fence r.count row || t)
      (any_same r.count (λ p. wrong_with (place_at r p) (get_or ns (suc p) 0)) (wrong_at r row)
      (λ p l. ap (wrong_with (place_at r p)) (count_at p l)))

  -- .. and the tick
  pub worked-counted : worked_with r ns ≡ worked_row r row
  unfolding worked_with worked_row
  worked-counted =
      ap (λ (ts : List Task). record { rule = r.rule; cores = r.cores; fence = r.fence; withdrawn = r.withdrawn; count = r.count; tasks = ts })
      (map_first-same (λ p t. next_task (rule_in r) false (ltb 0 (get_or ns (suc p) 0)) false false t) (worked_at r row) r.count r.tasks
      (λ p t l. ap (λ (n : ℕ). next_task (rule_in r) false (ltb 0 n) false false t) (count_at p l)))

-- what is found wrong with a row that is read is the condition of 24
pub fault-found :
    (r : Run) (row : List ℕ) (s : Shown) → r.count ≤ most_tasks → ShownOf r.fence r.count row s → s.unknown || any_wrong r s.cells ≡ faulty r row
fault-found r row s few h = go s.unknown refl
  where
    go : (b : Bool) → s.unknown ≡ b → s.unknown || any_wrong r s.cells ≡ faulty r row
    go true e = ap (λ (t : Bool). t || any_wrong r s.cells) e ∙ sym (by-unknown (sym h.unknown ∙ e))
      where
        by-unknown : any_unknown_byte r.fence r.count row ≡ true → faulty r row ≡ true
        by-unknown q = unfold faulty in or_left (any_unknown_byte r.fence r.count row) (any r.count (wrong_at r row)) q
    go false e = ap (λ (t : Bool). t || any_wrong r s.cells) h.unknown ∙ wrong-counted r s.cells row few (h.counted e)

-- the tasks stay
pub counted-tasks : (r : Run) (ns : List ℕ) → tasks_in (worked_with r ns) ≡ tasks_in r
unfolding worked_with
counted-tasks r ns =
    take-kept (λ p t. next_task (rule_in r) false (ltb 0 (get_or ns (suc p) 0)) false false t) r.count r.tasks (λ p t. refl)

-- and with them the horizon
pub horizon-kept : (r s : Run) → tasks_in s ≡ tasks_in r → horizon_in s ≡ horizon_in r
unfolding horizon
horizon-kept r s e = ap (λ (τs : List model.Task). last_s τs + hyperperiod τs) e

pub counted-count : (r : Run) (ns : List ℕ) → (worked_with r ns).count ≡ r.count
unfolding worked_with
counted-count r ns = refl

pub worked-count : (r : Run) (row : List ℕ) → (worked_row r row).count ≡ r.count
unfolding worked_row
worked-count r row = refl

-- what is past the count stays
pub worked-past : (r : Run) (row : List ℕ) → drop r.count (worked_row r row).tasks ≡ drop r.count r.tasks
unfolding worked_row
worked-past r row = drop-map_first (worked_at r row) r.count r.tasks

pub worked-length : (r : Run) (row : List ℕ) → length (worked_row r row).tasks ≡ length r.tasks
unfolding worked_row
worked-length r row = length-map_first (worked_at r row) r.count r.tasks
