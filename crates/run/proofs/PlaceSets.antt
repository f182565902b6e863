-- Both widths of the places, and tasks of the table, stored place after place beside the sets that are gathered.
use mathlib.Core.Path.{◌≡◌, refl, sym, ap, ap₂, subst, ◌∙◌}
use mathlib.Core.Bool.{Bool, true, false, ◌&&◌, cond}
use mathlib.Core.List.{List, [], ◌∷◌, ◌++◌, map}
use Prim.Native.Nat.{ℕ, zero, suc, ◌+◌, ◌-◌, ◌≤◌, ◌<◌}
use native.Mathlib.Omega.{arith}
use lib.ListN.{length, get_or, take, drop, set, replicate, length-drop, length-map, length-replicate, length-set, length-take, take-append-drop, get_or-map}
use lib.Seq.{ext_get_or, get_or-drop, get_or-take, get_or-set_same, get_or-set_other}
use lib.Dec.{eqb}
use borrow.Author.Tests.{lt-ltb, eqb-true, eqb-false}
use Rattle.model.proofs.Lists.{map_at}
use Rattle.model.specs.Sizes.{most_tasks}
use Rattle.rule.specs.Widths.{pair, width_in, widths_in}
use Rattle.model.proofs.Gathered.{Gathered}
use Rattle.rule.proofs.Widths.{front-is}
use Rattle.run.specs.declared.Run.{Run}
use Rattle.model.specs.Task as model
use Rattle.table.specs.declared.Task.{Task}
use Rattle.table.specs.Task as table
use Rattle.phase.specs.declared.Task as phase
use Rattle.phase.specs.Task.{task_of, parameters_of, past_end, width_now}
use Rattle.run.specs.Run.{place_at, parameters_in, run_task_at, even_at, tasks_in, widths_now}

-- ---- both widths, stored place after place: the first at the place, the second at as many places further on as there are

abbrev pub Stored : Run → ℕ → List ℕ → Type 0
Stored r i ws = (p : ℕ) → p < i → (get_or ws p 0 ≡ (place_at r p).parameters.width) × (get_or ws (most_tasks + p) 0 ≡ (place_at r p).parameters.second)

pub stored_more :
    (r : Run) (ws : List ℕ) (i : ℕ) → length ws ≡ pair → i < most_tasks → Stored r i ws
    → Stored r (i + 1) (set (set ws i (place_at r i).parameters.width) (most_tasks + i) (place_at r i).parameters.second)
stored_more r ws i long h g p l = go (eqb p i) refl
  where
    v : ℕ
    v = (place_at r i).parameters.width

    w : ℕ
    w = (place_at r i).parameters.second

    one : List ℕ
    one = set ws i v

    go : (t : Bool) → eqb p i ≡ t → (get_or (set one (32 + i) w) p 0 ≡ (place_at r p).parameters.width) × (get_or (set one (32 + i) w) (32 + p) 0 ≡ (place_at r p).parameters.second)
    go true e =
        let q : p ≡ i = eqb-true p i e in
        subst (λ (k : ℕ). (get_or (set one (32 + i) w) k 0 ≡ (place_at r k).parameters.width) × (get_or (set one (32 + i) w) (32 + k) 0 ≡ (place_at r k).parameters.second)) (sym q) (
          get_or-set_other one (32 + i) i w 0 (λ (n : i ≡ 32 + i). omega arith) ∙ get_or-set_same ws i v 0 (omega arith),
          get_or-set_same one (32 + i) w 0 (omega (arith, length-set ws i v)),
        )
    go false e =
        let n : (p ≡ i → ⊥) = eqb-false p i e in
        let m : p < i = omega arith in (
          get_or-set_other one (32 + i) p w 0 (λ (q : p ≡ 32 + i). omega arith) ∙ (get_or-set_other ws i p v 0 n ∙ (g p m).0),
          get_or-set_other one (32 + i) (32 + p) w 0 (λ (q : 32 + p ≡ 32 + i). n (omega arith))
              ∙ (get_or-set_other ws i (32 + p) v 0 (λ (q : 32 + p ≡ i). omega arith) ∙ (g p m).1),
        )

-- they are the widths of the tasks below the count, each that of its job, where the set is of those whose job is an even one
pub widths-stored :
    (r : Run) (even : ℕ) (ws : List ℕ) → r.count ≤ 32 → length r.tasks ≡ 32 → Gathered (even_at r) r.count even → Stored r r.count ws
    → take r.count (widths_in even ws) ≡ widths_now r
widths-stored r even ws few b e g = front-is even ws (widths_now r) r.count few (length-map used width_now ∙ long) each
  where
    used : List phase.Task
    used = take r.count r.tasks

    long : length used ≡ r.count
    long = length-take r.count r.tasks ∙ omega arith

    by-parity : (p : ℕ) → p < r.count → (x : Bool) → get_or ws (cond x (32 + p) p) 0 ≡ cond x (place_at r p).parameters.second (place_at r p).parameters.width
    by-parity p l true = (g p l).1
    by-parity p l false = (g p l).0

    each : (p : ℕ) → p < r.count → width_in even ws p ≡ get_or (widths_now r) p 0
    each p l =
        ap (λ (x : Bool). get_or ws (cond x (32 + p) p) 0) (e p ∙ ap (λ (t : Bool). t && even_at r p) (lt-ltb p r.count l))
        ∙ (by-parity p l (even_at r p)
        ∙ sym (map_at width_now used p 0 past_end (omega (arith, long)) ∙ ap width_now (get_or-take r.count r.tasks p past_end l)))

-- ---- tasks of the table, stored place after place

pub tasks-known-more :
    (ts : List Task) (f : ℕ → model.Task) (i : ℕ) (t : Task) → i < length ts → table.task_of t ≡ f i
    → ((p : ℕ) → p < i → table.task_of (get_or ts p table.no_task) ≡ f p)
    → (p : ℕ) → p < i + 1 → table.task_of (get_or (set ts i t) p table.no_task) ≡ f p
tasks-known-more ts f i t h v g p l = go (eqb p i) refl
  where
    go : (b : Bool) → eqb p i ≡ b → table.task_of (get_or (set ts i t) p table.no_task) ≡ f p
    go true e =
        let q : p ≡ i = eqb-true p i e in
        rw q (ap table.task_of (get_or-set_same ts i t table.no_task h) ∙ v)
    go false e =
        let n : (p ≡ i → ⊥) = eqb-false p i e in
        ap table.task_of (get_or-set_other ts i p t table.no_task n) ∙ g p (omega arith)

-- they are the run's tasks below the count
pub tasks-known :
    (r : Run) (ts : List Task) → r.count ≤ 32 → length ts ≡ 32 → length r.tasks ≡ 32
    → ((p : ℕ) → p < r.count → table.task_of (get_or ts p table.no_task) ≡ run_task_at r p) → table.tasks_of ts r.count ≡ tasks_in r
tasks-known r ts few a b g =
    let x : length (table.tasks_of ts r.count) ≡ r.count = length-map (take r.count ts) table.task_of ∙ (length-take r.count ts ∙ omega arith) in
    let y : length (tasks_in r) ≡ r.count = length-map (take r.count r.tasks) task_of ∙ (length-take r.count r.tasks ∙ omega arith) in
    ext_get_or model.absent_task (table.tasks_of ts r.count) (tasks_in r) (x ∙ sym y)
    (λ p l.
    let m : p < r.count = omega arith in
    get_or-map table.task_of (take r.count ts) p table.no_task ∙ (ap table.task_of (get_or-take r.count ts p table.no_task m) ∙ (g p m
    ∙ sym (get_or-map task_of (take r.count r.tasks) p past_end ∙ ap task_of (get_or-take r.count r.tasks p past_end m)))))

-- no task anywhere, where the first task is none
pub none-there : (n p : ℕ) (t : Task) → t ≡ table.no_task → get_or (replicate n t) p table.no_task ≡ table.no_task
none-there zero p t e = refl
none-there (suc n) zero t e = e
none-there (suc n) (suc p) t e = none-there n p t e

-- and with none past it they are the whole array
stored_back : (ts : List Task) → map parameters_of (map table.task_of ts) ≡ ts
stored_back [] = refl
stored_back (t ∷ ts) = ap (λ (l : List Task). t ∷ l) (stored_back ts)

pub tasks-stored :
    (r : Run) (ts : List Task) → r.count ≤ 32 → length ts ≡ 32 → table.tasks_of ts r.count ≡ tasks_in r
    → ((p : ℕ) → r.count ≤ p → get_or ts p table.no_task ≡ table.no_task) → ts ≡ parameters_in r
tasks-stored r ts few a known past =
    sym (take-append-drop r.count ts)
    ∙ ap₂ (λ (x y : List Task). x ++ y) (sym (stored_back (take r.count ts)) ∙ ap (map parameters_of) known) none
  where
    size : length (drop r.count ts) ≡ 32 - r.count
    size = length-drop r.count ts ∙ ap (λ (n : ℕ). n - r.count) a

    none : drop r.count ts ≡ replicate (32 - r.count) table.no_task
    none =
        ext_get_or table.no_task (drop r.count ts) (replicate (32 - r.count) table.no_task) (size ∙ sym (length-replicate (32 - r.count) table.no_task))
        (λ i l.
        get_or-drop r.count ts i table.no_task
        ∙ (past (r.count + i) (omega arith) ∙ sym (none-there (32 - r.count) i table.no_task refl)))
