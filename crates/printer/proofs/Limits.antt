-- The meaning of a valid printer: its numbers in their limits, and its run one that can be stepped.
use mathlib.Core.Path.{◌≡◌, refl, sym, ap, ap₂, ◌∙◌}
use mathlib.Core.Bool.{Bool, true, false, not, ◌&&◌}
use mathlib.Core.List.{map}
use Prim.Native.Nat.{ℕ, ◌≤◌, ◌<◌}
use native.Mathlib.Omega.{arith}
use lib.Dec.{leb, eqb}
use lib.Seq.{get_or-take, length-take-le}
use lib.ListN.{length, get_or, take, get_or-map}
use Rattle.std.specs.Bool.{MatchBool}
use Rattle.std.specs.List.{AllWithin, HoldsAt}
use borrow.Author.Tests.{leb-true, le-leb, lt-leb, not-true, ne_eqb}
use Rattle.model.specs.Fence.{unfenced_count}
use Rattle.model.specs.Search.{any}
use Rattle.model.proofs.Bools.{and_left, and_right, and_both}
use Rattle.model.proofs.Search.{any_of, none_any, none-at}
use Rattle.model.specs.Sizes.{most_cores, most_tasks}
use Rattle.table.specs.declared.Loaded.{Loaded}
use Rattle.table.specs.declared.Task.{Task}
use Rattle.table.specs.Task.{task_of, no_task}
use Rattle.table.proofs.Inside.{inside-test}
use Rattle.table.specs.Limits.{task_number, most_horizon, most_time}
use Rattle.simulation.specs.Places.{segment}
use Rattle.simulation.specs.Machine.{machine_of, Sized}
use Rattle.simulation.specs.TickState.{loaded_numbers}
use Rattle.printer.specs.Valid.{out_at, table_valid, owed, within, valid, Safe}
use Rattle.printer.specs.Printer.{run_state_of}
use Rattle.printer.specs.declared.Printer.{Printer}
use Rattle.text.specs.Output.{longest_cells, longest_line}

-- the limits of a valid printer, one by one
pub record Limits (p : Printer) : Type 0 where
  pub table : table_valid p.table ≡ true
  pub tick : p.stage.registers.tick ≤ p.end
  pub end : p.end ≤ most_horizon
  pub ready : p.stage.ready ≤ longest_line
  pub given : p.given ≤ p.stage.ready
  pub text : p.stage.text ≤ longest_cells
  pub claims : within p.stage.registers.claiming (owed (segment 0 p.places)) ≡ true
  pub chosen : within p.stage.registers.granted p.stage.registers.chosen ≡ true

-- the test that is left where the first of two holds
rest_of : (a b : Bool) → a && b ≡ true → (a ≡ true) × (b ≡ true)
rest_of a b e = (and_left a b e, and_right a b e)

pub valid-limits : (p : Printer) → valid p ≡ true → Limits p
unfolding valid
valid-limits p e =
    let h = within p.stage.registers.granted p.stage.registers.chosen in
    let g = within p.stage.registers.claiming (owed (segment 0 p.places)) in
    let f = leb p.stage.text longest_cells in
    let d = leb p.given p.stage.ready in
    let c = leb p.stage.ready longest_line in
    let b = leb p.end most_horizon in
    let a = leb p.stage.registers.tick p.end in
    let x₀ = rest_of (table_valid p.table) (a && (b && (c && (d && (f && (g && h)))))) e in
    let x₁ = rest_of a (b && (c && (d && (f && (g && h))))) x₀.1 in
    let x₂ = rest_of b (c && (d && (f && (g && h)))) x₁.1 in
    let x₃ = rest_of c (d && (f && (g && h))) x₂.1 in
    let x₄ = rest_of d (f && (g && h)) x₃.1 in
    let x₅ = rest_of f (g && h) x₄.1 in
    record {
      table = x₀.0;
      tick = leb-true p.stage.registers.tick p.end x₁.0;
      end = leb-true p.end most_horizon x₂.0;
      ready = leb-true p.stage.ready longest_line x₃.0;
      given = leb-true p.given p.stage.ready x₄.0;
      text = leb-true p.stage.text longest_cells x₅.0;
      claims = and_left g h x₅.1;
      chosen = and_right g h x₅.1;
    }

pub limits-valid : (p : Printer) → Limits p → valid p ≡ true
unfolding valid
limits-valid p l =
    let h = within p.stage.registers.granted p.stage.registers.chosen in
    let g = within p.stage.registers.claiming (owed (segment 0 p.places)) in
    let f = leb p.stage.text longest_cells in
    let d = leb p.given p.stage.ready in
    let c = leb p.stage.ready longest_line in
    let b = leb p.end most_horizon in
    let a = leb p.stage.registers.tick p.end in
    and_both (table_valid p.table) (a && (b && (c && (d && (f && (g && h)))))) l.table
    (and_both a (b && (c && (d && (f && (g && h))))) (le-leb p.stage.registers.tick p.end l.tick)
    (and_both b (c && (d && (f && (g && h)))) (le-leb p.end most_horizon l.end)
    (and_both c (d && (f && (g && h))) (le-leb p.stage.ready longest_line l.ready)
    (and_both d (f && (g && h)) (le-leb p.given p.stage.ready l.given)
    (and_both f (g && h) (le-leb p.stage.text longest_cells l.text) (and_both g h l.claims l.chosen))))))

-- A VALID TABLE

pub record TableLimits (t : Loaded) : Type 0 where
  pub few : t.count ≤ most_tasks
  pub cores : t.cores ≤ most_cores
  pub tasks : (p : ℕ) → p < t.count → out_at t p ≡ false

pub table-limits : (t : Loaded) → table_valid t ≡ true → TableLimits t
unfolding table_valid
table-limits t e =
    let x = rest_of (leb t.count most_tasks) (leb t.cores most_cores && not (any t.count (out_at t))) e in
    let y = rest_of (leb t.cores most_cores) (not (any t.count (out_at t))) x.1 in
    record {
      few = leb-true t.count most_tasks x.0;
      cores = leb-true t.cores most_cores y.0;
      tasks = λ p l. none-at t.count (out_at t) p (not-true (any t.count (out_at t)) y.1) l;
    }

-- .. as code finds it out
module _ (t : Loaded) where
  table-by : (a b c : Bool) → leb t.count most_tasks ≡ a → leb t.cores most_cores ≡ b → any t.count (out_at t) ≡ c → table_valid t ≡ a && (b && not c)
  unfolding table_valid
  table-by a b c ea eb ec = rw (ea, eb, ec)

  pub many-out : most_tasks < t.count → table_valid t ≡ false
  many-out l = table-by false (leb t.cores most_cores) (any t.count (out_at t)) (lt-leb t.count most_tasks l) refl refl

  pub wide-out : t.count ≤ most_tasks → most_cores < t.cores → table_valid t ≡ false
  wide-out k l = table-by true false (any t.count (out_at t)) (le-leb t.count most_tasks k) (lt-leb t.cores most_cores l) refl

  pub task-out : t.count ≤ most_tasks → t.cores ≤ most_cores → (i : ℕ) → i < t.count → out_at t i ≡ true → table_valid t ≡ false
  task-out k l i b e = table-by true true true (le-leb t.count most_tasks k) (le-leb t.cores most_cores l) (any_of t.count (out_at t) i b e)

  pub none_out : t.count ≤ most_tasks → t.cores ≤ most_cores → ((i : ℕ) → i < t.count → out_at t i ≡ false) → table_valid t ≡ true
  none_out k l f = table-by true true false (le-leb t.count most_tasks k) (le-leb t.cores most_cores l) (none_any t.count (out_at t) f)

  -- .. of the tasks below the count at once
  pub valid_all :
      (wide : ℕ) (r : Bool) → t.count ≤ most_tasks → t.cores ≤ most_cores → t.count ≤ length t.tasks → wide ≡ unfenced_count t.fence t.cores
      → MatchBool r (AllWithin (λ x. task_number wide (task_of x) ≡ 0) (take t.count t.tasks) 0 (length (take t.count t.tasks)))
      ((k : ℕ) × (k < length (take t.count t.tasks)) × HoldsAt (λ x. task_number wide (task_of x) ≡ 0 → ⊥) (take t.count t.tasks) k)
      → r ≡ table_valid t
  valid_all wide r k l n e h = go r h
    where
      here : (i : ℕ) → i < t.count → task_number wide (task_of (get_or (take t.count t.tasks) i no_task)) ≡ task_number (unfenced_count t.fence t.cores) (task_of (get_or t.tasks i no_task))
      here i b = ap₂ (λ (m : ℕ) (x : Task). task_number m (task_of x)) e (get_or-take t.count t.tasks i no_task b)

      go :
          (r : Bool)
          → MatchBool r (AllWithin (λ x. task_number wide (task_of x) ≡ 0) (take t.count t.tasks) 0 (length (take t.count t.tasks)))
          ((k : ℕ) × (k < length (take t.count t.tasks)) × HoldsAt (λ x. task_number wide (task_of x) ≡ 0 → ⊥) (take t.count t.tasks) k)
          → r ≡ table_valid t
      go true h =
          sym (none_out k l (λ i b. ap (λ (m : ℕ). not (eqb m 0)) (sym (here i b) ∙ h i no_task (omega arith) (omega (arith, length-take-le t.count t.tasks n)))))
      go false h =
          let b : h.0 < t.count = omega (arith, h.1, length-take-le t.count t.tasks n) in
          sym (task-out k l h.0 b (ap not (ne_eqb (task_number (unfenced_count t.fence t.cores) (task_of (get_or t.tasks h.0 no_task))) 0 (λ z. h.2 no_task (here h.0 b ∙ z)))))

-- A VALID RUN

-- the arrays that its type gives a printer
pub record Arrays (p : Printer) : Type 0 where
  pub sized : Sized (machine_of p.places p.stage.registers.claiming)
  pub wide : length p.row ≡ longest_cells
  pub long : length p.line ≡ longest_line

pub limits-safe : (p : Printer) → Limits p → Arrays p → Safe (loaded_numbers p.table) (run_state_of p)
limits-safe p l a = record {
  few = t.few;
  cores = t.cores;
  times = times;
  sized = a.sized;
  owed = l.claims;
  kept = l.chosen;
}
  where
    t : TableLimits p.table
    t = table-limits p.table l.table

    column : (f : Task → ℕ) (q : ℕ) → get_or (map f p.table.tasks) q (f no_task) ≡ f (get_or p.table.tasks q no_task)
    column f q = get_or-map f p.table.tasks q no_task

    times :
        (q : ℕ) → q < p.table.count
        → (0 < get_or (map (λ x. x.length) p.table.tasks) q 0) × (get_or (map (λ x. x.deadline) p.table.tasks) q 0 ≤ most_time)
        × (get_or (map (λ x. x.period) p.table.tasks) q 0 ≤ most_time)
    times q b =
        let i = inside-test (unfenced_count p.table.fence p.table.cores) (task_of (get_or p.table.tasks q no_task)) (t.tasks q b) in
        let e_c = column (λ x. x.length) q in
        let e_d = column (λ x. x.deadline) q in
        let e_t = column (λ x. x.period) q in (
          omega (arith, i.length_from.0),
          omega (arith, i.deadline-from.1, i.period-from.1),
          omega (arith, i.period-from.1),
        )
