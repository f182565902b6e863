-- The machine tick by tick: what holds before the due events of a tick, and after them.
use native.Mathlib.Omega.{arith}
use mathlib.Core.Path.{◌≡◌, refl, sym, ap, ◌∙◌, subst}
use mathlib.Core.Bool.{not}
use mathlib.Core.List.{map}
use mathlib.Core.Logic.{⊎_elim}
use native.Mathlib.Nat.{eq-or-lt_of_le}
use native.Mathlib.Numerals.{add-one}
use Prim.Native.Nat.{ℕ, suc, ◌+◌, ◌≤◌, ◌<◌}
use lib.Dec.{eqb}
use lib.ListN.{length, get_or, take, length-map, get_or-map, get_or-append}
use lib.Seq.{get_or-append-add}
use Rattle.model.proofs.Digits.{bit-none}
use Rattle.model.specs.Fence.{unfenced_cores}
use Rattle.model.specs.Search.{bit}
use Rattle.model.specs.Task.{Table, task, rule_of}
use Rattle.model.specs.Task as model
use Rattle.model.specs.Grants.{claimants}
use Rattle.model.specs.Claims.{in_row}
use Rattle.model.specs.Lists.{full, Missed}
use Rattle.model.proofs.Grants.{grants-empty}
use Rattle.model.specs.Sizes.{most_tasks}
use Rattle.table.specs.declared.Task.{Task}
use Rattle.table.specs.declared.Loaded.{Loaded}
use Rattle.table.specs.Task.{task_of, no_task}
use Rattle.table.proofs.Places.{tasks-length, task-at}
use Rattle.simulation.specs.Machine.{Machine, started, worked_tick, GrantedOwed}
use Rattle.simulation.specs.TickState.{loaded_numbers, paired_in}
use Rattle.simulation.proofs.Sets.{set-has}
use Rattle.simulation.proofs.MachineRelated.{MachineRelated, Ready, Columns, related-start, tick-keeps}
use Rattle.simulation.proofs.WidthParity.{WidthToggled, Paired, toggled-start, toggled-tick}
use Rattle.simulation.proofs.NextEvent.{NextEventBound, next-event-tick, no-event}
use Rattle.simulation.proofs.Late.{passed-met}
use Rattle.simulation.proofs.SameClaimants.{Agrees, all-agree, first-agree, row-places, row-owed}
use Rattle.rule.specs.Granted.{granted}
use Rattle.rule.specs.Widths.{widths_in}
use Rattle.table.specs.Fit.{loaded_table, Fit}

-- before the due events of a tick
pub record Before (t : Loaded) (m : Machine) (even next_event tick : ℕ) : Type 0 where
  pub related : MachineRelated (loaded_table t) tick m
  pub toggles : WidthToggled (loaded_table t) m even
  pub next-event : NextEventBound (length (loaded_table t).tasks) next_event m
  pub met : (p u : ℕ) → u < tick → ¬ Missed (loaded_table t) p u

-- after them: no deadline of the tick is missed
pub record After (t : Loaded) (m : Machine) (even next_event tick : ℕ) : Type 0 where
  pub ready : Ready (loaded_table t) tick m
  pub toggles : WidthToggled (loaded_table t) m even
  pub next-event : NextEventBound (length (loaded_table t).tasks) next_event m

-- g is the set of places that are granted cores where those of the set c claim, and those of the set e are at their second width
abbrev pub Chosen : Loaded → ℕ → ℕ → ℕ → Type 0
Chosen t c e g =
    (p : ℕ) → bit g p ≡ granted (rule_of t.rule) (claimants (widths_in e (loaded_numbers t).widths) (bit c)) (unfenced_cores (loaded_table t)) p

-- where no place claims, no place is granted cores
pub chosen_none : (t : Loaded) (e : ℕ) → Chosen t 0 e 0
chosen_none t e p = bit-none p ∙ sym (grants-empty (rule_of t.rule) (widths_in e (loaded_numbers t).widths) (unfenced_cores (loaded_table t)) p)

module _ (t : Loaded) (fit : Fit t) where
  abbrev s : Table
  s = loaded_table t

  -- the table has as many tasks as the count
  pub size : length s.tasks ≡ t.count
  size = tasks-length t.tasks t.count (omega (arith, fit.few, fit.places))

  pub few : length s.tasks ≤ most_tasks
  few = omega (arith, size, fit.few)

  -- a field of a task, from its column
  pub column : (f : Task → ℕ) (g : model.Task → ℕ) → ((x : Task) → f x ≡ g (task_of x)) → (p : ℕ) → p < length s.tasks → get_or (map f t.tasks) p (f no_task) ≡ g (task s p)
  column f g e p l = get_or-map f t.tasks p no_task ∙ (e (get_or t.tasks p no_task) ∙ ap g (sym (task-at t.tasks t.count p (omega (arith, size)))))

  -- the two widths of a task are in two columns, one after the other
  first-wide : length (map (λ (x : Task). x.width) t.tasks) ≡ 32
  first-wide = length-map t.tasks (λ (x : Task). x.width) ∙ fit.places

  odd-width : (p : ℕ) → p < length s.tasks → get_or (loaded_numbers t).widths p 0 ≡ (task s p).odd_width
  odd-width p l =
      get_or-append (map (λ x. x.width) t.tasks) (map (λ x. x.second) t.tasks) 0 p (omega (arith, first-wide, few))
      ∙ column (λ x. x.width) (λ τ. τ.odd_width) (λ x. refl) p l

  even-width : (p : ℕ) → p < length s.tasks → get_or (loaded_numbers t).widths (32 + p) 0 ≡ (task s p).even_width
  even-width p l =
      ap (λ (k : ℕ). get_or (loaded_numbers t).widths (k + p) 0) (sym first-wide)
      ∙ (get_or-append-add (map (λ x. x.width) t.tasks) (map (λ x. x.second) t.tasks) p 0
      ∙ column (λ x. x.second) (λ τ. τ.even_width) (λ x. refl) p l)

  -- the columns of the table
  pub columns :
      Columns s (map (λ x. x.offset) t.tasks) (loaded_numbers t).widths (map (λ x. x.length) t.tasks)
      (map (λ x. x.deadline) t.tasks) (map (λ x. x.period) t.tasks)
  columns = record {
    places = length-map t.tasks (λ (x : Task). x.offset) ∙ fit.places;
    offsets = column (λ x. x.offset) (λ τ. τ.offset) (λ x. refl);
    odd-widths = odd-width;
    even-widths = even-width;
    lengths = column (λ x. x.length) (λ τ. τ.length) (λ x. refl);
    deadlines = column (λ x. x.deadline) (λ τ. τ.deadline) (λ x. refl);
    periods = column (λ x. x.period) (λ τ. τ.period) (λ x. refl);
  }

  -- and the places with two widths
  pub paired : Paired s (paired_in t.tasks)
  unfolding paired_in
  paired p l =
      set-has 32 (λ q. not (eqb (get_or t.tasks q no_task).width (get_or t.tasks q no_task).second)) p (omega (arith, few))
      ∙ ap (λ (τ : model.Task). not (eqb τ.odd_width τ.even_width)) (sym (task-at t.tasks t.count p (omega (arith, size))))

  pub at-start : Before t (started (map (λ x. x.offset) t.tasks)) (paired_in t.tasks) 0 0
  at-start = record {
    related = related-start s fit.valid few (map (λ x. x.offset) t.tasks) columns.places columns.offsets;
    toggles = toggled-start s fit.valid (map (λ x. x.offset) t.tasks) (paired_in t.tasks) columns.offsets paired;
    next-event = λ p l. omega arith;
    met = λ p u h. absurd (omega arith);
  }

  -- before the next event there is nothing to handle
  pub walk-skipped : (m : Machine) (even next_event tick : ℕ) → Before t m even next_event tick → tick < next_event → After t m even next_event tick
  walk-skipped m even next_event tick b h = record {
    ready = no-event s fit.valid few tick next_event m b.related b.next-event h;
    toggles = b.toggles;
    next-event = b.next-event;
  }

  -- what is met before a tick and at it
  pub met_at :
      (m : Machine) (even next_event tick : ℕ) → ((p u : ℕ) → u < tick → ¬ Missed s p u) → After t m even next_event tick → (p u : ℕ) → u ≤ tick → ¬ Missed s p u
  met_at m even next_event tick met a p u h =
      ⊎_elim
      (λ (e : u ≡ tick). λ x. let y : Missed s p tick = subst (λ (n : ℕ). Missed s p n) e x in passed-met s fit.valid tick (length s.tasks) m a.ready p y.0 y)
      (λ (l : u < tick). met p u l)
      (eq-or-lt_of_le h)

  -- A TICK

  module _ (m : Machine) (even next_event tick : ℕ) (a : After t m even next_event tick) where
    -- the widths of the places that claim are those of their newest jobs: of all places, and of the first ones
    pub widths-agree : Agrees s tick m (widths_in even (loaded_numbers t).widths)
    widths-agree =
        all-agree s fit.valid few tick m even a.ready a.toggles (map (λ x. x.offset) t.tasks) (loaded_numbers t).widths
        (map (λ x. x.length) t.tasks) (map (λ x. x.deadline) t.tasks) (map (λ x. x.period) t.tasks) columns

    pub front-agree : Agrees s tick m (take t.count (widths_in even (loaded_numbers t).widths))
    front-agree =
        first-agree s fit.valid few tick m even a.ready a.toggles (map (λ x. x.offset) t.tasks) (loaded_numbers t).widths
        (map (λ x. x.length) t.tasks) (map (λ x. x.deadline) t.tasks) (map (λ x. x.period) t.tasks) columns
        t.count (omega (arith, size)) fit.few

    -- a place that is granted cores is in the row
    pub chosen-row : (g : ℕ) → Chosen t m.claiming even g → (p : ℕ) → bit g p ≡ in_row s (full s tick) p
    chosen-row g e p = e p ∙ row-places s fit.valid tick m a.ready (widths_in even (loaded_numbers t).widths) widths-agree p

    pub chosen-owed : (g : ℕ) → Chosen t m.claiming even g → GrantedOwed (bit g) m
    chosen-owed g e = row-owed s fit.valid tick m a.ready (widths_in even (loaded_numbers t).widths) widths-agree (bit g) (chosen-row g e)

    pub next-tick :
        (m' : Machine) (g : ℕ) → ((p u : ℕ) → u < tick → ¬ Missed s p u) → Chosen t m.claiming even g → m' ≡ worked_tick (bit g) m
        → Before t m' even next_event (tick + 1)
    next-tick m' g met e w =
        rw add-one (subst (λ (x : Machine). Before t x even next_event (suc tick)) (sym w) (record {
          related = tick-keeps s fit.valid few tick m a.ready (bit g) (λ p l. chosen-row g e p);
          toggles = toggled-tick s fit.valid m even (bit g) a.toggles;
          next-event = next-event-tick s fit.valid few tick next_event m a.ready a.next-event (bit g);
          met = λ p u l. met_at m even next_event tick met a p u (omega arith);
        }))
