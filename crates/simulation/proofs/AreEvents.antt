-- THEOREM (jumps-over-events): for the words of every table that no number refuses, the ticks reached by repeating the jump from tick 0 are 0 and all events,
-- in order, none left out, up to the first miss; and between two of them the cores and the row stay the same.
use mathlib.Core.Path.{◌≡◌, refl, sym, subst}
use mathlib.Core.Bool.{Bool, true, false}
use mathlib.Core.List.{List, map}
use mathlib.Core.Logic.{⊎_elim}
use Prim.Native.Nat.{ℕ, zero, suc, ◌+◌, ◌≤◌, ◌<◌}
use native.Mathlib.Nat.{eq-or-lt_of_le, not-suc-le-zero, le_of_suc-le-suc, le_trans}
use native.Mathlib.Omega.{arith}
use lib.Dec.{leb}
use lib.ListN.{get_or, replicate, get_or-replicate, length-map}
use borrow.Author.Tests.{leb-true, leb-false}
use Rattle.model.specs.Search.{bit}
use Rattle.model.specs.Task.{Table, task}
use Rattle.model.specs.Jobs.{empty_book}
use Rattle.model.specs.Lists.{full, Missed}
use Rattle.model.proofs.Digits.{bit-none}
use Rattle.table.specs.declared.Loaded.{Loaded}
use Rattle.simulation.specs.Machine.{started}
use Rattle.simulation.specs.TickState.{Numbers, loaded_numbers}
use Rattle.simulation.proofs.Sets.{set_is}
use Rattle.simulation.proofs.WidthParity.{toggled-start}
use Rattle.table.specs.Fit.{loaded_table, Fit}
use Rattle.table.specs.Load.{loaded_of}
use Rattle.table.specs.Numbers.{NoneApplies}
use Rattle.table.specs.Words.{table_of}
use Rattle.table.proofs.Contract.{passing-holds}
use Rattle.table.proofs.Fit.{same-table}
use Rattle.table.proofs.Fit as table
use Rattle.simulation.proofs.AtTick.{few, column, columns, paired, chosen_none}
use Rattle.simulation.specs.Event.{Event, NextEvent}
use Rattle.simulation.specs.EventState.{MachineRepresents, StateRepresents, initial_event_state, MetBefore}
use Rattle.simulation.specs.Jump.{JumpLands, jumps, Unmissed, AreEvents}
use Rattle.simulation.proofs.JumpLands.{lands}
use Rattle.simulation.proofs.Represents.{same-represents, represents-start}

module _ (t : Loaded) (fit : Fit t) where
  abbrev book : Table
  book = loaded_table t

  abbrev n : Numbers
  n = loaded_numbers t

  -- before tick 0
  initially : MachineRepresents book 0 0 (started (map (λ x. x.offset) t.tasks))
  unfolding full
  initially = record {
    sized = record { left = refl; event = simp length-map fit.places; next = simp length-map fit.places };
    places = λ p l.
        same-represents (task book p) 0 (empty_book.job p)
        (get_or (replicate 32 0) p 0) 0 (O p) (O p) (O p) (O p) (bit 0 p) false
        (get_or-replicate 32 p 0 0 (le_trans l (few t fit))) refl refl (bit-none p)
        (represents-start (task book p) (O p) (column t fit (λ x. x.offset) (λ τ. τ.offset) (λ x. refl) p l));
    beyond = λ p h. bit-none p;
  }
    where
      O : ℕ → ℕ
      O p = get_or (map (λ x. x.offset) t.tasks) p 0

  pub initial-represents : StateRepresents t (initial_event_state t)
  initial-represents = record {
    machines = initially;
    dues = refl;
    next-event = refl;
    parity = toggled-start book fit.valid (map (λ x. x.offset) t.tasks) n.paired (columns t fit).offsets (paired t fit);
    kept = set_is 32 0 _ (omega arith) (λ i l. chosen_none t n.paired i);
    met = λ p w l. absurd (not-suc-le-zero l);
  }

  -- after jumps at whose ticks nothing was missed the run represents the full-length run
  pub jumps-represent : (i : ℕ) → Unmissed book t i → StateRepresents t (jumps t i)
  unfolding jumps
  jumps-represent zero met = initial-represents
  jumps-represent (suc i) met =
      (lands t fit (jumps t i) (jumps-represent i (λ j p l. met j p (omega arith))) (λ p. met i p (omega arith))).represents

  -- and the next jump ends at the least event after
  pub jumps-land : (i : ℕ) → Unmissed book t (suc i) → JumpLands t (jumps t i) (jumps t (suc i))
  unfolding jumps
  jumps-land i met = lands t fit (jumps t i) (jumps-represent i (λ j p l. met j p (omega arith))) (λ p. met i p (omega arith))

  -- one jump more, where nothing is missed at its tick
  pub unmissed-more : (i : ℕ) → Unmissed book t i → ((p : ℕ) → ¬ Missed book p (jumps t i).tick) → Unmissed book t (suc i)
  unmissed-more i met here j p l =
      ⊎_elim
      (λ (e : j ≡ i). subst (λ (x : ℕ). ¬ Missed book p (jumps t x).tick) (sym e) (here p))
      (λ (e : j < i). met j p e)
      (eq-or-lt_of_le (le_of_suc-le-suc l))

  rises : (i j : ℕ) → i < j → Unmissed book t j → (jumps t i).tick < (jumps t j).tick
  rises i zero l met = absurd (not-suc-le-zero l)
  rises i (suc j) l met =
      ⊎_elim
      (λ (e : i ≡ j). subst (λ (x : ℕ). (jumps t x).tick < (jumps t (suc j)).tick) (sym e) (jumps-land j met).next.after)
      (λ (e : i < j).
      let a = rises i j e (λ x p b. met x p (omega arith)) in
      let b = (jumps-land j met).next.after in
      omega arith)
      (eq-or-lt_of_le (le_of_suc-le-suc l))

  module _ (u : ℕ) (m : Event book u) (met : MetBefore book u) where
    -- from a state before u, d jumps or fewer
    reaches : (d i : ℕ) → Unmissed book t i → (jumps t i).tick < u → u ≤ (jumps t i).tick + d → (j : ℕ) × Unmissed book t j × ((jumps t j).tick ≡ u)
    reaches zero i good l near = absurd (omega arith)
    reaches (suc d) i good l near = go (λ more a b. reaches d (suc i) more a b) (leb u (jumps t (suc i)).tick) refl
      where
        more : Unmissed book t (suc i)
        more = unmissed-more i good (λ p. met p (jumps t i).tick l)

        next : NextEvent book (jumps t i).tick (jumps t (suc i)).tick
        next = (jumps-land i more).next

        -- the next does not pass over it
        within : (jumps t (suc i)).tick ≤ u
        within = past (leb (jumps t (suc i)).tick u) refl
          where
            past : (x : Bool) → leb (jumps t (suc i)).tick u ≡ x → (jumps t (suc i)).tick ≤ u
            past true e = leb-true (jumps t (suc i)).tick u e
            past false e = absurd (next.first u l (leb-false (jumps t (suc i)).tick u e) m)

        go :
            (Unmissed book t (suc i) → (jumps t (suc i)).tick < u → u ≤ (jumps t (suc i)).tick + d → (j : ℕ) × Unmissed book t j × ((jumps t j).tick ≡ u))
            → (x : Bool) → leb u (jumps t (suc i)).tick ≡ x → (j : ℕ) × Unmissed book t j × ((jumps t j).tick ≡ u)
        go on true e = (suc i, more, omega (arith, within, leb-true u (jumps t (suc i)).tick e))
        go on false e = on more (leb-false u (jumps t (suc i)).tick e) (omega (arith, next.after))

  first-tick : (jumps t 0).tick ≡ 0
  unfolding jumps
  first-tick = refl

  -- of a loaded table
  pub jumps-are-events : AreEvents book t
  jumps-are-events = record {
    begins = first-tick;
    next = λ i met. (jumps-land i met).next;
    same = λ i met. (jumps-land i met).same;
    rise = rises;
    all = λ u l m met. reaches u m met u 0 (λ i p b. absurd (not-suc-le-zero b)) (omega (arith, first-tick)) (omega (arith, first-tick));
  }

-- THE THEOREM, over the words
pub jumps-over-events : (ws : List ℕ) → NoneApplies ws → AreEvents (table_of ws) (loaded_of ws)
jumps-over-events ws none =
    let l = passing-holds ws none in
    subst (λ (s : Table). AreEvents s (loaded_of ws)) (same-table ws (loaded_of ws) l none) (jumps-are-events (loaded_of ws) (table.fit ws (loaded_of ws) l none))
