-- The event judge's search over the jumps from tick 0 finds the first miss (`by-jumps`).
use mathlib.Core.Bool.{Bool, true, false, cond, true≢false}
use mathlib.Core.Path.{◌≡◌, refl, sym, subst, ◌∙◌}
use Prim.Native.Nat.{ℕ, zero, suc, ◌+◌, ◌<◌}
use native.Mathlib.Nat.{le_trans, not-suc-le-zero}
use native.Mathlib.Numerals.{add-one}
use native.Mathlib.Omega.{arith}
use lib.Dec.{leb, ltb}
use lib.ListN.{get_or}
use borrow.Author.Tests.{leb-true, leb-false, lt-ltb, ltb-true}
use Rattle.model.specs.Lists.{Missed}
use Rattle.model.specs.Search.{any, bit, least}
use Rattle.model.specs.Sizes.{most_tasks}
use Rattle.model.specs.Task.{Table}
use Rattle.model.specs.Verdict.{FirstMiss}
use Rattle.model.proofs.Bools.{and_both, and_left, and_right}
use Rattle.model.proofs.Search.{any_of, least-below, least-found, least-lowest}
use Rattle.table.specs.declared.Loaded.{Loaded}
use Rattle.table.specs.Fit.{loaded_table, Fit}
use Rattle.simulation.specs.EventState.{EventState, StateRepresents}
use Rattle.simulation.specs.Jump.{Unmissed, jumps}
use Rattle.simulation.specs.TickState.{loaded_numbers}
use Rattle.simulation.proofs.AreEvents.{jumps-land, jumps-represent, unmissed-more}
use Rattle.simulation.proofs.AtTick.{few}
use Rattle.simulation.proofs.JumpLands.{due-inside, missed-due}
use Rattle.judge.specs.FirstMiss as declared
use Rattle.judge.specs.FirstMiss.{Never, At}
use Rattle.judge.specs.FirstMiss.{MissedByJumps, MissedOf, late_in_state, missed_by_jumps, missed_from}
use Rattle.judge.proofs.FirstMiss.{by-none, by_first}
use Rattle.judge.proofs.LateByEvents.{late-first}

module _ (t : Loaded) (fit : Fit t) where
  abbrev book : Table
  book = loaded_table t

  -- the first late place of a state that represents the full-length run
  module _ (s : EventState) (h : StateRepresents t s) where
    -- a place that misses is late in the state
    missed-late : (q : ℕ) → Missed book q s.tick → (q < most_tasks) × (late_in_state s q ≡ true)
    missed-late q x =
        let y = missed-due t fit s h q x in (
          le_trans (due-inside t fit s h q y.0) (few t fit),
          and_both (bit s.due q) (ltb 0 (get_or s.machine.left q 0)) y.0 (lt-ltb 0 (get_or s.machine.left q 0) y.1),
        )

    found_first : any most_tasks (late_in_state s) ≡ true → FirstMiss book s.tick (suc (least most_tasks (late_in_state s)))
    found_first e = subst (FirstMiss book s.tick) (add-one p) (late-first t fit s h p on owed higher)
      where
        p : ℕ
        p = least most_tasks (late_in_state s)

        there : late_in_state s p ≡ true
        there = least-found most_tasks (late_in_state s) (least-below most_tasks (late_in_state s) e)

        on : bit s.due p ≡ true
        on = and_left (bit s.due p) (ltb 0 (get_or s.machine.left p 0)) there

        owed : 0 < get_or s.machine.left p 0
        owed = ltb-true 0 (get_or s.machine.left p 0) (and_right (bit s.due p) (ltb 0 (get_or s.machine.left p 0)) there)

        higher : (q : ℕ) → q < p → bit s.due q ≡ true → ¬ (0 < get_or s.machine.left q 0)
        higher q l due x =
            true≢false (sym (and_both (bit s.due q) (ltb 0 (get_or s.machine.left q 0)) due (lt-ltb 0 (get_or s.machine.left q 0) x))
            ∙ least-lowest most_tasks (late_in_state s) q l)

    none_found : any most_tasks (late_in_state s) ≡ false → (q : ℕ) → ¬ Missed book q s.tick
    none_found e q x = let y = missed-late q x in true≢false (sym (any_of most_tasks (late_in_state s) q y.0 y.1) ∙ e)

  module _ (b : ℕ) where
    -- from the state after i jumps, with states enough to pass b
    found_from : (k i : ℕ) → Unmissed book t i → b < k + (jumps t i).tick → MissedOf book b (missed_from (loaded_numbers t) b k (jumps t i))
    unfolding missed_from jumps
    found_from zero i met near = by-none book fit.valid b (λ q u l. (jumps-represent t fit i met).met q u (omega arith))
    found_from (suc k) i met near =
        go (λ more l. found_from k (suc i) more l) (leb b s.tick) refl (any most_tasks (late_in_state s)) refl
      where
        s : EventState
        s = jumps t i

        h : StateRepresents t s
        h = jumps-represent t fit i met

        go :
            (Unmissed book t (suc i) → b < k + (jumps t (suc i)).tick → MissedOf book b (missed_from (loaded_numbers t) b k (jumps t (suc i))))
            → (x : Bool) → leb b s.tick ≡ x → (y : Bool) → any most_tasks (late_in_state s) ≡ y
            → MissedOf book b (cond x Never (cond y (At s.tick (suc (least most_tasks (late_in_state s)))) (missed_from (loaded_numbers t) b k (jumps t (suc i)))))
        go on true e y f = by-none book fit.valid b (λ q u l. h.met q u (omega (arith, leb-true b s.tick e)))
        go on false e true f =
            by_first book fit.valid b s.tick (suc (least most_tasks (late_in_state s))) (leb-false b s.tick e) (found_first s h f)
        go on false e false f =
            let more : Unmissed book t (suc i) = unmissed-more t fit i met (none_found s h f) in
            on more (omega (arith, (jumps-land t fit i more).next.after))

    -- THE LAW
    pub by-jumps : MissedOf book b (missed_by_jumps t b)
    unfolding jumps
    by-jumps = found_from (suc b) 0 (λ i p l. absurd (not-suc-le-zero l)) (omega arith)

    -- so a search that meets the contract of all of them has the value by the jumps
    pub as-jumps : (m : declared.Missed) → MissedOf book b m → MissedByJumps t b m
    as-jumps m e = record { value = e.value ∙ sym by-jumps.value; exact = e }
