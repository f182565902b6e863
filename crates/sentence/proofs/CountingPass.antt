-- The counting pass over the machine: a run that represents the table's full-length run, with the waiting ticks counted so far, and what is left of
-- the late job at the end.
use mathlib.Core.Path.{◌≡◌, sym, ap, ◌∙◌, subst, subst₂}
use mathlib.Core.Bool.{Bool, true, false}
use mathlib.Core.List.{List}
use Prim.Native.Nat.{ℕ, suc, ◌-◌, ◌≤◌, ◌<◌}
use native.Mathlib.Omega.{arith}
use lib.ListN.{length, get_or, replicate}
use Rattle.model.specs.Search.{bit}
use Rattle.model.specs.Task.{Table, AllValid, task}
use Rattle.model.specs.Jobs.{Book, Job}
use Rattle.model.specs.Claims.{in_row}
use Rattle.model.specs.Lists.{full, Missed}
use Rattle.model.specs.Verdict.{FirstMiss}
use Rattle.model.proofs.Jobs.{newest-is}
use Rattle.table.specs.declared.Loaded.{Loaded}
use Rattle.simulation.specs.Machine.{Machine}
use Rattle.simulation.specs.TickState.{loaded_numbers, TickState, initial_tick_state, after_events, next_event_after, even_at_tick, next_tick_state}
use Rattle.simulation.proofs.Late.{missed-late}
use Rattle.simulation.specs.PlaceRelation.{PlaceRelatedAt}
use Rattle.simulation.proofs.Steps.{tick-on, chosen_on, even-on}
use Rattle.simulation.proofs.MachineRelated.{MachineRelated}
use Rattle.table.specs.Fit.{loaded_table, Fit}
use Rattle.simulation.proofs.AtTick.{Chosen, chosen-row}
use Rattle.simulation.proofs.RefinesTick.{RefinesTick, refines-start, handled-after, refines_on}
use Rattle.sentence.specs.Counting.{added}
use Rattle.sentence.specs.Waiting.{book_at, release_of, late_job, had_by}
use Rattle.sentence.proofs.Waiting.{missed_here, same-book, Counted, counted_start, counted-pass, counted-add, waits-before, waits-after}

-- WHAT IS LEFT OF THE LATE JOB

module _ (s : Table) (ok : AllValid s) (t p : ℕ) (f : FirstMiss s t (suc p)) (m : Machine) (h : MachineRelated s t m) where
  abbrev left : ℕ
  left = get_or m.left p 0

  -- C is what it had and what is left
  pub left-had : (left ≤ (task s p).length) × ((task s p).length - left ≡ had_by s t p)
  left-had = go (bit m.claiming p) (h.waiting p below (omega arith))
    where
      below : p < length s.tasks
      below = (missed_here s ok t p f).0

      late : (get_or m.event p 0 ≡ t) × (0 < left)
      late = missed-late s ok t 0 m h p below (omega arith) (missed_here s ok t p f)

      go : (c : Bool) → PlaceRelatedAt (task s p) t ((full s t).job p) left (get_or m.event p 0) (get_or m.next p 0) c
          → (left ≤ (task s p).length) × ((task s p).length - left ≡ had_by s t p)
      go true w =
          let own : late_job s t p ≡ w.number =
          newest-is (task s p) w.number (release_of s t p) (ok p below).constrained (omega (arith, w.deadline, late.0)) (omega (arith, w.deadline, late.0, (ok p below).deadline-pos)) in
          let had : had_by s t p ≡ w.had =
          ap (λ (b : Book). (b.job p (late_job s t p)).had) (same-book s ok t p f t (omega arith))
          ∙ (ap (λ (k : ℕ). ((full s t).job p k).had) own ∙ ap (λ (j : Job). j.had) w.line) in
          (omega (arith, w.whole), omega (arith, w.whole, had))
      go false w = absurd (omega (arith, late.1, w.none))

-- TICK BY TICK

-- before a tick, up to that of the miss
pub record Counting (t : Loaded) (tick place : ℕ) (x : TickState) (ran : List ℕ) : Type 0 where
  pub follows : RefinesTick t x
  pub within : x.tick ≤ tick
  pub counted : Counted (loaded_table t) tick place x.tick ran

module _ (t : Loaded) (fit : Fit t) (tick place : ℕ) (f : FirstMiss (loaded_table t) tick (suc place)) where
  abbrev s : Table
  s = loaded_table t

  pub counting-start : Counting t tick place (initial_tick_state t) (replicate 32 0)
  counting-start = record { follows = refines-start t fit; within = omega arith; counted = counted_start s tick place }

  module _ (x : TickState) (ran : List ℕ) (c : Counting t tick place x ran) (before : x.tick < tick) where
    -- no deadline of the tick is missed
    pub met-here : (q : ℕ) → ¬ Missed s q x.tick
    met-here q = f.no-earlier q x.tick before

    module _ (y : TickState) (e : y ≡ next_tick_state (loaded_numbers t) x) where
      on : RefinesTick t y
      on = refines_on t fit x c.follows met-here y e

      tick-next : y.tick ≡ suc x.tick
      tick-next = tick-on (loaded_numbers t) x y e ∙ omega arith

      -- a place that is granted cores is in the row of the book
      pub granted-row : (q : ℕ) → bit y.granted q ≡ in_row s (book_at s x.tick) q
      granted-row q =
          chosen-row t fit (after_events (loaded_numbers t) x) (even_at_tick (loaded_numbers t) x) (next_event_after (loaded_numbers t) x) x.tick (handled-after t fit x c.follows met-here)
          y.granted (subst₂ (λ (n m : ℕ). Chosen t n m y.granted) (chosen_on (loaded_numbers t) x y e) (even-on (loaded_numbers t) x y e) on.chosen) q
          ∙ ap (λ (b : Book). in_row s b q) (sym (same-book s fit.valid tick place f x.tick (omega arith)))

      counting-next : (new : List ℕ) → Counted s tick place (suc x.tick) new → Counting t tick place y new
      counting-next new d = record {
        follows = on;
        within = omega (arith, tick-next);
        counted = subst (λ (n : ℕ). Counted s tick place n new) (sym tick-next) d;
      }

      -- before the late job's release
      pub counting-early : x.tick < release_of s tick place → Counting t tick place y ran
      counting-early l = counting-next ran (counted-pass s tick place x.tick ran c.counted (waits-before s tick place x.tick l))

      -- it runs
      pub counting-runs : release_of s tick place ≤ x.tick → bit y.granted place ≡ true → Counting t tick place y ran
      counting-runs l g =
          counting-next ran
          (counted-pass s tick place x.tick ran c.counted (waits-after s tick place x.tick true l (sym (granted-row place) ∙ g)))

      -- it waits
      pub counting-waits : release_of s tick place ≤ x.tick → bit y.granted place ≡ false → Counting t tick place y (added y.granted ran)
      counting-waits l g =
          counting-next (added y.granted ran)
          (counted-add s tick place x.tick y.granted ran c.counted (waits-after s tick place x.tick false l (sym (granted-row place) ∙ g)) granted-row)
