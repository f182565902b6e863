-- The run of a table with two widths, computed: 2 cores, rule 1. The first task has widths 1 and 2 and a job in every tick, with O = 0 and C = D = T = 1;
-- the second has width 1, O = 0, C = 2 and D = T = 4.
use mathlib.Core.Bool.{false}
use mathlib.Core.List.{◌∷◌}
use mathlib.Core.Path.{◌≡◌, refl}
use lib.ListN.{replicate}
use Rattle.model.specs.Grants.{claimants, given, grants, left}
use Rattle.model.specs.Search.{filtered, up_from}
use Rattle.table.specs.declared.Loaded.{Loaded}
use Rattle.table.specs.Task.{no_task}
use Rattle.rule.specs.Widths.{widths_in}
use Rattle.simulation.specs.Places.{map_places, set_where}
use Rattle.simulation.specs.Machine.{earliest, with_release, released_due, worked_tick}
use Rattle.simulation.specs.TickState.{Numbers, TickState, after_events, next_event_after, initial_tick_state, even_at_tick, granted_at, next_tick_state, loaded_numbers, paired_in, choice_kept}

abbrev two : Loaded
two = record {
  count = 2;
  cores = 2;
  fence = 0;
  rule = 1;
  tasks =
      record { offset = 0; width = 1; length = 1; deadline = 1; period = 1; second = 2 }
      ∷ record { offset = 0; width = 1; length = 2; deadline = 4; period = 4; second = 1 } ∷ replicate 30 no_task;
  start = 0;
  period = 4;
  horizon = 4;
}

abbrev n : Numbers
n = loaded_numbers two

-- only the first has two widths, and it begins at its second
pub begins : (initial_tick_state two).even ≡ 1
unfolding paired_in set_where
begins = refl

-- before ticks 1, 2, 3 and 4
abbrev before1 : TickState
before1 = next_tick_state n (initial_tick_state two)

abbrev before2 : TickState
before2 = next_tick_state n before1

abbrev before3 : TickState
before3 = next_tick_state n before2

abbrev before4 : TickState
before4 = next_tick_state n before3

-- tick 0: its first job has width 1, and both run
pub first-tick : (before1.chosen ≡ 3) × (before1.granted ≡ 3) × (before1.even ≡ 0)
unfolding next_tick_state after_events next_event_after even_at_tick granted_at paired_in set_where released_due with_release earliest worked_tick map_places claimants grants given left widths_in filtered up_from
first-tick = (refl, refl, refl)

-- tick 1: that job has ended at its deadline, and the next is released in the same tick with width 2. The claimants are those of the choice that is kept,
-- which is made anew all the same, and only the first task runs
pub same-claimants : ((after_events n before1).claiming ≡ before1.chosen) × (choice_kept n before1 ≡ false)
unfolding next_tick_state after_events next_event_after even_at_tick granted_at paired_in set_where released_due with_release earliest worked_tick map_places claimants grants given left widths_in filtered up_from
same-claimants = (refl, refl)

pub second-tick : (before2.chosen ≡ 3) × (before2.granted ≡ 1) × (before2.even ≡ 1)
unfolding next_tick_state after_events next_event_after even_at_tick granted_at paired_in set_where released_due with_release earliest worked_tick map_places claimants grants given left widths_in filtered up_from
second-tick = (refl, refl, refl)

-- tick 2: it has width 1 again; the second task has its last tick
pub third-tick : (before3.chosen ≡ 3) × (before3.granted ≡ 3) × (before3.even ≡ 0)
unfolding next_tick_state after_events next_event_after even_at_tick granted_at paired_in set_where released_due with_release earliest worked_tick map_places claimants grants given left widths_in filtered up_from
third-tick = (refl, refl, refl)

-- tick 3: the first task alone, with width 2
pub fourth-tick : (before4.chosen ≡ 1) × (before4.granted ≡ 1) × (before4.even ≡ 1)
unfolding next_tick_state after_events next_event_after even_at_tick granted_at paired_in set_where released_due with_release earliest worked_tick map_places claimants grants given left widths_in filtered up_from
fourth-tick = (refl, refl, refl)
