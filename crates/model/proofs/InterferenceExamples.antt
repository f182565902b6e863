-- The interference test, computed: tables that pass, with their windows, and tables that do not, of which some are met all the same.
use mathlib.Core.Bool.{Bool, false, true}
use mathlib.Core.List.{List, [], ◌∷◌}
use mathlib.Core.Path.{ap, refl, ◌≡◌}
use Prim.Native.Nat.{suc, zero, ℕ}
use native.Mathlib.Omega.{arith}
use lib.ListN.{length}
use Rattle.model.proofs.Computing.{computing}
use Rattle.model.proofs.Examples.{A, B, fenced_on, on, t, t₂}
use Rattle.model.proofs.Windows.{passes-meets}
use Rattle.model.specs.Lists.{NeverMissed}
use Rattle.model.specs.Interference.{bound_from, bounds_to, first_window, interference_in, interference_test_passes, largest_below, need, refused_width, shortened_window, suffices, sum_below}
use Rattle.model.specs.Task.{AllValid, Table, Task, greedy, idling, lending, limited}
use Rattle.model.specs.Verdict.{Firm, Full, Miss, verdict}

-- what a computed example opens
unfoldable testing : Unit {0}
unfolding computing sum_below largest_below interference_in refused_width need suffices first_window shortened_window bound_from bounds_to interference_test_passes
testing = tt

-- the windows of a table, and whether it passes
abbrev tested : Table → List ℕ × Bool
tested s = (bounds_to s (length s.tasks), interference_test_passes s)

-- three tasks, on three cores: under limited the second, which is wide, may keep the third waiting with a core free
abbrev three : List Task
three = t 0 1 1 4 4 ∷ t 0 2 2 8 8 ∷ t 0 1 3 12 12 ∷ []

-- and three of two widths
abbrev pairs : List Task
pairs = t₂ 0 1 2 1 5 5 ∷ t₂ 3 2 1 2 9 9 ∷ t₂ 0 1 3 2 10 10 ∷ []

-- tables that pass, under each rule
pub three-pass :
    (tested (on 3 greedy three) ≡ (1 ∷ 2 ∷ 4 ∷ [], true))
    × (tested (on 3 limited three) ≡ (1 ∷ 2 ∷ 6 ∷ [], true))
    × (tested (on 3 idling three) ≡ (1 ∷ 2 ∷ 4 ∷ [], true))
    × (tested (on 3 lending three) ≡ (1 ∷ 2 ∷ 4 ∷ [], true))
unfolding testing
three-pass = (refl, refl, refl, refl)

-- a fenced core does not count
pub fenced-pass : (tested (on 4 limited three) ≡ (1 ∷ 2 ∷ 4 ∷ [], true)) × (tested (fenced_on 4 2 limited three) ≡ (1 ∷ 2 ∷ 6 ∷ [], true))
unfolding testing
fenced-pass = (refl, refl)

-- of two widths the larger counts
pub pairs-pass : (tested (on 4 greedy pairs) ≡ (1 ∷ 2 ∷ 5 ∷ [], true)) × (tested (on 3 greedy pairs) ≡ (1 ∷ 3 ∷ 11 ∷ [], false))
unfolding testing
pairs-pass = (refl, refl)

-- the wider jobs of a task are every second one: with the larger width in each job the second task would have a bound of 4 ticks, past its deadline
pub parity-pass : tested (on 2 greedy (t₂ 0 2 1 1 2 2 ∷ t 0 1 2 3 6 ∷ [])) ≡ (1 ∷ 3 ∷ [], true)
unfolding testing
parity-pass = refl

-- found by twice the waiting, 1, 2, 4, 8 and 16 ticks, and by halvings
pub searched : tested (on 1 greedy (t 0 1 10 20 20 ∷ t 0 1 1 20 20 ∷ [])) ≡ (10 ∷ 11 ∷ [], true)
unfolding testing
searched = refl

-- refused, and met all the same: the test is enough, and not needed
pub met-unpassed :
    (tested (fenced_on 3 1 limited three) ≡ (1 ∷ 3 ∷ 13 ∷ [], false)) × (verdict (fenced_on 3 1 limited three) ≡ Firm 0 24)
    × (tested (A greedy) ≡ (2 ∷ 5 ∷ 6 ∷ [], false)) × (verdict (A greedy) ≡ Full 0 5)
unfolding testing
met-unpassed = (refl, refl, refl, refl)

-- refused, and missed
pub missed-unpassed :
    (tested (A limited) ≡ (2 ∷ 5 ∷ 6 ∷ [], false)) × (verdict (A limited) ≡ Miss 5 3)
    × (tested (B limited) ≡ (3 ∷ 4 ∷ 3 ∷ [], false)) × (verdict (B limited) ≡ Miss 2 3)
unfolding testing
missed-unpassed = (refl, refl, refl, refl)

-- a width above the cores, and a length above the deadline, never pass
pub never-pass : (tested (on 2 greedy (t 0 3 1 4 4 ∷ [])) ≡ (5 ∷ [], false)) × (tested (on 2 greedy (t 0 1 5 4 4 ∷ [])) ≡ (5 ∷ [], false))
unfolding testing
never-pass = (refl, refl)

-- a table of which the theorem says that it never misses
three-sound : AllValid (on 3 limited three)
three-sound zero l = record { odd_pos = omega arith; even-pos = omega arith; length-pos = omega arith; deadline-pos = omega arith; constrained = omega arith }
three-sound (suc zero) l = record { odd_pos = omega arith; even-pos = omega arith; length-pos = omega arith; deadline-pos = omega arith; constrained = omega arith }
three-sound (suc (suc zero)) l = record { odd_pos = omega arith; even-pos = omega arith; length-pos = omega arith; deadline-pos = omega arith; constrained = omega arith }
three-sound (suc (suc (suc p))) l = absurd (omega arith)

pub three-met : NeverMissed (on 3 limited three)
three-met = passes-meets (on 3 limited three) three-sound (ap (λ (x : List ℕ × Bool). x.1) three-pass.1)
