-- THE ORDERS TRIED: the five, and where none of them is accepted, repair from the one with the latest first miss.
use Rattle.std.specs.Prelude.{Bool, cond, false, true, List, [], ◌∷◌, ◌++◌, map, ℕ, min, ◌-◌}
use Rattle.model.specs.Search.{up_from}
use Rattle.table.specs.Words.{table_of}
use Rattle.judge.specs.declared.Verdict.{Verdict}
use Rattle.judge.specs.declared.Verdict.TheVariants.{Firm, Full, Miss, Refused}
use Rattle.priority_order.specs.Repair.{Late}
use Rattle.priority_order.specs.Orders.{own_order}
use Rattle.priority_order.specs.Repair.{Choice, just, late_of, later_of, no_miss, nothing, repairs, verdict_in}
use Rattle.priority_order.specs.Sorted.{sorted_order, sorted_orders}

-- the verdict is Firm
abbrev pub is_firm : Verdict → Bool
is_firm (Firm a b) = true
is_firm (Full a b) = false
is_firm (Miss t p) = false
is_firm (Refused n p) = false

-- .. Firm or Full
abbrev pub is_accepted : Verdict → Bool
is_accepted (Firm a b) = true
is_accepted (Full a b) = true
is_accepted (Miss t p) = false
is_accepted (Refused n p) = false

-- the first order of a list whose verdict passes a test
unfoldable pub first_that : (Verdict → Bool) → List ℕ → List (List ℕ) → Choice
first_that f ws [] = nothing
first_that f ws (o ∷ os) = cond (f (verdict_in ws o)) (just o) (first_that f ws os)

-- the one order, or where there is none the other
abbrev pub or_else : Choice → Choice → Choice
or_else nothing y = y
or_else (just o) y = just o

-- THE CHOICE: the first order that is Firm, else the first that is accepted
abbrev pub chosen_of : List ℕ → List (List ℕ) → Choice
chosen_of ws os = or_else (first_that is_firm ws os) (first_that is_accepted ws os)

-- of order x and a list, the one with the latest first miss
unfoldable pub latest_from : List ℕ → Late → List (List ℕ) → Late
latest_from ws x [] = x
latest_from ws x (o ∷ os) = latest_from ws (later_of x (late_of (verdict_in ws o) o)) os

-- the five, m of them at most
abbrev pub sorted_first : List ℕ → ℕ → List (List ℕ)
sorted_first ws m = map (sorted_order (table_of ws)) (up_from 0 (min m sorted_orders))

-- repair from an order that misses, m orders at most
abbrev pub repairs_from : List ℕ → ℕ → Late → List (List ℕ)
repairs_from ws m x = cond x.some (repairs ws m x.order 1 1 x.order) []

-- none where one of the five is accepted
abbrev pub unless_accepted : Choice → List (List ℕ) → List (List ℕ)
unless_accepted nothing os = os
unless_accepted (just o) os = []

-- m orders at most
unfoldable pub tried_orders : List ℕ → ℕ → List (List ℕ)
tried_orders ws m =
    sorted_first ws m
    ++ unless_accepted (first_that is_accepted ws (sorted_first ws m)) (repairs_from ws (m - sorted_orders) (latest_from ws (no_miss own_order) (sorted_first ws m)))
