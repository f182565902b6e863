-- Repair of an order that misses: the late task goes to the place directly above the task that ran most while it waited.
use Rattle.std.specs.Option.{is_some}
use Rattle.std.specs.Prelude.{Option, None, Some, Bool, cond, false, not, true, ◌&&◌, ◌||◌, ◌≡◌, List, [], ◌∷◌, ℕ, zero, suc, ◌*◌, ◌-◌, eqb, ltb}
use Rattle.model.specs.Task.{Table}
use Rattle.table.specs.Words.{table_of}
use Rattle.judge.specs.declared.Verdict.{Verdict}
use Rattle.judge.specs.declared.Verdict.TheVariants.{Firm, Full, Miss, Refused}
use Rattle.judge.specs.Judged.{verdict_of}
use Rattle.sentence.specs.Facts.{Part}
use Rattle.sentence.specs.Waiting.{facts_at}
use Rattle.judge.specs.declared.Miss.{Miss as FirstMiss}
use Rattle.priority_order.specs.declared.repair.Late.{Late as LateOrder}
use Rattle.priority_order.specs.Orders.{moved, reordered}

-- an order, or none
pub data Choice : Type 0 where
  nothing : Choice
  just : List ℕ → Choice

-- the verdict on the table in an order
abbrev pub verdict_in : List ℕ → List ℕ → Verdict
verdict_in ws o = verdict_of (reordered ws o)

-- an order, and where it misses its first miss, else zeros
pub record Late : Type 0 where
  pub some : Bool
  pub tick : ℕ
  pub position : ℕ
  pub order : List ℕ

-- as code has it
abbrev pub late_tick : Option FirstMiss → ℕ
late_tick None = 0
late_tick (Some m) = m.tick

abbrev pub late_position : Option FirstMiss → ℕ
late_position None = 0
late_position (Some m) = m.position

abbrev pub late_with : Option FirstMiss → List ℕ → Late
late_with m o = record { some = is_some m; tick = late_tick m; position = late_position m; order = o }

abbrev pub late_in : LateOrder → Late
late_in x = late_with x.missed x.order

-- one that misses nothing
abbrev pub no_miss : List ℕ → Late
no_miss o = record { some = false; tick = 0; position = 0; order = o }

abbrev pub late_of : Verdict → List ℕ → Late
late_of (Firm a b) o = no_miss o
late_of (Full a b) o = no_miss o
late_of (Miss t p) o = record { some = true; tick = t; position = p; order = o }
late_of (Refused n p) o = no_miss o

-- x says of its order what the verdict on it does
abbrev pub LateIn : List ℕ → Late → Type 0
LateIn ws x = x ≡ late_of (verdict_in ws x.order) x.order

-- the later of two first misses, the first of equal ones
abbrev pub later_of : Late → Late → Late
later_of x y = cond (y.some && (not x.some || ltb x.tick y.tick)) y x

-- of `best` and the parts, the one with the largest count, at equal counts the highest
unfoldable pub most_from : Part → List Part → Part
most_from best [] = best
most_from best (x ∷ xs) = most_from (cond (ltb best.count x.count) x best) xs

-- the position of the task that ran most, 0 where none ran
abbrev pub most_ran : List Part → ℕ
most_ran xs = (most_from (record { position = 0; count = 0 }) xs).position

-- .. as code has it: its place, none where none ran
abbrev pub position_in : Option ℕ → ℕ
position_in None = 0
position_in (Some q) = suc q

-- the order in which the task at place p went to position q; none where q is 0
abbrev pub moved_above : ℕ → ℕ → List ℕ → Choice
moved_above zero p o = nothing
moved_above (suc q) p o = just (moved q p o)

-- by the verdict on it: an order that misses is followed by another, unless nobody ran
abbrev pub next_by : Verdict → Table → List ℕ → Choice
next_by (Firm a b) s o = nothing
next_by (Full a b) s o = nothing
next_by (Miss t p) s o = moved_above (most_ran (facts_at s t (p - 1)).others) (p - 1) o
next_by (Refused n p) s o = nothing

-- the order that follows order o
unfoldable pub next_order : List ℕ → List ℕ → Choice
next_order ws o = next_by (verdict_in ws o) (table_of (reordered ws o)) o

-- in an order that misses: the task that ran most while the late one waited
abbrev pub blocking_in : List ℕ → Late → ℕ
blocking_in ws x = most_ran (facts_at (table_of (reordered ws x.order)) x.tick (x.position - 1)).others

-- an order that follows, as code has it
abbrev pub choice_of : Option (List ℕ) → Choice
choice_of None = nothing
choice_of (Some o) = just o

-- equal lists
unfoldable pub same : List ℕ → List ℕ → Bool
same [] [] = true
same [] (y ∷ ys) = false
same (x ∷ xs) [] = false
same (x ∷ xs) (y ∷ ys) = eqb x y && same xs ys

-- order number `number` is kept where that is the next power of two, and then the power after it is the next
abbrev pub kept_after : ℕ → ℕ → List ℕ → List ℕ → List ℕ
kept_after number power kept o = cond (eqb number power) o kept

abbrev pub power_after : ℕ → ℕ → ℕ
power_after number power = cond (eqb number power) (2 * power) power

-- an order that follows, with what comes after it; nothing where none follows, or it equals the order that is kept
abbrev pub unless_kept : List ℕ → Choice → (List ℕ → List (List ℕ)) → List (List ℕ)
unless_kept kept nothing after = []
unless_kept kept (just o) after = cond (same o kept) [] (after o)

-- the orders that follow order o, m of them at most, the first with number `number`
unfoldable pub repairs : List ℕ → ℕ → List ℕ → ℕ → ℕ → List ℕ → List (List ℕ)
repairs ws zero kept number power o = []
repairs ws (suc m) kept number power o =
    unless_kept kept (next_order ws o) (λ n. n ∷ repairs ws m (kept_after number power kept n) (suc number) (power_after number power) n)
