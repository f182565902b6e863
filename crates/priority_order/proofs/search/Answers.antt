-- `Seen` says what code has of the orders tried so far.
use mathlib.Core.List.{List}
use mathlib.Core.Path.{◌≡◌, ap, subst, sym, ◌∙◌}
use Prim.Native.Nat.{ℕ, min, ◌-◌, ◌≤◌}
use native.Mathlib.Nat.{min-le_left}
use Rattle.model.specs.Task.{Table}
use Rattle.table.proofs.Tasks.{table-length}
use Rattle.table.specs.Load.{LoadedAs}
use Rattle.table.specs.Words.{count, table_of}
use Rattle.table.proofs.Fit.{fit, same-table}
use Rattle.table.specs.Fit.{Fit, loaded_table}
use Rattle.priority_order.specs.Answer.{None}
use Rattle.priority_order.specs.Answer.{AssignedBy, answer_in, no_order, positions_of}
use Rattle.priority_order.specs.Orders.{OrderIn, Permutation}
use Rattle.priority_order.specs.Repair.{late_in, later_of, no_miss, repairs, verdict_in}
use Rattle.priority_order.specs.Sorted.{sorted_order, sorted_orders}
use Rattle.priority_order.specs.Tried.{is_firm}
use Rattle.judge.specs.declared.Verdict.{Verdict}
use Rattle.std.specs.Prelude.{Option}
use Rattle.std.specs.Prelude.{None as empty}
use Rattle.priority_order.proofs.Searching.{Seen, assigned-answer, firm-none, firm-some, judgings-left, search-firm, search-full}
use Rattle.priority_order.proofs.Searching.{search-none, search-repair, seen_more, seen_start, sorted-order}
use native.Mathlib.Omega.{arith}
use Rattle.table.specs.declared.Loaded.{Loaded}
use Rattle.table.specs.Numbers.{NoneApplies}
use Rattle.priority_order.specs.declared.Assignment.{Assignment}
use Rattle.priority_order.specs.Repair.{Late}
use Rattle.priority_order.proofs.search.Goals as goal

module _ (ws : List ℕ) (t : Loaded) (none : NoneApplies ws) (loads : LoadedAs ws t) where
  fits : Fit t
  fits = fit ws t loads none

  counted : t.count ≡ count ws
  counted = loads.count ∙ table-length ws

  -- an order of its tasks
  in_order : (o : List ℕ) → Permutation (count ws) o → OrderIn ws t.count o
  in_order o x = record { passes = none; size = counted; permutation = subst (λ (n : ℕ). Permutation n o) (sym counted) x }

  -- a sorted order
  sorted : (o : List ℕ) (k : ℕ) → o ≡ sorted_order (loaded_table t) k → o ≡ sorted_order (table_of ws) k
  sorted o k e = e ∙ ap (λ (s : Table). sorted_order s k) (same-table ws t loads none)

  order-in : (o : List ℕ) (k : ℕ) → o ≡ sorted_order (loaded_table t) k → OrderIn ws t.count o
  order-in o k e = in_order o (subst (Permutation (count ws)) (sym (sorted o k e)) (sorted-order ws none k))

-- all of the five are tried
all : (ws : List ℕ) (judgings first number : ℕ) (a : Option Assignment) (x : Late) → Seen ws number a x → number ≤ first → first ≤ number
    → first ≡ min judgings sorted_orders → Seen ws (min judgings sorted_orders) a x
all ws judgings first number a x seen below above e =
    let same : number ≡ first = omega arith in
    subst (λ (k : ℕ). Seen ws k a x) (same ∙ e) seen

pub loop-number-init : goal.loop-number-init
loop-number-init c =
    let ws = c.args.words.now in
    subst (λ (o : List ℕ). Seen ws 0 empty (no_miss o)) (sym c.own.ensures) (seen_start ws c.requires.0)

pub invariant_of-in_order : goal.invariant_of-in_order
invariant_of-in_order c =
    record { fits = ∣ order-in c.args.words.now c.args.table c.requires.0 c.requires.1 c.sorted-order.result c.loop-number.number c.sorted-order.ensures ∣₁ }

-- the assignment by the verdict on the table in this order
by_order : (ws : List ℕ) (t : Loaded) → NoneApplies ws → LoadedAs ws t → (v : Verdict) (o : List ℕ) (r : Option Assignment) → v ≡ verdict_in ws o
    → AssignedBy v (positions_of t.count o) r → AssignedBy (verdict_in ws o) (positions_of (count ws) o) r
by_order ws t none loads v o r e h =
    subst (λ (n : ℕ). AssignedBy (verdict_in ws o) (positions_of n o) r) (counted ws t none loads)
    (subst (λ (u : Verdict). AssignedBy u (positions_of t.count o) r) e h)

pub returns-in-Some : goal.returns-in-Some
returns-in-Some c =
    let ws = c.args.words.now in
    let t = c.args.table in
    let l = c.loop-number in
    let o = c.sorted-order.result in
    let g = by_order ws t c.requires.0 c.requires.1 _ o _ c.verdict-verdict.ensures.value c.assigned-found.ensures in
    let (v, ps, f) = firm-some _ _ c.assigned-found.result c.in-Some.best g (sym c.firm.ensures ∙ c.in-Some.is) in
    assigned-answer c.in-Some.best (verdict_in ws o) (positions_of (count ws) o) v ps
    ∙ search-firm ws c.requires.0 c.args.judgings l.number l.accepted (late_in l.late) l.invariant
    (rw (← c.min-first.ensures) c.loop-number-test.true) o (sorted ws t c.requires.0 c.requires.1 o l.number c.sorted-order.ensures) f

pub loop-number-preserved : goal.loop-number-preserved
loop-number-preserved c =
    let ws = c.args.words.now in
    let t = c.args.table in
    let l = c.loop-number in
    let o = c.sorted-order.result in
    let value = c.verdict-verdict.ensures.value in
    let g = by_order ws t c.requires.0 c.requires.1 _ o _ value c.assigned-found.ensures in
    seen_more ws c.requires.0 l.number l.accepted (late_in l.late) l.invariant o
    (sorted ws t c.requires.0 c.requires.1 o l.number c.sorted-order.ensures)
    c.verdict-verdict.result value
    (ap is_firm value ∙ firm-none _ _ c.assigned-found.result g (sym c.firm.ensures ∙ c.in_default.is))
    c.assigned-found.result (subst (λ (u : Verdict). AssignedBy u (positions_of (count ws) o) c.assigned-found.result) (sym value) g)
    c.or-accepted.result c.or-accepted.ensures (late_in c.later-late.result) (c.later-late.ensures
    ∙ ap (later_of (late_in l.late)) c.late_of.ensures)

pub returns-in-Some-accepted : goal.returns-in-Some-accepted
returns-in-Some-accepted c =
    let ws = c.args.words.now in
    let l = c.loop-number in
    let seen = all ws c.args.judgings _ l.number l.accepted (late_in l.late) l.invariant l.auto.number-end c.loop-number-test.false c.min-first.ensures in
    search-full ws c.requires.0 c.args.judgings l.accepted (late_in l.late) seen c.in-Some-accepted.found c.in-Some-accepted.is

pub returns-then-is_none : goal.returns-then-is_none
returns-then-is_none c =
    let ws = c.args.words.now in
    let l = c.loop-number in
    let seen = all ws c.args.judgings _ l.number l.accepted (late_in l.late) l.invariant l.auto.number-end c.loop-number-test.false c.min-first.ensures in
    ap (λ (n : ℕ). no_order (None n)) c.min-first.ensures
    ∙ (search-none ws c.requires.0 c.args.judgings l.accepted (late_in l.late) seen c.in_default-accepted.is c.if-is_none.ensures)

pub repaired-requires : goal.repaired-requires
repaired-requires c =
    let ws = c.args.words.now in
    let t = c.args.table in
    let l = c.loop-number in
    let seen = all ws c.args.judgings _ l.number l.accepted (late_in l.late) l.invariant l.auto.number-end c.loop-number-test.false c.min-first.ensures in (
      in_order ws t c.requires.0 c.requires.1 _ seen.late-permutation,
      seen.says c.if-is_none.ensures,
      omega (arith, c.min-first.ensures, min-le_left c.args.judgings sorted_orders),
    )

pub returns : goal.returns
returns c =
    let ws = c.args.words.now in
    let l = c.loop-number in
    let m = c.args.judgings in
    let first = c.min-first.ensures in
    let seen = all ws m _ l.number l.accepted (late_in l.late) l.invariant l.auto.number-end c.loop-number-test.false first in
    let left : m - c.min-first.result ≡ m - sorted_orders = ap (λ (n : ℕ). m - n) first ∙ judgings-left m in
    c.repaired.ensures
    ∙ ((λ i. answer_in ws (first i) (repairs ws (left i) l.late.order 1 1 l.late.order))
    ∙ search-repair ws c.requires.0 m l.accepted (late_in l.late) seen c.in_default-accepted.is c.if-is_none.ensures)
