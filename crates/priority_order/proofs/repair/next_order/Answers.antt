-- By the verdict on it: the order that follows, or none.
use mathlib.Core.Bool.{true}
use mathlib.Core.Path.{◌≡◌, ap, refl, subst, sym, ◌∙◌}
use Prim.Native.Nat.{ℕ, ◌-◌, ◌<◌}
use Rattle.priority_order.specs.Orders.{Permutation, moved, OrderIn, reordered}
use Rattle.table.specs.Words.{table_of}
use Rattle.std.specs.Option.{is_some}
use Rattle.std.specs.Prelude.{Option, Some}
use Rattle.judge.specs.declared.Miss.{Miss as MissOf}
use Rattle.priority_order.specs.declared.repair.Late.{Late as LateOrder}
use Rattle.priority_order.specs.Repair.{blocking_in, choice_of, just, LateIn, late_in, late_with}
use Rattle.priority_order.proofs.Reordering.{tasks-few}
use Rattle.priority_order.proofs.Repairing.{MissIn, late-miss, miss-in, most-above, next-moves, next-none, next-stops}
use native.Mathlib.Omega.{arith}
use mathlib.Core.List.{List}
use Rattle.priority_order.specs.Repair.{Late}
use Rattle.priority_order.proofs.repair.next_order.Goals as goal

-- its first miss
missed : (ws : List ℕ) (n : ℕ) (x : Late) → OrderIn ws n x.order → LateIn ws x → x.some ≡ true → MissIn ws x.order x.tick x.position
missed ws n x o says h =
    miss-in ws o.passes x.order (subst (λ (n : ℕ). Permutation n x.order) o.size o.permutation) x.tick x.position (late-miss _ x.order x says h)

-- what the verdict says of an order with this miss
says-of : (ws : List ℕ) (x : LateOrder) (m : MissOf) → LateIn ws (late_in x) → x.missed ≡ Some m → LateIn ws (late_with (Some m) x.order)
says-of ws x m h e = subst (λ (n : Option MissOf). LateIn ws (late_with n x.order)) e h

pub returns-in_err-miss : goal.returns-in_err-miss
returns-in_err-miss c =
    ap choice_of c.from_residual.ensures
    ∙ sym (next-none c.args.words.now c.args.late.order (late_in c.args.late) c.requires.1 (ap (is_some {T = MissOf}) c.in_err-miss.was))

pub invariant_of-order : goal.invariant_of-order
invariant_of-order c = record { fits = ∣ c.requires.0 ∣₁ }

pub blocking-requires : goal.blocking-requires
blocking-requires c = says-of c.args.words.now c.args.late c.in_ok-miss.miss c.requires.1 c.in_ok-miss.was

pub returns-in_err-above : goal.returns-in_err-above
returns-in_err-above c =
    let x = late_with (Some c.in_ok-miss.miss) c.args.late.order in
    ap choice_of c.from_residual-in_err-above.ensures
    ∙ sym (next-stops c.args.words.now x (says-of c.args.words.now c.args.late c.in_ok-miss.miss c.requires.1 c.in_ok-miss.was) refl (sym c.in_err-above.ensures))

pub overflow_sub-miss : goal.overflow_sub-miss
overflow_sub-miss c =
    let m = c.in_ok-miss.miss in
    omega (arith, (missed c.args.words.now c.args.count (late_with (Some m) c.args.late.order) c.requires.0 (says-of c.args.words.now c.args.late m c.requires.1 c.in_ok-miss.was) refl).some)

pub move_up-requires : goal.move_up-requires
move_up-requires c =
    let x = late_with (Some c.in_ok-miss.miss) c.args.late.order in
    let m = missed c.args.words.now c.args.count x c.requires.0 (says-of c.args.words.now c.args.late c.in_ok-miss.miss c.requires.1 c.in_ok-miss.was) refl in
    let above = most-above (table_of (reordered c.args.words.now x.order)) x.tick (x.position - 1) in
    (omega (arith, above, c.in_ok-above.ensures), omega (arith, m.place, tasks-few c.args.words.now c.requires.0.passes))

pub returns : goal.returns
returns c =
    let x = late_with (Some c.in_ok-miss.miss) c.args.late.order in
    let says = says-of c.args.words.now c.args.late c.in_ok-miss.miss c.requires.1 c.in_ok-miss.was in
    let some : 0 < blocking_in c.args.words.now x = omega (arith, c.in_ok-above.ensures) in
    let place : c.in_ok-above.above ≡ blocking_in c.args.words.now x - 1 = omega (arith, c.in_ok-above.ensures) in
    ap just (c.move_up.ensures ∙ ap (λ (q : ℕ). moved q (x.position - 1) x.order) place)
    ∙ sym (next-moves c.args.words.now x says refl some)
