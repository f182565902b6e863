-- What is left of the repair has the answer of the whole (`Going`).
use mathlib.Core.Bool.{Bool, cond, false}
use lib.Dec.{eqb}
use borrow.Author.Tests.{eq-eqb, ne_eqb}
use mathlib.Core.List.{List}
use mathlib.Core.Path.{◌≡◌, ap, subst, sym, ◌∙◌}
use Prim.Native.Nat.{ℕ}
use Rattle.table.specs.Words.{count}
use Rattle.priority_order.specs.Answer.{positions_of, verdict_by}
use Rattle.priority_order.specs.Orders.{OrderIn, Permutation}
use Rattle.priority_order.specs.Repair.{choice_of, just, kept_after, late_in, next_order, power_after, same, verdict_in}
use Rattle.priority_order.specs.Tried.{is_accepted}
use Rattle.priority_order.proofs.Choosing.{going-given, going-kept, going-none, going_on, going-spent}
use Rattle.priority_order.proofs.Repairing.{next-permutation}
use native.Mathlib.Omega.{arith}
use Prim.Native.Nat.{◌+◌, ◌*◌}
use Rattle.priority_order.proofs.Searching.{assigned-answer, fit-accepted}
use Rattle.priority_order.proofs.repaired.Goals.{then-from-power, else-from-power}
use Rattle.priority_order.specs.Answer.{no_order}
use Rattle.priority_order.specs.Answer.{None}
use Rattle.priority_order.proofs.Most.{same_pointwise}
use Rattle.priority_order.proofs.repaired.Goals as goal

-- an order that follows is one of the table's tasks
order-in : (ws : List ℕ) (n : ℕ) (o next : List ℕ) → OrderIn ws n o → next_order ws o ≡ just next → OrderIn ws n next
order-in ws n o next g f =
    let x : Permutation (count ws) o = subst (λ (m : ℕ). Permutation m o) g.size g.permutation in
    record {
      passes = g.passes;
      size = g.size;
      permutation = subst (λ (m : ℕ). Permutation m next) (sym g.size) (next-permutation ws g.passes _ next x f);
    }

pub returns-in_default : goal.returns-in_default
returns-in_default c =
    going-none _ _ _ _ _ _ _ _ _ _ _ c.loop-made.invariant (sym c.next_order.ensures ∙ ap choice_of c.in_default.is)

pub returns-then-eq : goal.returns-then-eq
returns-then-eq c =
    let next = c.in-Some.order in
    let follows : next_order c.args.words.now c.loop-made.late.order ≡ just next = sym c.next_order.ensures ∙ ap choice_of c.in-Some.is in
    going-kept _ _ _ _ _ _ _ _ _ _ _ c.loop-made.invariant next follows (sym (same_pointwise next c.loop-made.kept) ∙ (sym c.eq.ensures ∙ c.if-eq.true))

pub invariant_of-in_order : goal.invariant_of-in_order
invariant_of-in_order c =
    let next = c.in-Some.order in
    let follows : next_order c.args.words.now c.loop-made.late.order ≡ just next = sym c.next_order.ensures ∙ ap choice_of c.in-Some.is in
    record { fits = ∣ order-in c.args.words.now c.args.count c.loop-made.late.order next c.loop-made.invariant.order follows ∣₁ }

pub returns-in-Some-assigned : goal.returns-in-Some-assigned
returns-in-Some-assigned c =
    let next = c.in-Some.order in
    let follows : next_order c.args.words.now c.loop-made.late.order ≡ just next = sym c.next_order.ensures ∙ ap choice_of c.in-Some.is in
    let x = order-in c.args.words.now c.args.count c.loop-made.late.order next c.loop-made.invariant.order follows in
    let other : same next c.loop-made.kept ≡ false = sym (same_pointwise next c.loop-made.kept) ∙ (sym c.eq.ensures ∙ c.if-eq.false) in
    let h = c.in-Some-assigned.ensures in
    let v : verdict_by c.in-Some-assigned.found.fit ≡ verdict_in c.args.words.now next = h.0 ∙ c.verdict-verdict.ensures.value in
    assigned-answer c.in-Some-assigned.found _ _ v (h.1 ∙ ap (λ (n : ℕ). positions_of n next) x.size)
    ∙ going-given _ _ _ _ _ _ _ _ _ _ _ c.loop-made.invariant c.loop-made-test.true next follows other
    (ap is_accepted (sym v) ∙ fit-accepted c.in-Some-assigned.found.fit)

-- what is kept, and the next power of two
kept-is : (number power : ℕ) (kept o k : List ℕ) → number ≡ power → k ≡ o → k ≡ kept_after number power kept o
kept-is number power kept o k e f = f ∙ sym (ap (λ (t : Bool). cond t o kept) (eq-eqb number power e))

power-is : (number power p : ℕ) → number ≡ power → p ≡ power * 2 → p ≡ power_after number power
power-is number power p e f = f ∙ (omega arith ∙ sym (ap (λ (t : Bool). cond t (2 * power) power) (eq-eqb number power e)))

pub loop-made-preserved : goal.loop-made-preserved
loop-made-preserved c =
    let next = c.in-Some.order in
    let l = c.loop-made in
    let follows : next_order c.args.words.now l.late.order ≡ just next = sym c.next_order.ensures ∙ ap choice_of c.in-Some.is in
    let x = order-in c.args.words.now c.args.count l.late.order next l.invariant.order follows in
    let other : same next l.kept ≡ false = sym (same_pointwise next l.kept) ∙ (sym c.eq.ensures ∙ c.if-eq.false) in
    let number : c.from.result + 1 ≡ l.made + 1 = ap (λ (n : ℕ). n + 1) c.from.ensures in
    let then : (c.if-from-power.kept ≡ kept_after (l.made + 1) l.power l.kept next) × (c.if-from-power.power ≡ power_after (l.made + 1) l.power) =
    elim c.if-from-power.branch [
      | then-from-power w ↦ (kept-is _ _ l.kept next _ (sym number ∙ w.if-from-power.true) w.kept-is, power-is _ _ _ (sym number ∙ w.if-from-power.true) w.power-is)
      | else-from-power w ↦
          let no : eqb (l.made + 1) l.power ≡ false = ne_eqb (l.made + 1) l.power (λ e. w.if-from-power.false (number ∙ e)) in
          (w.kept-is ∙ sym (ap (λ (t : Bool). cond t next l.kept) no), w.power-is ∙ sym (ap (λ (t : Bool). cond t (2 * l.power) l.power) no))
    ] in
    going_on _ _ _ _ _ _ _ _ _ _ _ l.invariant c.loop-made-test.true next follows other x
    c.verdict-verdict.result c.verdict-verdict.ensures.value c.in_default-assigned.ensures
    (late_in c.late_of-late.result) c.late_of-late.ensures c.if-from-power.kept then.0 c.if-from-power.power then.1

pub returns : goal.returns
returns c =
    let e : c.loop-made.made ≡ c.args.most = omega arith in
    ap (λ (n : ℕ). no_order (None (c.args.tried + n))) (sym e) ∙ going-spent _ _ _ _ _ _ _ _ _ _ _ c.loop-made.invariant (omega arith)
