-- The best so far is the better of the one before and the count that is read.
use Rattle.std.proofs.Common.{◌≡◌, ◌∙◌, ℕ, suc, List, [], ap, sym, get_or, drop, arith, add-one}
use lib.ListN.{drop_of_length-le}
use borrow.Author.Tests.{le-ltb, lt-ltb}
use Rattle.sentence.specs.Facts.{Part, named, named_from}
use Rattle.priority_order.specs.Repair.{most_from, position_in}
use Rattle.priority_order.proofs.Most.{better, most-end, most_step}
use Rattle.priority_order.proofs.repair.most_ran.Goals as goal
use Rattle.priority_order.proofs.repair.most_ran.Goals.{then-most-count, else-most-count}

-- the best so far
abbrev best : ℕ → ℕ → Part
best position count = record { position = position; count = count }

pub loop-i-preserved : goal.loop-i-preserved
loop-i-preserved c =
    let l = c.loop-i in
    let ran = c.args.ran in
    let p = position_in c.if-most-count.place in
    let n = c.if-most-count.most in
    let chosen : best p n ≡ better (best (position_in l.place) l.most) l.i (get_or ran l.i 0) =
    elim c.if-most-count.branch [
      | then-most-count w ↦
          (λ k. record { position = ap position_in w.place-is k; count = w.most-is k }) ∙ sym (simp (lt-ltb _ _ w.if-most-count.true))
      | else-most-count w ↦ (λ k. record { position = ap position_in w.place-is k; count = w.most-is k }) ∙ sym (simp (le-ltb _ _ w.if-most-count.false))
    ] in
    let more = ap (λ (x : Part). most_from x (named_from (suc l.i) (drop (suc l.i) ran))) chosen
    ∙ (sym (most_step (best (position_in l.place) l.most) l.i ran (omega arith)) ∙ l.invariant) in
    rw (add-one l.i) more

pub returns : goal.returns
returns c =
    let l = c.loop-i in
    let ran = c.args.ran in
    let over : drop l.i ran ≡ [] = drop_of_length-le ran {i = l.i} (omega arith) in
    let e : most_from (best (position_in l.place) l.most) (named_from l.i []) ≡ most_from (best 0 0) (named ran) =
    ap (λ (ns : List ℕ). most_from (best (position_in l.place) l.most) (named_from l.i ns)) (sym over) ∙ l.invariant in
    most-end (best (position_in l.place) l.most) l.i ∙ ap (λ (x : Part). x.position) e
