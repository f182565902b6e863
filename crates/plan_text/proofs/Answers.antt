-- The answers, case by case.
use mathlib.Core.Bool.{Bool, false, true}
use mathlib.Core.List.{List}
use mathlib.Core.Path.{◌∙◌, ◌≡◌, ap, refl, sym}
use Prim.Native.Nat.{◌-◌, ℕ, ◌≤◌}
use lib.ListN.{length, replicate, take}
use lib.Seq.{take-append_seam}
use borrow.Author.Tests.{eq-eqb, le-ltb, ne_eqb}
use Rattle.std.proofs.Common.{Err, None, Some}
use Rattle.text.specs.Format.{numbers_in, words_of}
use Rattle.plan_check.specs.Begin.{begin_of}
use Rattle.plan_check.specs.CheckRow.{check_row_of}
use Rattle.plan_check.specs.Begin.{Begun}
use Rattle.plan_check.specs.RowAnswer.{Answer, Accepted, Entered, Refused, Taken}
use Rattle.plan_check.specs.declared.SuppliedPlan.{SuppliedPlan}
use Rattle.plan_text.specs.declared.PlanProgress.{PlanProgress}
use Rattle.plan_text.specs.Checked.{PlanAnswer}
use Rattle.plan_text.specs.Checked.{More, Unread}
use Rattle.plan_text.specs.Checked.{LineAnswer}
use Rattle.plan_text.specs.declared.line.Line.{Line}
use Rattle.plan_text.specs.Line.{Read, is_verdict, read_line, long_line, most_cells, no_row, pad_cells, row_read, row_in}
use Rattle.plan_text.specs.declared.PlanAnswer as code
use Rattle.plan_text.specs.declared.PlanAnswer.TheVariants as variant
use Rattle.plan_text.specs.Checked.{said, stepped, row_entered, enters, or_else, is_more, next_line, opened_by, opened_of, skipped, rows_at, step_of, line_answer}

-- ONE LINE

pub verdict-long : (l : List ℕ) → long_line ≤ length l → false ≡ is_verdict l
unfolding is_verdict
verdict-long l h = rw (le-ltb (length l) long_line h)

-- the plan after a row is what `check_row` returns
pub entered-plan : (a : Answer) (w : SuppliedPlan) (n : ℕ) → (row_entered a w n).rows.plan ≡ w
entered-plan Taken w n = refl
entered-plan Accepted w n = refl
entered-plan (Refused k t) w n = refl

-- a line that is skipped
pub step-passed :
    (r : PlanProgress) (l : List ℕ) (n : ℕ) (p : Bool) → p ≡ skipped r l → p ≡ true → n ≡ next_line r.lines
    → line_answer (rows_at r.plan n r.accepted) More ≡ step_of r l
unfolding step_of
step-passed r l n p q e h = rw (← q, e, h)

-- any other by what is read in it
pub step-enters : (r : PlanProgress) (l : List ℕ) (p : Bool) → p ≡ skipped r l → p ≡ false → enters r (row_in l) ≡ step_of r l
unfolding step_of
step-enters r l p q e = rw (← q, e)

-- a row of the expected tick is taken ..
pub enters-row :
    (r : PlanProgress) (x : Read) (k : Line) (e : Entered) (u : LineAnswer) → Some k ≡ read_line x → k.tick ≡ r.plan.tick
    → e ≡ check_row_of r.plan (take k.count k.cells) → u ≡ row_entered e.answer e.plan (next_line r.lines) → u ≡ enters r x
enters-row r (row_read t ns) k e u p w v z =
    let q : k ≡ record { tick = t; count = length ns; cells = pad_cells ns } = cc in
    let m : take k.count k.cells ≡ ns = ap (λ (y : Line). take y.count y.cells) q ∙ take-append_seam ns (replicate (most_cells - length ns) 0) in
    let s : t ≡ r.plan.tick = sym (ap (λ (y : Line). y.tick) q) ∙ w in
    z ∙ ap (λ (y : Entered). row_entered y.answer y.plan (next_line r.lines)) (v ∙ ap (check_row_of r.plan) m) ∙ sym (taken s)
  where
    taken : t ≡ r.plan.tick → enters r (row_read t ns) ≡ row_entered (check_row_of r.plan ns).answer (check_row_of r.plan ns).plan (next_line r.lines)
    taken s = rw (eq-eqb t r.plan.tick s)
enters-row r no_row k e u p w v z = absurd cc

-- .. one of another tick, and what is no row, are not
pub enters-other : (r : PlanProgress) (x : Read) (k : Line) (n : ℕ) → Some k ≡ read_line x → (k.tick ≡ r.plan.tick → ⊥) → n ≡ next_line r.lines → line_answer r (Unread n) ≡ enters r x
enters-other r (row_read t ns) k n p w h =
    let q : k ≡ record { tick = t; count = length ns; cells = pad_cells ns } = cc in
    rw (ne_eqb t r.plan.tick (λ s. w (ap (λ (y : Line). y.tick) q ∙ s)), h)
enters-other r no_row k n q w h = rw h

pub enters_none : (r : PlanProgress) (x : Read) (n : ℕ) → None ≡ read_line x → n ≡ next_line r.lines → line_answer r (Unread n) ≡ enters r x
enters_none r (row_read t ns) n q h = absurd cc
enters_none r no_row n q h = rw h

-- a row that is taken steps to the plan that `check_row` returns
pub row-stepped :
    (r : PlanProgress) (l : List ℕ) (n : ℕ) (p : Bool) (k : Line) (e : Entered) → p ≡ skipped r l → p ≡ false → Some k ≡ read_line (row_in l)
    → k.tick ≡ r.plan.tick → e ≡ check_row_of r.plan (take k.count k.cells) → n ≡ next_line r.lines → row_entered e.answer e.plan n ≡ step_of r l
row-stepped r l n p k e q f some tick value lines =
    enters-row r (row_in l) k e _ some tick value (ap (row_entered e.answer e.plan) lines) ∙ step-enters r l p q f

-- a last answer, beside the plan that is not returned
pub last-answer : (u : LineAnswer) (a : code.PlanAnswer) → said a ≡ u.answer → stepped u (Err a) ≡ u
last-answer u a e = ap (λ (s : PlanAnswer). record { rows = u.rows; answer = s }) e

pub last-ends : (a : code.PlanAnswer) → is_more (said a) ≡ false
last-ends variant.Accepted = refl
last-ends (variant.Unfinished t) = refl
last-ends (variant.Fault n t) = refl
last-ends (variant.Refused n p) = refl
last-ends (variant.Unread n) = refl

-- WHERE MORE LINES ARE NEEDED

pub on-more : (s x : PlanAnswer) → is_more s ≡ true → or_else s x ≡ x
on-more s x e = rw e

pub on-end : (s x : PlanAnswer) → is_more s ≡ false → or_else s x ≡ s
on-end s x e = rw e

-- THE TABLE

-- what is opened is what was begun of the numbers of the text
pub opened-begun : (d : List ℕ) (b : Begun) → b ≡ begin_of (numbers_in (words_of d)) → opened_by b.answer b.plan ≡ opened_of d
unfolding opened_of
opened-begun d b q = ap (λ (x : Begun). opened_by x.answer x.plan) q
