-- The lines of a plan one after another, the table before them, and the check that is returned.
use mathlib.Core.Bool.{Bool, false, true, true≢false, false≢true}
use mathlib.Core.List.{List, [], ◌++◌, append-nil, ◌∷◌}
use mathlib.Core.Logic.{◌⊎◌, inl, inr}
use mathlib.Core.Path.{◌∙◌, ◌≡◌, ap, refl, subst, subst⁻¹, sym}
use Prim.Native.Nat.{◌+◌, ◌-◌, ◌<◌, ℕ, ◌≤◌}
use native.Mathlib.Omega.{arith}
use lib.ListN.{drop, drop_of_length-le, length, length-drop, take}
use lib.Seq.{drop-drop, take_all}
use Rattle.splitter.specs.Split.{InputEnd, lines_from, nothing, split, unknown}
use Rattle.splitter.specs.Parts.{Part, Comes, OneLine, LineOf, TableOf, ends, goes}
use Rattle.splitter.proofs.Splits.{lines_none, lines-waits}
use Rattle.std.proofs.lemmas.List.{take_rest}
use Rattle.plan_text.specs.Check.{Check}
use Rattle.plan_text.specs.Check.{Fed}
use Rattle.plan_text.specs.declared.PlanProgress.{PlanProgress}
use Rattle.plan_text.specs.Checked.{PlanAnswer}
use Rattle.plan_text.specs.Check.{Stage}
use Rattle.plan_text.specs.Check.{Over, Plan, Table}
use Rattle.plan_text.specs.Checked.{LineAnswer}
use Rattle.plan_text.specs.Line.{long_line}
use Rattle.plan_text.specs.Checked.{end_answer, is_more, opened_of, opens, rows_answer, split_answer, step_of}
use Rattle.plan_text.specs.Check.{FedBy, FedOf, answer_in, check_answer, is_over, over_with, plan_answer, plan_with}
use Rattle.plan_text.proofs.Lines.{all-opens, due-opens, grows, opens-end, opens-more, rows_end, rows_none, rows_on, rows-wait}
use Rattle.plan_text.proofs.Long.{long-step, rows_long}

-- a check that is over gives its answer
pub over-answer : (c : Check) (e : InputEnd) (bs : List ℕ) → is_over c.stage ≡ true → check_answer c e bs ≡ c.answer
over-answer c e bs = go c.stage
  where
    go : (s : Stage) → is_over s ≡ true → answer_in s c e bs ≡ c.answer
    go Table o = absurd (false≢true o)
    go Plan o = absurd (false≢true o)
    go Over o = refl

-- the answer is there, whatever comes
fed-over :
    (f : InputEnd → List ℕ → PlanAnswer) (from : ℕ) (ended : Bool) (bs : List ℕ) (rows : PlanProgress) (said : PlanAnswer) (taken : ℕ) → taken ≤ length bs
    → ((more : List ℕ) → Comes ended nothing more → f nothing (drop from bs ++ more) ≡ said) → FedBy f from ended bs (over_with rows said taken)
fed-over f from ended bs rows said taken h x = record {
  taken = h;
  text = x;
  at_once = λ o. absurd (true≢false o);
  silent = λ o. absurd (true≢false o);
  short = λ o. absurd (true≢false o);
  goes_on = λ o. absurd (true≢false o);
}

-- THE PLAN

-- a place up to which the lines of the plan have been taken
abbrev pub Taken : PlanProgress → ℕ → Bool → List ℕ → PlanProgress → ℕ → Type 0
Taken r₀ from ended bs r at =
    (at ≤ length bs) × ((e : InputEnd) (more : List ℕ) → Comes ended e more → plan_answer r₀ e (drop from bs ++ more) ≡ plan_answer r e (drop at bs ++ more))

-- the line that begins there
module _
    (r₀ : PlanProgress) (from : ℕ) (ended : Bool) (bs : List ℕ) (r : PlanProgress) (at : ℕ) (p : Part) (w : Taken r₀ from ended bs r at)
    (v : LineOf (take (length bs - at) (drop at bs)) long_line ended p)
  where
    l : LineOf (drop at bs) long_line ended p
    l = subst (λ (x : List ℕ). LineOf x long_line ended p) (take_rest bs at) v

    abbrev line : List ℕ
    line = take p.end (drop at bs)

    pub line-ends : at + p.end ≤ length bs
    line-ends = omega (arith, w.0, l.end, length-drop at bs)

    pub next-within : at + p.next ≤ length bs
    next-within = omega (arith, w.0, l.next, length-drop at bs)

    pub moves : at < length bs → 0 < p.next
    moves h = l.moves (omega (arith, h, length-drop at bs))

    abbrev Handed : Type 0
    Handed =
        ((e : InputEnd) (more : List ℕ) → Comes ended e more → lines_from e [] (drop at bs ++ more) ≡ line ∷ lines_from e [] (drop p.next (drop at bs) ++ more))
        ⊎ ((p.end ≡ length (drop at bs)) × (long_line ≤ length (drop at bs)) × OneLine (drop at bs))

    -- a line that is too long is answered by what has come of it
    long-line : p.end ≡ length (drop at bs) → line ≡ drop at bs
    long-line z = take_all p.end (drop at bs) (omega (arith, z))

    stepped : (t : LineAnswer) → t ≡ step_of r (take (at + p.end - at) (drop at bs)) → t ≡ step_of r line
    stepped t s = let k : at + p.end - at ≡ p.end = omega arith in s ∙ ap (λ (n : ℕ). step_of r (take n (drop at bs))) k

    -- more lines are needed ..
    pub taken_next : (t : LineAnswer) → p.whole ≡ true → t ≡ step_of r (take (at + p.end - at) (drop at bs)) → is_more t.answer ≡ true → Taken r₀ from ended bs t.rows (at + p.next)
    taken_next t h s m = (next-within, λ e more c. w.1 e more c ∙ on (l.line h) e more c)
      where
        needed : is_more (step_of r line).answer ≡ true
        needed = sym (ap (λ (u : LineAnswer). is_more u.answer) (stepped t s)) ∙ m

        on : Handed → (e : InputEnd) (more : List ℕ) → Comes ended e more → plan_answer r e (drop at bs ++ more) ≡ plan_answer t.rows e (drop (at + p.next) bs ++ more)
        on (inl x) e more c =
            ap (rows_answer e r) (x e more c) ∙ rows_on e r line (lines_from e [] (drop p.next (drop at bs) ++ more)) needed
            ∙ ap (λ (u : LineAnswer). rows_answer e u.rows (lines_from e [] (drop p.next (drop at bs) ++ more))) (sym (stepped t s))
            ∙ ap (λ (y : List ℕ). plan_answer t.rows e (y ++ more)) (drop-drop p.next at bs)
        on (inr x) e more c =
            absurd (false≢true (sym (long-step r (drop at bs) [] x.1).1 ∙ ap (λ (y : List ℕ). is_more (step_of r y).answer) (sym (long-line x.0)) ∙ needed))

    -- .. or not
    pub taken-over :
        (rows : PlanProgress) (t : LineAnswer) → p.whole ≡ true → t ≡ step_of r (take (at + p.end - at) (drop at bs)) → is_more t.answer ≡ false
        → FedBy (plan_answer r₀) from ended bs (over_with rows t.answer (at + p.next))
    taken-over rows t h s m = fed-over (plan_answer r₀) from ended bs rows t.answer (at + p.next) next-within (λ more c. w.1 nothing more c ∙ over (l.line h) more c ∙ sym said)
      where
        said : t.answer ≡ (step_of r line).answer
        said = ap (λ (u : LineAnswer). u.answer) (stepped t s)

        over : Handed → (more : List ℕ) → Comes ended nothing more → plan_answer r nothing (drop at bs ++ more) ≡ (step_of r line).answer
        over (inl x) more c =
            ap (rows_answer nothing r) (x nothing more c) ∙ rows_end nothing r line (lines_from nothing [] (drop p.next (drop at bs) ++ more)) (sym (ap is_more said) ∙ m)
        over (inr x) more c =
            ap (rows_answer nothing r) (x.2 nothing more) ∙ rows_long r (drop at bs) more x.1 ∙ ap (λ (y : List ℕ). (step_of r y).answer) (sym (long-line x.0))

    -- its end is still to come
    pub taken-waits : p.whole ≡ false → at < length bs → FedBy (plan_answer r₀) from ended bs (plan_with r at)
    taken-waits h k = record {
      taken = w.0;
      text = λ more c. w.1 nothing more c;
      at_once = λ _ more. w.1 unknown more (subst⁻¹ (λ (b : Bool). Comes b unknown more) not-ended goes);
      silent = λ _.
          ap (plan_answer r unknown) (sym (append-nil (drop at bs))) ∙ ap (rows_answer unknown r) ((l.none h).1 unknown [] ∙ lines-waits (drop at bs)) ∙ rows-wait r;
      short = λ _. omega (arith, (l.none h).0, length-drop at bs);
      goes_on = λ _. not-ended;
    }
      where
        not-ended : ended ≡ false
        not-ended = by ended refl
          where
            by : (b : Bool) → ended ≡ b → ended ≡ false
            by true e = absurd (let z = ap length ((l.none h).2 e) in omega (arith, z, k, length-drop at bs))
            by false e = e

-- all bytes are taken
module _
    (r₀ : PlanProgress) (from : ℕ) (ended : Bool) (bs : List ℕ) (r : PlanProgress) (at : ℕ) (w : Taken r₀ from ended bs r at) (h : length bs ≤ at)
  where
    none : drop at bs ≡ []
    none = drop_of_length-le bs {i = at} h

    -- the input has ended
    pub plan-ended : (rows : PlanProgress) (s : PlanAnswer) → ended ≡ true → s ≡ end_answer nothing r → FedBy (plan_answer r₀) from ended bs (over_with rows s at)
    plan-ended rows s d q = fed-over (plan_answer r₀) from ended bs rows s at w.0 (λ more c. w.1 nothing more c ∙ all_of more (subst (λ (b : Bool). Comes b nothing more) d c) ∙ sym q)
      where
        all_of : (more : List ℕ) → Comes true nothing more → plan_answer r nothing (drop at bs ++ more) ≡ end_answer nothing r
        all_of [] ends = ap (λ (y : List ℕ). plan_answer r nothing (y ++ [])) none ∙ ap (rows_answer nothing r) (lines_none nothing) ∙ rows_none nothing r
        all_of (_ ∷ _) c = elim c [ ]

    -- more may come
    pub plan-waits : ended ≡ false → FedBy (plan_answer r₀) from ended bs (plan_with r at)
    plan-waits d = record {
      taken = w.0;
      text = λ more c. w.1 nothing more c;
      at_once = λ _ more. w.1 unknown more (subst⁻¹ (λ (b : Bool). Comes b unknown more) d goes);
      silent = λ _. ap (plan_answer r unknown) none ∙ ap (rows_answer unknown r) (lines_none unknown) ∙ rows-wait r;
      short = λ _. omega (arith, w.0, h);
      goes_on = λ _. d;
    }

-- THE TABLE

module _ (c : Check) (ended : Bool) (bs : List ℕ) (p : Part) (w : TableOf bs ended p) where
  -- its text is there
  module _ (t : LineAnswer) (h : p.whole ≡ true) (o : t ≡ opened_of (take p.end bs)) where
    answer-of : t.answer ≡ (opened_of (take p.end bs)).answer
    answer-of = ap (λ (u : LineAnswer). u.answer) o

    pub table-fed : (r : Fed) → is_more t.answer ≡ true → FedBy (plan_answer t.rows) p.next ended bs r → FedBy (answer_in Table c) 0 ended bs r
    table-fed r m f = record {
      taken = f.taken;
      text = λ more x.
          all-opens (split nothing (bs ++ more)) (take p.end bs) (lines_from nothing [] (drop p.next bs ++ more)) (w.text h nothing more x)
          ∙ rows nothing more ∙ f.text more x;
      at_once = λ v more.
          due-opens (split unknown (bs ++ more)) (take p.end bs) (lines_from unknown [] (drop p.next bs ++ more)) needed
          (w.text h unknown more (subst⁻¹ (λ (b : Bool). Comes b unknown more) (f.goes_on v) goes))
          ∙ rows unknown more ∙ f.at_once v more;
      silent = f.silent;
      short = f.short;
      goes_on = f.goes_on;
    }
      where
        needed : is_more (opened_of (take p.end bs)).answer ≡ true
        needed = sym (ap is_more answer-of) ∙ m

        rows : (e : InputEnd) (more : List ℕ) → opens e (take p.end bs) (lines_from e [] (drop p.next bs ++ more)) ≡ plan_answer t.rows e (drop p.next bs ++ more)
        rows e more =
            opens-more e (take p.end bs) (lines_from e [] (drop p.next bs ++ more)) needed
            ∙ ap (λ (u : LineAnswer). plan_answer u.rows e (drop p.next bs ++ more)) (sym o)

    pub table-over : (rows : PlanProgress) → is_more t.answer ≡ false → FedBy (answer_in Table c) 0 ended bs (over_with rows t.answer (length bs))
    table-over rows m =
        fed-over (answer_in Table c) 0 ended bs rows t.answer (length bs) (omega arith)
        (λ more x.
        all-opens (split nothing (bs ++ more)) (take p.end bs) (lines_from nothing [] (drop p.next bs ++ more)) (w.text h nothing more x)
        ∙ opens-end nothing (take p.end bs) (lines_from nothing [] (drop p.next bs ++ more)) (sym (ap is_more answer-of) ∙ m) ∙ sym answer-of)

  -- its end is still to come
  pub table-waits : p.whole ≡ false → c.stage ≡ Table → FedBy (answer_in Table c) 0 ended bs (record { check = c; taken = 0 })
  table-waits h s =
      let n = w.none h in
      record {
        taken = omega arith;
        text = λ more _. ap (λ (x : Stage). answer_in x c nothing (bs ++ more)) (sym s);
        at_once = λ _ more. ap (λ (x : Stage). answer_in x c unknown (bs ++ more)) (sym s);
        silent = λ _. ap (λ (x : Stage). answer_in x c unknown bs) s ∙ ap (split_answer unknown) n.2 ∙ grows (length bs);
        short = λ _. omega (arith, n.0);
        goes_on = λ _. n.1;
      }

-- BY THE STAGE

pub fed-in : (c : Check) (s : Stage) (ended : Bool) (bs : List ℕ) (r : Fed) → c.stage ≡ s → FedBy (answer_in s c) 0 ended bs r → FedOf c ended bs r
fed-in c s ended bs r e w = subst⁻¹ (λ (x : Stage). FedBy (answer_in x c) 0 ended bs r) e w

pub fed-done : (c : Check) (ended : Bool) (bs : List ℕ) → c.stage ≡ Over → FedOf c ended bs (record { check = c; taken = length bs })
fed-done c ended bs e = record {
  taken = omega arith;
  text = λ more _. over-answer c nothing (bs ++ more) over ∙ sym (over-answer c nothing (drop (length bs) bs ++ more) over);
  at_once = λ o. absurd (true≢false (sym over ∙ o));
  silent = λ o. absurd (true≢false (sym over ∙ o));
  short = λ o. absurd (true≢false (sym over ∙ o));
  goes_on = λ o. absurd (true≢false (sym over ∙ o));
}
  where
    over : is_over c.stage ≡ true
    over = ap is_over e
