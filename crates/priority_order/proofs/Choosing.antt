-- The choice among the orders of a list: its steps, and what it says of the order that is chosen.
use mathlib.Core.Bool.{Bool, cond, false, true}
use mathlib.Core.List.{List, [], ◌∷◌, ◌++◌}
use mathlib.Core.Path.{◌≡◌, ap, ap₂, refl, subst, sym, ◌∙◌}
use Prim.Native.Nat.{ℕ, suc, zero, ◌*◌, ◌+◌, ◌-◌, ◌<◌, ◌≤◌}
use native.Mathlib.Nat.{add-zero}
use native.Mathlib.Numerals.{add-one}
use native.Mathlib.Omega.{arith}
use lib.Dec.{eqb}
use lib.ListN.{get_or, length, length-append}
use borrow.Author.Tests.{eqb-true}
use Rattle.model.specs.Sizes.{most_tasks}
use Rattle.table.specs.Words.{count}
use Rattle.judge.specs.declared.Verdict.{Verdict}
use Rattle.judge.specs.declared.Verdict.TheVariants as judge
use Rattle.priority_order.specs.Repair.{Late}
use Rattle.priority_order.specs.Answer.{None}
use Rattle.priority_order.specs.Answer.{OrderAnswer}
use Rattle.priority_order.specs.Answer.{answer_by, answer_in, given_order, no_order, positions_of}
use Rattle.priority_order.specs.Orders.{OrderIn}
use Rattle.priority_order.specs.Repair.{Choice, LateIn, just, kept_after, late_of, next_order, nothing, power_after, repairs, same, verdict_in}
use Rattle.priority_order.specs.Tried.{first_that, is_accepted, is_firm, or_else}
use Rattle.priority_order.proofs.Repairing.{late-order, next-accepted, repairs-kept, repairs-more, repairs-none, repairs-spent}

pub firm-accepted : (v : Verdict) → is_firm v ≡ true → is_accepted v ≡ true
firm-accepted (judge.Firm a b) e = refl
firm-accepted (judge.Full a b) e = refl
firm-accepted (judge.Miss t p) e = e
firm-accepted (judge.Refused n p) e = e

pub not-accepted : (v : Verdict) → is_accepted v ≡ false → is_firm v ≡ false
not-accepted (judge.Firm a b) e = e
not-accepted (judge.Full a b) e = refl
not-accepted (judge.Miss t p) e = refl
not-accepted (judge.Refused n p) e = refl

module _ (ws : List ℕ) where
  pub first-append : (f : Verdict → Bool) (os us : List (List ℕ)) → first_that f ws (os ++ us) ≡ or_else (first_that f ws os) (first_that f ws us)
  unfolding first_that
  first-append f [] us = refl
  first-append f (o ∷ os) us = go (f (verdict_in ws o)) (first-append f os us)
    where
      go : (t : Bool) → first_that f ws (os ++ us) ≡ or_else (first_that f ws os) (first_that f ws us)
          → cond t (just o) (first_that f ws (os ++ us)) ≡ or_else (cond t (just o) (first_that f ws os)) (first_that f ws us)
      go true ih = refl
      go false ih = ih

  pub first-here : (f : Verdict → Bool) (o : List ℕ) (os : List (List ℕ)) → f (verdict_in ws o) ≡ true → first_that f ws (o ∷ os) ≡ just o
  unfolding first_that
  first-here f o os e = rw e

  pub first_past : (f : Verdict → Bool) (o : List ℕ) (os : List (List ℕ)) → f (verdict_in ws o) ≡ false → first_that f ws (o ∷ os) ≡ first_that f ws os
  unfolding first_that
  first_past f o os e = rw e

  -- none passes
  pub first-nothing : (f : Verdict → Bool) (os : List (List ℕ)) → first_that f ws os ≡ nothing → (i : ℕ) → i < length os
      → f (verdict_in ws (get_or os i [])) ≡ false
  unfolding first_that
  first-nothing f [] e i l = absurd (omega arith)
  first-nothing f (o ∷ os) e i l = go (f (verdict_in ws o)) refl e (first-nothing f os) i l
    where
      go : (t : Bool) → f (verdict_in ws o) ≡ t → cond t (just o) (first_that f ws os) ≡ nothing
          → (first_that f ws os ≡ nothing → (i : ℕ) → i < length os → f (verdict_in ws (get_or os i [])) ≡ false)
          → (i : ℕ) → i < suc (length os) → f (verdict_in ws (get_or (o ∷ os) i [])) ≡ false
      go true q h ih i m = let z : ◌≡◌ {A = ℕ} 0 1 = cc in absurd (omega arith)
      go false q h ih zero m = q
      go false q h ih (suc i) m = ih h i (omega arith)

  -- one passes, and it is one of the list
  pub first-just : (f : Verdict → Bool) (os : List (List ℕ)) (o : List ℕ) → first_that f ws os ≡ just o
      → (i : ℕ) × (i < length os) × (get_or os i [] ≡ o) × (f (verdict_in ws o) ≡ true)
  unfolding first_that
  first-just f [] o e = let z : ◌≡◌ {A = ℕ} 0 1 = cc in absurd (omega arith)
  first-just f (x ∷ os) o e = go (f (verdict_in ws x)) refl e (first-just f os o)
    where
      go : (t : Bool) → f (verdict_in ws x) ≡ t → cond t (just x) (first_that f ws os) ≡ just o
          → (first_that f ws os ≡ just o → (i : ℕ) × (i < length os) × (get_or os i [] ≡ o) × (f (verdict_in ws o) ≡ true))
          → (i : ℕ) × (i < suc (length os)) × (get_or (x ∷ os) i [] ≡ o) × (f (verdict_in ws o) ≡ true)
      go true q h ih = let g : x ≡ o = cc in (0, omega arith, g, subst (λ (y : List ℕ). f (verdict_in ws y) ≡ true) g q)
      go false q h ih = let y = ih h in (suc y.0, omega (arith, y.1), y.2, y.3)

  -- ---- the answer of a list

  pub answer-none : (tried : ℕ) → answer_in ws tried [] ≡ no_order (None tried)
  unfolding first_that
  answer-none tried = ap (λ (n : ℕ). no_order (None n)) (add-zero tried)

  -- an order that is not accepted, before others
  pub answer-past : (tried : ℕ) (o : List ℕ) (os : List (List ℕ)) → is_accepted (verdict_in ws o) ≡ false
      → answer_in ws tried (o ∷ os) ≡ answer_in ws (tried + 1) os
  answer-past tried o os e =
      let n : tried + length (o ∷ os) ≡ tried + 1 + length os = omega arith in
      ap₂ (answer_by ws) n (ap₂ or_else (first_past is_firm o os (not-accepted (verdict_in ws o) e)) (first_past is_accepted o os e))

  -- a list of which none is accepted, before another
  pub answer-append : (tried : ℕ) (os us : List (List ℕ)) → first_that is_firm ws os ≡ nothing → first_that is_accepted ws os ≡ nothing
      → answer_in ws tried (os ++ us) ≡ answer_in ws (tried + length os) us
  answer-append tried os us e f =
      let n : tried + length (os ++ us) ≡ tried + length os + length us = omega (arith, length-append os us) in
      ap₂ (answer_by ws) n
      (ap₂ or_else (first-append is_firm os us ∙ ap (λ (c : Choice). or_else c (first_that is_firm ws us)) e)
      (first-append is_accepted os us ∙ ap (λ (c : Choice). or_else c (first_that is_accepted ws us)) f))

  -- one that is Firm
  pub answer-firm : (tried : ℕ) (o : List ℕ) (os : List (List ℕ)) → is_firm (verdict_in ws o) ≡ true
      → answer_in ws tried (o ∷ os) ≡ given_order (verdict_in ws o) (positions_of (count ws) o)
  answer-firm tried o os e = ap (λ (c : Choice). answer_by ws (tried + length (o ∷ os)) (or_else c (first_that is_accepted ws (o ∷ os)))) (first-here is_firm o os e)

  -- one that is accepted, and ends the repair
  pub answer-repaired : (tried m : ℕ) (kept : List ℕ) (number power : ℕ) (o : List ℕ) → is_accepted (verdict_in ws o) ≡ true
      → answer_in ws tried (o ∷ repairs ws m kept number power o) ≡ given_order (verdict_in ws o) (positions_of (count ws) o)
  unfolding first_that
  answer-repaired tried m kept number power o e =
      ap (λ (os : List (List ℕ)). answer_in ws tried (o ∷ os)) (repairs-none ws kept number power o m (next-accepted ws o e)) ∙ go (is_firm (verdict_in ws o))
    where
      go : (t : Bool) → answer_by ws (tried + 1) (or_else (cond t (just o) nothing) (cond (is_accepted (verdict_in ws o)) (just o) nothing))
          ≡ given_order (verdict_in ws o) (positions_of (count ws) o)
      go true = refl
      go false = rw e

-- ---- the repair as code makes it: what is left of it has the answer of the whole

pub record Going (ws : List ℕ) (n tried most : ℕ) (start : Late) (first : List ℕ) (late : Late) (kept : List ℕ) (number power made : ℕ) : Type 0 where
  pub within : made ≤ most
  pub order : OrderIn ws n late.order
  pub says : LateIn ws late
  pub size : length kept ≡ most_tasks
  pub counts : number ≡ made + 1
  pub powers : power ≤ 2 * number
  pub answer : answer_in ws (tried + made) (repairs ws (most - made) kept number power late.order)
      ≡ answer_in ws tried (repairs ws most first 1 1 start.order)

pub going_start : (ws : List ℕ) (n tried most : ℕ) (start : Late) → OrderIn ws n start.order → LateIn ws start
    → Going ws n tried most start start.order start start.order 1 1 0
going_start ws n tried most start x l = record {
  within = omega arith;
  order = x;
  says = l;
  size = x.permutation.size;
  counts = omega arith;
  powers = omega arith;
  answer =
      let a : tried + 0 ≡ tried = omega arith in
      let b : most - 0 ≡ most = omega arith in
      λ i. answer_in ws (a i) (repairs ws (b i) start.order 1 1 start.order);
}

module _ (ws : List ℕ) (n tried most : ℕ) (start : Late) (first : List ℕ) (late : Late) (kept : List ℕ) (number power made : ℕ)
    (g : Going ws n tried most start first late kept number power made) where
  abbrev whole : OrderAnswer
  whole = answer_in ws tried (repairs ws most first 1 1 start.order)

  ended : repairs ws (most - made) kept number power late.order ≡ [] → no_order (None (tried + made)) ≡ whole
  ended e = sym (answer-none ws (tried + made)) ∙ (ap (answer_in ws (tried + made)) (sym e) ∙ g.answer)

  pub going-none : next_order ws late.order ≡ nothing → no_order (None (tried + made)) ≡ whole
  going-none e = ended (repairs-none ws kept number power late.order (most - made) e)

  pub going-kept : (o : List ℕ) → next_order ws late.order ≡ just o → same o kept ≡ true → no_order (None (tried + made)) ≡ whole
  going-kept o e f = ended (repairs-kept ws kept number power late.order (most - made) o e f)

  pub going-spent : most ≤ made → no_order (None (tried + made)) ≡ whole
  going-spent l =
      let z : most - made ≡ 0 = omega arith in
      ended (ap (λ (m : ℕ). repairs ws m kept number power late.order) z ∙ repairs-spent ws kept number power late.order)

  -- one step
  module _ (l : made < most) (o : List ℕ) (e : next_order ws late.order ≡ just o) (f : same o kept ≡ false) where
    abbrev rest : List (List ℕ)
    rest = repairs ws (most - (made + 1)) (kept_after number power kept o) (suc number) (power_after number power) o

    stepped : answer_in ws (tried + made) (o ∷ rest) ≡ whole
    stepped =
        let s : most - made ≡ suc (most - (made + 1)) = omega arith in
        ap (answer_in ws (tried + made))
        (sym (ap (λ (m : ℕ). repairs ws m kept number power late.order) s ∙ repairs-more ws kept number power late.order (most - (made + 1)) o e f))
        ∙ g.answer

    pub going-given : is_accepted (verdict_in ws o) ≡ true → given_order (verdict_in ws o) (positions_of (count ws) o) ≡ whole
    going-given a = sym (answer-repaired ws (tried + made) (most - (made + 1)) _ _ _ o a) ∙ stepped

    pub going_on : OrderIn ws n o → (v : Verdict) → v ≡ verdict_in ws o → is_accepted v ≡ false
        → (x : Late) → x ≡ late_of v o → (k : List ℕ) → k ≡ kept_after number power kept o → (p : ℕ) → p ≡ power_after number power
        → Going ws n tried most start first x k (number + 1) p (made + 1)
    going_on inside v q a x h k u p w = record {
      within = omega arith;
      order = subst (OrderIn ws n) (sym same-order) inside;
      says = h ∙ ap₂ late_of (q ∙ ap (verdict_in ws) (sym same-order)) (sym same-order);
      size = ap {B = ℕ} length u ∙ kept-size (eqb number power);
      counts = omega (arith, g.counts);
      powers = rw w (power-most (eqb number power) refl);
      answer =
          (λ i. answer_in ws (more i) (repairs ws (most - (made + 1)) (u i) (add-one number i) (w i) (same-order i)))
          ∙ (sym (answer-past ws (tried + made) o rest (ap is_accepted (sym q) ∙ a)) ∙ stepped);
    }
      where
        same-order : x.order ≡ o
        same-order = ap (λ (y : Late). y.order) h ∙ late-order v o

        more : tried + (made + 1) ≡ tried + made + 1
        more = omega arith

        kept-size : (t : Bool) → length (cond {A = List ℕ} t o kept) ≡ most_tasks
        kept-size true = inside.permutation.size
        kept-size false = g.size

        power-most : (t : Bool) → eqb number power ≡ t → cond t (2 * power) power ≤ 2 * (number + 1)
        power-most true b = omega (arith, eqb-true number power b)
        power-most false b = omega (arith, g.powers)
