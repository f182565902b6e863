-- The five orders as code tries them, and the answer of all orders tried.
use mathlib.Core.Bool.{Bool, cond, false, false≢true, not, true, ◌&&◌, ◌||◌}
use mathlib.Core.List.{List, [], ◌∷◌, ◌++◌, append-nil, map}
use mathlib.Core.Path.{◌≡◌, ap, ap₂, refl, subst, sym, ◌∙◌}
use Prim.Native.Nat.{ℕ, min, suc, zero, ◌+◌, ◌-◌, ◌<◌, ◌≤◌}
use native.Mathlib.Nat.{min-eq_left, min-eq_right, zero-add}
use native.Mathlib.Numerals.{add-one}
use native.Mathlib.Omega.{arith}
use lib.Dec.{leb, ltb}
use lib.ListN.{length, length-map}
use borrow.Author.Count.{below_more}
use borrow.Author.Tests.{leb-false, leb-true}
use Rattle.model.proofs.Lists.{map_more, up-length, up_more}
use Rattle.model.specs.Search.{up_from}
use Rattle.std.specs.Option.{option_or}
use Rattle.std.specs.Prelude.{Option, Some, Ok}
use Rattle.std.specs.Prelude.{None as empty}
use Rattle.table.proofs.Tasks.{table-length}
use Rattle.table.specs.Numbers.{NoneApplies}
use Rattle.table.specs.Words.{count, table_of}
use Rattle.judge.specs.declared.Verdict.{Verdict}
use Rattle.priority_order.specs.declared.Assignment.{Assignment}
use Rattle.priority_order.specs.declared.Fit.{Fit}
use Rattle.priority_order.specs.declared.Fit.TheVariants as fit
use Rattle.priority_order.specs.Repair.{Late}
use Rattle.priority_order.specs.Answer.{None}
use Rattle.priority_order.specs.Answer.{AssignedBy, answer_by, answer_in, answered, firm_by, firm_in, given_order, no_order, outcome_of, positions_of, verdict_by}
use Rattle.priority_order.specs.Orders.{Permutation, own_order}
use Rattle.priority_order.specs.Repair.{Choice, LateIn, just, late_of, later_of, no_miss, nothing, repairs, verdict_in}
use Rattle.priority_order.specs.Sorted.{sorted_order, sorted_orders}
use Rattle.priority_order.specs.Tried.{first_that, is_accepted, is_firm, latest_from, or_else}
use Rattle.priority_order.specs.Tried.{repairs_from, sorted_first, tried_orders, unless_accepted}
use Rattle.priority_order.proofs.Choosing.{answer-append, answer-none, first-append, first-here, first_past, not-accepted}
use Rattle.priority_order.proofs.Moving.{own-permutation}
use Rattle.priority_order.proofs.Permutations.{order-permutation}
use Rattle.priority_order.proofs.Reordering.{tasks-few}
use Rattle.priority_order.proofs.Repairing.{late-order}

-- the first k of the five
abbrev pub sorted_till : List ℕ → ℕ → List (List ℕ)
sorted_till ws k = map (sorted_order (table_of ws)) (up_from 0 k)

till-more : (ws : List ℕ) (k : ℕ) → sorted_till ws (k + 1) ≡ sorted_till ws k ++ (sorted_order (table_of ws) k ∷ [])
till-more ws k =
    ap (sorted_till ws) (add-one k)
    ∙ (ap (map (sorted_order (table_of ws))) (up_more 0 k)
    ∙ (map_more (sorted_order (table_of ws)) (up_from 0 k) (0 + k)
    ∙ ap (λ (j : ℕ). sorted_till ws k ++ (sorted_order (table_of ws) j ∷ [])) (zero-add k)))

pub till-length : (ws : List ℕ) (k : ℕ) → length (sorted_till ws k) ≡ k
till-length ws k = length-map (up_from 0 k) (sorted_order (table_of ws)) ∙ up-length 0 k

-- the first of them that passes a test
pub first-index : (ws : List ℕ) (f : Verdict → Bool) (g : ℕ → List ℕ) (n i k : ℕ) → k < n → ((j : ℕ) → j < k → f (verdict_in ws (g (i + j))) ≡ false)
    → f (verdict_in ws (g (i + k))) ≡ true → first_that f ws (map g (up_from i n)) ≡ just (g (i + k))
unfolding up_from
first-index ws f g zero i k l h e = absurd (omega arith)
first-index ws f g (suc n) i zero l h e =
    let z : i + 0 ≡ i = omega arith in
    first-here ws f (g i) (map g (up_from (suc i) n)) (subst (λ (j : ℕ). f (verdict_in ws (g j)) ≡ true) z e) ∙ ap (λ (j : ℕ). just (g j)) (sym z)
first-index ws f g (suc n) i (suc k) l h e =
    let z : i + 0 ≡ i = omega arith in
    let s : (j : ℕ) → i + suc j ≡ suc i + j = λ j. omega arith in
    first_past ws f (g i) (map g (up_from (suc i) n)) (subst (λ (j : ℕ). f (verdict_in ws (g j)) ≡ false) z (h 0 (omega arith)))
    ∙ (first-index ws f g n (suc i) k (omega arith)
    (λ j m. subst (λ (q : ℕ). f (verdict_in ws (g q)) ≡ false) (s j) (h (suc j) (omega arith))) (subst (λ (q : ℕ). f (verdict_in ws (g q)) ≡ true) (s k) e)
    ∙ ap (λ (j : ℕ). just (g j)) (sym (s k)))

latest-append : (ws : List ℕ) (x : Late) (os : List (List ℕ)) (o : List ℕ)
    → latest_from ws x (os ++ (o ∷ [])) ≡ later_of (latest_from ws x os) (late_of (verdict_in ws o) o)
unfolding latest_from
latest-append ws x [] o = refl
latest-append ws x (p ∷ os) o = latest-append ws (later_of x (late_of (verdict_in ws p) p)) os o

-- an order that fits is accepted
pub fit-accepted : (f : Fit) → is_accepted (verdict_by f) ≡ true
fit-accepted (fit.Firm a b) = refl
fit-accepted (fit.Full a b) = refl

-- the answer that it gives
pub assigned-answer : (x : Assignment) (v : Verdict) (ps : List ℕ) → verdict_by x.fit ≡ v → x.order ≡ ps → answered (Ok x) ≡ given_order v ps
assigned-answer x v ps e f = go x.fit refl ∙ (λ i. given_order (e i) (f i))
  where
    go : (u : Fit) → x.fit ≡ u → record { outcome = outcome_of x.fit; order = x.order } ≡ given_order (verdict_by x.fit) x.order
    go (fit.Firm a b) q = rw q
    go (fit.Full a b) q = rw q

-- one that is Firm, and one that is not
pub firm-some : (v : Verdict) (ps : List ℕ) (found : Option Assignment) (x : Assignment) → AssignedBy v ps found → firm_in found ≡ Some x
    → (verdict_by x.fit ≡ v) × (x.order ≡ ps) × (is_firm v ≡ true)
firm-some v ps empty x h e = let z : ◌≡◌ {A = ℕ} 0 1 = cc in absurd (omega arith)
firm-some v ps (Some y) x h e = go y.fit refl e
  where
    go : (f : Fit) → y.fit ≡ f → firm_by f y ≡ Some x → (verdict_by x.fit ≡ v) × (x.order ≡ ps) × (is_firm v ≡ true)
    go (fit.Firm a b) q g =
        let same : y ≡ x = cc in
        let firm : is_firm v ≡ true = ap is_firm (sym h.0) ∙ ap (λ (f : Fit). is_firm (verdict_by f)) q in
        (ap (λ (u : Assignment). verdict_by u.fit) (sym same) ∙ h.0, ap (λ (u : Assignment). u.order) (sym same) ∙ h.1, firm)
    go (fit.Full a b) q g = let z : ◌≡◌ {A = ℕ} 0 1 = cc in absurd (omega arith)

pub firm-none : (v : Verdict) (ps : List ℕ) (found : Option Assignment) → AssignedBy v ps found → firm_in found ≡ empty → is_firm v ≡ false
firm-none v ps empty h e = not-accepted v h
firm-none v ps (Some y) h e = go y.fit refl e
  where
    go : (f : Fit) → y.fit ≡ f → firm_by f y ≡ empty → is_firm v ≡ false
    go (fit.Firm a b) q g = let z : ◌≡◌ {A = ℕ} 0 1 = cc in absurd (omega arith)
    go (fit.Full a b) q g = ap is_firm (sym h.0) ∙ ap (λ (f : Fit). is_firm (verdict_by f)) q

-- the assignment that code has found is by the order that is chosen
abbrev pub FoundIn : List ℕ → Choice → Option Assignment → Type 0
FoundIn ws nothing empty = Unit {0}
FoundIn ws nothing (Some z) = ⊥
FoundIn ws (just o) empty = ⊥
FoundIn ws (just o) (Some z) = (verdict_by z.fit ≡ verdict_in ws o) × (z.order ≡ positions_of (count ws) o)

pub found-of : (ws : List ℕ) (c : Choice) (a : Option Assignment) (z : Assignment) → a ≡ Some z → FoundIn ws c a
    → (o : List ℕ) × (c ≡ just o) × (verdict_by z.fit ≡ verdict_in ws o) × (z.order ≡ positions_of (count ws) o)
found-of ws c a z e h = go c (subst (FoundIn ws c) e h)
  where
    go : (d : Choice) → FoundIn ws d (Some z)
        → (o : List ℕ) × (d ≡ just o) × (verdict_by z.fit ≡ verdict_in ws o) × (z.order ≡ positions_of (count ws) o)
    go nothing g = absurd g
    go (just o) g = (o, refl, g.0, g.1)

pub found-none : (ws : List ℕ) (c : Choice) (a : Option Assignment) → a ≡ empty → FoundIn ws c a → c ≡ nothing
found-none ws c a e h = go c (subst (FoundIn ws c) e h)
  where
    go : (d : Choice) → FoundIn ws d empty → d ≡ nothing
    go nothing g = refl
    go (just o) g = absurd g

-- what code has of the first k
pub record Seen (ws : List ℕ) (k : ℕ) (a : Option Assignment) (x : Late) : Type 0 where
  pub firm : first_that is_firm ws (sorted_till ws k) ≡ nothing
  pub below : (j : ℕ) → j < k → is_firm (verdict_in ws (sorted_order (table_of ws) j)) ≡ false
  pub accepted : FoundIn ws (first_that is_accepted ws (sorted_till ws k)) a
  pub latest : latest_from ws (no_miss own_order) (sorted_till ws k) ≡ x
  pub says : x.some ≡ true → LateIn ws x
  pub late-permutation : Permutation (count ws) x.order

module _ (ws : List ℕ) (none : NoneApplies ws) where
  pub seen_start : Seen ws 0 empty (no_miss own_order)
  unfolding first_that latest_from up_from
  seen_start = record {
    firm = refl;
    below = λ j l. absurd (omega arith);
    accepted = tt;
    latest = refl;
    says = λ e. absurd (false≢true e);
    late-permutation = own-permutation (count ws) (tasks-few ws none);
  }

  pub sorted-order : (k : ℕ) → Permutation (count ws) (sorted_order (table_of ws) k)
  sorted-order k =
      subst (λ (n : ℕ). Permutation n (sorted_order (table_of ws) k)) (table-length ws)
      (order-permutation (table_of ws) k (omega (arith, table-length ws, tasks-few ws none)))

  pub seen_more : (k : ℕ) (a : Option Assignment) (x : Late) → Seen ws k a x → (o : List ℕ) → o ≡ sorted_order (table_of ws) k → (v : Verdict) → v ≡ verdict_in ws o
      → is_firm v ≡ false → (found : Option Assignment) → AssignedBy v (positions_of (count ws) o) found
      → (b : Option Assignment) → b ≡ option_or a found → (y : Late) → y ≡ later_of x (late_of v o) → Seen ws (k + 1) b y
  unfolding first_that
  seen_more k a x s o e v q f found g b eb y ey = record {
    firm =
        ap (first_that is_firm ws) more
        ∙ (first-append ws is_firm (sorted_till ws k) (o ∷ [])
        ∙ (ap (λ (c : Choice). or_else c (first_that is_firm ws (o ∷ []))) s.firm ∙ first_past ws is_firm o [] not-firm));
    below = below_more _ k s.below (ap (λ (p : List ℕ). is_firm (verdict_in ws p)) (sym e) ∙ not-firm);
    accepted =
        subst (λ (c : Choice). FoundIn ws c b)
        (sym (ap (first_that is_accepted ws) more ∙ first-append ws is_accepted (sorted_till ws k) (o ∷ [])))
        (subst (FoundIn ws (or_else (first_that is_accepted ws (sorted_till ws k)) (cond (is_accepted (verdict_in ws o)) (just o) nothing))) (sym eb)
        (picked (first_that is_accepted ws (sorted_till ws k)) a found s.accepted (subst (λ (u : Verdict). AssignedBy u (positions_of (count ws) o) found) q g)));
    latest =
        ap (latest_from ws (no_miss own_order)) more
        ∙ (latest-append ws (no_miss own_order) (sorted_till ws k) o ∙ (ap₂ later_of s.latest (ap (λ (w : Verdict). late_of w o) (sym q)) ∙ sym ey));
    says = subst (λ (z : Late). z.some ≡ true → LateIn ws z) (sym ey) (later-says ((late_of v o).some && (not x.some || ltb x.tick (late_of v o).tick)));
    late-permutation =
        subst (λ (z : Late). Permutation (count ws) z.order) (sym ey)
        (later-ordered ((late_of v o).some && (not x.some || ltb x.tick (late_of v o).tick)));
  }
    where
      more : sorted_till ws (k + 1) ≡ sorted_till ws k ++ (o ∷ [])
      more = till-more ws k ∙ ap (λ (p : List ℕ). sorted_till ws k ++ (p ∷ [])) (sym e)

      not-firm : is_firm (verdict_in ws o) ≡ false
      not-firm = ap is_firm (sym q) ∙ f

      here : Permutation (count ws) o
      here = subst (Permutation (count ws)) (sym e) (sorted-order k)

      picked : (c : Choice) (a found : Option Assignment) → FoundIn ws c a → AssignedBy (verdict_in ws o) (positions_of (count ws) o) found
          → FoundIn ws (or_else c (cond (is_accepted (verdict_in ws o)) (just o) nothing)) (option_or a found)
      picked nothing (Some z) found h u = absurd h
      picked (just p) empty found h u = absurd h
      picked (just p) (Some z) found h u = h
      picked nothing empty empty h u = rw u tt
      picked nothing empty (Some z) h u =
          let yes : is_accepted (verdict_in ws o) ≡ true = ap is_accepted (sym u.0) ∙ fit-accepted z.fit in
          rw yes (u.0, u.1)

      later-says : (t : Bool) → (cond {A = Late} t (late_of v o) x).some ≡ true → LateIn ws (cond {A = Late} t (late_of v o) x)
      later-says true h = ap₂ late_of (q ∙ ap (verdict_in ws) (sym (late-order v o))) (sym (late-order v o))
      later-says false h = s.says h

      later-ordered : (t : Bool) → Permutation (count ws) (cond {A = Late} t (late_of v o) x).order
      later-ordered true = subst (Permutation (count ws)) (sym (late-order v o)) here
      later-ordered false = s.late-permutation

  -- THE ANSWER of all orders tried

  -- one of the five is Firm
  pub search-firm : (m k : ℕ) (a : Option Assignment) (x : Late) → Seen ws k a x → k < min m sorted_orders → (o : List ℕ) → o ≡ sorted_order (table_of ws) k
      → is_firm (verdict_in ws o) ≡ true
      → given_order (verdict_in ws o) (positions_of (count ws) o) ≡ answer_in ws 0 (tried_orders ws m)
  unfolding tried_orders
  search-firm m k a x s l o e f =
      sym
      (ap (λ (c : Choice). answer_by ws (0 + length (tried_orders ws m)) (or_else c (first_that is_accepted ws (tried_orders ws m))))
      (first-append ws is_firm (sorted_first ws m) others ∙ ap (λ (c : Choice). or_else c (first_that is_firm ws others)) here))
    where
      others : List (List ℕ)
      others =
          unless_accepted (first_that is_accepted ws (sorted_first ws m)) (repairs_from ws (m - sorted_orders) (latest_from ws (no_miss own_order) (sorted_first ws m)))

      g : ℕ → List ℕ
      g = sorted_order (table_of ws)

      here : first_that is_firm ws (sorted_first ws m) ≡ just o
      here =
          first-index ws is_firm g (min m sorted_orders) 0 k l
          (λ j h. ap (λ (i : ℕ). is_firm (verdict_in ws (g i))) (zero-add j) ∙ s.below j h)
          (ap (λ (i : ℕ). is_firm (verdict_in ws (g i))) (zero-add k) ∙ (ap (λ (p : List ℕ). is_firm (verdict_in ws p)) (sym e) ∙ f))
          ∙ (ap (λ (i : ℕ). just (g i)) (zero-add k) ∙ ap just (sym e))

  module _ (m : ℕ) (a : Option Assignment) (x : Late) (s : Seen ws (min m sorted_orders) a x) where
    abbrev rest : List (List ℕ)
    rest = repairs_from ws (m - sorted_orders) (latest_from ws (no_miss own_order) (sorted_first ws m))

    tried-is : (c : Choice) → first_that is_accepted ws (sorted_first ws m) ≡ c → tried_orders ws m ≡ sorted_first ws m ++ unless_accepted c rest
    unfolding tried_orders
    tried-is c e = ap (λ (d : Choice). sorted_first ws m ++ unless_accepted d rest) e

    -- one of the five is accepted, and none is Firm
    pub search-full : (z : Assignment) → a ≡ Some z → answered (Ok z) ≡ answer_in ws 0 (tried_orders ws m)
    unfolding first_that
    search-full z h =
        let (o, c, v, ps) = found-of ws _ a z h s.accepted in
        let t : tried_orders ws m ≡ sorted_first ws m = tried-is (just o) c ∙ append-nil (sorted_first ws m) in
        assigned-answer z (verdict_in ws o) (positions_of (count ws) o) v ps
        ∙ sym
        (ap (answer_in ws 0) t ∙ ap₂ (λ (d f : Choice). answer_by ws (0 + length (sorted_first ws m)) (or_else d f)) s.firm c)

    module _ (h : a ≡ empty) where
      none-accepted : first_that is_accepted ws (sorted_first ws m) ≡ nothing
      none-accepted = found-none ws _ a h s.accepted

      after : answer_in ws 0 (tried_orders ws m) ≡ answer_in ws (min m sorted_orders) (repairs_from ws (m - sorted_orders) x)
      after =
          ap (answer_in ws 0) (tried-is nothing none-accepted)
          ∙ (answer-append ws 0 (sorted_first ws m) rest s.firm none-accepted
          ∙ ap₂ (answer_in ws) (zero-add (length (sorted_first ws m)) ∙ till-length ws (min m sorted_orders)) (ap (repairs_from ws (m - sorted_orders)) s.latest))

      -- nothing to repair
      pub search-none : x.some ≡ false → no_order (None (min m sorted_orders)) ≡ answer_in ws 0 (tried_orders ws m)
      search-none e =
          sym
          (after
          ∙ (ap (λ (t : Bool). answer_in ws (min m sorted_orders) (cond t (repairs ws (m - sorted_orders) x.order 1 1 x.order) [])) e
          ∙ answer-none ws (min m sorted_orders)))

      -- repair
      pub search-repair : x.some ≡ true
          → answer_in ws (min m sorted_orders) (repairs ws (m - sorted_orders) x.order 1 1 x.order) ≡ answer_in ws 0 (tried_orders ws m)
      search-repair e =
          sym (after ∙ ap (λ (t : Bool). answer_in ws (min m sorted_orders) (cond t (repairs ws (m - sorted_orders) x.order 1 1 x.order) [])) e)

-- what is left of the judgings after the five
pub judgings-left : (m : ℕ) → m - min m sorted_orders ≡ m - sorted_orders
judgings-left m = go (leb m sorted_orders) refl
  where
    go : (t : Bool) → leb m sorted_orders ≡ t → m - min m sorted_orders ≡ m - sorted_orders
    go true e = let l : m ≤ sorted_orders = leb-true m sorted_orders e in let q : min m sorted_orders ≡ m = min-eq_left l in omega arith
    go false e =
        let l : sorted_orders ≤ m = omega (arith, leb-false m sorted_orders e) in let q : min m sorted_orders ≡ sorted_orders = min-eq_right l in omega arith
