-- Laws of the model's lending, place by place: a place that borrows seeks cores, and borrows as many as its width; each core is lent by a place, and none
-- twice. What a row shows then: no core is there twice, and each is one that is given or borrowed.
use mathlib.Core.Path.{◌≡◌, refl, sym, ap, ◌∙◌}
use mathlib.Core.Logic.{◌⊎◌, inl, inr, ⊎_elim}
use mathlib.Core.Bool.{Bool, true, false, ◌&&◌, ◌||◌, and-false, false≢true, not, or_assoc}
use mathlib.Core.List.{List, [], ◌∷◌, ◌++◌, append-nil, map}
use Prim.Native.Nat.{ℕ, zero, suc, ◌≤◌, ◌<◌}
use native.Mathlib.Omega.{arith}
use lib.Dec.{eqb, ltb}
use lib.ListN.{length, get_or, length-map}
use Rattle.model.specs.Grants.{claimants, grants, some}
use Rattle.model.specs.Lending.{among, merged, lent, shown_cores, tries, unlent}
use Rattle.model.specs.Search.{filtered, member}
use Rattle.model.specs.Task.{greedy}
use Rattle.model.proofs.Bools.{and_left, and_right, or_cases, or_left, or_right}
use Rattle.std.proofs.lemmas.Bool.{false_from_ne_true}
use Rattle.model.proofs.Grants.{grants-length, grants-none}
use Rattle.model.proofs.Lending.{beside-length, lent_length, lent-seeks, map-nil}
use Rattle.cores.proofs.Ascending.{In, Range, memb-kept, not-in-none}
use Rattle.rule.proofs.Granting.{Apart, apart, idle, in-grants, width-or-none}

-- ---- lists beside one another, place by place

pub beside-place : (gs hs : List (List ℕ)) → length hs ≤ length gs → (q : ℕ) → get_or (merged gs hs) q [] ≡ get_or gs q [] ++ get_or hs q []
unfolding merged
beside-place [] [] l q = refl
beside-place [] (h ∷ hs) l q = absurd (omega arith)
beside-place (g ∷ gs) [] l q = sym (append-nil (get_or (g ∷ gs) q []))
beside-place (g ∷ gs) (h ∷ hs) l zero = refl
beside-place (g ∷ gs) (h ∷ hs) l (suc q) = beside-place gs hs (omega arith) q

-- ---- what a place has borrowed once the first n places have lent

pub none-some : (l : List ℕ) → some l ≡ false → l ≡ []
none-some [] e = refl
none-some (x ∷ l) e = absurd (false≢true (sym e))

pub width_of : (ws : List ℕ) (c : ℕ → Bool) (q : ℕ) → (get_or (claimants ws c) q idle).width ≡ get_or ws q 0
unfolding claimants
width_of [] c q = refl
width_of (w ∷ ws) c zero = refl
width_of (w ∷ ws) c (suc q) = width_of ws (λ p. c (suc p)) q

pub memb-append : (c : ℕ) (a b : List ℕ) → member c (a ++ b) ≡ member c a || member c b
unfolding member
memb-append c [] b = refl
memb-append c (x ∷ a) b = ap (λ (t : Bool). eqb c x || t) (memb-append c a b) ∙ sym (or_assoc (eqb c x) (member c a) (member c b))

-- a number that is in two lists, one after the other, is in one of them
in-append : (c : ℕ) (a b : List ℕ) → In c (a ++ b) → (In c a) ⊎ (In c b)
in-append c a b h = or_cases (member c a) (member c b) (sym (memb-append c a b) ∙ h)

module _ (ws : List ℕ) (sk : ℕ → Bool) (o : ℕ → List ℕ) where
  -- what each place has borrowed
  abbrev pub had : ℕ → ℕ → List ℕ
  had n q = get_or (lent ws sk o n) q []

  -- the places that are tried as place n lends, and what they are given
  abbrev pub tried : ℕ → ℕ → Bool
  tried n = tries sk n (lent ws sk o n)

  abbrev pub lent_by : ℕ → List (List ℕ)
  lent_by n = grants greedy (claimants ws (tried n)) (o n)

  -- nothing at first, and then what is lent
  pub lent_none : (q : ℕ) → had 0 q ≡ []
  unfolding lent
  lent_none q = map-nil ws q

  pub lent-more : (n q : ℕ) → had (suc n) q ≡ had n q ++ get_or (lent_by n) q []
  unfolding lent
  lent-more n q = beside-place (lent ws sk o n) (lent_by n) (omega (arith, lent_length ws sk o n, grants-length greedy ws (tried n) (o n))) q

  -- one that is served is not tried again
  pub lent-once : (n q : ℕ) → some (had n q) ≡ true → get_or (lent_by n) q [] ≡ []
  lent-once n q e = grants-none greedy ws (tried n) (o n) q (ap (λ (t : Bool). ltb n q && sk q && not t) e ∙ none (ltb n q) (sk q))
    where
      none : (a b : Bool) → a && b && false ≡ false
      none true b = and-false b
      none false b = refl

  -- a place that does not seek cores borrows none
  pub lent-seekers : (n q : ℕ) → sk q ≡ false → had n q ≡ []
  lent-seekers n q e = none-some (had n q) (false_from_ne_true (some (had n q)) (λ h. false≢true (sym e ∙ lent-seeks ws sk o n q h)))

  -- one that borrows has its width
  pub lent-width : (n q : ℕ) → (length (had n q) ≡ get_or ws q 0) ⊎ (had n q ≡ [])
  lent-width zero q = inr (lent_none q)
  lent-width (suc n) q = go (some (had n q)) refl (lent-width n q)
    where
      go : (t : Bool) → some (had n q) ≡ t → (length (had n q) ≡ get_or ws q 0) ⊎ (had n q ≡ []) → (length (had (suc n) q) ≡ get_or ws q 0) ⊎ (had (suc n) q ≡ [])
      go true e before =
          let same : had (suc n) q ≡ had n q = lent-more n q ∙ (ap (λ (l : List ℕ). had n q ++ l) (lent-once n q e) ∙ append-nil (had n q)) in
          ⊎_elim (λ w. inl (ap length same ∙ w)) (λ w. inr (same ∙ w)) before
      go false e before =
          let same : had (suc n) q ≡ get_or (lent_by n) q [] = lent-more n q ∙ ap (λ (l : List ℕ). l ++ get_or (lent_by n) q []) (none-some (had n q) e) in
          ⊎_elim (λ w. inl (ap length same ∙ (w ∙ width_of ws (tried n) q))) (λ w. inr (same ∙ w)) (width-or-none greedy (claimants ws (tried n)) (o n) q)

  -- each core that is borrowed is lent by one of the places
  pub lent-from : (c n q : ℕ) → In c (had n q) → (m : ℕ) × (m < n) × In c (o m)
  lent-from c zero q h = absurd (not-in-none c (sym (ap (member c) (lent_none q)) ∙ h))
  lent-from c (suc n) q h =
      ⊎_elim
      (λ k. let f = lent-from c n q k in (f.0, omega (arith, f.1), f.2))
      (λ k. (n, omega arith, in-grants greedy c (claimants ws (tried n)) (o n) q k))
      (in-append c (had n q) (get_or (lent_by n) q []) (sym (ap (member c) (lent-more n q)) ∙ h))

  -- no core is lent twice, where the places lend ascending lists and no core is in two of these
  pub lent-apart :
      (hi : ℕ) → ((m : ℕ) → Range 0 hi (o m)) → ((c i j : ℕ) → i < j → In c (o i) → In c (o j) → ⊥)
      → (n : ℕ) → Apart (lent ws sk o n)
  lent-apart hi r a zero c i j l h k = not-in-none c (sym (ap (member c) (lent_none i)) ∙ h)
  lent-apart hi r a (suc n) c i j l h k =
      ⊎_elim
      (λ x. ⊎_elim (λ y. lent-apart hi r a n c i j l x y) (λ y. cross i j x y) (split j k))
      (λ x. ⊎_elim (λ y. cross j i y x) (λ y. apart greedy hi (claimants ws (tried n)) (o n) (r n) c i j l x y) (split j k))
      (split i h)
    where
      split : (q : ℕ) → In c (had (suc n) q) → (In c (had n q)) ⊎ (In c (get_or (lent_by n) q []))
      split q x = in-append c (had n q) (get_or (lent_by n) q []) (sym (ap (member c) (lent-more n q)) ∙ x)

      -- lent before, and lent by place n
      cross : (q q' : ℕ) → In c (had n q) → In c (get_or (lent_by n) q' []) → ⊥
      cross q q' x y =
          let f = lent-from c n q x in
          a c f.0 n f.1 f.2 (in-grants greedy c (claimants ws (tried n)) (o n) q' y)

-- ---- what a row shows

-- a core of one of the lists is among them
among_of : (c : ℕ) (bs : List (List ℕ)) (j : ℕ) → In c (get_or bs j []) → among c bs ≡ true
unfolding among
among_of c [] j h = absurd (not-in-none c h)
among_of c (b ∷ bs) zero h = or_left (member c b) (among c bs) h
among_of c (b ∷ bs) (suc j) h = or_right (member c b) (among c bs) (among_of c bs j h)

map-place : (f : List ℕ → List ℕ) → f [] ≡ [] → (gs : List (List ℕ)) (q : ℕ) → get_or (map f gs) q [] ≡ f (get_or gs q [])
map-place f e [] q = sym e
map-place f e (g ∷ gs) zero = refl
map-place f e (g ∷ gs) (suc q) = map-place f e gs q

module _ (gs bs : List (List ℕ)) (same : length gs ≡ length bs) where
  pub shown-length : length (shown_cores gs bs) ≡ length gs
  shown-length = beside-length bs (map (unlent bs) gs) ∙ sym same

  -- of each place: what it borrows, and what no place borrows of its own
  pub shown-place : (q : ℕ) → get_or (shown_cores gs bs) q [] ≡ get_or bs q [] ++ unlent bs (get_or gs q [])
  unfolding filtered
  shown-place q =
      beside-place bs (map (unlent bs) gs) (omega (arith, length-map gs (unlent bs))) q
      ∙ ap (λ (l : List ℕ). get_or bs q [] ++ l) (map-place (unlent bs) refl gs q)

  module _ (c : ℕ) where
    split : (q : ℕ) → In c (get_or (shown_cores gs bs) q []) → (In c (get_or bs q [])) ⊎ (In c (unlent bs (get_or gs q [])))
    split q h = in-append c (get_or bs q []) (unlent bs (get_or gs q [])) (sym (ap (member c) (shown-place q)) ∙ h)

    -- what is kept is of its own, and of no other place
    kept-own : (q : ℕ) → In c (unlent bs (get_or gs q [])) → (In c (get_or gs q [])) × (among c bs ≡ false)
    kept-own q h =
        let e = sym (memb-kept (λ x. not (among x bs)) c (get_or gs q [])) ∙ h in
        (and_left (member c (get_or gs q [])) (not (among c bs)) e, not-not (among c bs) (and_right (member c (get_or gs q [])) (not (among c bs)) e))
      where
        not-not : (t : Bool) → not t ≡ true → t ≡ false
        not-not false e = refl
        not-not true e = sym e

    -- each core is one that the place borrows, or one of its own
    pub shown-in : (q : ℕ) → In c (get_or (shown_cores gs bs) q []) → (In c (get_or bs q [])) ⊎ (In c (get_or gs q []))
    shown-in q h = ⊎_elim inl (λ k. inr (kept-own q k).0) (split q h)

    borrowed-kept : (i j : ℕ) → In c (get_or bs i []) → In c (unlent bs (get_or gs j [])) → ⊥
    borrowed-kept i j h k = false≢true (sym (kept-own j k).1 ∙ among_of c bs i h)

  -- and none is there twice
  pub shown-apart : Apart gs → Apart bs → Apart (shown_cores gs bs)
  shown-apart ag ab c i j l h k =
      ⊎_elim
      (λ x. ⊎_elim (λ y. ab c i j l x y) (λ y. borrowed-kept c i j x y) (split c j k))
      (λ x. ⊎_elim (λ y. borrowed-kept c j i y x) (λ y. ag c i j l (kept-own c i x).0 (kept-own c j y).0) (split c j k))
      (split c i h)
