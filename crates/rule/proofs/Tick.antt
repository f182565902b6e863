-- What a row shows of one tick, in the model's words: no core is under two places, and each is unfenced; a place that has nothing to lend has its width
-- or nothing, and keeps what it is given; one that may lend keeps what no place borrows, and that and what is borrowed of it are its width.
use mathlib.Core.Path.{◌≡◌, refl, sym, ap, subst, ◌∙◌}
use mathlib.Core.Logic.{◌⊎◌, inl, inr, ⊎_elim}
use mathlib.Core.Bool.{Bool, true, false, not, cond, false≢true}
use mathlib.Core.List.{List, [], ◌∷◌, ◌++◌, append-nil, map}
use Prim.Native.Nat.{ℕ, zero, suc, ◌+◌, ◌≤◌, ◌<◌}
use native.Mathlib.Omega.{arith}
use lib.Count.{ones}
use lib.Dec.{eqb, ltb}
use lib.ListN.{length, get_or, take, get_or-map}
use borrow.Author.Tests.{eq-eqb, eqb-false, eqb-true, ltb-false, ltb-true}
use Rattle.model.specs.Fence.{unfenced}
use Rattle.model.specs.Grants.{Claimant, claimants, fits, given, grants, left, some}
use Rattle.model.specs.Lending.{among, lent, lent_away, shown_cores, unlent}
use Rattle.model.specs.Search.{bit, filtered, cons_if, member, up_from}
use Rattle.model.specs.Sets.{SetsApart, SetsCount, SetsUnfenced, set_of}
use Rattle.model.specs.Task.{Rule, greedy}
use Rattle.model.proofs.Bools.{or_cases, or_right}
use Rattle.std.proofs.lemmas.Bool.{false_from_ne_true, true_from_ne_false}
use Rattle.model.proofs.Grants.{grants-length}
use Rattle.model.proofs.Lending.{lent_length}
use Rattle.cores.proofs.Ascending.{In, Range, length-halves, not-in-none, range-kept, range-take, range-up, range-weaken}
use Rattle.cores.proofs.Cores.{set-bit, set-ones}
use Rattle.rule.specs.Lent.{Showable}
use Rattle.rule.proofs.Borrowed.{had, lent-apart, lent-from, lent-more, lent_none, lent-once, lent-seekers, lent-width, lent_by, none-some}
use Rattle.rule.proofs.Borrowed.{shown-apart, shown-in, shown-place, tried, width_of}
use Rattle.rule.proofs.Granting.{Apart, range-left, width-or-none}
use Rattle.rule.proofs.Sets.{grants-showable}

-- ---- each place's cores are in ascending order

pub given-range : (b : Claimant) (hi : ℕ) (free : List ℕ) → Range 0 hi free → Range 0 hi (given b free)
unfolding given
given-range b hi free o = go (fits b free)
  where
    go : (t : Bool) → Range 0 hi (cond t (take b.width free) [])
    go true = range-take b.width 0 hi free o
    go false = tt

grants-range : (r : Rule) (bs : List Claimant) (hi : ℕ) (free : List ℕ) → Range 0 hi free → (p : ℕ) → Range 0 hi (get_or (grants r bs free) p [])
unfolding grants
grants-range r [] hi free o p = tt
grants-range r (b ∷ bs) hi free o zero = given-range b hi free o
grants-range r (b ∷ bs) hi free o (suc p) = grants-range r bs hi (left r b free) (range-left r b hi free o) p

lent-range :
    (ws : List ℕ) (sk : ℕ → Bool) (o : ℕ → List ℕ) (hi : ℕ) → ((m : ℕ) → Range 0 hi (o m)) → (n q : ℕ) → Range 0 hi (get_or (lent ws sk o n) q [])
lent-range ws sk o hi r zero q = subst (Range 0 hi) (sym (lent_none ws sk o q)) tt
lent-range ws sk o hi r (suc n) q = go (some (had ws sk o n q)) refl (lent-range ws sk o hi r n q)
  where
    go : (t : Bool) → some (had ws sk o n q) ≡ t → Range 0 hi (had ws sk o n q) → Range 0 hi (had ws sk o (suc n) q)
    go true e before =
        subst (Range 0 hi)
        (sym (lent-more ws sk o n q ∙ (ap (λ (l : List ℕ). had ws sk o n q ++ l) (lent-once ws sk o n q e) ∙ append-nil (had ws sk o n q))))
        before
    go false e before =
        subst (Range 0 hi)
        (sym (lent-more ws sk o n q ∙ ap (λ (l : List ℕ). l ++ get_or (lent_by ws sk o n) q []) (none-some (had ws sk o n q) e)))
        (grants-range greedy (claimants ws (tried ws sk o n)) hi (o n) (r n) q)

-- ---- what no place borrows

among-some : (c : ℕ) (bs : List (List ℕ)) → among c bs ≡ true → (q : ℕ) × In c (get_or bs q [])
unfolding among
among-some c [] e = absurd (false≢true e)
among-some c (b ∷ bs) e =
    ⊎_elim
    (λ (h : member c b ≡ true). (0, h))
    (λ (h : among c bs ≡ true). let x = among-some c bs h in (suc x.0, x.1))
    (or_cases (member c b) (among c bs) e)

kept-all : (f : ℕ → Bool) (l : List ℕ) → ((c : ℕ) → In c l → f c ≡ true) → filtered f l ≡ l
unfolding filtered member
kept-all f [] h = refl
kept-all f (x ∷ l) h =
    ap (λ (t : Bool). cons_if t x (filtered f l)) (h x (rw (eq-eqb x x refl)))
    ∙ ap (λ (k : List ℕ). x ∷ k) (kept-all f l (λ c e. h c (or_right (eqb c x) (member c l) e)))

-- ---- the cores of a tick: ws are the widths and c the claims, of which the rule gives the unfenced cores; a place that seeks has none of them, and what a
-- place offers is what it is given, or nothing

module _ (r : Rule) (ws : List ℕ) (c : ℕ → Bool) (f m : ℕ) (sk : ℕ → Bool) (o : ℕ → List ℕ) (n : ℕ) where
  abbrev pub gs : List (List ℕ)
  gs = grants r (claimants ws c) (unfenced f m)

  abbrev pub bs : List (List ℕ)
  bs = lent ws sk o n

  -- what the row shows of place p
  abbrev pub shown_at : ℕ → List ℕ
  shown_at p = get_or (shown_cores gs bs) p []

  module _ (seekers : (p : ℕ) → sk p ≡ true → get_or gs p [] ≡ []) (offers : (p : ℕ) → (o p ≡ []) ⊎ (o p ≡ get_or gs p [])) where
    same : length gs ≡ length bs
    same = grants-length r ws c (unfenced f m) ∙ sym (lent_length ws sk o n)

    given-show : Showable f m gs
    given-show = grants-showable r (claimants ws c) f m

    open-range : Range 0 m (unfenced f m)
    open-range = range-kept (λ x. not (bit f x)) 0 m (up_from 0 m) (range-up 0 m m (omega arith))

    offer-in : (x q : ℕ) → In x (o q) → In x (get_or gs q [])
    offer-in x q h = ⊎_elim (λ (e : o q ≡ []). absurd (not-in-none x (subst (In x) e h))) (λ (e : o q ≡ get_or gs q []). subst (In x) e h) (offers q)

    offer-range : (q : ℕ) → Range 0 m (o q)
    offer-range q =
        ⊎_elim
        (λ (e : o q ≡ []). subst (Range 0 m) (sym e) tt)
        (λ (e : o q ≡ get_or gs q []). subst (Range 0 m) (sym e) (grants-range r (claimants ws c) m (unfenced f m) open-range q))
        (offers q)

    -- no core is lent twice
    twice : Apart bs
    twice = lent-apart ws sk o m offer-range (λ x i j l h k. given-show.apart x i j l (offer-in x i h) (offer-in x j k)) n

    -- a row can show it
    pub tick-showable : Showable f m (shown_cores gs bs)
    tick-showable = record { apart = shown-apart gs bs same given-show.apart twice; unfenced-only = open-only }
      where
        open-only : (x j : ℕ) → In x (shown_at j) → (x < m) × (bit f x ≡ false)
        open-only x j h =
            ⊎_elim
            (λ (k : In x (get_or bs j [])).
            let u = lent-from ws sk o x n j k in
            given-show.unfenced-only x u.0 (offer-in x u.0 u.2))
            (given-show.unfenced-only x j)
            (shown-in gs bs same x j h)

    -- each place: what it borrows, and what no place borrows of its own
    pub tick-place : (p : ℕ) → shown_at p ≡ get_or bs p [] ++ unlent bs (get_or gs p [])
    tick-place = shown-place gs bs same

    -- no place has cores of its own and borrows some
    pub tick-either : (p : ℕ) → (get_or gs p [] ≡ []) ⊎ (get_or bs p [] ≡ [])
    tick-either p = go (sk p) refl
      where
        go : (t : Bool) → sk p ≡ t → (get_or gs p [] ≡ []) ⊎ (get_or bs p [] ≡ [])
        go true e = inl (seekers p e)
        go false e = inr (lent-seekers ws sk o n p e)

    -- a place that has nothing to lend keeps what it is given
    pub tick-keeps : (p : ℕ) → o p ≡ [] → unlent bs (get_or gs p []) ≡ get_or gs p []
    tick-keeps p none =
        kept-all (λ x. not (among x bs)) (get_or gs p [])
        (λ x h. ap not (false_from_ne_true (among x bs) (λ a.
        let y = among-some x bs a in
        let u = lent-from ws sk o x n y.0 y.1 in
        lender x h u.0 u.2 (eqb u.0 p) refl)))
      where
        -- no other place lends one of its cores
        lender : (x : ℕ) → In x (get_or gs p []) → (q : ℕ) → In x (o q) → (t : Bool) → eqb q p ≡ t → ⊥
        lender x h q k true e = not-in-none x (subst (In x) none (subst (λ (i : ℕ). In x (o i)) (eqb-true q p e) k))
        lender x h q k false e = go (ltb q p) refl
          where
            other : q ≡ p → ⊥
            other = eqb-false q p e

            go : (t : Bool) → ltb q p ≡ t → ⊥
            go true l = given-show.apart x q p (ltb-true q p l) (offer-in x q k) h
            go false l =
                let n : q ≡ p → ⊥ = other in
                let b = ltb-false q p l in
                given-show.apart x p q (omega arith) h (offer-in x q k)

    -- so it shows what it borrows, or what it is given
    pub tick-shows : (p : ℕ) → o p ≡ [] → shown_at p ≡ get_or bs p [] ++ get_or gs p []
    tick-shows p none = tick-place p ∙ ap (λ (l : List ℕ). get_or bs p [] ++ l) (tick-keeps p none)

    -- as many cores as its width, or none
    pub tick-count : (p : ℕ) → o p ≡ [] → (length (shown_at p) ≡ get_or ws p 0) ⊎ (shown_at p ≡ [])
    tick-count p none =
        ⊎_elim
        (λ (e : get_or gs p [] ≡ []).
        let z : shown_at p ≡ get_or bs p [] = tick-shows p none ∙ (ap (λ (l : List ℕ). get_or bs p [] ++ l) e ∙ append-nil (get_or bs p [])) in
        ⊎_elim (λ w. inl (ap length z ∙ w)) (λ w. inr (z ∙ w)) (lent-width ws sk o n p))
        (λ (e : get_or bs p [] ≡ []).
        let z : shown_at p ≡ get_or gs p [] = tick-shows p none ∙ ap (λ (l : List ℕ). l ++ get_or gs p []) e in
        ⊎_elim (λ w. inl (ap length z ∙ (w ∙ width_of ws c p))) (λ w. inr (z ∙ w)) (width-or-none r (claimants ws c) (unfenced f m) p))
        (tick-either p)

    -- a place that may lend keeps what no place borrows
    pub tick-lender : (p : ℕ) → some (o p) ≡ true → shown_at p ≡ unlent bs (o p)
    tick-lender p e =
        ⊎_elim
        (λ (z : o p ≡ []). absurd (false≢true (sym (ap some z) ∙ e)))
        (λ (z : o p ≡ get_or gs p []).
        ⊎_elim
        (λ (w : get_or gs p [] ≡ []). absurd (false≢true (sym (ap some (z ∙ w)) ∙ e)))
        (λ (w : get_or bs p [] ≡ []).
        tick-place p ∙ (ap (λ (l : List ℕ). l ++ unlent bs (get_or gs p [])) w ∙ ap (unlent bs) (sym z)))
        (tick-either p))
        (offers p)

    -- .. and that and what is borrowed of it are together its width
    pub tick-parts : (p : ℕ) → some (o p) ≡ true → length (shown_at p) + length (lent_away bs (o p)) ≡ get_or ws p 0
    tick-parts p e =
        rw (tick-lender p e)
        (length-halves (λ x. among x bs) (o p)
        ∙ ⊎_elim
        (λ (z : o p ≡ []). absurd (false≢true (sym (ap some z) ∙ e)))
        (λ (z : o p ≡ get_or gs p []).
        ⊎_elim
        (λ w. ap length z ∙ (w ∙ width_of ws c p))
        (λ (w : get_or gs p [] ≡ []). absurd (false≢true (sym (ap some (z ∙ w)) ∙ e)))
        (width-or-none r (claimants ws c) (unfenced f m) p))
        (offers p))

    -- in ascending order
    pub tick-range : (p : ℕ) → Range 0 m (shown_at p)
    unfolding filtered
    tick-range p =
        ⊎_elim
        (λ (e : get_or gs p [] ≡ []).
        subst (Range 0 m)
        (sym (tick-place p ∙ (ap (λ (l : List ℕ). get_or bs p [] ++ unlent bs l) e ∙ append-nil (get_or bs p [])))) (lent-range ws sk o m offer-range n p))
        (λ (e : get_or bs p [] ≡ []).
        subst (Range 0 m)
        (sym (tick-place p ∙ ap (λ (l : List ℕ). l ++ unlent bs (get_or gs p [])) e))
        (range-kept (λ x. not (among x bs)) 0 m (get_or gs p []) (grants-range r (claimants ws c) m (unfenced f m) open-range p)))
        (tick-either p)

    -- as sets, of at most 64 cores
    module _ (few : m ≤ 64) where
      abbrev pub sets : List ℕ
      sets = map set_of (shown_cores gs bs)

      ascending : (p : ℕ) → Range 0 64 (shown_at p)
      ascending p = range-weaken (shown_at p) (omega arith) few (tick-range p)

      at : (p : ℕ) → get_or sets p 0 ≡ set_of (shown_at p)
      unfolding set_of
      at p = get_or-map set_of (shown_cores gs bs) p []

      has : (p x : ℕ) → bit (get_or sets p 0) x ≡ member x (shown_at p)
      has p x = ap (λ (n : ℕ). bit n x) (at p) ∙ set-bit (shown_at p) (ascending p) x

      pub tick-sets-apart : SetsApart sets
      tick-sets-apart p q x h k = go (eqb p q) refl
        where
          i : In x (shown_at p)
          i = sym (has p x) ∙ h

          j : In x (shown_at q)
          j = sym (has q x) ∙ k

          go : (t : Bool) → eqb p q ≡ t → p ≡ q
          go true e = eqb-true p q e
          go false e = absurd (by (ltb p q) refl)
            where
              other : p ≡ q → ⊥
              other = eqb-false p q e

              by : (t : Bool) → ltb p q ≡ t → ⊥
              by true l = tick-showable.apart x p q (ltb-true p q l) i j
              by false l =
                  let n : p ≡ q → ⊥ = other in
                  let b = ltb-false p q l in
                  tick-showable.apart x q p (omega arith) j i

      pub tick-sets-unfenced : SetsUnfenced f m sets
      tick-sets-unfenced p x h = tick-showable.unfenced-only x p (sym (has p x) ∙ h)

      may : (p : ℕ) → ¬ (o p ≡ []) → some (o p) ≡ true
      may p e = true_from_ne_false (some (o p)) (λ z. e (none-some (o p) z))

      pub tick-sets-count : SetsCount ws o bs sets
      unfolding set_of
      tick-sets-count = record {
        width = λ p e.
            ⊎_elim
            (λ (w : length (shown_at p) ≡ get_or ws p 0). inl (ap ones (at p) ∙ (set-ones (shown_at p) (ascending p) ∙ w)))
            (λ (w : shown_at p ≡ []). inr (at p ∙ ap set_of w))
            (tick-count p e);
        lender = λ p e. at p ∙ ap set_of (tick-lender p (may p e));
        parts = λ p e.
            ap (λ (n : ℕ). n + length (lent_away bs (o p))) (ap ones (at p) ∙ set-ones (shown_at p) (ascending p)) ∙ tick-parts p (may p e);
      }
