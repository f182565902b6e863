-- The members of a set, one after the other: the first is its lowest digit, and the others are those of the set without it.
use mathlib.Core.Path.{◌≡◌, refl, sym, ap, ap₂, ◌∙◌, subst}
use mathlib.Core.Bool.{Bool, true, false, not, ◌&&◌, and-true, and-false}
use mathlib.Core.Logic.{⊎_elim}
use mathlib.Core.List.{List, [], ◌∷◌}
use Prim.Native.Nat.{ℕ, zero, suc, ◌+◌, ◌-◌, ◌^◌, ◌≤◌, ◌<◌}
use native.Mathlib.Nat.{eq-or-lt_of_le, eq-zero-or-pos}
use native.Mathlib.Omega.{arith}
use lib.Bits.{bit_and}
use lib.Count.{count_trailing_zeros}
use lib.Dec.{eqb, ltb}
use lib.Pow.{pow_mono, pow_pos}
use borrow.Author.Tests.{eq-eqb, ne_eqb, ltb-true, ltb-false}
use Rattle.model.specs.Search.{bit, filtered, cons_if, member, up_from}
use Rattle.model.specs.Members.{members}
use Rattle.model.proofs.Digits.{bit-none, bit_past, bit_high, below-pow, same_set, clear-bit, Lowest, lowest-digit}

-- ---- the numbers from i up that pass a test

-- tests that agree on them
same : (f g : ℕ → Bool) (i n : ℕ) → ((q : ℕ) → i ≤ q → f q ≡ g q) → filtered f (up_from i n) ≡ filtered g (up_from i n)
unfolding filtered up_from
same f g i zero h = refl
same f g i (suc n) h = ap₂ (λ (b : Bool) (l : List ℕ). cons_if b i l) (h i (omega arith)) (same f g (suc i) n (λ q k. h q (omega arith)))

passes-none : (f : ℕ → Bool) (i n : ℕ) → ((q : ℕ) → i ≤ q → f q ≡ false) → filtered f (up_from i n) ≡ []
unfolding filtered up_from
passes-none f i zero h = refl
passes-none f i (suc n) h = rw (h i (omega arith)) (passes-none f (suc i) n (λ q k. h q (omega arith)))

-- none passes past the first a of them
shorter : (f : ℕ → Bool) (i a b : ℕ) → a ≤ b → ((q : ℕ) → i + a ≤ q → f q ≡ false) → filtered f (up_from i b) ≡ filtered f (up_from i a)
unfolding filtered up_from
shorter f i zero b h past = passes-none f i b (λ q k. past q (omega arith))
shorter f i (suc a) zero h past = absurd (omega arith)
shorter f i (suc a) (suc b) h past = ap (cons_if (f i) i) (shorter f (suc i) a b (omega arith) (λ q k. past q (omega arith)))

-- the first is p, and g passes the others
first : (f g : ℕ → Bool) (p i n : ℕ) → i ≤ p → p < i + n → f p ≡ true → ((q : ℕ) → q < p → f q ≡ false) → ((q : ℕ) → g q ≡ f q && not (eqb q p))
    → filtered f (up_from i n) ≡ p ∷ filtered g (up_from i n)
unfolding filtered up_from
first f g p i zero h k here below others = absurd (omega arith)
first f g p i (suc n) h k here below others = ⊎_elim at (λ (l : i < p). before l (first f g p (suc i) n l (omega arith) here below others)) (eq-or-lt_of_le h)
  where
    at : i ≡ p → filtered f (up_from i (suc n)) ≡ p ∷ filtered g (up_from i (suc n))
    at e =
        let on : f i ≡ true = ap f e ∙ here in
        let off : g i ≡ false = others i ∙ rw (eq-eqb i p e) (and-false (f i)) in
        let rest : filtered f (up_from (suc i) n) ≡ filtered g (up_from (suc i) n) =
        same f g (suc i) n (λ q l. sym (others q ∙ rw (ne_eqb q p (λ r. omega arith)) (and-true (f q)))) in
        rw (on, off, rest, e) refl

    before : i < p → filtered f (up_from (suc i) n) ≡ p ∷ filtered g (up_from (suc i) n) → filtered f (up_from i (suc n)) ≡ p ∷ filtered g (up_from i (suc n))
    before l rest =
        let off : f i ≡ false = below i l in
        let out : g i ≡ false = others i ∙ rw off in
        rw (off, out) rest

-- a number below them is not among them, and one of them is if it passes
kept-below : (f : ℕ → Bool) (i n q : ℕ) → q < i → member q (filtered f (up_from i n)) ≡ false
unfolding filtered up_from member
kept-below f i zero q h = refl
kept-below f i (suc n) q h = go (f i) (kept-below f (suc i) n q (omega arith))
  where
    go : (b : Bool) → member q (filtered f (up_from (suc i) n)) ≡ false → member q (cons_if b i (filtered f (up_from (suc i) n))) ≡ false
    go true e = rw (ne_eqb q i (λ r. omega arith)) e
    go false e = e

passes-as : (f : ℕ → Bool) (i n q : ℕ) → i ≤ q → q < i + n → member q (filtered f (up_from i n)) ≡ f q
unfolding filtered up_from member
passes-as f i zero q h k = absurd (omega arith)
passes-as f i (suc n) q h k =
    ⊎_elim (λ (e : i ≡ q). at e (f i) refl) (λ (l : i < q). after l (f i) (passes-as f (suc i) n q l (omega arith))) (eq-or-lt_of_le h)
  where
    at : i ≡ q → (b : Bool) → f i ≡ b → member q (cons_if b i (filtered f (up_from (suc i) n))) ≡ f q
    at e true x = rw (eq-eqb q i (sym e)) (sym (ap f (sym e) ∙ x))
    at e false x = kept-below f (suc i) n q (omega arith) ∙ sym (ap f (sym e) ∙ x)

    after : i < q → (b : Bool) → member q (filtered f (up_from (suc i) n)) ≡ f q → member q (cons_if b i (filtered f (up_from (suc i) n))) ≡ f q
    after l true e = rw (ne_eqb q i (λ r. omega arith)) e
    after l false e = e

-- ---- the members of a set

-- as many numbers as need be may be tested
pub members_up : (n d : ℕ) → n ≤ d → members n ≡ filtered (bit n) (up_from 0 d)
unfolding members
members_up n d h = sym (shorter (bit n) 0 n d h (λ q k. bit_high n q (omega arith)))

-- the digits that a set may have are enough
pub members-to : (n d : ℕ) → n < 2 ^ d → members n ≡ filtered (bit n) (up_from 0 d)
members-to n d h =
    members_up n (n + d) (omega arith) ∙ shorter (bit n) 0 d (n + d) (omega arith) (λ q k. bit_past d n q h (omega arith))

-- sets of the same members are the same
pub members-same : (x y : ℕ) → members x ≡ members y → x ≡ y
members-same x y e = same_set x y (λ q. go q (ltb q (x + y)) refl)
  where
    lists : filtered (bit x) (up_from 0 (x + y)) ≡ filtered (bit y) (up_from 0 (x + y))
    lists = sym (members_up x (x + y) (omega arith)) ∙ e ∙ members_up y (x + y) (omega arith)

    go : (q : ℕ) (b : Bool) → ltb q (x + y) ≡ b → bit x q ≡ bit y q
    go q true l =
        sym (passes-as (bit x) 0 (x + y) q (omega arith) (omega (arith, ltb-true q (x + y) l)))
        ∙ ap (member q) lists ∙ passes-as (bit y) 0 (x + y) q (omega arith) (omega (arith, ltb-true q (x + y) l))
    go q false l = let h = ltb-false q (x + y) l in bit_high x q (omega arith) ∙ sym (bit_high y q (omega arith))

pub members-none : (n : ℕ) → n ≡ 0 → members n ≡ []
unfolding members
members-none n e = passes-none (bit n) 0 n (λ q k. ap (λ (x : ℕ). bit x q) e ∙ bit-none q)

-- the lowest is the first, and the others are those of the set without it
members-lowest : (n p : ℕ) → Lowest n p → members n ≡ p ∷ members (n - 2 ^ p)
unfolding members
members-lowest n p l =
    let m = n - 2 ^ p in
    first (bit n) (bit m) p 0 n (omega arith) (omega (arith, l.within, below-pow p)) l.here l.below (clear-bit n p l.here).others
    ∙ ap (λ (x : List ℕ). p ∷ x) (shorter (bit m) 0 m n (omega arith) (λ q k. bit_high m q (omega arith)))

-- in the machine's words
pub members-next : (n : ℕ) → 0 < n → n < 2 ^ 64 → members n ≡ count_trailing_zeros 64 n ∷ members (bit_and n (n - 1))
members-next n some fits =
    let l = lowest-digit 64 n some fits in
    members-lowest n (count_trailing_zeros 64 n) l.lowest ∙ ap (λ (x : ℕ). count_trailing_zeros 64 n ∷ members x) (sym l.after)

-- ---- a walk over the members, and its turn: the first member p of what is left, and the others

pub record Turn (rest p others : ℕ) : Type 0 where
  pub some : 0 < rest
  pub lowest : Lowest rest p
  pub after : others ≡ rest - 2 ^ p
  pub bits : (q : ℕ) → bit others q ≡ bit rest q && not (eqb q p)
  pub below : (d : ℕ) → rest < 2 ^ d → p < d
  pub falls : others < rest

heads : {p q : ℕ} {l k : List ℕ} → p ∷ l ≡ q ∷ k → (p ≡ q) × (l ≡ k)
heads e = (cc, cc)

not-empty : {p : ℕ} {l : List ℕ} → [] ≡ p ∷ l → ⊥
not-empty e = cc

power-below : (p d : ℕ) → 2 ^ p < 2 ^ d → p < d
power-below p d h = go (ltb p d) refl
  where
    go : (b : Bool) → ltb p d ≡ b → p < d
    go true e = ltb-true p d e
    go false e = absurd (omega (arith, h, pow_mono (ltb-false p d e)))

turn-at : (rest p others : ℕ) → 0 < rest → Lowest rest p → others ≡ rest - 2 ^ p → Turn rest p others
turn-at rest p others some l e = record {
  some = some;
  lowest = l;
  after = e;
  bits = λ q. ap (λ (x : ℕ). bit x q) e ∙ (clear-bit rest p l.here).others q;
  below = λ d h. power-below p d (omega (arith, l.within));
  falls = omega (arith, l.within, pow_pos p);
}

pub turn : (rest p others : ℕ) → members rest ≡ p ∷ members others → Turn rest p others
turn rest p others e = ⊎_elim none-left some-left (eq-zero-or-pos rest)
  where
    none-left : rest ≡ 0 → Turn rest p others
    none-left z = absurd (not-empty (sym (members-none rest z) ∙ e))

    some-left : 0 < rest → Turn rest p others
    some-left some =
        let l = lowest-digit rest rest some (below-pow rest) in
        let h = heads (sym e ∙ members-lowest rest (count_trailing_zeros rest rest) l.lowest) in
        turn-at rest p others some (subst (Lowest rest) (sym h.0) l.lowest)
        (members-same others (rest - 2 ^ count_trailing_zeros rest rest) h.1 ∙ ap (λ (x : ℕ). rest - 2 ^ x) (sym h.0))

-- nothing is left
pub ended : (rest : ℕ) → members rest ≡ [] → rest ≡ 0
ended rest e = members-same rest 0 (e ∙ sym (members-none 0 refl))
