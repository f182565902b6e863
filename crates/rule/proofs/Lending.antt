-- What holds while the places lend, one iteration each: the sets are what the model's places have borrowed so far, and the seekers that are left are those that
-- the place of the iteration tries.
use borrow.Author.Tests.{eqb-false, eqb-true, le-leb, le-ltb, leb-false, leb-true, lt-leb, lt-ltb, ltb-false, ltb-true}
use native.Mathlib.Omega.{arith}
use mathlib.Core.Path.{◌≡◌, refl, sym, ap, ap₂, ◌∙◌, subst}
use mathlib.Core.Logic.{◌⊎◌, inl, inr}
use mathlib.Core.Bool.{Bool, true, false, ◌&&◌, ◌||◌, and-false, and-true, cond, false≢true, not, or-false}
use mathlib.Core.List.{List, [], ◌++◌, append-nil, map}
use Prim.Native.Nat.{ℕ, suc, ◌+◌, ◌*◌, ◌-◌, ◌^◌, ◌%◌, ◌≤◌, ◌<◌}
use lib.Bits.{bit_and, bit_or, bit_xor, and_le_l, or_zero_l}
use lib.Dec.{eqb, leb, ltb}
use lib.ListN.{length, get_or, take, drop, replicate, length-drop, length-map, length-replicate, length-take, get_or-replicate, get_or-map}
use lib.Seq.{ext_get_or, get_or-drop, get_or-take}
use Rattle.model.specs.Grants.{Claimant, claimants, grants, some}
use Rattle.model.specs.Lending.{lent}
use Rattle.model.specs.Search.{bit}
use Rattle.model.specs.Task.{greedy}
use Rattle.model.proofs.Digits.{bit_past, bit-power, shifted_one, without-bit}
use Rattle.model.proofs.Grants.{claimants-same, grants-none}
use Rattle.model.proofs.Lending.{lent_length}
use Rattle.model.proofs.Lists.{get_d-zeros}
use Rattle.cores.specs.Cores.{cores}
use Rattle.cores.proofs.Cores.{cores-none}
use Rattle.rule.specs.Lent.{LentAs, offered}
use Rattle.rule.specs.Granted.{GrantedAs}
use Rattle.rule.proofs.Borrowed.{had, lent-more, lent_none, lent-once, lent_by, none-some, tried}
use Rattle.rule.proofs.Choosing.{some-append}
use Rattle.model.proofs.Lending.{grants-nothing}
use Rattle.rule.proofs.Sets.{sets-at}
use Rattle.rule.proofs.Unions.{cores-or}

leb-suc : (i p : ℕ) → leb (suc i) p ≡ ltb i p
leb-suc i p = go (ltb i p) refl
  where
    go : (t : Bool) → ltb i p ≡ t → leb (suc i) p ≡ t
    go true e = le-leb (suc i) p (omega (arith, ltb-true i p e))
    go false e = lt-leb (suc i) p (omega (arith, ltb-false i p e))

module _ (ws reserved : List ℕ) (holders seekers count : ℕ) where
  -- what place p has borrowed once the first n places have lent
  abbrev pub borrowed_by : ℕ → ℕ → List ℕ
  borrowed_by n p = had ws (bit seekers) (offered reserved holders) n p

  -- what holds before each iteration
  pub record Lending (sets : List ℕ) (seeking i : ℕ) : Type 0 where
    pub fit : seeking < 2 ^ 32
    pub size : length sets ≡ 32
    -- the sets, and none past the count
    pub gives : (p : ℕ) → p < 32 → cores (get_or sets p 0) ≡ borrowed_by i p
    pub past : (p : ℕ) → count ≤ p → p < 32 → get_or sets p 0 ≡ 0
    -- the seekers from here on that are not yet served
    pub unserved : (p : ℕ) → bit seeking p ≡ (leb i p && bit seekers p) && not (some (borrowed_by i p))

  pub lending-begun : seekers < 2 ^ 32 → Lending (replicate 32 0) seekers 0
  lending-begun h = record {
    fit = h;
    size = refl;
    gives = λ p l. ap cores (get_d-zeros 32 p) ∙ (cores-none ∙ sym (lent_none ws (bit seekers) (offered reserved holders) p));
    past = λ p l k. get_d-zeros 32 p;
    unserved = λ p.
        sym (first (leb 0 p) (le-leb 0 p (omega arith)) (bit seekers p) (some (borrowed_by 0 p))
        (ap some (lent_none ws (bit seekers) (offered reserved holders) p)));
  }
    where
      first : (a : Bool) → a ≡ true → (b t : Bool) → t ≡ false → (a && b) && not t ≡ b
      first true e b false k = and-true b
      first true e b true k = absurd (false≢true (sym k))
      first false e b t k = absurd (false≢true e)

  -- ---- one iteration, at place i: the place itself no longer seeks, and then those are left that it tries
  module _ (sets : List ℕ) (seeking i : ℕ) (h : Lending sets seeking i) (inside : i < 32)
      (y : ℕ) (ye : y ≡ bit_and seeking (bit_xor seeking ((1 * 2 ^ i) % 2 ^ 32))) where
    pub left_lt : y < 2 ^ 32
    left_lt = subst (λ (n : ℕ). n < 2 ^ 32) (sym ye) (omega (arith, and_le_l seeking (bit_xor seeking ((1 * 2 ^ i) % 2 ^ 32)), h.fit))

    pub left-tried : (p : ℕ) → bit y p ≡ tried ws (bit seekers) (offered reserved holders) i p
    left-tried p =
        ap (λ (n : ℕ). bit n p) ye
        ∙ (without-bit seeking ((1 * 2 ^ i) % 2 ^ 32) p
        ∙ (ap₂ (λ (a b : Bool). a && not b) (h.unserved p) (ap (λ (n : ℕ). bit n p) (shifted_one 32 i inside) ∙ bit-power i p)
        ∙ later (bit seekers p) (not (some (borrowed_by i p))) (eqb p i) refl (leb i p) refl))
      where
        later : (b t e : Bool) → eqb p i ≡ e → (a : Bool) → leb i p ≡ a → ((a && b) && t) && not e ≡ (ltb i p && b) && t
        later b t true q a l = and-false ((a && b) && t) ∙ sym (ap (λ (x : Bool). (x && b) && t) (le-ltb i p (omega (arith, eqb-true p i q))))
        later b t false q true l =
            let n : p ≡ i → ⊥ = eqb-false p i q in
            and-true (b && t) ∙ sym (ap (λ (x : Bool). (x && b) && t) (lt-ltb i p (omega (arith, leb-true i p l))))
        later b t false q false l = sym (ap (λ (x : Bool). (x && b) && t) (le-ltb i p (omega (arith, leb-false i p l))))

    -- from the next place on: those of them that are not served now
    abbrev o : ℕ → List ℕ
    o = offered reserved holders

    next-left : (p : ℕ) (t : Bool) → some (borrowed_by (suc i) p) ≡ some (borrowed_by i p) || t
        → bit y p && not t ≡ (leb (suc i) p && bit seekers p) && not (some (borrowed_by (suc i) p))
    next-left p t e =
        ap (λ (x : Bool). x && not t) (left-tried p)
        ∙ (apart-not (ltb i p && bit seekers p) (some (borrowed_by i p)) t
        ∙ ap₂ (λ (x z : Bool). (x && bit seekers p) && not z) (sym (leb-suc i p)) (sym e))
      where
        apart-not : (a b t : Bool) → (a && not b) && not t ≡ a && not (b || t)
        apart-not true true t = refl
        apart-not true false t = refl
        apart-not false b t = refl

    -- a place that holds no cores lends none
    pub lends_none : bit holders i ≡ false → Lending sets y (suc i)
    lends_none e = record {
      fit = left_lt;
      size = h.size;
      gives = λ p l. h.gives p l ∙ sym (unchanged p);
      past = h.past;
      unserved = λ p. sym (and-true (bit y p)) ∙ next-left p false (ap some (unchanged p) ∙ sym (or-false (some (borrowed_by i p))));
    }
      where
        unchanged : (p : ℕ) → borrowed_by (suc i) p ≡ borrowed_by i p
        unchanged p =
            lent-more ws (bit seekers) o i p
            ∙ (ap (λ (l : List ℕ). borrowed_by i p ++ get_or (grants greedy (claimants ws (tried ws (bit seekers) o i)) l) p [])
            (ap (λ (t : Bool). cond t (cores (get_or reserved i 0)) []) e)
            ∙ (ap (λ (l : List ℕ). borrowed_by i p ++ l) (grants-nothing greedy (claimants ws (tried ws (bit seekers) o i)) p) ∙ append-nil (borrowed_by i p)))

    -- a holder lends: `more` is what is borrowed of its set, `owned` the places that borrow it, and `next` all that is borrowed then
    module _ (e : bit holders i ≡ true) (more : List ℕ) (g : GrantedAs greedy (claimants ws (bit y)) count (get_or reserved i 0) more)
        (owned : ℕ) (w : (p : ℕ) → bit owned p ≡ ltb p 32 && some (cores (get_or more p 0)))
        (next : List ℕ) (size : length next ≡ 32) (n : (p : ℕ) → p < 32 → get_or next p 0 ≡ bit_or (get_or sets p 0) (get_or more p 0)) where
      -- of each place it is what the model's lends
      more-at : (p : ℕ) → cores (get_or more p 0) ≡ get_or (lent_by ws (bit seekers) o i) p []
      more-at p =
          sets-at greedy (claimants ws (bit y)) count (get_or reserved i 0) more g p
          ∙ ap₂ (λ (bs : List Claimant) (l : List ℕ). get_or (grants greedy bs l) p [])
          (claimants-same ws (bit y) (tried ws (bit seekers) o i) (λ q l. left-tried q)) (sym (ap (λ (t : Bool). cond t (cores (get_or reserved i 0)) []) e))

      -- past the last place there is none
      more-past : (p : ℕ) → 32 ≤ p → some (cores (get_or more p 0)) ≡ false
      more-past p l =
          ap some
          (sets-at greedy (claimants ws (bit y)) count (get_or reserved i 0) more g p
          ∙ grants-none greedy ws (bit y) (cores (get_or reserved i 0)) p (bit_past 32 y p left_lt l))

      joined : (p : ℕ) → p < 32 → cores (get_or next p 0) ≡ borrowed_by (suc i) p
      joined p l =
          ap cores (n p l)
          ∙ (cores-or (get_or sets p 0) (get_or more p 0) (once (some (borrowed_by i p)) refl)
          ∙ (ap₂ (λ (a b : List ℕ). a ++ b) (h.gives p l) (more-at p) ∙ sym (lent-more ws (bit seekers) o i p)))
        where
          once : (t : Bool) → some (borrowed_by i p) ≡ t → (cores (get_or sets p 0) ≡ []) ⊎ (cores (get_or more p 0) ≡ [])
          once true k = inr (more-at p ∙ lent-once ws (bit seekers) o i p k)
          once false k = inl (h.gives p l ∙ none-some (borrowed_by i p) k)

      pub lends : Lending next (bit_and y (bit_xor y owned)) (suc i)
      lends = record {
        fit = omega (arith, and_le_l y (bit_xor y owned), left_lt);
        size = size;
        gives = joined;
        past = λ p k l. n p l ∙ ap₂ bit_or (h.past p k l) (none-past p k l) ∙ or_zero_l 0;
        unserved = λ p.
            without-bit y owned p
            ∙ (ap (λ (t : Bool). bit y p && not t) (w p ∙ owners-all p (ltb p 32) refl) ∙ next-left p (some (cores (get_or more p 0))) (told p));
      }
        where
          -- what each has then
          told : (p : ℕ) → some (borrowed_by (suc i) p) ≡ some (borrowed_by i p) || some (cores (get_or more p 0))
          told p =
              ap some (lent-more ws (bit seekers) o i p)
              ∙ (some-append (borrowed_by i p) (get_or (lent_by ws (bit seekers) o i) p [])
              ∙ ap (λ (l : List ℕ). some (borrowed_by i p) || some l) (sym (more-at p)))

          owners-all : (p : ℕ) (t : Bool) → ltb p 32 ≡ t → t && some (cores (get_or more p 0)) ≡ some (cores (get_or more p 0))
          owners-all p true k = refl
          owners-all p false k = sym (more-past p (ltb-false p 32 k))

          none-past : (p : ℕ) → count ≤ p → p < 32 → get_or more p 0 ≡ 0
          none-past p k l =
              let z : p ≡ count + (p - count) = omega arith in
              ap (λ (j : ℕ). get_or more j 0) z
              ∙ (sym (get_or-drop count more (p - count) 0) ∙ (ap (λ (x : List ℕ). get_or x (p - count) 0) g.none ∙ get_d-zeros (32 - count) (p - count)))

  -- ---- when all places have lent, the sets are what the model's places borrow

  pub all-lent : (sets : List ℕ) (seeking : ℕ) → length ws ≡ count → count ≤ 32 → Lending sets seeking count → LentAs ws reserved holders seekers count sets
  all-lent sets seeking few many h = record { gives = given; none = none-past }
    where
      given : map cores (take count sets) ≡ lent ws (bit seekers) (offered reserved holders) count
      given =
          let n : length (map cores (take count sets)) ≡ length (take count sets) = length-map (take count sets) cores in
          let k : length (map cores (take count sets)) ≡ length (lent ws (bit seekers) (offered reserved holders) count) =
          omega (arith, n, length-take count sets, h.size, lent_length ws (bit seekers) (offered reserved holders) count) in
          ext_get_or [] (map cores (take count sets)) (lent ws (bit seekers) (offered reserved holders) count) k (λ j l.
          ap (get_or (map cores (take count sets)) j) (sym cores-none)
          ∙ (get_or-map cores (take count sets) j 0
          ∙ (ap cores (get_or-take count sets j 0 (omega (arith, n, length-take count sets))) ∙ h.gives j (omega (arith, n, length-take count sets)))))

      none-past : drop count sets ≡ replicate (32 - count) 0
      none-past =
          let k : length (drop count sets) ≡ 32 - count = length-drop count sets ∙ ap (λ (x : ℕ). x - count) h.size in
          ext_get_or 0 (drop count sets) (replicate (32 - count) 0) (k ∙ sym (length-replicate (32 - count) 0)) (λ j l.
          get_or-drop count sets j 0 ∙ (h.past (count + j) (omega arith) (omega (arith, k)) ∙ sym (get_or-replicate (32 - count) j 0 0 (omega (arith, k)))))
