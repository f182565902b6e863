-- Cores by other numbers: nothing depends on which numbers the cores have, and where no two get one number the rows are the same too.
use mathlib.Core.Bool.{Bool, ◌&&◌, cond, false, not, true}
use mathlib.Core.List.{List, [], map, ◌++◌, ◌∷◌}
use mathlib.Core.Path.{ap, ap₂, refl, sym, ◌∙◌, ◌≡◌}
use Prim.Native.Nat.{suc, zero, ℕ}
use lib.Dec.{eqb}
use lib.ListN.{get_or-map, drop, get_or, length-map, take}
use borrow.Author.Tests.{eq-eqb, eqb-true}
use Rattle.std.specs.Cmp.{both_ways}
use Rattle.model.proofs.Grants.{claimants-same}
use Rattle.model.proofs.Lists.{take-map}
use Rattle.model.specs.Grants.{Claimant, claimants, ends_choosing, fits, given, grants, left, some}
use Rattle.model.specs.Lending.{among, merged, lend_once, lent, shown_cores, tries, unlent}
use Rattle.model.specs.Row.{owner}
use Rattle.model.specs.Search.{filtered, cons_if, member}
use Rattle.model.specs.Task.{Rule, greedy}

module _ (f : ℕ → ℕ) where
  pub some-map : (l : List ℕ) → some (map f l) ≡ some l
  some-map [] = refl
  some-map (c ∷ l) = refl

  drop-with : (n : ℕ) (l : List ℕ) → drop n (map f l) ≡ map f (drop n l)
  drop-with zero l = refl
  drop-with (suc n) [] = refl
  drop-with (suc n) (c ∷ l) = drop-with n l

  append-with : (g h : List ℕ) → map f (g ++ h) ≡ map f g ++ map f h
  append-with [] h = refl
  append-with (c ∷ g) h = ap {B = List ℕ} (λ l. f c ∷ l) (append-with g h)

  given-map : (b : Claimant) (F : List ℕ) → given b (map f F) ≡ map f (given b F)
  unfolding given
  given-map b F = rw (length-map F f) (go (fits b F))
    where
      go : (t : Bool) → cond {A = List ℕ} t (take b.width (map f F)) [] ≡ map f (cond {A = List ℕ} t (take b.width F) [])
      go true = take-map f b.width F
      go false = refl

  left-map : (r : Rule) (b : Claimant) (F : List ℕ) → left r b (map f F) ≡ map f (left r b F)
  unfolding left
  left-map r b F = rw (length-map F f) (go (fits b F) (b.claims && ends_choosing r))
    where
      go : (t u : Bool) → cond {A = List ℕ} t (drop b.width (map f F)) (cond u [] (map f F)) ≡ map f (cond {A = List ℕ} t (drop b.width F) (cond u [] F))
      go true u = drop-with b.width F
      go false true = refl
      go false false = refl

  pub grants-map : (r : Rule) (bs : List Claimant) (F : List ℕ) → grants r bs (map f F) ≡ map (map f) (grants r bs F)
  unfolding grants
  grants-map r [] F = refl
  grants-map r (b ∷ bs) F = rw (given-map b F, left-map r b F, grants-map r bs (left r b F))

  pub at_map : (gs : List (List ℕ)) (q : ℕ) → get_or (map (map f) gs) q [] ≡ map f (get_or gs q [])
  at_map gs q = get_or-map (map f) gs q []

  -- what is lent
  beside-map : (gs hs : List (List ℕ)) → merged (map (map f) gs) (map (map f) hs) ≡ map (map f) (merged gs hs)
  unfolding merged
  beside-map [] hs = refl
  beside-map (g ∷ gs) [] = refl
  beside-map (g ∷ gs) (h ∷ hs) = ap₂ (λ (x : List ℕ) (l : List (List ℕ)). x ∷ l) (sym (append-with g h)) (beside-map gs hs)

  nils-map : (ws : List ℕ) → map {B = List ℕ} (λ w. []) ws ≡ map (map f) (map {B = List ℕ} (λ w. []) ws)
  nils-map [] = refl
  nils-map (w ∷ ws) = ap {B = List (List ℕ)} (λ l. [] ∷ l) (nils-map ws)

  pub lent_map :
      (ws : List ℕ) (sk sk' : ℕ → Bool) (o o' : ℕ → List ℕ) → ((q : ℕ) → sk q ≡ sk' q) → ((q : ℕ) → o q ≡ map f (o' q))
      → (n : ℕ) → lent ws sk o n ≡ map (map f) (lent ws sk' o' n)
  unfolding lent
  lent_map ws sk sk' o o' es eo zero = nils-map ws
  lent_map ws sk sk' o o' es eo (suc n) = go (lent ws sk o n) (lent ws sk' o' n) (lent_map ws sk sk' o o' es eo n)
    where
      go : (bs bs' : List (List ℕ)) → bs ≡ map (map f) bs' → lend_once ws sk (o n) n bs ≡ map (map f) (lend_once ws sk' (o' n) n bs')
      go bs bs' ih =
          ap₂ merged ih
          (ap₂ (grants greedy) (claimants-same ws (tries sk n bs) (tries sk' n bs') (λ q l. same q)) (eo n)
          ∙ grants-map greedy (claimants ws (tries sk' n bs')) (o' n))
          ∙ beside-map bs' (grants greedy (claimants ws (tries sk' n bs')) (o' n))
        where
          same : (q : ℕ) → tries sk n bs q ≡ tries sk' n bs' q
          same q =
              let x : some (get_or bs q []) ≡ some (get_or bs' q []) =
              ap (λ (l : List (List ℕ)). some (get_or l q [])) ih ∙ (ap some (at_map bs' q) ∙ some-map (get_or bs' q [])) in
              rw (es q, x)

  -- where no two cores get one number, the rows are the same too
  module _ (apart : (i j : ℕ) → f i ≡ f j → i ≡ j) where
    eqb-map : (i j : ℕ) → eqb (f i) (f j) ≡ eqb i j
    eqb-map i j =
        both_ways (eqb (f i) (f j)) (eqb i j)
        (λ e. eq-eqb i j (apart i j (eqb-true (f i) (f j) e)))
        (λ e. eq-eqb (f i) (f j) (ap f (eqb-true i j e)))

    memb-map : (c : ℕ) (l : List ℕ) → member (f c) (map f l) ≡ member c l
    unfolding member
    memb-map c [] = refl
    memb-map c (x ∷ l) = rw (eqb-map c x, memb-map c l)

    among-map : (c : ℕ) (bs : List (List ℕ)) → among (f c) (map (map f) bs) ≡ among c bs
    unfolding among
    among-map c [] = refl
    among-map c (l ∷ ls) = rw (memb-map c l, among-map c ls)

    unlent-map : (bs : List (List ℕ)) (g : List ℕ) → unlent (map (map f) bs) (map f g) ≡ map f (unlent bs g)
    unfolding filtered
    unlent-map bs [] = refl
    unlent-map bs (c ∷ g) = rw (among-map c bs, unlent-map bs g) (go (not (among c bs)))
      where
        go : (t : Bool) → cons_if t (f c) (map f (unlent bs g)) ≡ map f (cons_if t c (unlent bs g))
        go true = refl
        go false = refl

    unlents-map : (bs gs : List (List ℕ)) → map (unlent (map (map f) bs)) (map (map f) gs) ≡ map (map f) (map (unlent bs) gs)
    unlents-map bs [] = refl
    unlents-map bs (g ∷ gs) = ap₂ (λ (x : List ℕ) (l : List (List ℕ)). x ∷ l) (unlent-map bs g) (unlents-map bs gs)

    pub shown-map : (gs bs : List (List ℕ)) → shown_cores (map (map f) gs) (map (map f) bs) ≡ map (map f) (shown_cores gs bs)
    shown-map gs bs = ap (merged (map (map f) bs)) (unlents-map bs gs) ∙ beside-map bs (map (unlent bs) gs)

    pub owner-map : (c p : ℕ) (gs : List (List ℕ)) → owner (f c) p (map (map f) gs) ≡ owner c p gs
    unfolding owner
    owner-map c p [] = refl
    owner-map c p (g ∷ gs) = rw (memb-map c g, owner-map c (suc p) gs)
