-- The laws of the sets that are borrowed in a tick, and of those that a row shows: place by place in the model's words, a place that does not seek borrows
-- none, and each that borrows has as many as its width.
use mathlib.Core.Path.{◌≡◌, refl, sym, ap, ap₂, ◌∙◌}
use mathlib.Core.Logic.{◌⊎◌, inl, inr, ⊎_elim}
use mathlib.Core.Bool.{Bool, true, false, ◌&&◌}
use mathlib.Core.List.{List, [], ◌++◌, map}
use Prim.Native.Nat.{ℕ, ◌+◌, ◌-◌, ◌^◌, ◌≤◌, ◌<◌}
use native.Mathlib.Omega.{arith}
use lib.Count.{ones}
use lib.Dec.{ltb}
use lib.ListN.{length, get_or, take, length-map, length-take, get_or-map, get_or-eq_default}
use lib.Seq.{ext_get_or, get_or-drop, get_or-take, take_all}
use borrow.Author.Tests.{ltb-false, ltb-true}
use Rattle.model.specs.Grants.{claimants, grants, some}
use Rattle.model.specs.Lending.{lent, shown_cores, unlent}
use Rattle.model.specs.Search.{bit}
use Rattle.model.specs.Task.{Rule}
use Rattle.model.proofs.Grants.{grants-length}
use Rattle.model.proofs.Lending.{lent_length, lent-local}
use Rattle.model.proofs.Lists.{get_d-zeros}
use Rattle.cores.specs.Cores.{cores}
use Rattle.cores.proofs.Cores.{cores-length, cores-none}
use Rattle.rule.specs.Lent.{LentAs, NotBoth, ShownAs, offered}
use Rattle.rule.specs.Granted.{GrantedAs, granted}
use Rattle.rule.proofs.Borrowed.{lent-seekers, lent-width, shown-length, shown-place}
use Rattle.rule.proofs.Sets.{no-cores, sets-at}

-- ---- the places of which a list of sets has a core, as `owners` finds them

-- where the sets past the last place are none it is so of every place
pub owners-all :
    (sets : List ℕ) (owned : ℕ) → ((p : ℕ) → bit owned p ≡ ltb p 32 && some (cores (get_or sets p 0)))
    → ((p : ℕ) → 32 ≤ p → cores (get_or sets p 0) ≡ []) → (p : ℕ) → bit owned p ≡ some (cores (get_or sets p 0))
owners-all sets owned w past p = w p ∙ go (ltb p 32) refl
  where
    go : (t : Bool) → ltb p 32 ≡ t → t && some (cores (get_or sets p 0)) ≡ some (cores (get_or sets p 0))
    go true e = refl
    go false e = sym (ap some (past p (ltb-false p 32 e)))

-- ---- lists of the first places' cores

-- place by place
front_at : (count : ℕ) (sets : List ℕ) (p : ℕ) → p < count → get_or (map cores (take count sets)) p [] ≡ cores (get_or sets p 0)
front_at count sets p h =
    ap (get_or (map cores (take count sets)) p) (sym cores-none) ∙ (get_or-map cores (take count sets) p 0 ∙ ap cores (get_or-take count sets p 0 h))

-- two lists of as many places, alike at each
front-is : (count : ℕ) (sets : List ℕ) (gs : List (List ℕ)) → length (take count sets) ≡ count → length gs ≡ count
    → ((p : ℕ) → p < count → cores (get_or sets p 0) ≡ get_or gs p []) → map cores (take count sets) ≡ gs
front-is count sets gs h k e =
    let n : length (map cores (take count sets)) ≡ count = length-map (take count sets) cores ∙ h in
    ext_get_or [] (map cores (take count sets)) gs (n ∙ sym k) (λ p l. front_at count sets p (omega (arith, n)) ∙ e p (omega (arith, n)))

-- ---- the sets of a tick: those reserved, and those that are borrowed of them

module _ (ws reserved : List ℕ) (holders seekers count : ℕ) (size : length ws ≡ count)
    (borrowed : List ℕ) (b : LentAs ws reserved holders seekers count borrowed) where
  -- no set past the count
  pub borrowed-past : (p : ℕ) → count ≤ p → get_or borrowed p 0 ≡ 0
  borrowed-past p h =
      let z : p ≡ count + (p - count) = omega arith in
      ap (λ (i : ℕ). get_or borrowed i 0) z
      ∙ (sym (get_or-drop count borrowed (p - count) 0) ∙ (ap (λ (l : List ℕ). get_or l (p - count) 0) b.none ∙ get_d-zeros (32 - count) (p - count)))

  -- what each place has borrowed once all have lent
  borrowed-in : (p : ℕ) → cores (get_or borrowed p 0) ≡ get_or (lent ws (bit seekers) (offered reserved holders) count) p []
  borrowed-in p = go (ltb p count) refl
    where
      go : (t : Bool) → ltb p count ≡ t → cores (get_or borrowed p 0) ≡ get_or (lent ws (bit seekers) (offered reserved holders) count) p []
      go true e = sym (front_at count borrowed p (ltb-true p count e)) ∙ ap (λ (l : List (List ℕ)). get_or l p []) b.gives
      go false e =
          let k : count ≤ p = ltb-false p count e in
          let n : length (lent ws (bit seekers) (offered reserved holders) count) ≤ p =
          omega (arith, lent_length ws (bit seekers) (offered reserved holders) count) in
          ap cores (borrowed-past p k) ∙ (cores-none ∙ sym (get_or-eq_default (lent ws (bit seekers) (offered reserved holders) count) [] n))

  -- a place that does not seek cores borrows none
  pub borrows-seeks : (p : ℕ) → bit seekers p ≡ false → cores (get_or borrowed p 0) ≡ []
  borrows-seeks p e = borrowed-in p ∙ lent-seekers ws (bit seekers) (offered reserved holders) count p e

  -- so no place has cores of its own and borrows some, where every place that seeks cores has none
  pub not-both : ((p : ℕ) → bit seekers p ≡ true → cores (get_or reserved p 0) ≡ []) → NotBoth reserved borrowed
  not-both own p = go (bit seekers p) refl
    where
      go : (t : Bool) → bit seekers p ≡ t → (cores (get_or reserved p 0) ≡ []) ⊎ (cores (get_or borrowed p 0) ≡ [])
      go true e = inl (own p e)
      go false e = inr (borrows-seeks p e)

  -- one that borrows counts its width
  pub borrowed-width : (p : ℕ) → get_or borrowed p 0 < 2 ^ 64 → (ones (get_or borrowed p 0) ≡ get_or ws p 0) ⊎ (get_or borrowed p 0 ≡ 0)
  borrowed-width p h =
      ⊎_elim
      (λ e. inl (sym (cores-length (get_or borrowed p 0) h) ∙ (ap length (borrowed-in p) ∙ e)))
      (λ e. inr (no-cores (get_or borrowed p 0) h (borrowed-in p ∙ e)))
      (lent-width ws (bit seekers) (offered reserved holders) count p)

  -- in the model's words: sk tests whether a place seeks cores, o is what a place lends
  module _ (sk : ℕ → Bool) (o : ℕ → List ℕ)
      (seeking : (q : ℕ) → q < count → bit seekers q ≡ sk q) (offering : (q : ℕ) → q < count → offered reserved holders q ≡ o q) where
    -- what each place borrows, once every place has lent
    pub borrowed-list : map cores (take count borrowed) ≡ lent ws sk o count
    borrowed-list =
        b.gives
        ∙ (sym (whole (lent ws (bit seekers) (offered reserved holders) count) (lent_length ws (bit seekers) (offered reserved holders) count))
        ∙ (lent-local count ws ws (bit seekers) sk (offered reserved holders) o refl seeking offering count (omega arith)
        ∙ whole (lent ws sk o count) (lent_length ws sk o count)))
      where
        whole : (l : List (List ℕ)) → length l ≡ length ws → take count l ≡ l
        whole l h = take_all count l (omega (arith, h, size))

    -- place by place
    pub borrowed-at : (p : ℕ) → cores (get_or borrowed p 0) ≡ get_or (lent ws sk o count) p []
    borrowed-at p = borrowed-in p ∙ ap (λ (l : List (List ℕ)). get_or l p []) (sym b.gives ∙ borrowed-list)

    -- and the places that do, as `owners` finds them
    pub borrowers : count ≤ 32 → (owned : ℕ) → ((p : ℕ) → bit owned p ≡ ltb p 32 && some (cores (get_or borrowed p 0)))
        → (p : ℕ) → bit owned p ≡ some (get_or (lent ws sk o count) p [])
    borrowers few owned w p =
        owners-all borrowed owned w (λ q h. ap cores (borrowed-past q (omega arith)) ∙ cores-none) p ∙ ap some (borrowed-at p)

-- the places that are given cores, as `owners` finds them
pub reserved-owners :
    (r : Rule) (ws : List ℕ) (c : ℕ → Bool) (count free : ℕ) (reserved : List ℕ) → GrantedAs r (claimants ws c) count free reserved → length ws ≤ 32
    → (owned : ℕ) → ((p : ℕ) → bit owned p ≡ ltb p 32 && some (cores (get_or reserved p 0)))
    → (p : ℕ) → bit owned p ≡ granted r (claimants ws c) (cores free) p
reserved-owners r ws c count free reserved g few owned w p =
    owners-all reserved owned w
    (λ q h. sets-at r (claimants ws c) count free reserved g q
    ∙ get_or-eq_default (grants r (claimants ws c) (cores free)) [] (omega (arith, grants-length r ws c (cores free)))) p
    ∙ ap some (sets-at r (claimants ws c) count free reserved g p)

-- ---- what a row shows

module _ (r : Rule) (ws : List ℕ) (c : ℕ → Bool) (count free : ℕ) (size : length ws ≡ count) (few : count ≤ 32)
    (reserved : List ℕ) (g : GrantedAs r (claimants ws c) count free reserved)
    (holders seekers : ℕ) (borrowed : List ℕ) (b : LentAs ws reserved holders seekers count borrowed)
    (sets : List ℕ) (s : ShownAs reserved borrowed count sets) where
  abbrev gs : List (List ℕ)
  gs = grants r (claimants ws c) (cores free)

  abbrev bs : List (List ℕ)
  bs = map cores (take count borrowed)

  gs-length : length gs ≡ count
  gs-length = grants-length r ws c (cores free) ∙ size

  bs-length : length bs ≡ count
  bs-length = ap length b.gives ∙ (lent_length ws (bit seekers) (offered reserved holders) count ∙ size)

  same : length gs ≡ length bs
  same = gs-length ∙ sym bs-length

  -- it is the model's
  pub shown-sets : map cores (take count sets) ≡ shown_cores gs bs
  shown-sets =
      front-is count sets (shown_cores gs bs) (omega (arith, length-take count sets, s.size)) (shown-length gs bs same ∙ gs-length)
      (λ p h. s.gives p h
      ∙ (ap₂ (λ (x y : List ℕ). x ++ unlent bs y) (sym (front_at count borrowed p h)) (sets-at r (claimants ws c) count free reserved g p)
      ∙ sym (shown-place gs bs same p)))
