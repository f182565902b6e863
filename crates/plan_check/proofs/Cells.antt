-- The bytes of a row: as many cores show a position as its place is given, and there is no unknown position among them.
use mathlib.Core.Bool.{Bool, cond, false, not, true, true≢false}
use mathlib.Core.List.{List, [], map, ◌∷◌}
use mathlib.Core.Logic.{inl, inr, ◌⊎◌, ⊎_elim}
use mathlib.Core.Path.{ap, refl, subst, sym, ◌∙◌, ◌≡◌}
use Prim.Native.Nat.{◌+◌, ◌<◌, suc, zero, ℕ, ◌≤◌}
use native.Mathlib.Nat.{eq-or-lt_of_le, le_refl, zero-add}
use native.Mathlib.Omega.{arith}
use lib.Dec.{eqb, ltb}
use lib.ListN.{get_or, length}
use borrow.Author.Tests.{eq-eqb, lt-ltb, ne_eqb}
use Rattle.model.proofs.Bools.{and_right}
use Rattle.std.proofs.lemmas.Bool.{false_from_ne_true}
use Rattle.model.proofs.Local.{owner-from}
use Rattle.model.specs.Fence.{unfenced}
use Rattle.model.specs.Grants.{Claimant, grants, left, some}
use Rattle.model.specs.Row.{byte_of, owner, row}
use Rattle.model.specs.Search.{bit, member, up_from}
use Rattle.model.specs.Sizes.{fenced_byte}
use Rattle.model.specs.Task.{Rule, Table}
use Rattle.cores.proofs.Ascending.{Range, get_d-up, memb-below, memb-kept, range-kept, range-up, range-weaken}
use Rattle.rule.proofs.Tick.{given-range}
use Rattle.rule.proofs.Granting.{Apart, apart, in-grants, range-left}
use Rattle.plan_check.specs.Plan.{UnknownByte, cell_count}

pub owner-most : (c p : ℕ) (gs : List (List ℕ)) → owner c (suc p) gs ≤ p + length gs
unfolding owner
owner-most c p [] = omega arith
owner-most c p (g ∷ gs) = go (member c g) (owner-most c (suc p) gs)
  where
    go : (b : Bool) → owner c (suc (suc p)) gs ≤ suc p + length gs → cond b (suc p) (owner c (suc (suc p)) gs) ≤ p + suc (length gs)
    go true x = omega arith
    go false x = omega arith

-- where no core is in two lists, a core shows a place exactly if it is in that place's list
pub owner-is : (c q : ℕ) (gs : List (List ℕ)) → Apart gs → (p : ℕ) → eqb (owner c (suc q) gs) (suc (q + p)) ≡ member c (get_or gs p [])
unfolding owner member
owner-is c q [] a p = ne_eqb 0 (suc (q + p)) (λ e. omega arith)
owner-is c q (g ∷ gs) a zero = go (member c g) refl (owner-from c (suc (suc q)) gs)
  where
    go : (b : Bool) → member c g ≡ b → (owner c (suc (suc q)) gs ≡ 0) ⊎ (suc (suc q) ≤ owner c (suc (suc q)) gs)
        → eqb (cond b (suc q) (owner c (suc (suc q)) gs)) (suc (q + 0)) ≡ b
    go true e x = eq-eqb (suc q) (suc (q + 0)) (omega arith)
    go false e (inl x) = ne_eqb (owner c (suc (suc q)) gs) (suc (q + 0)) (λ e. omega arith)
    go false e (inr x) = ne_eqb (owner c (suc (suc q)) gs) (suc (q + 0)) (λ e. omega arith)
owner-is c q (g ∷ gs) a (suc p) = go (member c g) refl (owner-is c (suc q) gs (λ c i j l. a c (suc i) (suc j) (omega arith)) p)
  where
    go : (b : Bool) → member c g ≡ b → eqb (owner c (suc (suc q)) gs) (suc (suc q + p)) ≡ member c (get_or gs p [])
        → eqb (cond b (suc q) (owner c (suc (suc q)) gs)) (suc (q + suc p)) ≡ member c (get_or gs p [])
    go true e ih =
        ne_eqb (suc q) (suc (q + suc p)) (λ e. omega arith)
        ∙ sym (false_from_ne_true (member c (get_or gs p [])) (λ k. a c 0 (suc p) (omega arith) e k))
    go false e ih = subst (λ (n : ℕ). eqb (owner c (suc (suc q)) gs) (suc n) ≡ member c (get_or gs p [])) (omega arith) ih

-- counting the numbers from i up that are in an ascending list
count-list :
    (f : ℕ → ℕ) (b i n : ℕ) (g : List ℕ) → Range i (i + n) g → ((c : ℕ) → i ≤ c → eqb (f c) b ≡ member c g)
    → cell_count b (map f (up_from i n)) ≡ length g
unfolding cell_count up_from
count-list f b i zero [] o h = refl
count-list f b i zero (x ∷ g) o h = absurd (omega (arith, o.0, o.1))
count-list f b i (suc n) [] o h = none (h i (le_refl i)) (count-list f b (suc i) n [] tt (λ c l. h c (omega arith)))
  where
    none : eqb (f i) b ≡ member i [] → cell_count b (map f (up_from (suc i) n)) ≡ 0
        → cond (eqb (f i) b) (suc (cell_count b (map f (up_from (suc i) n)))) (cell_count b (map f (up_from (suc i) n))) ≡ 0
    none e ih = unfold member in rw e ih
count-list f b i (suc n) (x ∷ g) o h =
    ⊎_elim
    (λ (e : i ≡ x). at e (count-list f b (suc i) n g (here e) (λ c l. beyond e c l)))
    (λ (e : i < x). past e (count-list f b (suc i) n (x ∷ g) (later e) (λ c l. h c (omega arith))))
    (eq-or-lt_of_le o.0)
  where
    here : i ≡ x → Range (suc i) (suc i + n) g
    here e = range-weaken g (omega arith) (omega arith) o.2

    later : i < x → Range (suc i) (suc i + n) (x ∷ g)
    later e = (e, omega (arith, o.1), range-weaken g (le_refl (suc x)) (omega arith) o.2)

    beyond : i ≡ x → (c : ℕ) → suc i ≤ c → eqb (f c) b ≡ member c g
    beyond e c l = h c (omega arith) ∙ (unfold member in rw (ne_eqb c x (λ q. omega arith)))

    at : i ≡ x → cell_count b (map f (up_from (suc i) n)) ≡ length g
        → cond (eqb (f i) b) (suc (cell_count b (map f (up_from (suc i) n)))) (cell_count b (map f (up_from (suc i) n))) ≡ suc (length g)
    at e ih = let stands : member i (x ∷ g) ≡ true = unfold member in rw (eq-eqb i x e) in rw (h i (le_refl i) ∙ stands) (ap suc ih)

    past : i < x → cell_count b (map f (up_from (suc i) n)) ≡ suc (length g)
        → cond (eqb (f i) b) (suc (cell_count b (map f (up_from (suc i) n)))) (cell_count b (map f (up_from (suc i) n))) ≡ suc (length g)
    past e ih = rw (h i (le_refl i) ∙ memb-below i x (i + suc n) (x ∷ g) e (le_refl x, o.1, o.2)) ih

-- each list of grants is an ascending part of the free cores
pub grants-range : (r : Rule) (hi : ℕ) (bs : List Claimant) (free : List ℕ) → Range 0 hi free → (p : ℕ) → Range 0 hi (get_or (grants r bs free) p [])
unfolding grants
grants-range r hi [] free o p = tt
grants-range r hi (b ∷ bs) free o zero = given-range b hi free o
grants-range r hi (b ∷ bs) free o (suc p) = grants-range r hi bs (left r b free) (range-left r b hi free o) p

-- THE LAW OF A ROW: as many cores show position p + 1 as place p is given, of the cores outside the fence
module _ (r : Rule) (bs : List Claimant) (fence m p : ℕ) (few : suc p < fenced_byte) where
  abbrev gs : List (List ℕ)
  gs = grants r bs (unfenced fence m)

  free : Range 0 m (unfenced fence m)
  free = range-kept (λ c. not (bit fence c)) 0 m (up_from 0 m) (range-up 0 m m (omega arith))

  -- a fenced core is given to no place
  fenced-none : (c : ℕ) → bit fence c ≡ true → member c (get_or gs p []) ≡ false
  fenced-none c e = false_from_ne_true (member c (get_or gs p [])) (λ h.
      true≢false
      (sym (and_right (member c (up_from 0 m)) (not (bit fence c)) (sym (memb-kept (λ c. not (bit fence c)) c (up_from 0 m)) ∙ in-grants r c bs (unfenced fence m) p h))
      ∙ ap not e))

  byte-is : (c : ℕ) → eqb (byte_of fence gs c) (suc p) ≡ member c (get_or gs p [])
  byte-is c = go (bit fence c) refl
    where
      go : (b : Bool) → bit fence c ≡ b → eqb (cond b fenced_byte (owner c 1 gs)) (suc p) ≡ member c (get_or gs p [])
      go true e = ne_eqb fenced_byte (suc p) (λ q. omega arith) ∙ sym (fenced-none c e)
      go false e = subst (λ (n : ℕ). eqb (owner c 1 gs) (suc n) ≡ member c (get_or gs p [])) (omega arith) (owner-is c 0 gs (apart r m bs (unfenced fence m) free) p)

  pub row-cells : cell_count (suc p) (row fence m gs) ≡ length (get_or gs p [])
  unfolding row
  row-cells =
      count-list (byte_of fence gs) (suc p) 0 m (get_or gs p [])
      (range-weaken (get_or gs p []) (le_refl 0) (omega arith) (grants-range r m bs (unfenced fence m) free p))
      (λ c l. byte-is c)

-- a row holds no unknown position: 255 on a fenced core, and on another no byte past the last position
pub row-known :
    (s : Table) (gs : List (List ℕ)) → length gs ≤ length s.tasks → (c : ℕ) → c < s.cores → ¬ UnknownByte s c (get_or (row s.fence s.cores gs) c 0)
unfolding row
row-known s gs few c h = go (bit s.fence c) refl
  where
    at : get_or (map (byte_of s.fence gs) (up_from 0 s.cores)) c 0 ≡ byte_of s.fence gs c
    at = get_d-up (byte_of s.fence gs) 0 0 s.cores c h ∙ ap (byte_of s.fence gs) (zero-add c)

    go : (b : Bool) → bit s.fence c ≡ b → ¬ UnknownByte s c (get_or (map (byte_of s.fence gs) (up_from 0 s.cores)) c 0)
    go b e (inl (f, n)) = n (at ∙ ap (λ (t : Bool). cond t fenced_byte (owner c 1 gs)) f)
    go b e (inr (f, l)) = omega (arith, at ∙ ap (λ (t : Bool). cond t fenced_byte (owner c 1 gs)) f, owner-most c 0 gs)

-- a list has an element exactly if it is not empty
pub some-cells : (l : List ℕ) → ltb 0 (length l) ≡ some l
some-cells [] = refl
some-cells (x ∷ l) = lt-ltb 0 (suc (length l)) (omega arith)
