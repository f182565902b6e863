-- The bytes of a row and the lists that it shows: a core's byte is a position exactly if the list of that position has the core. And the set of a list,
-- which is empty exactly if the list is.
use mathlib.Core.Path.{◌≡◌, refl, sym, ap, subst, ◌∙◌}
use mathlib.Core.Bool.{Bool, true, false, cond, false≢true}
use mathlib.Core.List.{List, [], ◌∷◌, ◌++◌, map}
use Prim.Native.Nat.{ℕ, zero, suc, ◌+◌, ◌-◌, ◌^◌, ◌<◌}
use native.Mathlib.Nat.{zero-add}
use native.Mathlib.Omega.{arith}
use lib.Dec.{eqb, ltb}
use lib.ListN.{length, get_or, replicate, get_or-eq_default}
use lib.Pow.{pow_pos}
use borrow.Author.Tests.{eq-eqb, eqb-true, lt-ltb, ltb-false, ltb-true, ne_eqb}
use Rattle.model.specs.Grants.{some}
use Rattle.model.specs.Row.{byte_of, owner, row}
use Rattle.model.specs.Search.{bit, member, up_from}
use Rattle.model.specs.Sets.{set_of}
use Rattle.model.specs.Sizes.{fenced_byte, most_cores, most_tasks}
use Rattle.std.proofs.lemmas.Bool.{false_from_ne_true}
use Rattle.std.specs.Cmp.{both_ways}
use Rattle.model.proofs.Lists.{get_d-zeros}
use Rattle.model.proofs.Rows.{row-length}
use Rattle.cores.specs.Cores.{cores}
use Rattle.cores.proofs.Ascending.{In, get_d-up, not-in-none}
use Rattle.cores.proofs.Cores.{cores-none}
use Rattle.rule.specs.Lent.{Showable}
use Rattle.run.specs.Answer.{in64}

-- ---- what is past the last is nothing

pub padded : (xs : List ℕ) (k p : ℕ) → get_or (xs ++ replicate k 0) p 0 ≡ get_or xs p 0
padded [] k p = get_d-zeros k p
padded (x ∷ xs) k zero = refl
padded (x ∷ xs) k (suc p) = padded xs k p

-- and shows nothing
no-owner : (c p k : ℕ) → owner c p (map cores (replicate k 0)) ≡ 0
unfolding owner member
no-owner c p zero = refl
no-owner c p (suc k) = rw cores-none (no-owner c (suc p) k)

same-owner : (c p : ℕ) (sets : List ℕ) (k : ℕ) → owner c p (map cores (sets ++ replicate k 0)) ≡ owner c p (map cores sets)
unfolding owner
same-owner c p [] k = no-owner c p k
same-owner c p (x ∷ sets) k = ap (cond (member c (cores x)) p) (same-owner c (suc p) sets k)

pub same_row : (f m : ℕ) (sets : List ℕ) (k : ℕ) → row f m (map cores (sets ++ replicate k 0)) ≡ row f m (map cores sets)
unfolding row
same_row f m sets k = λ i. map (λ c. cond (bit f c) fenced_byte (same-owner c 1 sets k i)) (up_from 0 m)

-- ---- the set of a list

pub set-some : (l : List ℕ) → ltb 0 (set_of l) ≡ some l
unfolding set_of
set-some [] = refl
set-some (c ∷ l) = lt-ltb 0 (2 ^ c + set_of l) (omega (arith, pow_pos c))

-- ---- whose a core is

-- an owner's list has the core
owner-in : (c p : ℕ) (gs : List (List ℕ)) (x : ℕ) → owner c p gs ≡ x → 0 < x → (q : ℕ) × (x ≡ p + q) × In c (get_or gs q [])
unfolding owner
owner-in c p [] x e h = absurd (omega arith)
owner-in c p (g ∷ gs) x e h = go (member c g) refl e (λ k. owner-in c (suc p) gs x k h)
  where
    go : (t : Bool) → member c g ≡ t → cond t p (owner c (suc p) gs) ≡ x
        → (owner c (suc p) gs ≡ x → (q : ℕ) × (x ≡ suc p + q) × In c (get_or gs q []))
        → (q : ℕ) × (x ≡ p + q) × In c (get_or (g ∷ gs) q [])
    go true m k ih = (0, omega arith, m)
    go false m k ih = let o = ih k in (suc o.0, omega (arith, o.1), o.2)

-- where no core is in two lists, the position whose list has a core owns it
owner_of :
    (c p : ℕ) (gs : List (List ℕ)) → ((i j : ℕ) → i < j → In c (get_or gs i []) → In c (get_or gs j []) → ⊥)
    → (q : ℕ) → In c (get_or gs q []) → owner c p gs ≡ p + q
unfolding owner
owner_of c p [] a q h = absurd (not-in-none c h)
owner_of c p (g ∷ gs) a zero h = rw h (omega arith)
owner_of c p (g ∷ gs) a (suc q) h =
    rw (false_from_ne_true (member c g) (λ k. a 0 (suc q) (omega arith) k h))
    (owner_of c (suc p) gs (λ i j l. a (suc i) (suc j) (omega arith)) q h ∙ omega arith)

-- ---- the bytes

module _ (f m : ℕ) (gs : List (List ℕ)) where
  byte_at : (c : ℕ) → get_or (in64 (row f m gs)) c 0 ≡ cond (ltb c m) (byte_of f gs c) 0
  unfolding row
  byte_at c = padded (row f m gs) (most_cores - length (row f m gs)) c ∙ go (ltb c m) refl
    where
      go : (t : Bool) → ltb c m ≡ t → get_or (row f m gs) c 0 ≡ cond t (byte_of f gs c) 0
      go true e = get_d-up (byte_of f gs) 0 0 m c (ltb-true c m e) ∙ ap (byte_of f gs) (zero-add c)
      go false e = get_or-eq_default (row f m gs) 0 (omega (arith, row-length f m gs, ltb-false c m e))

  -- a byte is a position exactly if its list has the core
  pub shown-owned : Showable f m gs → (p c : ℕ) → p < most_tasks → member c (get_or gs p []) ≡ eqb (get_or (in64 (row f m gs)) c 0) (suc p)
  shown-owned s p c l = go (ltb c m) refl (bit f c) refl ∙ ap (λ (x : ℕ). eqb x (suc p)) (sym (byte_at c))
    where
      closed : ((c < m) × (bit f c ≡ false) → ⊥) → member c (get_or gs p []) ≡ false
      closed n = false_from_ne_true (member c (get_or gs p [])) (λ h. n (s.unfenced-only c p h))

      go : (t : Bool) → ltb c m ≡ t → (u : Bool) → bit f c ≡ u → member c (get_or gs p []) ≡ eqb (cond t (cond u fenced_byte (owner c 1 gs)) 0) (suc p)
      go true e true o = closed (λ x. false≢true (sym x.1 ∙ o)) ∙ sym (ne_eqb fenced_byte (suc p) (λ z. omega arith))
      go true e false o =
          both_ways (member c (get_or gs p [])) (eqb (owner c 1 gs) (suc p))
          (λ h. eq-eqb (owner c 1 gs) (suc p) (owner_of c 1 gs (s.apart c) p h ∙ omega arith))
          (λ h.
          let x = owner-in c 1 gs (suc p) (eqb-true (owner c 1 gs) (suc p) h) (omega arith) in
          let q : x.0 ≡ p = omega (arith, x.1) in
          subst (λ (i : ℕ). In c (get_or gs i [])) q x.2)
      go false e u o = closed (λ x. let y = ltb-false c m e in omega (arith, x.0)) ∙ sym (ne_eqb 0 (suc p) (λ z. omega arith))
