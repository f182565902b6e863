-- The parts of an array of counts: they rise by themselves, and a count set after the last one adds a part at the end.
use mathlib.Core.Bool.{Bool, true, false, cond}
use mathlib.Core.List.{List, [], ◌∷◌, ◌++◌}
use mathlib.Core.Path.{◌≡◌, refl, ap, ap₂, sym, ◌∙◌}
use Prim.Native.Nat.{ℕ, zero, suc, ◌+◌, ◌≤◌, ◌<◌}
use native.Mathlib.Nat.{not-suc-le-zero}
use native.Mathlib.Omega.{arith}
use lib.ListN.{length, get_or, set}
use lib.Dec.{eqb, leb}
use borrow.Author.Tests.{ne_eqb, eqb-true, eqb-false, leb-true, leb-false}
use Rattle.text.specs.Output.{letters}
use Rattle.sentence.specs.Facts.{Facts, Part, limit, MayFollow, Ascending, named_from, facts_by}
use Rattle.sentence.specs.Limits.{CountsWithin}
use Rattle.sentence.specs.declared.Facts as code
use Rattle.sentence.specs.Sentence.{word_field, parts}

-- parts and more parts
pub parts-append : (ps qs : List Part) (rest : List ℕ) → parts (ps ++ qs) rest ≡ parts ps (parts qs rest)
unfolding parts
parts-append [] qs rest = refl
parts-append (p ∷ ps) qs rest = ap (λ (x : List ℕ). word_field (letters "; task ") p.position (word_field (letters " ran ") p.count x)) (parts-append ps qs rest)

-- zeros name nothing
pub named-zeros : (i : ℕ) (ns : List ℕ) → ((k : ℕ) → get_or ns k 0 ≡ 0) → named_from i ns ≡ []
unfolding named_from
named-zeros i [] h = refl
named-zeros i (n ∷ ns) h = let e : n ≡ 0 = h 0 in rw e (named-zeros (suc i) ns (λ k. h (suc k)))

-- .. also after other counts
pub named-behind : (i : ℕ) (ns zs : List ℕ) → ((k : ℕ) → get_or zs k 0 ≡ 0) → named_from i (ns ++ zs) ≡ named_from i ns
unfolding named_from
named-behind i [] zs h = named-zeros i zs h
named-behind i (n ∷ ns) zs h = rw (named-behind (suc i) ns zs h)

-- where each count and what was had are together at most `most`, so they are in each part
pub named-together : (i had most : ℕ) (ns : List ℕ) → ((k : ℕ) → had + get_or ns k 0 ≤ most) → CountsWithin had most (named_from i ns)
unfolding named_from CountsWithin
named-together i had most [] h = tt
named-together i had most (n ∷ ns) h = go (eqb n 0) (named-together (suc i) had most ns (λ k. h (suc k)))
  where
    go : (t : Bool) → CountsWithin had most (named_from (suc i) ns) → CountsWithin had most (cond t (named_from (suc i) ns) (record { position = suc i; count = n } ∷ named_from (suc i) ns))
    go true ih = ih
    go false ih = (h 0, ih)

-- one count more
pub named_set : (i : ℕ) (ns : List ℕ) (j n : ℕ) → j < length ns → 0 < n → ((k : ℕ) → j ≤ k → get_or ns k 0 ≡ 0) →
    named_from i (set ns j n) ≡ named_from i ns ++ (record { position = suc (i + j); count = n } ∷ [])
unfolding named_from
named_set i [] j n l p h = absurd (not-suc-le-zero l)
named_set i (x ∷ xs) zero n l p h =
    let e : x ≡ 0 = h 0 (omega arith) in
    let f : named_from (suc i) xs ≡ [] = named-zeros (suc i) xs (λ k. h (suc k) (omega arith)) in
    let z : suc i ≡ suc (i + 0) = omega arith in
    let g : eqb n 0 ≡ false = ne_eqb n 0 (λ q. omega arith) in
    rw (g, e, f, ← z)
named_set i (x ∷ xs) (suc j) n l p h = go (eqb x 0) (named_set (suc i) xs j n (omega arith) p (λ k q. h (suc k) (omega arith)))
  where
    more : suc i + j ≡ i + suc j
    more = omega arith

    go : (t : Bool) → named_from (suc i) (set xs j n) ≡ named_from (suc i) xs ++ (record { position = suc (suc i + j); count = n } ∷ []) →
        cond t (named_from (suc i) (set xs j n)) (record { position = suc i; count = x } ∷ named_from (suc i) (set xs j n))
        ≡ cond t (named_from (suc i) xs) (record { position = suc i; count = x } ∷ named_from (suc i) xs) ++ (record { position = suc (i + suc j); count = n } ∷ [])
    go true ih = ih ∙ ap (λ (m : ℕ). named_from (suc i) xs ++ (record { position = suc m; count = n } ∷ [])) more
    go false ih =
        ap (λ (ps : List Part). record { position = suc i; count = x } ∷ ps) (ih ∙ ap (λ (m : ℕ). named_from (suc i) xs ++ (record { position = suc m; count = n } ∷ [])) more)

-- parts that rise from a later task on rise from an earlier one on
ascending-weaken : (a b position : ℕ) (ps : List Part) → a ≤ b → Ascending b position ps → Ascending a position ps
unfolding Ascending
ascending-weaken a b position [] l h = tt
ascending-weaken a b position (p ∷ ps) l h =
    let f = h.0 in
    (record { later = omega arith; above = f.above; some = f.some; fits = f.fits }, h.1)

-- what is named rises
pub named-ascending : (i position : ℕ) (ns : List ℕ) → ((k : ℕ) → get_or ns k 0 < limit) → ((k : ℕ) → position ≤ suc (i + k) → get_or ns k 0 ≡ 0) → Ascending i position (named_from i ns)
unfolding named_from Ascending
named-ascending i position [] f z = tt
named-ascending i position (n ∷ ns) f z = go (eqb n 0) refl (named-ascending (suc i) position ns (λ k. f (suc k)) (λ k l. z (suc k) (omega arith)))
  where
    above : (t : Bool) → leb position (suc i) ≡ t → (n ≡ 0 → ⊥) → suc i < position
    above true e q = absurd (q (z 0 (omega (arith, leb-true position (suc i) e))))
    above false e q = leb-false position (suc i) e

    first : eqb n 0 ≡ false → MayFollow i position (record { position = suc i; count = n })
    first e =
        let p : n ≡ 0 → ⊥ = eqb-false n 0 e in
        let s = f 0 in
        record { later = omega arith; above = above (leb position (suc i)) refl p; some = omega arith; fits = s }

    go : (t : Bool) → eqb n 0 ≡ t → Ascending (suc i) position (named_from (suc i) ns) → Ascending i position (cond t (named_from (suc i) ns) (record { position = suc i; count = n } ∷ named_from (suc i) ns))
    go true e ih = ascending-weaken i (suc i) position (named_from (suc i) ns) (omega arith) ih
    go false e ih = (first e, ih)

-- the position of the first part
abbrev first_position : List Part → ℕ
first_position [] = 0
first_position (x ∷ xs) = x.position

-- .. and its count, and the parts after it
abbrev first_count : List Part → ℕ
first_count [] = 0
first_count (x ∷ xs) = x.count

abbrev later_parts : List Part → List Part
later_parts [] = []
later_parts (x ∷ xs) = xs

-- what is named first from i on comes after i
first-later : (i : ℕ) (ns : List ℕ) (p : Part) (ps : List Part) → named_from i ns ≡ p ∷ ps → i < p.position
unfolding named_from
first-later i [] p ps e = let z : ◌≡◌ {A = ℕ} 0 1 = cc in absurd (omega arith)
first-later i (n ∷ ns) p ps e = go (eqb n 0) (first-later (suc i) ns p ps) e
  where
    go : (t : Bool) → (named_from (suc i) ns ≡ p ∷ ps → suc i < p.position) →
        cond t (named_from (suc i) ns) (record { position = suc i; count = n } ∷ named_from (suc i) ns) ≡ p ∷ ps → i < p.position
    go true ih q = let l = ih q in omega arith
    go false ih q = let l : suc i ≡ p.position = ap first_position q in omega arith

-- as many counts that name the same parts are the same
pub named-injective : (i : ℕ) (xs ys : List ℕ) → length xs ≡ length ys → named_from i xs ≡ named_from i ys → xs ≡ ys
unfolding named_from
named-injective i [] [] l e = refl
named-injective i [] (y ∷ ys) l e = absurd (omega arith)
named-injective i (x ∷ xs) [] l e = absurd (omega arith)
named-injective i (x ∷ xs) (y ∷ ys) l e = go (eqb x 0) refl (eqb y 0) refl (named-injective (suc i) xs ys (omega arith)) e
  where
    go : (t : Bool) → eqb x 0 ≡ t → (u : Bool) → eqb y 0 ≡ u → (named_from (suc i) xs ≡ named_from (suc i) ys → xs ≡ ys) →
        cond t (named_from (suc i) xs) (record { position = suc i; count = x } ∷ named_from (suc i) xs)
        ≡ cond u (named_from (suc i) ys) (record { position = suc i; count = y } ∷ named_from (suc i) ys) → x ∷ xs ≡ y ∷ ys
    go true p true q ih h =
        let same : x ≡ y = eqb-true x 0 p ∙ sym (eqb-true y 0 q) in
        ap₂ (λ (z : ℕ) (zs : List ℕ). z ∷ zs) same (ih h)
    go true p false q ih h = let z = first-later (suc i) xs (record { position = suc i; count = y }) (named_from (suc i) ys) h in absurd (omega arith)
    go false p true q ih h = let z = first-later (suc i) ys (record { position = suc i; count = x }) (named_from (suc i) xs) (sym h) in absurd (omega arith)
    go false p false q ih h = ap₂ (λ (z : ℕ) (zs : List ℕ). z ∷ zs) (ap first_count h) (ih (ap later_parts h))

-- two structs of 32 counts with the same facts are the same: a law of `facts_by` that nothing cites
pub meaning-injective : (f g : code.Facts) → length f.ran ≡ length g.ran → facts_by f ≡ facts_by g → f ≡ g
meaning-injective f g l e =
    let p : f.position ≡ g.position = ap (λ (x : Facts). x.position) e in
    let t : f.tick ≡ g.tick = ap (λ (x : Facts). x.tick) e in
    let h : f.had ≡ g.had = ap (λ (x : Facts). x.had) e in
    let c : f.length ≡ g.length = ap (λ (x : Facts). x.length) e in
    let r : f.ran ≡ g.ran = named-injective 0 f.ran g.ran l (ap (λ (x : Facts). x.others) e) in
    λ i. record { position = p i; tick = t i; had = h i; length = c i; ran = r i }
