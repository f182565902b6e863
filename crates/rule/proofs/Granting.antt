-- Laws of the model's choosing: the cases of one claimant; which claimants are given cores depends on the number of free cores alone;
-- no core is given twice; each is given its width or nothing.
use mathlib.Core.Path.{◌≡◌, refl, sym, ap, ◌∙◌}
use mathlib.Core.Logic.{◌⊎◌, inl, inr}
use mathlib.Core.Bool.{Bool, true, false, ◌&&◌, cond}
use mathlib.Core.List.{List, [], ◌∷◌}
use Prim.Native.Nat.{ℕ, zero, suc, ◌≤◌, ◌<◌}
use native.Mathlib.Omega.{arith}
use lib.ListN.{length, take, drop, get_or, length-drop}
use lib.Seq.{length-take-le}
use lib.Dec.{leb, ltb}
use borrow.Author.Tests.{leb-true, leb-false, le-leb, lt-leb, lt-ltb}
use Rattle.model.specs.Task.{Rule}
use Rattle.model.specs.Grants.{Claimant, fits, ends_choosing, given, left, grants, some}
use Rattle.model.proofs.Bools.{and_right}
use Rattle.model.proofs.Lending.{grants-nothing}
use Rattle.rule.specs.Granted.{selection, given_by, left_by, granted}
use Rattle.rule.specs.declared.Selection.{Selection}
use Rattle.rule.specs.declared.Selection.TheVariants.{Takes, Passed, Ends}
use Rattle.cores.proofs.Ascending.{Range, range-drop, In, not-in-none, in_take, in-drop, split-apart}

-- ---- the four cases of a claimant

-- what it is given and what it leaves
abbrev pub Case : Rule → Claimant → List ℕ → List ℕ → List ℕ → Type 0
Case r b free g l = (given b free ≡ g) × (left r b free ≡ l)

module _ (r : Rule) (b : Claimant) (free : List ℕ) where
  pub unclaimed : b.claims ≡ false → Case r b free [] free
  unfolding given left
  unclaimed e = rw e (refl, refl)

  pub fitting : b.claims ≡ true → leb b.width (length free) ≡ true → Case r b free (take b.width free) (drop b.width free)
  unfolding given left
  fitting e f = rw (e, f) (refl, refl)

  pub ended : b.claims ≡ true → leb b.width (length free) ≡ false → ends_choosing r ≡ true → Case r b free [] []
  unfolding given left
  ended e f g = rw (e, f, g) (refl, refl)

  pub passed : b.claims ≡ true → leb b.width (length free) ≡ false → ends_choosing r ≡ false → Case r b free [] free
  unfolding given left
  passed e f g = rw (e, f, g) (refl, refl)

-- ---- the meaning of the rule's answers to a claimant

module _ (r : Rule) (free width : ℕ) where
  pub takes : selection r free width ≡ Takes → width ≤ free
  takes = go (leb width free) refl (ends_choosing r)
    where
      go : (t : Bool) → leb width free ≡ t → (u : Bool) → cond t Takes (cond u Ends Passed) ≡ Takes → width ≤ free
      go true h u e = leb-true width free h
      go false h true e = let z : ◌≡◌ {A = ℕ} 0 1 = cc in absurd (omega arith)
      go false h false e = let z : ◌≡◌ {A = ℕ} 0 1 = cc in absurd (omega arith)

  pub passes : selection r free width ≡ Passed → (free < width) × (ends_choosing r ≡ false)
  passes = go (leb width free) refl (ends_choosing r) refl
    where
      go : (t : Bool) → leb width free ≡ t → (u : Bool) → ends_choosing r ≡ u → cond t Takes (cond u Ends Passed) ≡ Passed → (free < width) × (ends_choosing r ≡ false)
      go true h u k e = let z : ◌≡◌ {A = ℕ} 0 1 = cc in absurd (omega arith)
      go false h true k e = let z : ◌≡◌ {A = ℕ} 0 1 = cc in absurd (omega arith)
      go false h false k e = (leb-false width free h, k)

  pub ends : selection r free width ≡ Ends → (free < width) × (ends_choosing r ≡ true)
  ends = go (leb width free) refl (ends_choosing r) refl
    where
      go : (t : Bool) → leb width free ≡ t → (u : Bool) → ends_choosing r ≡ u → cond t Takes (cond u Ends Passed) ≡ Ends → (free < width) × (ends_choosing r ≡ true)
      go true h u k e = let z : ◌≡◌ {A = ℕ} 0 1 = cc in absurd (omega arith)
      go false h true k e = (leb-false width free h, k)
      go false h false k e = let z : ◌≡◌ {A = ℕ} 0 1 = cc in absurd (omega arith)

-- each answer has the meaning of its definition: what the claimant is given of any list of free cores, and what it leaves
pub answer-means : (r : Rule) (width : ℕ) (free : List ℕ) (s : Selection) → selection r (length free) width ≡ s
    → Case r (record { claims = true; width = width }) free (given_by s width free) (left_by s width free)
answer-means r width free Takes e = fitting r (record { claims = true; width = width }) free refl (le-leb width (length free) (takes r (length free) width e))
answer-means r width free Passed e =
    let p = passes r (length free) width e in
    passed r (record { claims = true; width = width }) free refl (lt-leb width (length free) p.0) p.1
answer-means r width free Ends e =
    let p = ends r (length free) width e in
    ended r (record { claims = true; width = width }) free refl (lt-leb width (length free) p.0) p.1

-- ---- nothing is given of nothing

pub same-either : (t : Bool) (l : List ℕ) → cond t l l ≡ l
same-either true l = refl
same-either false l = refl

pub none-granted : (r : Rule) (bs : List Claimant) (p : ℕ) → granted r bs [] p ≡ false
none-granted r bs p = ap some (grants-nothing r bs p)

-- ---- which claimants are given cores depends on the number of free cores alone

pub some-take : (w : ℕ) (l : List ℕ) → w ≤ length l → some (take w l) ≡ ltb 0 w
some-take zero l h = refl
some-take (suc w) [] h = absurd (omega arith)
some-take (suc w) (x ∷ l) h = sym (lt-ltb 0 (suc w) (omega arith))

pub some-given : (b : Claimant) (free : List ℕ) → some (given b free) ≡ fits b free && ltb 0 b.width
unfolding given
some-given b free = go (fits b free) refl
  where
    go : (t : Bool) → fits b free ≡ t → some (cond t (take b.width free) []) ≡ t && ltb 0 b.width
    go true e = some-take b.width free (leb-true b.width (length free) (and_right b.claims (leb b.width (length free)) e))
    go false e = refl

module _ (r : Rule) (b : Claimant) (free other : List ℕ) (e : length free ≡ length other) where
  same_some : some (given b free) ≡ some (given b other)
  same_some = some-given b free ∙ ap (λ (n : ℕ). (b.claims && leb b.width n) && ltb 0 b.width) e ∙ sym (some-given b other)

  same_left : length (left r b free) ≡ length (left r b other)
  unfolding left
  same_left =
      by (fits b free) (b.claims && ends_choosing r)
      ∙ ap (λ (n : ℕ). length (cond (b.claims && leb b.width n) (drop b.width other) (cond (b.claims && ends_choosing r) [] other))) e
    where
      by : (t u : Bool) → length (cond t (drop b.width free) (cond u [] free)) ≡ length (cond t (drop b.width other) (cond u [] other))
      by true u = omega (arith, length-drop b.width free, length-drop b.width other)
      by false true = refl
      by false false = e

pub same-places : (r : Rule) (bs : List Claimant) (free other : List ℕ) → length free ≡ length other → (p : ℕ) → granted r bs free p ≡ granted r bs other p
unfolding grants
same-places r [] free other e p = refl
same-places r (b ∷ bs) free other e zero = same_some r b free other e
same-places r (b ∷ bs) free other e (suc p) = same-places r bs (left r b free) (left r b other) (same_left r b free other e) p

-- ---- each is given as many cores as its width, or none

-- no claimant: what is past the last place
abbrev pub idle : Claimant
idle = record { claims = false; width = 0 }

given-width : (b : Claimant) (free : List ℕ) → (length (given b free) ≡ b.width) ⊎ (given b free ≡ [])
unfolding given
given-width b free = go (fits b free) refl
  where
    go : (t : Bool) → fits b free ≡ t → (length (cond t (take b.width free) []) ≡ b.width) ⊎ (cond t (take b.width free) [] ≡ [])
    go true e = inl (length-take-le b.width free (leb-true b.width (length free) (and_right b.claims (leb b.width (length free)) e)))
    go false e = inr refl

pub width-or-none : (r : Rule) (bs : List Claimant) (free : List ℕ) (p : ℕ)
    → (length (get_or (grants r bs free) p []) ≡ (get_or bs p idle).width) ⊎ (get_or (grants r bs free) p [] ≡ [])
unfolding grants
width-or-none r [] free p = inr refl
width-or-none r (b ∷ bs) free zero = given-width b free
width-or-none r (b ∷ bs) free (suc p) = width-or-none r bs (left r b free) p

-- ---- the cores that are given are free ones, and no core is given twice

module _ (r : Rule) (c : ℕ) where
  in_either : (t : Bool) (a b l : List ℕ) → (In c a → In c l) → (In c b → In c l) → In c (cond t a b) → In c l
  in_either true a b l f g h = f h
  in_either false a b l f g h = g h

  in-given : (b : Claimant) (free : List ℕ) → In c (given b free) → In c free
  unfolding given
  in-given b free = in_either (fits b free) (take b.width free) [] free (in_take c b.width free) (λ h. absurd (not-in-none c h))

  in_left : (b : Claimant) (free : List ℕ) → In c (left r b free) → In c free
  unfolding left
  in_left b free =
      in_either (fits b free) (drop b.width free) (cond (b.claims && ends_choosing r) [] free) free (in-drop c b.width free)
      (in_either (b.claims && ends_choosing r) [] free free (λ h. absurd (not-in-none c h)) (λ h. h))

  pub in-grants : (bs : List Claimant) (free : List ℕ) (p : ℕ) → In c (get_or (grants r bs free) p []) → In c free
  unfolding grants
  in-grants [] free p h = absurd (not-in-none c h)
  in-grants (b ∷ bs) free zero h = in-given b free h
  in-grants (b ∷ bs) free (suc p) h = in_left b free (in-grants bs (left r b free) p h)

  given-left : (hi : ℕ) (b : Claimant) (free : List ℕ) → Range 0 hi free → In c (given b free) → In c (left r b free) → ⊥
  unfolding given left
  given-left hi b free o = go (fits b free)
    where
      go : (t : Bool) → In c (cond t (take b.width free) []) → In c (cond t (drop b.width free) (cond (b.claims && ends_choosing r) [] free)) → ⊥
      go true h k = split-apart c b.width 0 hi free o h k
      go false h k = not-in-none c h

range-either : (t : Bool) (hi : ℕ) (a b : List ℕ) → Range 0 hi a → Range 0 hi b → Range 0 hi (cond t a b)
range-either true hi a b h k = h
range-either false hi a b h k = k

pub range-left : (r : Rule) (b : Claimant) (hi : ℕ) (free : List ℕ) → Range 0 hi free → Range 0 hi (left r b free)
unfolding left
range-left r b hi free o =
    range-either (fits b free) hi (drop b.width free) (cond (b.claims && ends_choosing r) [] free) (range-drop b.width 0 hi free o)
    (range-either (b.claims && ends_choosing r) hi [] free tt o)

-- no number is in two of the lists
abbrev pub Apart : List (List ℕ) → Type 0
Apart gs = (c i j : ℕ) → i < j → In c (get_or gs i []) → In c (get_or gs j []) → ⊥

pub apart : (r : Rule) (hi : ℕ) (bs : List Claimant) (free : List ℕ) → Range 0 hi free → Apart (grants r bs free)
unfolding grants
apart r hi [] free o c i j l h k = not-in-none c h
apart r hi (b ∷ bs) free o c i zero l h k = absurd (omega arith)
apart r hi (b ∷ bs) free o c zero (suc j) l h k = given-left r c hi b free o h (in-grants r c bs (left r b free) j k)
apart r hi (b ∷ bs) free o c (suc i) (suc j) l h k = apart r hi bs (left r b free) (range-left r b hi free o) c i j (omega arith) h k
