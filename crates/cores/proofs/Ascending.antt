-- Ascending lists of numbers: take, drop and membership in them, the numbers from i up, and those of a list that pass a test.
use mathlib.Core.Path.{◌≡◌, refl, sym, ap, ap₂, ◌∙◌}
use mathlib.Core.Logic.{⊎_elim}
use mathlib.Core.Bool.{Bool, true, false, ◌&&◌, ◌||◌, not, or-true, false≢true}
use mathlib.Core.List.{List, [], ◌∷◌, map}
use Prim.Native.Nat.{ℕ, zero, suc, ◌+◌, ◌≤◌, ◌<◌}
use native.Mathlib.Nat.{eq-or-lt_of_le}
use native.Mathlib.Omega.{arith}
use lib.ListN.{length, get_or, take, drop}
use lib.Dec.{eqb, ltb}
use borrow.Author.Tests.{eqb-true, eq-eqb, ne_eqb, ltb-true, ltb-false}
use Rattle.model.specs.Search.{filtered, cons_if, member, up_from}
use Rattle.std.proofs.lemmas.Bool.{or_cases}
use Rattle.model.proofs.Lists.{up-length, up_at, map_at}

-- an ascending list whose entries are at least lo and below hi
abbrev pub Range : ℕ → ℕ → List ℕ → Type 0
Range lo hi [] = Unit {0}
Range lo hi (c ∷ l) = (lo ≤ c) × (c < hi) × Range (suc c) hi l

pub range-weaken : {a b hi hj : ℕ} (l : List ℕ) → a ≤ b → hi ≤ hj → Range b hi l → Range a hj l
range-weaken [] h k r = tt
range-weaken (c ∷ l) h k r = (omega arith, omega arith, range-weaken l (omega arith) k r.2)

pub range-take : (w lo hi : ℕ) (l : List ℕ) → Range lo hi l → Range lo hi (take w l)
range-take zero lo hi [] r = tt
range-take zero lo hi (c ∷ l) r = tt
range-take (suc w) lo hi [] r = tt
range-take (suc w) lo hi (c ∷ l) r = (r.0, r.1, range-take w (suc c) hi l r.2)

pub range-drop : (w lo hi : ℕ) (l : List ℕ) → Range lo hi l → Range lo hi (drop w l)
range-drop zero lo hi [] r = tt
range-drop zero lo hi (c ∷ l) r = r
range-drop (suc w) lo hi [] r = tt
range-drop (suc w) lo hi (c ∷ l) r = range-drop w lo hi l (range-weaken l (omega arith) (omega arith) r.2)

-- the numbers from i up
pub range-up : (i n hi : ℕ) → i + n ≤ hi → Range i hi (up_from i n)
unfolding up_from
range-up i zero hi h = tt
range-up i (suc n) hi h = (omega arith, omega arith, range-up (suc i) n hi (omega arith))

pub get_d-up : {A : Type 0} (f : ℕ → A) (d : A) (i n c : ℕ) → c < n → get_or (map f (up_from i n)) c d ≡ f (i + c)
get_d-up f d i n c h =
    let l : c < length (up_from i n) = omega (arith, up-length i n) in
    map_at f (up_from i n) c d 0 l ∙ ap f (up_at i n c 0 h)

-- membership

abbrev pub In : ℕ → List ℕ → Type 0
In c l = member c l ≡ true

pub not-in-none : (c : ℕ) → In c [] → ⊥
unfolding member
not-in-none c h = false≢true h

pub memb-below : (c lo hi : ℕ) (l : List ℕ) → c < lo → Range lo hi l → member c l ≡ false
unfolding member
memb-below c lo hi [] h r = refl
memb-below c lo hi (x ∷ l) h r = rw (ne_eqb c x (λ e. omega arith)) (memb-below c (suc x) hi l (omega arith) r.2)

pub in-drop : (c w : ℕ) (l : List ℕ) → In c (drop w l) → In c l
unfolding member
in-drop c zero l h = h
in-drop c (suc w) [] h = h
in-drop c (suc w) (x ∷ l) h = rw (in-drop c w l h) (or-true (eqb c x))

pub in_take : (c w : ℕ) (l : List ℕ) → In c (take w l) → In c l
unfolding member
in_take c zero l h = absurd (false≢true h)
in_take c (suc w) [] h = h
in_take c (suc w) (x ∷ l) h = ⊎_elim (λ e. rw e) (λ e. rw (in_take c w l e) (or-true (eqb c x))) (or_cases (eqb c x) (member c (take w l)) h)

-- no number is both in the front and in the back
pub split-apart : (c w lo hi : ℕ) (l : List ℕ) → Range lo hi l → In c (take w l) → In c (drop w l) → ⊥
unfolding member
split-apart c zero lo hi l r h k = false≢true h
split-apart c (suc w) lo hi [] r h k = false≢true h
split-apart c (suc w) lo hi (x ∷ l) r h k =
    ⊎_elim
    (λ e. let q : c ≡ x = eqb-true c x e in
    false≢true (sym (memb-below c (suc x) hi (drop w l) (omega arith) (range-drop w (suc x) hi l r.2)) ∙ k))
    (λ e. split-apart c w (suc x) hi l r.2 e k)
    (or_cases (eqb c x) (member c (take w l)) h)

-- every number of the range is there, and no other
pub memb-up : (c i n : ℕ) → i ≤ c → c < i + n → member c (up_from i n) ≡ true
unfolding member up_from
memb-up c i zero h k = absurd (omega arith)
memb-up c i (suc n) h k = ⊎_elim (λ (e : i ≡ c). rw (eq-eqb c i (sym e))) (λ (l : i < c). rw (memb-up c (suc i) n l (omega arith)) (or-true (eqb c i))) (eq-or-lt_of_le h)

pub memb-past : (c lo hi : ℕ) (l : List ℕ) → Range lo hi l → hi ≤ c → member c l ≡ false
unfolding member
memb-past c lo hi [] r h = refl
memb-past c lo hi (x ∷ l) r h = rw (ne_eqb c x (λ e. omega arith)) (memb-past c (suc x) hi l r.2 h)

pub memb-first : (c n : ℕ) → member c (up_from 0 n) ≡ ltb c n
memb-first c n = go (ltb c n) refl
  where
    go : (t : Bool) → ltb c n ≡ t → member c (up_from 0 n) ≡ t
    go true e = memb-up c 0 n (omega arith) (omega (arith, ltb-true c n e))
    go false e = memb-past c 0 n (up_from 0 n) (range-up 0 n n (omega arith)) (ltb-false c n e)

-- ---- the numbers of a list that pass a test

pub memb-kept : (f : ℕ → Bool) (c : ℕ) (l : List ℕ) → member c (filtered f l) ≡ member c l && f c
unfolding member filtered
memb-kept f c [] = refl
memb-kept f c (x ∷ l) = go (f x) refl (eqb c x) refl (memb-kept f c l)
  where
    neither : (m : Bool) → f c ≡ false → m && f c ≡ f c
    neither true e = refl
    neither false e = sym e

    go : (t : Bool) → f x ≡ t → (u : Bool) → eqb c x ≡ u → member c (filtered f l) ≡ member c l && f c → member c (cons_if t x (filtered f l)) ≡ (u || member c l) && f c
    go true p true q ih = rw q (sym (ap f (eqb-true c x q) ∙ p))
    go true p false q ih = rw q ih
    go false p true q ih = ih ∙ neither (member c l) (ap f (eqb-true c x q) ∙ p)
    go false p false q ih = ih

pub kept-kept : (f g : ℕ → Bool) (l : List ℕ) → filtered f (filtered g l) ≡ filtered (λ c. g c && f c) l
unfolding filtered
kept-kept f g [] = refl
kept-kept f g (x ∷ l) = go (g x) (kept-kept f g l)
  where
    go : (t : Bool) → filtered f (filtered g l) ≡ filtered (λ c. g c && f c) l → filtered f (cons_if t x (filtered g l)) ≡ cons_if (t && f x) x (filtered (λ c. g c && f c) l)
    go true ih = ap (λ (m : List ℕ). cons_if (f x) x m) ih
    go false ih = ih

pub length-kept : (f : ℕ → Bool) (l : List ℕ) → length (filtered f l) ≤ length l
unfolding filtered
length-kept f [] = omega arith
length-kept f (x ∷ l) = go (f x) (length-kept f l)
  where
    go : (t : Bool) → length (filtered f l) ≤ length l → length (cons_if t x (filtered f l)) ≤ suc (length l)
    go true h = omega arith
    go false h = omega arith

-- those that fail a test and those that pass it are together the whole list
pub length-halves : (f : ℕ → Bool) (l : List ℕ) → length (filtered (λ c. not (f c)) l) + length (filtered f l) ≡ length l
unfolding filtered
length-halves f [] = refl
length-halves f (x ∷ l) = go (f x) (length-halves f l)
  where
    go : (t : Bool) → length (filtered (λ c. not (f c)) l) + length (filtered f l) ≡ length l
        → length (cons_if (not t) x (filtered (λ c. not (f c)) l)) + length (cons_if t x (filtered f l)) ≡ suc (length l)
    go true ih = omega arith
    go false ih = omega arith

pub range-kept : (f : ℕ → Bool) (lo hi : ℕ) (l : List ℕ) → Range lo hi l → Range lo hi (filtered f l)
unfolding filtered
range-kept f lo hi [] r = tt
range-kept f lo hi (x ∷ l) r = go (f x) (range-kept f (suc x) hi l r.2)
  where
    go : (t : Bool) → Range (suc x) hi (filtered f l) → Range lo hi (cons_if t x (filtered f l))
    go true k = (r.0, r.1, k)
    go false k = range-weaken (filtered f l) (omega arith) (omega arith) k

-- tests that agree below hi keep the same
pub kept_same : (f g : ℕ → Bool) (lo hi : ℕ) (l : List ℕ) → Range lo hi l → ((c : ℕ) → c < hi → f c ≡ g c) → filtered f l ≡ filtered g l
unfolding filtered
kept_same f g lo hi [] r h = refl
kept_same f g lo hi (x ∷ l) r h = ap₂ (λ (t : Bool) (m : List ℕ). cons_if t x m) (h x r.1) (kept_same f g (suc x) hi l r.2 h)

pub kept-none : (l : List ℕ) → filtered (λ c. false) l ≡ []
unfolding filtered
kept-none [] = refl
kept-none (x ∷ l) = kept-none l
