-- The choosing from one claimant to the next: where no place above q claims, q is served first, and then the others of what it leaves.
use mathlib.Core.Path.{◌≡◌, refl, sym, ap, ap₂, ◌∙◌}
use mathlib.Core.Bool.{Bool, true, false, ◌&&◌, ◌||◌, cond, and-false, false-or, false≢true}
use mathlib.Core.List.{List, [], ◌∷◌, ◌++◌, append-nil}
use Prim.Native.Nat.{ℕ, zero, suc, ◌-◌, ◌^◌, ◌≤◌, ◌<◌}
use native.Mathlib.Omega.{arith}
use lib.ListN.{length, take, drop, get_or, length-drop}
use lib.Dec.{leb, ltb, eqb, eqb-suc-suc, eqb-zero-suc, eqb-suc-zero}
use borrow.Author.Tests.{le-leb, lt-leb}
use Rattle.model.specs.Task.{Rule}
use Rattle.model.specs.Grants.{Claimant, claimants, ends_choosing, given, left, grants, some}
use Rattle.model.specs.Search.{bit, up_from}
use Rattle.model.proofs.Bools.{and_left}
use Rattle.model.proofs.Grants.{claimant, claimants-same, grants-none, grants-empty}
use Rattle.model.proofs.Lists.{up-length}
use Rattle.model.proofs.Digits.{Lowest}
use Rattle.rule.specs.Granted.{granted}
use Rattle.rule.proofs.Granting.{unclaimed, fitting, ended, passed, none-granted, some-take, some-given, same-places, same-either}

-- q is the first place of c, and d is c without it
pub record First (c d : ℕ → Bool) (q : ℕ) : Type 0 where
  pub here : c q ≡ true
  pub below : (i : ℕ) → i < q → c i ≡ false
  pub gone : d q ≡ false
  pub others : (i : ℕ) → (i ≡ q → ⊥) → d i ≡ c i

first-later : {c d : ℕ → Bool} {q : ℕ} → First c d (suc q) → First (λ i. c (suc i)) (λ i. d (suc i)) q
first-later {c} {d} {q} f = record {
  here = f.here;
  below = λ i h. f.below (suc i) (omega arith);
  gone = f.gone;
  others = λ i h. f.others (suc i) (λ (e : suc i ≡ suc q). h (omega arith));
}

-- the lowest digit of a set is its first place
pub first_of : {x q : ℕ} → Lowest x q → First (bit x) (bit (x - 2 ^ q)) q
first_of l = record { here = l.here; below = l.below; gone = l.gone; others = l.others }

-- the claims of the places below the first
abbrev lower : (ℕ → Bool) → ℕ → Bool
lower c i = c (suc i)

module _ (r : Rule) where
  -- what place p is given
  abbrev share : List Claimant → List ℕ → ℕ → List ℕ
  share bs free p = get_or (grants r bs free) p []

  -- the highest place does not claim
  module _ (w : ℕ) (ws : List ℕ) (c : ℕ → Bool) (free : List ℕ) (h : c 0 ≡ false) where
    idle-zero : share (claimants (w ∷ ws) c) free 0 ≡ []
    unfolding grants claimants
    idle-zero = (unclaimed r (claimant (c 0) w) free h).0

    idle-suc : (p : ℕ) → share (claimants (w ∷ ws) c) free (suc p) ≡ share (claimants ws (lower c)) free p
    unfolding grants claimants
    idle-suc p = ap (λ (l : List ℕ). share (claimants ws (lower c)) l p) (unclaimed r (claimant (c 0) w) free h).1

  -- a task of no width is given nothing, and leaves all
  no-width : (free : List ℕ) → (given (claimant true 0) free ≡ []) × (left r (claimant true 0) free ≡ free)
  no-width free = fitting r (claimant true 0) free refl (le-leb 0 (length free) (omega arith))

  -- the first claimant is served, and the others of what it leaves
  pub first-given : (q : ℕ) (ws : List ℕ) (c d : ℕ → Bool) (free : List ℕ) (p : ℕ) → First c d q
      → get_or (grants r (claimants ws c) free) p []
      ≡ cond (eqb p q) (given (claimant true (get_or ws q 0)) free) [] ++ get_or (grants r (claimants ws d) (left r (claimant true (get_or ws q 0)) free)) p []
  unfolding grants claimants
  first-given q [] c d free p f = sym (append-nil _ ∙ ap (λ (l : List ℕ). cond (eqb p q) l []) (no-width free).0 ∙ same-either (eqb p q) [])
  first-given zero (w ∷ ws) c d free zero f =
      ap (λ (t : Bool). given (claimant t w) free) f.here
      ∙ sym (append-nil (given (claimant true w) free))
      ∙ ap (λ (l : List ℕ). given (claimant true w) free ++ l) (sym (idle-zero w ws d (left r (claimant true w) free) f.gone))
  first-given zero (w ∷ ws) c d free (suc p) f =
      ap (λ (t : Bool). share (claimants ws (lower c)) (left r (claimant t w) free) p) f.here
      ∙ ap (λ (bs : List Claimant). share bs (left r (claimant true w) free) p) (claimants-same ws (lower c) (lower d) (λ i k. sym (f.others (suc i) (λ e. omega arith))))
      ∙ sym (idle-suc w ws d (left r (claimant true w) free) f.gone p)
      ∙ ap (λ (t : Bool). cond t (given (claimant true w) free) [] ++ share (claimants (w ∷ ws) d) (left r (claimant true w) free) (suc p)) (sym (eqb-suc-zero p))
  first-given (suc q) (w ∷ ws) c d free zero f =
      let o = f.below 0 (omega arith) in
      let b = claimant true (get_or ws q 0) in
      idle-zero w ws c free o
      ∙ sym (idle-zero w ws d (left r b free) (f.others 0 (λ e. omega arith) ∙ o))
      ∙ ap (λ (t : Bool). cond t (given b free) [] ++ share (claimants (w ∷ ws) d) (left r b free) 0) (sym (eqb-zero-suc q))
  first-given (suc q) (w ∷ ws) c d free (suc p) f =
      let o = f.below 0 (omega arith) in
      let b = claimant true (get_or ws q 0) in
      idle-suc w ws c free o p
      ∙ first-given q ws (lower c) (lower d) free p (first-later f)
      ∙ ap (λ (l : List ℕ). cond (eqb p q) (given b free) [] ++ l) (sym (idle-suc w ws d (left r b free) (f.others 0 (λ e. omega arith) ∙ o) p))
      ∙ ap (λ (t : Bool). cond t (given b free) [] ++ share (claimants (w ∷ ws) d) (left r b free) (suc p)) (sym (eqb-suc-suc p q))

  -- places that do not claim may be left out at the end
  pub only-first : (n : ℕ) (ws : List ℕ) (c : ℕ → Bool) (free : List ℕ) (p : ℕ) → ((i : ℕ) → n ≤ i → c i ≡ false)
      → get_or (grants r (claimants ws c) free) p [] ≡ get_or (grants r (claimants (take n ws) c) free) p []
  unfolding grants claimants
  only-first zero ws c free p h = grants-none r ws c free p (h p (omega arith))
  only-first (suc n) [] c free p h = refl
  only-first (suc n) (w ∷ ws) c free zero h = refl
  only-first (suc n) (w ∷ ws) c free (suc p) h = only-first n ws (lower c) (left r (claimant (c 0) w) free) p (λ i k. h (suc i) (omega arith))

  -- a place that is given cores claims
  pub granted-claims : (ws : List ℕ) (c : ℕ → Bool) (free : List ℕ) (p : ℕ) → granted r (claimants ws c) free p ≡ true → (p < length ws) × (c p ≡ true)
  unfolding grants claimants
  granted-claims [] c free p h = absurd (false≢true h)
  granted-claims (w ∷ ws) c free zero h = (omega arith, and_left (c 0) (leb w (length free)) (and_left (c 0 && leb w (length free)) (ltb 0 w) (sym (some-given (claimant (c 0) w) free) ∙ h)))
  granted-claims (w ∷ ws) c free (suc p) h = let g = granted-claims ws (lower c) (left r (claimant (c 0) w) free) p h in (omega arith, g.1)

-- ---- on a plain count of free cores, the claimants being the places of a set

-- place p is given cores where the set x of places claims n free cores
abbrev pub places : Rule → List ℕ → ℕ → ℕ → ℕ → Bool
places r ws x n p = granted r (claimants ws (bit x)) (up_from 0 n) p

-- and so on any list of that many free cores
pub places-on : (r : Rule) (ws : List ℕ) (x p : ℕ) (free : List ℕ) → places r ws x (length free) p ≡ granted r (claimants ws (bit x)) free p
places-on r ws x p free = same-places r (claimants ws (bit x)) (up_from 0 (length free)) free (up-length 0 (length free)) p

pub places-none : (r : Rule) (ws : List ℕ) (n p : ℕ) → places r ws 0 n p ≡ false
places-none r ws n p = grants-empty r ws (up_from 0 n) p

pub some-append : (a b : List ℕ) → some (a ++ b) ≡ some a || some b
some-append [] b = refl
some-append (x ∷ a) b = refl

some-cond : (t : Bool) (a : List ℕ) → some (cond t a []) ≡ t && some a
some-cond true a = refl
some-cond false a = refl

-- the first claimant is the lowest digit q of the set
module _ (r : Rule) (ws : List ℕ) (x q n p : ℕ) (l : Lowest x q) where
  abbrev b : Claimant
  b = claimant true (get_or ws q 0)

  first-granted : places r ws x n p ≡ (eqb p q && some (given b (up_from 0 n))) || granted r (claimants ws (bit (x - 2 ^ q))) (left r b (up_from 0 n)) p
  first-granted =
      ap some (first-given r q ws (bit x) (bit (x - 2 ^ q)) (up_from 0 n) p (first_of l))
      ∙ some-append (cond (eqb p q) (given b (up_from 0 n)) []) _
      ∙ ap (λ (t : Bool). t || granted r (claimants ws (bit (x - 2 ^ q))) (left r b (up_from 0 n)) p) (some-cond (eqb p q) (given b (up_from 0 n)))

  -- given nothing
  missed : given b (up_from 0 n) ≡ [] → places r ws x n p ≡ granted r (claimants ws (bit (x - 2 ^ q))) (left r b (up_from 0 n)) p
  missed e =
      let g = granted r (claimants ws (bit (x - 2 ^ q))) (left r b (up_from 0 n)) p in
      first-granted ∙ ap (λ (a : List ℕ). eqb p q && some a || g) e ∙ ap (λ (t : Bool). t || g) (and-false (eqb p q)) ∙ false-or g

  pub places-fits : get_or ws q 0 ≤ n → places r ws x n p ≡ (eqb p q && ltb 0 (get_or ws q 0)) || places r ws (x - 2 ^ q) (n - get_or ws q 0) p
  places-fits k =
      let w = get_or ws q 0 in
      let u = up_from 0 n in
      let m : w ≤ length u = omega (arith, up-length 0 n) in
      let f = fitting r b u refl (le-leb w (length u) m) in
      let e : length (drop w u) ≡ length (up_from 0 (n - w)) = length-drop w u ∙ ap (λ (i : ℕ). i - w) (up-length 0 n) ∙ sym (up-length 0 (n - w)) in
      first-granted
      ∙ ap₂ (λ (g o : List ℕ). eqb p q && some g || granted r (claimants ws (bit (x - 2 ^ q))) o p) f.0 f.1
      ∙ ap₂ (λ (s t : Bool). eqb p q && s || t) (some-take w u m) (same-places r (claimants ws (bit (x - 2 ^ q))) (drop w u) (up_from 0 (n - w)) e p)

  misfits : n < get_or ws q 0 → leb (get_or ws q 0) (length (up_from 0 n)) ≡ false
  misfits k = lt-leb (get_or ws q 0) (length (up_from 0 n)) (omega (arith, up-length 0 n))

  pub places-passed : n < get_or ws q 0 → ends_choosing r ≡ false → places r ws x n p ≡ places r ws (x - 2 ^ q) n p
  places-passed k e =
      let f = passed r b (up_from 0 n) refl (misfits k) e in
      missed f.0 ∙ ap (λ (o : List ℕ). granted r (claimants ws (bit (x - 2 ^ q))) o p) f.1

  pub places-ended : n < get_or ws q 0 → ends_choosing r ≡ true → places r ws x n p ≡ false
  places-ended k e =
      let f = ended r b (up_from 0 n) refl (misfits k) e in
      missed f.0 ∙ ap (λ (o : List ℕ). granted r (claimants ws (bit (x - 2 ^ q))) o p) f.1 ∙ none-granted r (claimants ws (bit (x - 2 ^ q))) p
