-- What holds while the claimants of a tick are served, one iteration each: each place's set and what the rest will give it stay what all give it;
-- when none is left, the sets are the model's grants.
use borrow.Author.Tests.{eqb-true, eqb-false}
use native.Mathlib.Omega.{arith}
use mathlib.Core.Path.{◌≡◌, refl, sym, ap, ◌∙◌}
use mathlib.Core.Bool.{Bool, true, false, cond, true≢false}
use mathlib.Core.List.{List, [], ◌++◌, map, append-nil, append_assoc}
use Prim.Native.Nat.{ℕ, ◌+◌, ◌-◌, ◌^◌, ◌≤◌, ◌<◌}
use lib.Count.{ones}
use lib.Dec.{eqb}
use lib.ListN.{length, get_or, take, drop, set as put, replicate, length-set, length-take, length-drop, length-map, length-replicate, get_or-replicate, get_or-map}
use lib.Seq.{ext_get_or, get_or-take, get_or-drop, get_or-set_same, get_or-set_other}
use Rattle.model.specs.Task.{Rule}
use Rattle.model.specs.Search.{bit}
use Rattle.model.specs.Grants.{Claimant, claimants, grants}
use Rattle.model.proofs.Lists.{get_d-zeros}
use Rattle.model.proofs.Digits.{Lowest, bit-none}
use Rattle.model.proofs.Grants.{claimant, claimants-same, grants-none, grants-length}
use Rattle.cores.specs.Cores.{cores}
use Rattle.rule.specs.Granted.{selection, given_by, left_by, GrantedAs}
use Rattle.rule.specs.declared.Selection.{Selection}
use Rattle.rule.specs.declared.Selection.TheVariants.{Takes, Passed, Ends}
use Rattle.cores.proofs.Cores.{cores-none, cores-length, back-of}
use Rattle.model.proofs.Lending.{grants-nothing}
use Rattle.rule.proofs.Granting.{Case, answer-means, same-either}
use Rattle.rule.proofs.Choosing.{first_of, first-given}

-- what place p is given where the set x of places claims
abbrev pub share : Rule → List ℕ → ℕ → List ℕ → ℕ → List ℕ
share r ws x free p = get_or (grants r (claimants ws (bit x)) free) p []

-- what holds before each iteration; ws are the widths that are read, set the free cores
pub record Held (r : Rule) (ws : List ℕ) (claims free count : ℕ) (sets : List ℕ) (rest set : ℕ) : Type 0 where
  pub fit : rest < 2 ^ 32
  pub whole : set < 2 ^ 64
  pub size : length sets ≡ 32
  -- no set yet for the rest, and none past the count
  pub due : (p : ℕ) → bit rest p ≡ true → get_or sets p 0 ≡ 0
  pub past : (p : ℕ) → count ≤ p → get_or sets p 0 ≡ 0
  -- the sets, and what the rest gives
  pub gives : (p : ℕ) → cores (get_or sets p 0) ++ share r ws rest (cores set) p ≡ share r ws claims (cores free) p

pub begun : (r : Rule) (ws : List ℕ) (claims free count : ℕ) → claims < 2 ^ 32 → free < 2 ^ 64 → Held r ws claims free count (replicate 32 0) claims free
begun r ws claims free count h k = record {
  fit = h;
  whole = k;
  size = refl;
  due = λ p z. get_d-zeros 32 p;
  past = λ p z. get_d-zeros 32 p;
  gives = λ p. ap (λ (x : List ℕ). x ++ share r ws claims (cores free) p) (ap cores (get_d-zeros 32 p) ∙ cores-none);
}

-- ---- one iteration, at the lowest digit q of the rest; y is the rest after it

module _ (r : Rule) (ws : List ℕ) (claims free count : ℕ) (sets : List ℕ) (rest set q y : ℕ) (h : Held r ws claims free count sets rest set) (l : Lowest rest q) (e : y ≡ rest - 2 ^ q) where
  abbrev pub width : ℕ
  width = get_or ws q 0

  gone : (p : ℕ) → bit y p ≡ true → (p ≡ q → ⊥) × (bit rest p ≡ true)
  gone p k =
      let g : bit (rest - 2 ^ q) p ≡ true = rw (← e) k in
      let n : p ≡ q → ⊥ = λ z. true≢false (sym g ∙ ap (bit (rest - 2 ^ q)) z ∙ l.gone) in
      (n, sym (l.others p n) ∙ g)

  less : y < 2 ^ 32
  less = omega (arith, h.fit)

  -- the rule's answer to it, of the free cores
  answer : (s : Selection) → selection r (ones set) width ≡ s → Case r (claimant true width) (cores set) (given_by s width (cores set)) (left_by s width (cores set))
  answer s a = answer-means r width (cores set) s (ap (λ (n : ℕ). selection r n width) (cores-length set h.whole) ∙ a)

  one-step : (s : Selection) → selection r (ones set) width ≡ s → (p : ℕ)
      → share r ws rest (cores set) p ≡ cond (eqb p q) (given_by s width (cores set)) [] ++ share r ws y (left_by s width (cores set)) p
  one-step s a p = rw (e, ← (answer s a).0, ← (answer s a).1) (first-given r q ws (bit rest) (bit (rest - 2 ^ q)) (cores set) p (first_of l))

  -- it takes its cores
  module _ (c : q < count) (s : ℕ) (k : s < 2 ^ 64) (g : cores s ≡ take width (cores set)) (a : selection r (ones set) width ≡ Takes) where
    stored : (p : ℕ) (t : Bool) → q < 32 → eqb p q ≡ t → cores (get_or (put sets q s) p 0) ≡ cores (get_or sets p 0) ++ cond t (cores s) []
    stored p true k z =
        let i : p ≡ q = eqb-true p q z in
        ap (λ (j : ℕ). cores (get_or (put sets q s) j 0)) i
        ∙ ap cores (get_or-set_same sets q s 0 (omega (arith, h.size)))
        ∙ ap (λ (x : List ℕ). x ++ cores s) (sym (ap cores (ap (λ (j : ℕ). get_or sets j 0) i ∙ h.due q l.here) ∙ cores-none))
    stored p false k z = ap cores (get_or-set_other sets q p s 0 (eqb-false p q z)) ∙ sym (append-nil (cores (get_or sets p 0)))

    behind : cores (set - s) ≡ drop width (cores set)
    behind = back-of set width s h.whole k g

    served-one : (p : ℕ) → share r ws rest (cores set) p ≡ cond (eqb p q) (cores s) [] ++ share r ws y (cores (set - s)) p
    served-one p = rw (g, behind) (one-step Takes a p)

    pub taken : q < 32 → Held r ws claims free count (put sets q s) y (set - s)
    taken k = record {
      fit = less;
      whole = omega (arith, h.whole);
      size = length-set sets q s ∙ h.size;
      due = λ p z. get_or-set_other sets q p s 0 (gone p z).0 ∙ h.due p (gone p z).1;
      past = λ p z. get_or-set_other sets q p s 0 (λ (i : p ≡ q). omega arith) ∙ h.past p z;
      gives = λ p.
          let o = share r ws y (cores (set - s)) p in
          ap (λ (x : List ℕ). x ++ o) (stored p (eqb p q) k refl) ∙ append_assoc (cores (get_or sets p 0)) (cond (eqb p q) (cores s) []) o
          ∙ ap (λ (x : List ℕ). cores (get_or sets p 0) ++ x) (sym (served-one p)) ∙ h.gives p;
    }

  -- it is given nothing: what the rest gives is what those below it are given
  nothing : (s : Selection) → selection r (ones set) width ≡ s → given_by s width (cores set) ≡ [] → (p : ℕ) → share r ws rest (cores set) p ≡ share r ws y (left_by s width (cores set)) p
  nothing s a z p =
      one-step s a p ∙ ap (λ (x : List ℕ). cond (eqb p q) x [] ++ share r ws y (left_by s width (cores set)) p) z
      ∙ ap (λ (x : List ℕ). x ++ share r ws y (left_by s width (cores set)) p) (same-either (eqb p q) [])

  -- it is skipped
  pub passed_over : selection r (ones set) width ≡ Passed → Held r ws claims free count sets y set
  passed_over a = record {
    fit = less;
    whole = h.whole;
    size = h.size;
    due = λ p z. h.due p (gone p z).1;
    past = h.past;
    gives = λ p. ap (λ (x : List ℕ). cores (get_or sets p 0) ++ x) (sym (nothing Passed a refl p)) ∙ h.gives p;
  }

  -- it ends the choosing
  pub over : selection r (ones set) width ≡ Ends → Held r ws claims free count sets 0 set
  over a = record {
    fit = omega arith;
    whole = h.whole;
    size = h.size;
    due = λ p z. absurd (true≢false (sym z ∙ bit-none p));
    past = h.past;
    gives = λ p.
        let none : share r ws 0 (cores set) p ≡ share r ws y [] p =
        grants-none r ws (bit 0) (cores set) p (bit-none p) ∙ sym (grants-nothing r (claimants ws (bit y)) p) in
        ap (λ (x : List ℕ). cores (get_or sets p 0) ++ x) (none ∙ sym (nothing Ends a refl p)) ∙ h.gives p;
  }

  -- it is past the count
  pub skipped : length ws ≤ q → Held r ws claims free count sets y set
  skipped k =
      let same : claimants ws (bit y) ≡ claimants ws (bit rest) = claimants-same ws (bit y) (bit rest) (λ i j. rw e (l.others i (λ z. omega arith))) in
      record {
        fit = less;
        whole = h.whole;
        size = h.size;
        due = λ p z. h.due p (gone p z).1;
        past = h.past;
        gives = λ p. ap (λ (bs : List Claimant). cores (get_or sets p 0) ++ get_or (grants r bs (cores set)) p []) same ∙ h.gives p;
      }

-- ---- when no one is left, the sets are the grants

module _ (r : Rule) (widths : List ℕ) (claims free count : ℕ) (sets : List ℕ) (set : ℕ) (size : length widths ≡ 32) (h : Held r (take count widths) claims free count sets 0 set) where
  abbrev pub ws : List ℕ
  ws = take count widths

  at_place : (p : ℕ) → cores (get_or sets p 0) ≡ share r ws claims (cores free) p
  at_place p =
      sym (append-nil (cores (get_or sets p 0)))
      ∙ ap (λ (x : List ℕ). cores (get_or sets p 0) ++ x) (sym (grants-none r ws (bit 0) (cores set) p (bit-none p))) ∙ h.gives p

  all-given : map cores (take count sets) ≡ grants r (claimants ws (bit claims)) (cores free)
  all-given =
      let n : length (map cores (take count sets)) ≡ length (take count sets) = length-map (take count sets) cores in
      let k : length (map cores (take count sets)) ≡ length (grants r (claimants ws (bit claims)) (cores free)) =
      omega (arith, n, length-take count sets, h.size, length-take count widths, grants-length r ws (bit claims) (cores free)) in
      ext_get_or [] (map cores (take count sets)) (grants r (claimants ws (bit claims)) (cores free)) k (λ i j.
      ap (get_or (map cores (take count sets)) i) (sym cores-none)
      ∙ get_or-map cores (take count sets) i 0
      ∙ ap cores (get_or-take count sets i 0 (omega (arith, n, length-take count sets))) ∙ at_place i)

  none-past : drop count sets ≡ replicate (32 - count) 0
  none-past =
      let k : length (drop count sets) ≡ 32 - count = length-drop count sets ∙ ap (λ (x : ℕ). x - count) h.size in
      ext_get_or 0 (drop count sets) (replicate (32 - count) 0) (k ∙ sym (length-replicate (32 - count) 0)) (λ i j.
      get_or-drop count sets i 0 ∙ h.past (count + i) (omega arith) ∙ sym (get_or-replicate (32 - count) i 0 0 (omega (arith, k))))

  pub all-granted : GrantedAs r (claimants ws (bit claims)) count free sets
  all-granted = record { gives = all-given; none = none-past }
