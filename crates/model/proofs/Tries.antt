-- HOW MANY TRIES A SEARCH TAKES: 21 upwards and 20 halvings, by its definition. More change nothing, where the deadline is at most 1,000,000.
use mathlib.Core.Bool.{Bool, cond, false, true}
use mathlib.Core.Logic.{◌⊎◌, inl, inr, ⊎_elim}
use mathlib.Core.Path.{ap, refl, subst, sym, ◌∙◌, ◌≡◌}
use Prim.Native.Nat.{◌*◌, ◌+◌, ◌-◌, ◌/◌, ◌<◌, min, suc, zero, ℕ, ◌≤◌}
use native.Mathlib.Nat.{le_of_suc-le-suc, mul-le-mul_left, not-suc-le-zero}
use native.Mathlib.Omega.{arith}
use lib.Dec.{leb, ltb}
use borrow.Author.Tests.{le-ltb, leb-false, leb-true, ltb-true}
use Rattle.model.proofs.Interference.{suffices-long, suffices-short}
use Rattle.model.proofs.Windows.{first_passes}
use Rattle.model.specs.Interference.{bound_from, first_window, most_halvings, most_tries, next_window, shortened_window, suffices, waits_in}
use Rattle.model.specs.Task.{Table, task}

-- the powers of two
unfoldable doubled : ℕ → ℕ
doubled zero = 1
doubled (suc k) = doubled k + doubled k

doubled-some : (k : ℕ) → 1 ≤ doubled k
unfolding doubled
doubled-some zero = omega arith
doubled-some (suc k) = omega (arith, doubled-some k)

doubled-20 : doubled 20 ≡ 1048576
unfolding doubled
doubled-20 = refl

-- twice the ticks of waiting, or the deadline
step : (C D L d : ℕ) → C ≤ L → L < D → 1 ≤ d → D < C + (suc L - C) * (d + d) → D < C + (suc (min D (L + (suc L - C))) - C) * d
step C D L d long short some few = go (leb (L + (suc L - C)) D) refl
  where
    twice : (n : ℕ) → D < C + n * (d + d) → D < C + (n + n) * d
    twice n h = omega arith

    go : (t : Bool) → leb (L + (suc L - C)) D ≡ t → D < C + (suc (min D (L + (suc L - C))) - C) * d
    go true q =
        let is : suc (min D (L + (suc L - C))) - C ≡ (suc L - C) + (suc L - C) = omega (arith, leb-true (L + (suc L - C)) D q) in
        subst (λ (x : ℕ). D < C + x * d) (sym is) (twice (suc L - C) few)
    go false q =
        let is : suc (min D (L + (suc L - C))) - C ≡ suc D - C = omega (arith, leb-false (L + (suc L - C)) D q) in
        subst (λ (x : ℕ). D < C + x * d) (sym is) (omega (arith, mul-le-mul_left (suc D - C) some))

module _ (s : Table) (e : ℕ → ℕ) (p : ℕ) where
  abbrev C : ℕ
  C = (task s p).length

  abbrev D : ℕ
  D = (task s p).deadline

  -- UPWARDS: the ticks of waiting double, so that after k tries more the deadline is reached
  first_more :
      (k n L : ℕ) → k ≤ n → C ≤ L → D < C + waits_in (task s p) L * doubled k → first_window s e p (suc n) L ≡ first_window s e p (suc k) L
  unfolding first_window doubled
  first_more zero n L m h few =
      ap (λ (t : Bool). cond (suffices s e p L) L (cond t (first_window s e p n (next_window (task s p) L)) (suc D))) last
      ∙ sym (ap (λ (t : Bool). cond (suffices s e p L) L (cond t (suc D) (suc D))) last)
    where
      last : ltb L D ≡ false
      last = le-ltb L D (omega arith)
  first_more (suc k) zero L m h few = absurd (not-suc-le-zero m)
  first_more (suc k) (suc n) L m h few =
      ap (λ (x : ℕ). cond (suffices s e p L) L x) (go (ltb L D) refl (first_more k n (next_window (task s p) L) (le_of_suc-le-suc m)))
    where
      go : (t : Bool) → ltb L D ≡ t
          → (C ≤ next_window (task s p) L → D < C + waits_in (task s p) (next_window (task s p) L) * doubled k
          → first_window s e p (suc n) (next_window (task s p) L) ≡ first_window s e p (suc k) (next_window (task s p) L))
          → cond t (first_window s e p (suc n) (next_window (task s p) L)) (suc D) ≡ cond t (first_window s e p (suc k) (next_window (task s p) L)) (suc D)
      go false q ih = refl
      go true q ih = ih (omega (arith, ltb-true L D q)) (step C D L (doubled k) h (ltb-true L D q) (doubled-some k) few)

  -- more than 21 tries find the same
  pub first-enough : D ≤ 1000000 → 1 ≤ C → (n : ℕ) → most_tries ≤ n → first_window s e p n C ≡ first_window s e p most_tries C
  first-enough short some zero m = absurd (omega arith)
  first-enough short some (suc n) m = first_more 20 n C (omega arith) (omega arith) (rw doubled-20 (one (omega arith)))
    where
      one : suc C - C ≡ 1 → D < C + (suc C - C) * 1048576
      one q = subst (λ (x : ℕ). D < C + x * 1048576) (sym q) (omega arith)

  pub first-most : (n L : ℕ) → first_window s e p n L ≤ suc D
  unfolding first_window
  first-most zero L = omega arith
  first-most (suc n) L = go (suffices s e p L) refl (ltb L D) (first-most n (next_window (task s p) L))
    where
      go : (t : Bool) → suffices s e p L ≡ t → (u : Bool) → first_window s e p n (next_window (task s p) L) ≤ suc D
          → cond t L (cond u (first_window s e p n (next_window (task s p) L)) (suc D)) ≤ suc D
      go true q u ih = omega (arith, suffices-short s e p L q)
      go false q true ih = ih
      go false q false ih = omega arith

  -- HALVINGS: what is known of two windows. The longer passes, or is past the deadline; and the shorter is at most one longer, unless that is so
  pub record Between (low high : ℕ) : Type 0 where
    pub passes : high ≤ D → suffices s e p high ≡ true
    pub order : (low ≤ suc high) ⊎ (D < high)

  pub between-shorter : (low high : ℕ) → Between low high → suffices s e p ((low + high) / 2) ≡ true → Between low ((low + high) / 2)
  between-shorter low high b q =
      let short = suffices-short s e p ((low + high) / 2) q in
      record { passes = λ h. q; order = inl (⊎_elim (λ h. omega arith) (λ h. omega arith) b.order) }

  pub between-longer : (low high : ℕ) → Between low high → Between (suc ((low + high) / 2)) high
  between-longer low high b = record { passes = b.passes; order = ⊎_elim (λ h. inl (omega arith)) inr b.order }

  -- where they have met nothing changes
  pub met : (n low high : ℕ) → Between low high → high ≤ low → shortened_window s e p n low high ≡ high
  unfolding shortened_window
  met zero low high b h = refl
  met (suc n) low high b h =
      go (suffices s e p mid) refl (λ q. met n low mid (between-shorter low high b q)) (met n (suc mid) high (between-longer low high b) (omega arith))
    where
      mid : ℕ
      mid = (low + high) / 2

      go : (t : Bool) → suffices s e p mid ≡ t
          → (suffices s e p mid ≡ true → mid ≤ low → shortened_window s e p n low mid ≡ mid)
          → shortened_window s e p n (suc mid) high ≡ high
          → shortened_window s e p n (cond t low (suc mid)) (cond t mid high) ≡ high
      go false q shorter longer = longer
      go true q shorter longer =
          let short = suffices-short s e p mid q in
          let same : mid ≡ high = ⊎_elim (λ g. omega arith) (λ g. absurd (omega arith)) b.order in
          shorter q (omega arith) ∙ same

  halvings-more : (k n low high : ℕ) → k ≤ n → Between low high → high < low + doubled k → shortened_window s e p n low high ≡ shortened_window s e p k low high
  unfolding shortened_window doubled
  halvings-more zero n low high m b h = met n low high b (omega arith)
  halvings-more (suc k) zero low high m b h = absurd (not-suc-le-zero m)
  halvings-more (suc k) (suc n) low high m b h =
      go (suffices s e p mid) refl (λ q. halvings-more k n low mid (le_of_suc-le-suc m) (between-shorter low high b q) (omega arith))
      (halvings-more k n (suc mid) high (le_of_suc-le-suc m) (between-longer low high b) (omega arith))
    where
      mid : ℕ
      mid = (low + high) / 2

      go : (t : Bool) → suffices s e p mid ≡ t
          → (suffices s e p mid ≡ true → shortened_window s e p n low mid ≡ shortened_window s e p k low mid)
          → shortened_window s e p n (suc mid) high ≡ shortened_window s e p k (suc mid) high
          → shortened_window s e p n (cond t low (suc mid)) (cond t mid high) ≡ shortened_window s e p k (cond t low (suc mid)) (cond t mid high)
      go true q shorter longer = shorter q
      go false q shorter longer = longer

  pub between_first : (n : ℕ) → Between C (first_window s e p n C)
  between_first n = record { passes = first_passes s e p n C; order = go (leb (first_window s e p n C) D) refl }
    where
      go : (t : Bool) → leb (first_window s e p n C) D ≡ t → (C ≤ suc (first_window s e p n C)) ⊎ (D < first_window s e p n C)
      go true q =
          let short = leb-true (first_window s e p n C) D q in
          inl (omega (arith, suffices-long s e p (first_window s e p n C) (first_passes s e p n C short)))
      go false q = inr (leb-false (first_window s e p n C) D q)

  -- and more than 20 halvings
  pub halvings-enough :
      D ≤ 1000000 → 1 ≤ C → (m n : ℕ) → most_halvings ≤ m
      → shortened_window s e p m C (first_window s e p n C) ≡ shortened_window s e p most_halvings C (first_window s e p n C)
  halvings-enough short some m n enough =
      halvings-more 20 m C (first_window s e p n C) enough (between_first n) (rw doubled-20 (omega (arith, first-most n C)))

  -- so the search ends by itself within 41 tries: more change nothing
  pub tries-enough :
      D ≤ 1000000 → 1 ≤ C → (m n : ℕ) → most_halvings ≤ m → most_tries ≤ n → shortened_window s e p m C (first_window s e p n C) ≡ bound_from s e p
  unfolding bound_from
  tries-enough short some m n enough tries =
      halvings-enough short some m n enough ∙ ap (shortened_window s e p most_halvings C) (first-enough short some n tries)
