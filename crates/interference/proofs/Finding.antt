-- The window of a place by steps: what each try tells of the one that is sought.
use mathlib.Core.Bool.{Bool, cond, false, true}
use mathlib.Core.List.{List}
use mathlib.Core.Path.{ap, refl, sym, ◌∙◌, ◌≡◌}
use Prim.Native.Nat.{◌*◌, ◌+◌, ◌-◌, ◌/◌, ◌<◌, min, suc, zero, ℕ, ◌≤◌}
use native.Mathlib.Numerals.{add-one}
use native.Mathlib.Omega.{arith}
use lib.Dec.{ltb}
use lib.ListN.{get_or}
use borrow.Author.Tests.{le-leb, le-ltb, lt-ltb}
use Rattle.model.specs.Interference.{bound_from, first_window, interference_in, most_halvings, most_tries, need, next_window, shortened_window, suffices, waits_in}
use Rattle.model.specs.Task.{Table, task}
use Rattle.std.proofs.lemmas.Bool.{false_from_ne_true}
use Rattle.model.proofs.Interference.{suffices-short}
use Rattle.model.proofs.Tries.{Between, between_first, between-longer, between-shorter, first-most, met}

-- the windows that a list has
abbrev pub bounds_at : List ℕ → ℕ → ℕ
bounds_at ends i = get_or ends i 0

module _ (s : Table) (ends : List ℕ) (p : ℕ) where
  abbrev e : ℕ → ℕ
  e = bounds_at ends

  abbrev C : ℕ
  C = (task s p).length

  abbrev D : ℕ
  D = (task s p).deadline

  -- a window within the deadline passes exactly if the interference is small enough
  pub test-value :
      (window given waits wanted : ℕ) → window ≤ D → waits ≡ waits_in (task s p) window → given ≡ interference_in s e p window waits → wanted ≡ need s p
      → ltb given (waits * wanted) ≡ suffices s e p window
  unfolding suffices
  test-value window given waits wanted short we ge ne = rw (ge, we, ne, le-leb window D short) refl

  -- UPWARDS: the window sought is the first that passes from this one on, in the tries that are left
  pub record Trying (tries window : ℕ) : Type 0 where
    pub rest : ℕ
    pub left : tries + rest ≡ most_tries
    pub long : C ≤ window
    pub short : window ≤ D
    pub same : first_window s e p most_tries C ≡ first_window s e p rest window

  pub trying_start : C ≤ D → Trying 0 C
  trying_start h = record { rest = most_tries; left = refl; long = omega arith; short = h; same = refl }

  one-try : (n window : ℕ) → first_window s e p (suc n) window ≡ cond (suffices s e p window) window (cond (ltb window D) (first_window s e p n (next_window (task s p) window)) (suc D))
  unfolding first_window
  one-try n window = refl

  -- a try that is due is one of those left
  due-try : (tries rest : ℕ) → tries + rest ≡ most_tries → tries < most_tries → (n : ℕ) × (rest ≡ suc n)
  due-try tries zero h l = absurd (omega arith)
  due-try tries (suc n) h l = (n, refl)

  pub try-found : (tries window : ℕ) → Trying tries window → tries < most_tries → suffices s e p window ≡ true → window ≡ first_window s e p most_tries C
  try-found tries window k l q =
      let n = due-try tries k.rest k.left l in
      sym (k.same ∙ (ap (λ (x : ℕ). first_window s e p x window) n.1 ∙ (one-try n.0 window ∙ rw q refl)))

  pub try-last :
      (tries window : ℕ) → Trying tries window → tries < most_tries → suffices s e p window ≡ false → D ≤ window → D + 1 ≡ first_window s e p most_tries C
  try-last tries window k l q end =
      let n = due-try tries k.rest k.left l in
      add-one D
      ∙ sym (k.same ∙ (ap (λ (x : ℕ). first_window s e p x window) n.1 ∙ (one-try n.0 window ∙ rw (q, le-ltb window D end) refl)))

  pub try-next :
      (tries window next : ℕ) → Trying tries window → tries < most_tries → suffices s e p window ≡ false → window < D
      → next ≡ min D (window + (window + 1 - C)) → Trying (tries + 1) next
  try-next tries window next k l q short is =
      let n = due-try tries k.rest k.left l in
      let count = k.left in
      let one = n.1 in
      let long = k.long in
      let as-next : next ≡ next_window (task s p) window = is ∙ rw (add-one window) refl in
      record {
        rest = n.0;
        left = omega arith;
        long = omega arith;
        short = omega arith;
        same =
            k.same
            ∙ (ap (λ (x : ℕ). first_window s e p x window) n.1
            ∙ (one-try n.0 window ∙ (rw (q, lt-ltb window D short) refl ∙ ap (first_window s e p n.0) (sym as-next))));
      }

  -- all tries are done
  pub try-none : (tries window : ℕ) → Trying tries window → most_tries ≤ tries → D + 1 ≡ first_window s e p most_tries C
  try-none tries window k l = add-one D ∙ sym (k.same ∙ none k.rest (omega (arith, k.left)))
    where
      none : (n : ℕ) → n ≡ 0 → first_window s e p n window ≡ suc D
      none zero h = unfold first_window in refl
      none (suc n) h = absurd (omega arith)

  -- the job is longer than its deadline
  pub too_long : D < C → D + 1 ≡ first_window s e p most_tries C
  too_long past =
      add-one D
      ∙ sym (one-try 20 C ∙ rw (false_from_ne_true (suffices s e p C) (λ q. omega (arith, suffices-short s e p C q)), le-ltb C D (omega arith)) refl)

  -- HALVINGS: the bound sought is what the halvings that are left find between these two
  pub record Halving (tries low high : ℕ) : Type 0 where
    pub rest : ℕ
    pub left : tries + rest ≡ most_halvings
    pub long : C ≤ low
    pub most : high ≤ suc D
    pub between : Between s e p low high
    pub same : bound_from s e p ≡ shortened_window s e p rest low high

  pub halving-start : (first : ℕ) → first ≡ first_window s e p most_tries C → Halving 0 C first
  halving-start first q = record {
    rest = most_halvings;
    left = refl;
    long = omega arith;
    most = omega (arith, first-most s e p most_tries C);
    between = rw q (between_first s e p most_tries);
    same = unfold bound_from in ap (shortened_window s e p most_halvings C) (sym q);
  }

  -- they have met
  pub halving-met : (tries low high : ℕ) → Halving tries low high → high ≤ low → high ≡ bound_from s e p
  halving-met tries low high k l = sym (k.same ∙ met s e p k.rest low high k.between l)

  -- all halvings are done
  pub halving-done : (tries low high : ℕ) → Halving tries low high → most_halvings ≤ tries → high ≡ bound_from s e p
  halving-done tries low high k l = sym (k.same ∙ none k.rest (omega (arith, k.left)))
    where
      none : (n : ℕ) → n ≡ 0 → shortened_window s e p n low high ≡ high
      none zero h = unfold shortened_window in refl
      none (suc n) h = absurd (omega arith)

  due-halving : (tries rest : ℕ) → tries + rest ≡ most_halvings → tries < most_halvings → (n : ℕ) × (rest ≡ suc n)
  due-halving tries zero h l = absurd (omega arith)
  due-halving tries (suc n) h l = (n, refl)

  one-halving :
      (n low high : ℕ)
      → shortened_window s e p (suc n) low high
      ≡ shortened_window s e p n (cond (suffices s e p ((low + high) / 2)) low (suc ((low + high) / 2))) (cond (suffices s e p ((low + high) / 2)) ((low + high) / 2) high)
  unfolding shortened_window
  one-halving n low high = refl

  pub halving-next :
      (tries low high low' high' : ℕ) → Halving tries low high → tries < most_halvings → low < high
      → low' ≡ cond (suffices s e p ((low + high) / 2)) low (suc ((low + high) / 2))
      → high' ≡ cond (suffices s e p ((low + high) / 2)) ((low + high) / 2) high → Halving (tries + 1) low' high'
  halving-next tries low high low' high' k l some lq hq = record {
    rest = n.0;
    left = let count = k.left in let one = n.1 in omega arith;
    long = rw lq (long (suffices s e p mid));
    most = rw hq (most (suffices s e p mid));
    between = rw (lq, hq) (between (suffices s e p mid) refl);
    same = k.same ∙ (ap (λ (x : ℕ). shortened_window s e p x low high) n.1 ∙ (one-halving n.0 low high ∙ rw (lq, hq) refl));
  }
    where
      mid : ℕ
      mid = (low + high) / 2

      n : (n : ℕ) × (k.rest ≡ suc n)
      n = due-halving tries k.rest k.left l

      long : (t : Bool) → C ≤ cond t low (suc mid)
      long true = k.long
      long false = omega (arith, k.long)

      most : (t : Bool) → cond t mid high ≤ suc D
      most true = omega (arith, k.most)
      most false = k.most

      between : (t : Bool) → suffices s e p mid ≡ t → Between s e p (cond t low (suc mid)) (cond t mid high)
      between true q = between-shorter s e p low high k.between q
      between false q = between-longer s e p low high k.between
