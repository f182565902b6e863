-- The windows of a table: each reads those above it alone, and where all pass no deadline is missed.
use mathlib.Core.Bool.{◌&&◌, Bool, cond, false, true, true≢false}
use mathlib.Core.List.{[], ◌∷◌}
use mathlib.Core.Logic.{⊎_elim}
use mathlib.Core.Path.{ap, ap₂, refl, sym, ◌∙◌, ◌≡◌}
use Prim.Native.Nat.{◌*◌, ◌+◌, ◌/◌, ◌<◌, suc, zero, ℕ, ◌≤◌}
use native.Mathlib.Nat.{eq-or-lt_of_le, le_of_suc-le-suc, not-suc-le-zero}
use native.Mathlib.Omega.{arith}
use lib.Dec.{leb, ltb}
use lib.ListN.{get_or-append, get_or, length, length-append}
use lib.Seq.{get_or_at}
use borrow.Author.Tests.{ltb-false, not-true}
use Rattle.std.proofs.lemmas.Bool.{false_from_ne_true}
use Rattle.model.proofs.Interference.{interference-ends, interference-meets}
use Rattle.model.proofs.Search.{any_of}
use Rattle.model.specs.Lists.{NeverMissed}
use Rattle.model.specs.Interference.{EndsWithin, bound_from, bounds_to, cores_in, first_window, interference_in, interference_test_passes, most_halvings, most_tries, need, next_window, response_bound, shortened_window, suffices, sum_below, waits_in}
use Rattle.model.specs.Search.{any}
use Rattle.model.specs.Task.{AllValid, Table, task}

-- THE TEST READS THE WINDOWS ABOVE ALONE
pub sum_same : (n : ℕ) (f g : ℕ → ℕ) → ((i : ℕ) → i < n → f i ≡ g i) → sum_below n f ≡ sum_below n g
unfolding sum_below
sum_same zero f g h = refl
sum_same (suc n) f g h = ap₂ (λ (a b : ℕ). a + b) (sum_same n f g (λ i l. h i (omega arith))) (h n (omega arith))

pub interference-above : (s : Table) (e d : ℕ → ℕ) (p L n : ℕ) → ((i : ℕ) → i < p → e i ≡ d i) → interference_in s e p L n ≡ interference_in s d p L n
unfolding interference_in
interference-above s e d p L n h =
    sum_same p (λ i. cores_in (task s i) (e i) L n) (λ i. cores_in (task s i) (d i) L n)
    (λ i l. ap (λ (x : ℕ). cores_in (task s i) x L n) (h i l))

pub suffices-above : (s : Table) (e d : ℕ → ℕ) (p L : ℕ) → ((i : ℕ) → i < p → e i ≡ d i) → suffices s e p L ≡ suffices s d p L
unfolding suffices
suffices-above s e d p L h =
    ap (λ (x : ℕ). leb L (task s p).deadline && ltb x (waits_in (task s p) L * need s p)) (interference-above s e d p L (waits_in (task s p) L) h)

first_above : (s : Table) (e d : ℕ → ℕ) (p n L : ℕ) → ((i : ℕ) → i < p → e i ≡ d i) → first_window s e p n L ≡ first_window s d p n L
unfolding first_window
first_above s e d p zero L h = refl
first_above s e d p (suc n) L h = rw (suffices-above s e d p L h, first_above s e d p n (next_window (task s p) L) h)

shortened-above :
    (s : Table) (e d : ℕ → ℕ) (p n low high : ℕ) → ((i : ℕ) → i < p → e i ≡ d i) → shortened_window s e p n low high ≡ shortened_window s d p n low high
unfolding shortened_window
shortened-above s e d p zero low high h = refl
shortened-above s e d p (suc n) low high h =
    rw (suffices-above s e d p ((low + high) / 2) h)
    (shortened-above s e d p n
    (cond (suffices s d p ((low + high) / 2)) low (suc ((low + high) / 2)))
    (cond (suffices s d p ((low + high) / 2)) ((low + high) / 2) high) h)

pub window-above : (s : Table) (e d : ℕ → ℕ) (p : ℕ) → ((i : ℕ) → i < p → e i ≡ d i) → bound_from s e p ≡ bound_from s d p
unfolding bound_from
window-above s e d p h =
    shortened-above s e d p most_halvings (task s p).length (first_window s e p most_tries (task s p).length) h
    ∙ ap (shortened_window s d p most_halvings (task s p).length) (first_above s e d p most_tries (task s p).length h)

-- THE WINDOWS, PLACE BY PLACE
pub windows-length : (s : Table) (n : ℕ) → length (bounds_to s n) ≡ n
unfolding bounds_to
windows-length s zero = refl
windows-length s (suc n) = length-append (bounds_to s n) (response_bound s n ∷ []) ∙ omega (arith, windows-length s n)

pub windows-at : (s : Table) (n p : ℕ) → p < n → get_or (bounds_to s n) p 0 ≡ response_bound s p
unfolding bounds_to
windows-at s zero p l = absurd (not-suc-le-zero l)
windows-at s (suc n) p l =
    ⊎_elim
    (λ (q : p ≡ n).
    get_or_at (bounds_to s n) (response_bound s n) [] 0 p (windows-length s n ∙ sym q) ∙ ap (response_bound s) (sym q))
    (λ (q : p < n). get_or-append (bounds_to s n) (response_bound s n ∷ []) 0 p (omega (arith, windows-length s n)) ∙ windows-at s n p q)
    (eq-or-lt_of_le (le_of_suc-le-suc l))

-- WHAT PASSES

-- what is found within the deadline passes
pub first_passes : (s : Table) (e : ℕ → ℕ) (p n L : ℕ) → first_window s e p n L ≤ (task s p).deadline → suffices s e p (first_window s e p n L) ≡ true
unfolding first_window
first_passes s e p zero L h = absurd (omega arith)
first_passes s e p (suc n) L h = go (suffices s e p L) refl (ltb L (task s p).deadline) (first_passes s e p n (next_window (task s p) L)) h
  where
    go : (t : Bool) → suffices s e p L ≡ t → (u : Bool)
        → (first_window s e p n (next_window (task s p) L) ≤ (task s p).deadline → suffices s e p (first_window s e p n (next_window (task s p) L)) ≡ true)
        → cond t L (cond u (first_window s e p n (next_window (task s p) L)) (suc (task s p).deadline)) ≤ (task s p).deadline
        → suffices s e p (cond t L (cond u (first_window s e p n (next_window (task s p) L)) (suc (task s p).deadline))) ≡ true
    go true q u ih h = q
    go false q true ih h = ih h
    go false q false ih h = absurd (omega arith)

shortened-passes :
    (s : Table) (e : ℕ → ℕ) (p n low high : ℕ) → (high ≤ (task s p).deadline → suffices s e p high ≡ true)
    → shortened_window s e p n low high ≤ (task s p).deadline → suffices s e p (shortened_window s e p n low high) ≡ true
unfolding shortened_window
shortened-passes s e p zero low high k h = k h
shortened-passes s e p (suc n) low high k h =
    go (suffices s e p ((low + high) / 2)) refl (λ q. shortened-passes s e p n low ((low + high) / 2) (λ g. q)) (shortened-passes s e p n (suc ((low + high) / 2)) high k) h
  where
    mid : ℕ
    mid = (low + high) / 2

    Passes : ℕ → ℕ → Type 0
    Passes low high = shortened_window s e p n low high ≤ (task s p).deadline → suffices s e p (shortened_window s e p n low high) ≡ true

    go : (t : Bool) → suffices s e p mid ≡ t → (suffices s e p mid ≡ true → Passes low mid) → Passes (suc mid) high
        → Passes (cond t low (suc mid)) (cond t mid high)
    go true q shorter longer = shorter q
    go false q shorter longer = longer

bound-passes : (s : Table) (e : ℕ → ℕ) (p : ℕ) → bound_from s e p ≤ (task s p).deadline → suffices s e p (bound_from s e p) ≡ true
unfolding bound_from
bound-passes s e p =
    shortened-passes s e p most_halvings (task s p).length (first_window s e p most_tries (task s p).length)
    (first_passes s e p most_tries (task s p).length)

pub window-passes : (s : Table) (p : ℕ) → response_bound s p ≤ (task s p).deadline → suffices s (response_bound s) p (response_bound s p) ≡ true
window-passes s p h =
    suffices-above s (response_bound s) (λ i. get_or (bounds_to s p) i 0) p (response_bound s p) (λ i l. sym (windows-at s p i l))
    ∙ bound-passes s (λ i. get_or (bounds_to s p) i 0) p h

pub passes-within : (s : Table) → interference_test_passes s ≡ true → (p : ℕ) → p < length s.tasks → response_bound s p ≤ (task s p).deadline
unfolding interference_test_passes
passes-within s e p l =
    ltb-false (task s p).deadline (response_bound s p)
    (false_from_ne_true (ltb (task s p).deadline (response_bound s p)) (λ q.
    true≢false
    (sym (any_of (length s.tasks) (λ p. ltb (task s p).deadline (response_bound s p)) p l q)
    ∙ not-true (any (length s.tasks) (λ p. ltb (task s p).deadline (response_bound s p))) e)))

module _ (s : Table) (ok : AllValid s) (e : interference_test_passes s ≡ true) where
  -- each job has ended as many ticks after its release as its place's window has
  pub passes-ends : (p : ℕ) → p < length s.tasks → EndsWithin s p (response_bound s p)
  passes-ends = interference-ends s ok (response_bound s) (λ p l. window-passes s p (passes-within s e p l))

  -- THE TEST IS ENOUGH
  pub passes-meets : NeverMissed s
  passes-meets = interference-meets s ok (response_bound s) (λ p l. window-passes s p (passes-within s e p l))
