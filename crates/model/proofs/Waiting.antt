-- Who keeps a job waiting in a tick: cores that are given to places above, as many as it needs.
use mathlib.Core.Bool.{Bool, ◌&&◌, cond, false, true, true≢false}
use mathlib.Core.List.{List, [], ◌∷◌}
use mathlib.Core.Logic.{inl, inr, ◌⊎◌, ⊎_elim}
use mathlib.Core.Path.{ap, refl, subst, sym, ◌∙◌, ◌≡◌}
use Prim.Native.Nat.{◌%◌, ◌*◌, ◌+◌, ◌-◌, ◌<◌, suc, zero, ℕ, ◌≤◌}
use native.Mathlib.Nat.{eq-or-lt_of_le, le-max_left, le-max_right, le_of_eq, le_of_suc-le-suc, le_trans}
use native.Mathlib.Nat.{not-suc-le-zero}
use native.Mathlib.Omega.{arith}
use lib.Dec.{eqb, leb}
use lib.ListN.{drop, get_or, length, length-drop, length-map, take}
use borrow.Author.Tests.{eqb-false, leb-false, leb-true}
use Rattle.model.proofs.Grants.{claimant, runs-if}
use Rattle.model.proofs.Lists.{map_at}
use Rattle.model.specs.Jobs.{Book}
use Rattle.model.specs.Claims.{in_row, task_claims, widths}
use Rattle.model.specs.Fence.{unfenced_cores}
use Rattle.model.specs.Grants.{claimants, ends_choosing, given, grants, left, some}
use Rattle.model.specs.Interference.{largest_below, need, refused_width, sum_below}
use Rattle.model.specs.Task.{AllValid, Rule, ValidTask, Table, Task, narrowest, newest, absent_task, task, widest, width_of}

-- SUMS

pub sum-le : (n : ℕ) (f g : ℕ → ℕ) → ((i : ℕ) → i < n → f i ≤ g i) → sum_below n f ≤ sum_below n g
unfolding sum_below
sum-le zero f g h = omega arith
sum-le (suc n) f g h = omega (arith, sum-le n f g (λ i l. h i (omega arith)), h n (omega arith))

pub sum-add : (n : ℕ) (f g : ℕ → ℕ) → sum_below n (λ i. f i + g i) ≡ sum_below n f + sum_below n g
unfolding sum_below
sum-add zero f g = refl
sum-add (suc n) f g = omega (arith, sum-add n f g)

pub sum_first : (n : ℕ) (f : ℕ → ℕ) → sum_below (suc n) f ≡ f 0 + sum_below n (λ i. f (suc i))
unfolding sum_below
sum_first zero f = omega arith
sum_first (suc n) f = omega (arith, sum_first n f)

pub largest-le : (n : ℕ) (f : ℕ → ℕ) (i : ℕ) → i < n → f i ≤ largest_below n f
unfolding largest_below
largest-le zero f i l = absurd (not-suc-le-zero l)
largest-le (suc n) f i l =
    ⊎_elim
    (λ (q : i ≡ n). le_trans (le_of_eq (ap f q)) (le-max_right (largest_below n f) (f n)))
    (λ (q : i < n). le_trans (largest-le n f i q) (le-max_left (largest_below n f) (f n)))
    (eq-or-lt_of_le (le_of_suc-le-suc l))

-- WHO KEEPS A JOB WAITING IN A TICK

-- a place uses up no more free cores than it is given, unless it ends the choosing
some_or_none : (w : ℕ) (F : List ℕ) → w ≤ length F → length F ≤ length F - w + cond (some (take w F)) w 0
some_or_none zero F l = omega arith
some_or_none (suc w) [] l = absurd (not-suc-le-zero l)
some_or_none (suc w) (x ∷ F) l = omega arith

spent :
    (r : Rule) (c : Bool) (w : ℕ) (F : List ℕ)
    → (length F ≤ length (left r (claimant c w) F) + cond (some (given (claimant c w) F)) w 0) ⊎ ((ends_choosing r ≡ true) × (length F < w))
unfolding left given
spent r false w F = inl (omega arith)
spent r true w F = go (leb w (length F)) refl (ends_choosing r) refl
  where
    go : (t : Bool) → leb w (length F) ≡ t → (u : Bool) → ends_choosing r ≡ u
        → (length F ≤ length (cond t (drop w F) (cond u [] F)) + cond (some (cond t (take w F) [])) w 0) ⊎ ((u ≡ true) × (length F < w))
    go true q u i = inl (rw length-drop (some_or_none w F (leb-true w (length F) q)))
    go false q true i = inr (refl, leb-false w (length F) q)
    go false q false i = inl (omega arith)

-- so a place that claims and is given none has fewer free cores than W, once those are taken off that the places above are given
competing :
    (r : Rule) (ws : List ℕ) (c : ℕ → Bool) (F : List ℕ) (p W : ℕ)
    → p < length ws → c p ≡ true → 1 ≤ get_or ws p 0 → get_or ws p 0 ≤ W
    → (ends_choosing r ≡ true → (q : ℕ) → q < p → get_or ws q 0 ≤ W)
    → some (get_or (grants r (claimants ws c) F) p []) ≡ false
    → length F < W + sum_below p (λ i. cond (some (get_or (grants r (claimants ws c) F) i [])) (get_or ws i 0) 0)
unfolding grants claimants
competing r [] c F p W l cp pos own up e = absurd (not-suc-le-zero l)
competing r (w ∷ ws) c F zero W l cp pos own up e = unfold sum_below in go (leb w (length F)) refl
  where
    go : (t : Bool) → leb w (length F) ≡ t → length F < W + 0
    go true q =
        absurd (true≢false (sym (runs-if (claimant (c 0) w) F (record { claiming = cp; wide = pos; room = leb-true w (length F) q })) ∙ e))
    go false q = omega (arith, leb-false w (length F) q)
competing r (w ∷ ws) c F (suc p) W l cp pos own up e =
    rw (sum_first p (λ i. cond (some (get_or (grants r (claimants (w ∷ ws) c) F) i [])) (get_or (w ∷ ws) i 0) 0))
    (⊎_elim
    (λ (h : length F ≤ length (left r (claimant (c 0) w) F) + cond (some (given (claimant (c 0) w) F)) w 0).
    let ih = competing r ws (λ q. c (suc q)) (left r (claimant (c 0) w) F) p W (omega arith) cp pos own (λ u q g. up u (suc q) (omega arith)) e in
    omega arith)
    (λ (h : (ends_choosing r ≡ true) × (length F < w)). let wide = up h.0 0 (omega arith) in omega arith)
    (spent r (c 0) w F))

width-most : (τ : Task) (k : ℕ) → width_of τ k ≤ widest τ
width-most τ k = go (eqb (k % 2) 0)
  where
    go : (t : Bool) → cond t τ.odd_width τ.even_width ≤ widest τ
    go true = le-max_left τ.odd_width τ.even_width
    go false = le-max_right τ.odd_width τ.even_width

width_some : (τ : Task) → ValidTask τ → (k : ℕ) → 1 ≤ width_of τ k
width_some τ h k = go (eqb (k % 2) 0)
  where
    go : (t : Bool) → 1 ≤ cond t τ.odd_width τ.even_width
    go true = h.odd_pos
    go false = h.even-pos

-- 1 if a place is given cores
abbrev pub once : Bool → ℕ
once t = cond t 1 0

-- the jobs of the larger width: those of parity 0 where v is no smaller than w, else those of parity 1
abbrev pub wider_parity : Task → ℕ
wider_parity τ = cond (leb τ.even_width τ.odd_width) 0 1

abbrev pub is_wider : Task → ℕ → Bool
is_wider τ k = eqb (k % 2) (wider_parity τ)

-- what a place is given in a tick: its smaller width, and in a tick of a wider job the rest
weighed : (τ : Task) (k : ℕ) (t : Bool) → cond t (width_of τ k) 0 ≤ narrowest τ * once t + (widest τ - narrowest τ) * once (t && is_wider τ k)
weighed τ k false = omega arith
weighed τ k true = go (leb τ.even_width τ.odd_width) refl (eqb (k % 2) 0) refl (eqb (k % 2) 1) refl
  where
    go : (t : Bool) → leb τ.even_width τ.odd_width ≡ t → (u : Bool) → eqb (k % 2) 0 ≡ u → (v : Bool) → eqb (k % 2) 1 ≡ v
        → cond u τ.odd_width τ.even_width ≤ narrowest τ * 1 + (widest τ - narrowest τ) * once (eqb (k % 2) (cond t 0 1))
    go true q true r v w = rw r (omega (arith, leb-true τ.even_width τ.odd_width q))
    go true q false r v w = rw r (omega (arith, leb-true τ.even_width τ.odd_width q))
    go false q true r v w = omega (arith, leb-false τ.even_width τ.odd_width q)
    go false q false r true w = rw w (omega (arith, leb-false τ.even_width τ.odd_width q))
    go false q false r false w = absurd (omega (arith, eqb-false (k % 2) 0 r, eqb-false (k % 2) 1 w))

-- in a tick in which place p claims and is given no cores, the places above are given as many as it needs
pub kept-waiting :
    (s : Table) → AllValid s → (b : Book) (p : ℕ) → p < length s.tasks → task_claims s b p ≡ true → in_row s b p ≡ false
    → need s p
    ≤ sum_below p (λ i.
    narrowest (task s i) * once (in_row s b i)
    + (widest (task s i) - narrowest (task s i)) * once (in_row s b i && is_wider (task s i) (newest (task s i) b.tick)))
unfolding need
kept-waiting s ok b p l c e =
    let t = competing s.rule ws (task_claims s b) (unfenced_cores s) p (refused_width s p) (rw length-map l) c
    (rw (at p l) (width_some (task s p) (ok p l) (newest (task s p) b.tick))) (own (ends_choosing s.rule) refl p l (omega arith) (λ q. refl))
    (λ u q g. own (ends_choosing s.rule) refl q (omega arith) (omega arith) (λ v. absurd (true≢false (sym u ∙ v)))) e in
    let m = sum-le p (λ i. cond (in_row s b i) (get_or ws i 0) 0)
    (λ i.
    narrowest (task s i) * once (in_row s b i)
    + (widest (task s i) - narrowest (task s i)) * once (in_row s b i && is_wider (task s i) (newest (task s i) b.tick)))
    (λ i g. rw (at i (omega arith)) (weighed (task s i) (newest (task s i) b.tick) (in_row s b i))) in
    omega arith
  where
    ws : List ℕ
    ws = widths s b.tick

    at : (q : ℕ) → q < length s.tasks → get_or ws q 0 ≡ width_of (task s q) (newest (task s q) b.tick)
    at q g = map_at (λ τ. width_of τ (newest τ b.tick)) s.tasks q 0 absent_task g

    below : (q : ℕ) → q < length s.tasks → get_or ws q 0 ≤ widest (task s q)
    below q g = rw (at q g) (width-most (task s q) (newest (task s q) b.tick))

    own : (t : Bool) → ends_choosing s.rule ≡ t → (q : ℕ) → q < length s.tasks → q < suc p → (t ≡ false → q ≡ p) → get_or ws q 0 ≤ refused_width s p
    own true i q g h same = unfold refused_width in rw i (le_trans (below q g) (largest-le (suc p) (λ i. widest (task s i)) q h))
    own false i q g h same = unfold refused_width in rw i (subst (λ (x : ℕ). get_or ws q 0 ≤ widest (task s x)) (same refl) (below q g))
