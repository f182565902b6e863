-- How often a place is given cores in a window: the densest is where the window begins with the end of a job, and each later one is given its first ticks.
use mathlib.Core.Bool.{Bool, ◌&&◌, cond, false, true, true≢false}
use mathlib.Core.Logic.{⊎_elim}
use mathlib.Core.Path.{ap, refl, subst, sym, ◌∙◌, ◌≡◌}
use Prim.Native.Nat.{◌%◌, ◌*◌, ◌+◌, ◌-◌, ◌/◌, ◌<◌, min, suc, zero, ℕ, ◌≤◌}
use native.Mathlib.Nat.{add-suc, add-zero, div-add-mod', div-mul-le_self, div-lt_iff_lt-mul, eq-or-lt_of_le, le_dest, le-div_iff_mul-le, le_of_suc-le-suc}
use native.Mathlib.Nat.{lt_of_mul-lt-mul_right, mul-le-mul_right, not-suc-le-zero}
use native.Mathlib.Omega.{arith}
use lib.Dec.{eqb, leb}
use lib.ListN.{length}
use borrow.Author.Tests.{eqb-true, leb-false, leb-true}
use Rattle.model.proofs.Bools.{and_both, and_left, and_right}
use Rattle.std.proofs.lemmas.Bool.{false_from_ne_true, true_from_ne_false}
use Rattle.model.proofs.Grants.{grants-none}
use Rattle.model.proofs.Jobs.{after-release, before-due, done-off, next-claimed}
use Rattle.model.proofs.Runs.{full-claimed, full-next, full-tick, bounds-full}
use Rattle.model.proofs.Waiting.{once}
use Rattle.model.specs.Jobs.{Job}
use Rattle.model.specs.Claims.{in_row, job_claims, served, task_claims, widths}
use Rattle.model.specs.Lists.{full}
use Rattle.model.specs.Fence.{unfenced_cores}
use Rattle.model.specs.Grants.{some}
use Rattle.model.specs.Interference.{workload_in}
use Rattle.model.specs.Task.{AllValid, Table, Task, due, newest, release, task}

-- HOW OFTEN A PLACE IS GIVEN CORES IN A WINDOW

-- in how many of the z ticks from x on the jobs f of place i are given cores
unfoldable pub got : Table → (ℕ → Bool) → ℕ → ℕ → ℕ → ℕ
got s f x i zero = 0
got s f x i (suc z) = got s f x i z + once (in_row s (full s (x + z)) i && f (newest (task s i) (full s (x + z)).tick))

once-most : (t : Bool) → once t ≤ 1
once-most true = omega arith
once-most false = omega arith

got-window : (s : Table) (f : ℕ → Bool) (x i z : ℕ) → got s f x i z ≤ z
unfolding got
got-window s f x i zero = omega arith
got-window s f x i (suc z) =
    omega (arith, got-window s f x i z, once-most (in_row s (full s (x + z)) i && f (newest (task s i) (full s (x + z)).tick)))

-- jobs of a task that are released T ticks apart: the j-th of them, and what tells them from the others
pub record Series (τ : Task) (f : ℕ → Bool) (T : ℕ) : Type 0 where
  pub nth : ℕ → ℕ
  pub begin : ℕ
  pub apart : (j : ℕ) → release τ (nth j) ≡ begin + j * T
  pub slow : τ.period ≤ T
  pub find : (k : ℕ) → f k ≡ true → (j : ℕ) × (nth j ≡ k)

-- all jobs
pub every : (τ : Task) → Series τ (λ k. true) τ.period
every τ = record { nth = λ j. j; begin = τ.offset; apart = λ j. refl; slow = omega arith; find = λ k h. (k, refl) }

-- those of one parity
pub every_second : (τ : Task) (o : ℕ) → Series τ (λ k. eqb (k % 2) o) (2 * τ.period)
every_second τ o = record {
  nth = λ j. o + j * 2;
  begin = τ.offset + o * τ.period;
  apart = λ j. omega arith;
  slow = omega arith;
  find = λ k h. (k / 2, omega (arith, eqb-true (k % 2) o h));
}

-- d whole jobs and what is left of a span of Q ticks are no more than the most that begin in it
fill : (C T Q d g : ℕ) → 0 < T → d * T ≤ Q → g ≤ d * C + min C (Q - d * T) → g ≤ Q / T * C + min C (Q % T)
fill C T Q d g pos h b =
    ⊎_elim
    (λ (q : d ≡ Q / T). omega (arith, div-add-mod' Q T, ap (λ (x : ℕ). x * T) q, ap (λ (x : ℕ). x * C) q))
    (λ (q : d < Q / T). omega (arith, mul-le-mul_right C q))
    (eq-or-lt_of_le ((le-div_iff_mul-le pos).1 h))

-- a first job in y ticks of a window at most, whole jobs, and a last one that is given c ticks since its release
densest-one :
    (C T L e y g c : ℕ) → 0 < T → C ≤ e → g ≤ L → c ≤ C → c ≤ L + e - y → g ≤ min y c
    → g ≤ (L + e - C) / T * C + min C ((L + e - C) % T)
densest-one C T L e y g c pos long w c-C c-L b = fill C T (L + e - C) 0 g pos (omega arith) (omega arith)

densest-more :
    (C T L e y d g c : ℕ) → 0 < T → C ≤ T → C ≤ e → suc d * T ≤ L + e - y → c ≤ C → c ≤ L + e - y - suc d * T
    → g ≤ min y C + d * C + c
    → g ≤ (L + e - C) / T * C + min C ((L + e - C) % T)
densest-more C T L e y d g c pos small long begun c-C c-L b = go (leb (suc d * T) (L + e - C)) refl
  where
    go : (t : Bool) → leb (suc d * T) (L + e - C) ≡ t → g ≤ (L + e - C) / T * C + min C ((L + e - C) % T)
    go true q = let h = leb-true (suc d * T) (L + e - C) q in fill C T (L + e - C) (suc d) g pos h (omega arith)
    go false q = let h = leb-false (suc d * T) (L + e - C) q in fill C T (L + e - C) d g pos (omega arith) (omega arith)

-- each job of place i is given cores only in the e ticks from its release on
abbrev pub ServedWithin : Table → ℕ → ℕ → Type 0
ServedWithin s i e = (k t : ℕ) → served s (full s t) i k ≡ true → t < release (task s i) k + e

module _ (s : Table) (ok : AllValid s) (i : ℕ) (l : i < length s.tasks) where
  abbrev τ : Task
  τ = task s i

  -- who is given cores has a job that claims, the newest
  in-row-served : (t : ℕ) → in_row s (full s t) i ≡ true → served s (full s t) i (newest τ (full s t).tick) ≡ true
  unfolding served
  in-row-served t e = and_both (task_claims s (full s t) i) (in_row s (full s t) i) (true_from_ne_false (task_claims s (full s t) i) off) e
    where
      off : task_claims s (full s t) i ≡ false → ⊥
      off c =
          true≢false
          (sym e ∙ ap some (grants-none s.rule (widths s (full s t).tick) (task_claims s (full s t)) (unfenced_cores s) i c))

  pub served-claims : (t k : ℕ) → served s (full s t) i k ≡ true → job_claims s (full s t) i k ≡ true
  unfolding served
  served-claims t k e = and_left (job_claims s (full s t) i k) (in_row s (full s t) i) e

  -- at full length a job that has ended is given none
  pub served-open : (t k : ℕ) → served s (full s t) i k ≡ true → ((full s t).job i k).ended ≡ false
  served-open t k e =
      false_from_ne_true ((full s t).job i k).ended (λ d.
      true≢false (sym (served-claims t k e) ∙ done-off s.rule τ k (full s t).tick ((full s t).job i k) d (full-claimed s t i k d)))

  -- so it is given cores in C ticks at most
  served-short : (t k : ℕ) → served s (full s t) i k ≡ true → ((full s t).job i k).claimed < τ.length
  served-short t k e =
      let g = bounds-full s ok t i k l in
      let o = served-open t k e in
      omega (arith, g.claimed-had o, g.short o)

  claimed-next : (t k : ℕ) → ((full s (suc t)).job i k).claimed ≡ cond (served s (full s t) i k) (suc ((full s t).job i k).claimed) ((full s t).job i k).claimed
  claimed-next t k =
      let j : Job = (full s t).job i k in
      ap (λ (x : Job). x.claimed) (full-next s t i k) ∙ next-claimed τ.length false (served s (full s t) i k) j.had j.claimed j.ended

  claimed-up : (t k : ℕ) → served s (full s t) i k ≡ true → ((full s (suc t)).job i k).claimed ≡ suc ((full s t).job i k).claimed
  claimed-up t k on = rw (claimed-next t k, on)

  claimed-grows : (t k : ℕ) → ((full s t).job i k).claimed ≤ ((full s (suc t)).job i k).claimed
  claimed-grows t k = rw (claimed-next t k) (go (served s (full s t) i k))
    where
      go : (u : Bool) → ((full s t).job i k).claimed ≤ cond u (suc ((full s t).job i k).claimed) ((full s t).job i k).claimed
      go true = omega arith
      go false = omega arith

  claimed-most : (t k : ℕ) → ((full s t).job i k).claimed ≤ τ.length
  claimed-most zero k = unfold full in omega arith
  claimed-most (suc t) k = rw (claimed-next t k) (go (served s (full s t) i k) refl (claimed-most t k))
    where
      go : (u : Bool) → served s (full s t) i k ≡ u → ((full s t).job i k).claimed ≤ τ.length
          → cond u (suc ((full s t).job i k).claimed) ((full s t).job i k).claimed ≤ τ.length
      go true q h = served-short t k q
      go false q h = h

  -- and no oftener than there were ticks since its release
  claimed-since : (t k : ℕ) → ((full s t).job i k).claimed ≤ t - release τ k
  claimed-since zero k = unfold full in omega arith
  claimed-since (suc t) k = rw (claimed-next t k) (go (served s (full s t) i k) refl (claimed-since t k))
    where
      go : (u : Bool) → served s (full s t) i k ≡ u → ((full s t).job i k).claimed ≤ t - release τ k
          → cond u (suc ((full s t).job i k).claimed) ((full s t).job i k).claimed ≤ suc t - release τ k
      go true q h =
          let begun : release τ k ≤ t = omega (arith, after-release s.rule τ k (full s t).tick ((full s t).job i k) (served-claims t k q), full-tick s t) in
          omega arith
      go false q h = omega arith

  -- jobs released T ticks apart, in a window from x on: the a-th is the first that may be given cores in it, and that only in its first y ticks
  module _ (f : ℕ → Bool) (T : ℕ) (series : Series τ f T) (e : ℕ) (within : ServedWithin s i e) where
    abbrev κ : ℕ → ℕ
    κ = series.nth

    module _ (x a y : ℕ) (first : (j : ℕ) → x < release τ (κ j) + e → a ≤ j) (ends : x + y ≡ release τ (κ a) + e) where
      -- as long as none after a + d is released, the ticks of these jobs
      abbrev had_by : ℕ → ℕ → ℕ
      had_by n zero = min y ((full s n).job i (κ a)).claimed
      had_by n (suc d) = min y τ.length + d * τ.length + ((full s n).job i (κ (a + suc d))).claimed

      had-grows : (n d : ℕ) → had_by n d ≤ had_by (suc n) d
      had-grows n zero = omega (arith, claimed-grows n (κ a))
      had-grows n (suc d) = omega (arith, claimed-grows n (κ (a + suc d)))

      -- a tick in which job a + c is given cores
      one_more : (z g d c : ℕ) → g ≤ z → served s (full s (x + z)) i (κ (a + c)) ≡ true → c ≤ d → g ≤ had_by (x + z) c → suc g ≤ had_by (suc (x + z)) d
      one_more z g zero zero v on w h =
          let on-a : served s (full s (x + z)) i (κ a) ≡ true = rw add-zero at on in
          omega (arith, within (κ a) (x + z) on-a, claimed-up (x + z) (κ a) on-a)
      one_more z g zero (suc c) v on w h = absurd (not-suc-le-zero w)
      one_more z g (suc d) zero v on w h =
          let on-a : served s (full s (x + z)) i (κ a) ≡ true = rw add-zero at on in
          omega (arith, within (κ a) (x + z) on-a, served-short (x + z) (κ a) on-a)
      one_more z g (suc d) (suc c) v on w h =
          ⊎_elim
          (λ (same : c ≡ d).
          let here : κ (a + suc c) ≡ κ (a + suc d) = ap (λ (j : ℕ). κ (a + suc j)) same in
          omega (arith, claimed-up (x + z) (κ (a + suc c)) on, ap (λ (k : ℕ). ((full s (suc (x + z))).job i k).claimed) here, ap (λ (k : ℕ). k * τ.length) same))
          (λ (less : c < d). omega (arith, served-short (x + z) (κ (a + suc c)) on, mul-le-mul_right τ.length less))
          (eq-or-lt_of_le (le_of_suc-le-suc w))

      got-jobs : (z d : ℕ) → x + z ≤ release τ (κ (a + suc d)) → got s f x i z ≤ had_by (x + z) d
      unfolding got
      got-jobs zero d h = omega arith
      got-jobs (suc z) d h = rw add-suc (go (in_row s (full s n) i && f k) refl (got-jobs z))
        where
          n : ℕ
          n = x + z

          k : ℕ
          k = newest τ (full s n).tick

          go : (t : Bool) → (in_row s (full s n) i && f k) ≡ t
              → ((d : ℕ) → n ≤ release τ (κ (a + suc d)) → got s f x i z ≤ had_by n d)
              → got s f x i z + once t ≤ had_by (suc n) d
          go false q ih = omega (arith, ih d (omega arith), had-grows n d)
          go true q ih =
              omega (
                arith,
                one_more z (got s f x i z) d c (got-window s f x i z) on-c c-few
                    (ih c (omega (arith, before, at-k, series.apart (a + suc c), ap (λ (y : ℕ). y * T) far.1, (ok i l).constrained, series.slow))),
              )
            where
              on : served s (full s n) i k ≡ true
              on = in-row-served n (and_left (in_row s (full s n) i) (f k) q)

              begun : release τ k ≤ n
              begun = omega (arith, after-release s.rule τ k (full s n).tick ((full s n).job i k) (served-claims n k on), full-tick s n)

              before : n < due τ k
              before = omega (arith, before-due s.rule τ k (full s n).tick ((full s n).job i k) (served-claims n k on), full-tick s n)

              which : (j : ℕ) × (κ j ≡ k)
              which = series.find k (and_right (in_row s (full s n) i) (f k) q)

              j : ℕ
              j = which.0

              at-k : release τ k ≡ series.begin + j * T
              at-k = ap (release τ) (sym which.1) ∙ series.apart j

              far : (c : ℕ) × (a + c ≡ j)
              far = le_dest (first j (omega (arith, within k n on, at-k, series.apart j)))

              c : ℕ
              c = far.0

              on-c : served s (full s n) i (κ (a + c)) ≡ true
              on-c = subst (λ (m : ℕ). served s (full s n) i m ≡ true) (sym (ap κ far.1 ∙ which.1)) on

              c-few : c ≤ d
              c-few =
                  let m = lt_of_mul-lt-mul_right T {m = j} {n = a + suc d} (omega (arith, begun, at-k, series.apart (a + suc d))) in
                  omega (arith, far.1)

    -- the densest window
    pub got-most : τ.length ≤ e → e ≤ τ.deadline → (x L : ℕ) → got s f x i L ≤ workload_in τ T e L
    got-most long short x L = go d d-less d-more
      where
        C : ℕ
        C = τ.length

        B : ℕ
        B = series.begin

        T-pos : 0 < T
        T-pos = omega (arith, (ok i l).deadline-pos, (ok i l).constrained, series.slow)

        -- the first job that is not over at x
        a : ℕ
        a = (x + T - (B + e)) / T

        at_a : release τ (κ a) ≡ B + a * T
        at_a = series.apart a

        over : x < release τ (κ a) + e
        over = let m : x + T - (B + e) < suc a * T = (div-lt_iff_lt-mul T-pos).0 (omega arith) in omega (arith, at_a)

        first : (j : ℕ) → x < release τ (κ j) + e → a ≤ j
        first j h = le_of_suc-le-suc ((div-lt_iff_lt-mul T-pos).1 (omega (arith, T-pos, series.apart j)))

        yy : (y : ℕ) × (suc x + y ≡ release τ (κ a) + e)
        yy = le_dest over

        y : ℕ
        y = suc yy.0

        -- the last that is released by the window's end
        d : ℕ
        d = (L + e - y) / T

        d-less : d * T ≤ L + e - y
        d-less = div-mul-le_self (L + e - y) T

        d-more : L + e - y < suc d * T
        d-more = (div-lt_iff_lt-mul T-pos).0 (omega arith)

        go : (d : ℕ) → d * T ≤ L + e - y → L + e - y < suc d * T → got s f x i L ≤ workload_in τ T e L
        go zero h g =
            densest-one C T L e y (got s f x i L) ((full s (x + L)).job i (κ a)).claimed T-pos long (got-window s f x i L) (claimed-most (x + L) (κ a))
            (omega (arith, claimed-since (x + L) (κ a), yy.1))
            (got-jobs x a y first (omega (arith, yy.1)) L 0 (omega (arith, yy.1, at_a, series.apart (a + 1))))
        go (suc d) h g =
            densest-more C T L e y d (got s f x i L) ((full s (x + L)).job i (κ (a + suc d))).claimed T-pos
            (omega (arith, (ok i l).constrained, series.slow)) long h
            (claimed-most (x + L) (κ (a + suc d)))
            (omega (arith, claimed-since (x + L) (κ (a + suc d)), yy.1, at_a, series.apart (a + suc d)))
            (got-jobs x a y first (omega (arith, yy.1)) L (suc d) (omega (arith, yy.1, at_a, series.apart (a + suc (suc d)))))
