-- Between two events of the full-length run the cores stay with the same tasks.
use mathlib.Core.Path.{◌≡◌, refl, sym, ap, ◌∙◌, subst}
use mathlib.Core.Bool.{Bool, true, false, true≢false}
use mathlib.Core.List.{List}
use mathlib.Core.Logic.{inl, inr}
use Prim.Native.Nat.{ℕ, zero, suc, ◌+◌, ◌*◌, ◌-◌, ◌≤◌, ◌<◌}
use native.Mathlib.Nat.{add-zero, add-suc, div-mul-le_self, le_antisymm, le-div_iff_mul-le}
use native.Mathlib.Omega.{arith}
use lib.Dec.{leb}
use lib.ListN.{length, length-map}
use lib.Seq.{ext_get_or}
use borrow.Author.Tests.{leb-true, leb-false}
use Rattle.model.specs.Fence.{unfenced_cores}
use Rattle.model.specs.Task.{Task, Table, absent_task, task, ValidTask, AllValid, release, due, newest, width_of}
use Rattle.model.specs.Grants.{Claimant, claimants, grants}
use Rattle.model.specs.Row.{row}
use Rattle.model.specs.Claims.{job_claims, task_claims, widths, grants_of}
use Rattle.model.specs.Lists.{full}
use Rattle.std.specs.Cmp.{both_ways}
use Rattle.std.proofs.lemmas.Bool.{false_from_ne_true}
use Rattle.model.proofs.Jobs.{after-release, before-due, claims-if, done-off}
use Rattle.model.proofs.Runs.{full-tick, full-claimed, full-row, full-stays}
use Rattle.model.proofs.Faithful.{claims-exact}
use Rattle.model.proofs.Grants.{claimants-same}
use Rattle.model.proofs.Lists.{map_at}
use Rattle.simulation.specs.Event.{Ends, Event, NoEventBetween, SameAllocation}

-- a job ends at the tick after its last
pub ends_at : (s : Table) (t p k : ℕ) → ((full s (suc t)).job p k).ended ≡ true → ((full s t).job p k).ended ≡ false → Ends s p k (suc t)
ends_at s t p k e o =
    let z : suc t - 1 ≡ t = omega arith in
    (e, ap (λ (n : ℕ). ((full s n).job p k).ended) z ∙ o)

pub ends_by : (s : Table) (t p k : ℕ) → Ends s p k (suc t) → ((full s t).job p k).ended ≡ false
ends_by s t p k x =
    let z : t ≡ suc t - 1 = omega arith in
    ap (λ (n : ℕ). ((full s n).job p k).ended) z ∙ x.1

-- WIDTHS: they are those of the newest jobs, and so stay while no job is released

-- no job of the task is released after t, up to u
abbrev pub NoRelease : Task → ℕ → ℕ → Type 0
NoRelease τ t u = (k : ℕ) → t < release τ k → release τ k ≤ u → ⊥

-- then its newest job is the same
pub newest-stays : (τ : Task) → ValidTask τ → (t u : ℕ) → t ≤ u → NoRelease τ t u → newest τ u ≡ newest τ t
newest-stays τ ok t u h none =
    le_antisymm
    ((le-div_iff_mul-le pos).1 (go (leb τ.offset u) refl))
    ((le-div_iff_mul-le pos).1 (omega (arith, div-mul-le_self (t - τ.offset) τ.period)))
  where
    pos : 0 < τ.period
    pos = omega (arith, ok.deadline-pos, ok.constrained)

    k : ℕ
    k = newest τ u

    whole : k * τ.period ≤ u - τ.offset
    whole = div-mul-le_self (u - τ.offset) τ.period

    -- it was released by u, and so by t
    past : τ.offset ≤ u → (b : Bool) → leb (release τ k) t ≡ b → k * τ.period ≤ t - τ.offset
    past o true q = omega (arith, leb-true (release τ k) t q)
    past o false q = absurd (none k (leb-false (release τ k) t q) (omega (arith, whole)))

    go : (b : Bool) → leb τ.offset u ≡ b → k * τ.period ≤ t - τ.offset
    go true e = past (leb-true τ.offset u e) (leb (release τ k) t) refl
    go false e = omega (arith, whole, leb-false τ.offset u e)

-- the newest job of each task at u is that at t
abbrev pub SameNewest : Table → ℕ → ℕ → Type 0
SameNewest s t u = (p : ℕ) → p < length s.tasks → newest (task s p) u ≡ newest (task s p) t

pub widths-stay : (s : Table) (t u : ℕ) → SameNewest s t u → widths s u ≡ widths s t
widths-stay s t u e =
    ext_get_or 0 (widths s u) (widths s t) (size u ∙ sym (size t)) (λ i l.
    let h : i < length s.tasks = subst (λ (n : ℕ). i < n) (size u) l in
    map_at (λ τ. width_of τ (newest τ u)) s.tasks i 0 absent_task h
    ∙ (ap (width_of (task s i)) (e i h) ∙ sym (map_at (λ τ. width_of τ (newest τ t)) s.tasks i 0 absent_task h)))
  where
    size : (w : ℕ) → length (widths s w) ≡ length s.tasks
    size w = length-map s.tasks (λ τ. width_of τ (newest τ w))

-- where the same tasks claim, with the same widths, the cores go to the same
pub same-claims :
    (s : Table) (t u : ℕ) → SameNewest s t u → ((p : ℕ) → p < length s.tasks → task_claims s (full s u) p ≡ task_claims s (full s t) p)
    → SameAllocation s t u
same-claims s t u new e = record {
  grants = same;
  row = full-row s u ∙ (ap (λ (gs : List (List ℕ)). row s.fence s.cores gs) same ∙ sym (full-row s t));
}
  where
    wide : widths s (full s u).tick ≡ widths s (full s t).tick
    wide = ap (widths s) (full-tick s u) ∙ (widths-stay s t u new ∙ ap (widths s) (sym (full-tick s t)))

    same : grants_of s (full s u) ≡ grants_of s (full s t)
    same =
        ap (λ (bs : List Claimant). grants s.rule bs (unfenced_cores s))
        (ap (λ (ws : List ℕ). claimants ws (task_claims s (full s u))) wide
        ∙ claimants-same (widths s (full s t).tick) (task_claims s (full s u)) (task_claims s (full s t))
        (λ q l. e q (subst (λ (n : ℕ). q < n) (length-map s.tasks (λ τ. width_of τ (newest τ (full s t).tick))) l)))

module _ (s : Table) (ok : AllValid s) where
  -- in the full-length run a job that claims has not ended
  open-claims : (t p k : ℕ) → job_claims s (full s t) p k ≡ true → ((full s t).job p k).ended ≡ false
  open-claims t p k c =
      false_from_ne_true ((full s t).job p k).ended
      (λ e. true≢false (sym c ∙ done-off s.rule (task s p) k (full s t).tick ((full s t).job p k) e (full-claimed s t p k e)))

  claims-at : (t p k : ℕ) → release (task s p) k ≤ t → t < due (task s p) k → ((full s t).job p k).ended ≡ false → job_claims s (full s t) p k ≡ true
  claims-at t p k a b o =
      claims-if s.rule (task s p) k (full s t).tick ((full s t).job p k) (omega (arith, full-tick s t)) (omega (arith, full-tick s t)) (rw o)

  module _ (t : ℕ) (quiet : ¬ Event s (suc t)) (p : ℕ) (l : p < length s.tasks) where
    -- a place that claims in the tick after claimed before it
    claimed-before : (k : ℕ) → job_claims s (full s (suc t)) p k ≡ true → job_claims s (full s t) p k ≡ true
    claimed-before k c =
        let a = after-release s.rule (task s p) k (full s (suc t)).tick ((full s (suc t)).job p k) c in
        let b = before-due s.rule (task s p) k (full s (suc t)).tick ((full s (suc t)).job p k) c in
        let z = full-tick s (suc t) in
        claims-at t p k (apart (λ e. quiet (p, k, l, inl e)) (omega arith)) (omega arith)
        (false_from_ne_true ((full s t).job p k).ended (λ e. true≢false (sym (stays e) ∙ open-claims (suc t) p k c)))
      where
        apart : {a : ℕ} → (a ≡ suc t → ⊥) → a ≤ suc t → a ≤ t
        apart n h = omega arith

        stays : ((full s t).job p k).ended ≡ true → ((full s (suc t)).job p k).ended ≡ true
        stays e = subst (λ (n : ℕ). ((full s n).job p k).ended ≡ true) (add-suc t 0 ∙ ap suc (add-zero t)) (full-stays s t 1 p k e)

    -- and a place that claimed before it claims
    claims-after : (k : ℕ) → job_claims s (full s t) p k ≡ true → job_claims s (full s (suc t)) p k ≡ true
    claims-after k c =
        let a = after-release s.rule (task s p) k (full s t).tick ((full s t).job p k) c in
        let b = before-due s.rule (task s p) k (full s t).tick ((full s t).job p k) c in
        let z = full-tick s t in
        claims-at (suc t) p k (omega arith) (apart (λ e. quiet (p, k, l, inr (inl e))) (omega arith))
        (false_from_ne_true ((full s (suc t)).job p k).ended (λ e. quiet (p, k, l, inr (inr (ends_at s t p k e (open-claims t p k c))))))
      where
        apart : {a : ℕ} → (a ≡ suc t → ⊥) → t < a → suc t < a
        apart n h = omega arith

    claims-stay : task_claims s (full s (suc t)) p ≡ task_claims s (full s t) p
    claims-stay =
        both_ways (task_claims s (full s (suc t)) p) (task_claims s (full s t) p)
        (λ e. let x = (claims-exact s ok (full s (suc t)) p l).0 e in (claims-exact s ok (full s t) p l).1 (x.0, claimed-before x.0 x.1))
        (λ e. let x = (claims-exact s ok (full s t) p l).0 e in (claims-exact s ok (full s (suc t)) p l).1 (x.0, claims-after x.0 x.1))

  -- over d ticks without an event
  stay-over : (t d : ℕ) → NoEventBetween s t (suc (t + d)) → (p : ℕ) → p < length s.tasks → task_claims s (full s (t + d)) p ≡ task_claims s (full s t) p
  stay-over t zero none p l = ap (λ (n : ℕ). task_claims s (full s n) p) (add-zero t)
  stay-over t (suc d) none p l =
      ap (λ (n : ℕ). task_claims s (full s n) p) (add-suc t d)
      ∙ (claims-stay (t + d) (none (suc (t + d)) (omega arith) (omega arith)) p l
      ∙ stay-over t d (λ w a b. none w a (omega arith)) p l)

  -- a release is an event
  newest-over : (t w u : ℕ) → NoEventBetween s t u → t ≤ w → w < u → SameNewest s t w
  newest-over t w u none a b p l =
      newest-stays (task s p) (ok p l) t w a (λ k c d. none (release (task s p) k) c (omega arith) (p, k, l, inl refl))

  -- THEOREM (same-between): at every tick from t on, up to the first event after it, the cores are with the tasks that have them at t
  pub same-between : (t u : ℕ) → NoEventBetween s t u → (w : ℕ) → t ≤ w → w < u → SameAllocation s t w
  same-between t u none w a b =
      let e : t + (w - t) ≡ w = omega arith in
      subst (SameAllocation s t) e
      (same-claims s t (t + (w - t)) (newest-over t (t + (w - t)) u none (omega arith) (omega arith)) (stay-over t (w - t) (λ x c d. none x c (omega arith))))
