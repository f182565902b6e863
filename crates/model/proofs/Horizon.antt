-- THE HORIZON IS ENOUGH: from S of a place on, its full-length run repeats with P, whether deadlines are met or not.
use mathlib.Core.Bool.{Bool, false, true, true≢false}
use mathlib.Core.List.{List, []}
use mathlib.Core.Logic.{⊎_elim}
use mathlib.Core.Path.{ap, refl, subst, sym, ◌∙◌, ◌≡◌}
use Prim.Native.Nat.{◌*◌, ◌+◌, ◌-◌, ◌/◌, ◌<◌, suc, zero, ℕ, ◌≤◌}
use native.Mathlib.Nat.{add-mul-div_right, div-mul-le_self, eq-or-lt_of_le, le_dest, le-div_iff_mul-le, le_of_suc-le-suc, le_refl, le_trans, lt_of_mul-lt-mul_right, mul-le-mul_right, not-suc-le-zero}
use native.Mathlib.Omega.{arith}
use lib.Dec.{leb}
use lib.ListN.{get_or, length, take}
use lib.Seq.{get_or-take}
use borrow.Author.Tests.{leb-false, leb-true}
use Rattle.model.proofs.Bools.{same-and}
use Rattle.std.proofs.lemmas.Bool.{true_from_ne_false}
use Rattle.std.specs.Cmp.{both_ways}
use Rattle.model.proofs.Grants.{claimants-cut, grants-take}
use Rattle.model.proofs.Jobs.{after-release, before-due, claims-if, newest-is, still}
use Rattle.model.proofs.Lists.{map_first}
use Rattle.model.proofs.Runs.{full-fresh, full-next, full-tick, missed-at}
use Rattle.model.proofs.Starts.{Periods, S-last, S-release, S-monotonic, hyperperiod-divides, hyperperiod-pos, width-shift}
use Rattle.model.specs.Jobs.{Job}
use Rattle.model.specs.Claims.{claims, in_row, job_claims, served, task_claims, widths}
use Rattle.model.specs.Lists.{Missed, NeverMissed, full}
use Rattle.model.specs.Grants.{claimants, grants, some}
use Rattle.model.specs.Horizon.{S, horizon, hyperperiod}
use Rattle.model.specs.Fence.{unfenced_cores}
use Rattle.model.specs.Task.{AllValid, Rule, Table, Task, due, newest, absent_task, release, task, width_of}

-- claims at a tick and P later are the same
claims-shift :
    (r : Rule) (τ : Task) (k m t P : ℕ) (j : Job) → P ≡ m * τ.period → claims r τ k t j ≡ claims r τ (k + m) (t + P) j
claims-shift r τ k m t P j e = both_ways (claims r τ k t j) (claims r τ (k + m) (t + P) j) later sooner
  where
    later : claims r τ k t j ≡ true → claims r τ (k + m) (t + P) j ≡ true
    later c =
        let h = after-release r τ k t j c in
        let l = before-due r τ k t j c in
        claims-if r τ (k + m) (t + P) j (omega arith) (omega arith) (still r τ k t j c)

    sooner : claims r τ (k + m) (t + P) j ≡ true → claims r τ k t j ≡ true
    sooner c =
        let h = after-release r τ (k + m) (t + P) j c in
        let l = before-due r τ (k + m) (t + P) j c in
        claims-if r τ k t j (omega arith) (omega arith) (still r τ (k + m) (t + P) j c)

-- the cores of place p depend only on the widths and claims of places up to p
pub row-local :
    (r : Rule) (ws vs F : List ℕ) (c d : ℕ → Bool) (p : ℕ) → take (suc p) ws ≡ take (suc p) vs → ((q : ℕ) → q ≤ p → c q ≡ d q)
    → get_or (grants r (claimants ws c) F) p [] ≡ get_or (grants r (claimants vs d) F) p []
row-local r ws vs F c d p w e =
    sym (get_or-take (suc p) (grants r (claimants ws c) F) p [] (le_refl (suc p)))
    ∙ (ap (λ (l : List (List ℕ)). get_or l p []) (grants-take r (suc p) (claimants ws c) F
    ∙ (ap (λ l. grants r l F) (claimants-cut (suc p) ws vs c d w (λ q h. e q (le_of_suc-le-suc h)))
    ∙ sym (grants-take r (suc p) (claimants vs d) F)))
    ∙ get_or-take (suc p) (grants r (claimants vs d) F) p [] (le_refl (suc p)))

-- each S with P is within the horizon
covers : (s : Table) → Periods s.tasks → (p : ℕ) → p < length s.tasks → S s.tasks p + hyperperiod s.tasks ≤ horizon s
unfolding horizon
covers s h p l = omega (arith, S-last s.tasks p h l)

pub factor : (m n : ℕ) → 0 < m * n → 0 < m
factor zero n h = omega arith
factor (suc m) n h = omega arith

module _ (s : Table) (ok : AllValid s) where
  abbrev P : ℕ
  P = hyperperiod s.tasks

  periods : Periods s.tasks
  periods p l = le_trans (ok p l).deadline-pos (ok p l).constrained

  -- from S of place p on, each of its jobs goes as the job P later
  abbrev Repeats : ℕ → Type 0
  Repeats p =
      (m : ℕ) → P ≡ m * (task s p).period → (k : ℕ) → S s.tasks p ≤ release (task s p) k
      → (z : ℕ) → (full s (release (task s p) k + z)).job p k ≡ (full s (release (task s p) k + z + P)).job p (k + m)

  -- so its claims repeat
  claims-repeat :
      (p : ℕ) → p < length s.tasks → Repeats p → (t : ℕ) → S s.tasks p ≤ t
      → task_claims s (full s t) p ≡ task_claims s (full s (t + P)) p
  claims-repeat p l rep t h =
      rw (full-tick s t, full-tick s (t + P), later, ← same)
      (claims-shift s.rule τ k m t P ((full s t).job p k) mm.1)
    where
      τ : Task
      τ = task s p

      k : ℕ
      k = newest τ t

      mm : (m : ℕ) × (P ≡ m * τ.period)
      mm = hyperperiod-divides s.tasks p periods l

      m : ℕ
      m = mm.0

      aa : (a : ℕ) × (S s.tasks p ≡ release τ a)
      aa = S-release s.tasks p

      pos : 0 < τ.period
      pos = periods p l

      begun : release τ k ≤ t
      begun = omega (arith, div-mul-le_self (t - τ.offset) τ.period, aa.1)

      far : aa.0 ≤ k
      far = (le-div_iff_mul-le pos).1 (omega (arith, aa.1))

      from-S : S s.tasks p ≤ release τ k
      from-S = omega (arith, aa.1, mul-le-mul_right τ.period far)

      later : newest τ (t + P) ≡ k + m
      later = ap (λ (x : ℕ). x / τ.period) (omega (arith, aa.1, mm.1)) ∙ add-mul-div_right (t - τ.offset) m pos

      same : (full s t).job p k ≡ (full s (t + P)).job p (k + m)
      same = let d = le_dest begun in
          subst (λ (x : ℕ). (full s x).job p k ≡ (full s (x + P)).job p (k + m)) d.1 (rep m mm.1 k from-S d.0)

  -- and its widths: the newest job at t + P is an even number of jobs later, where the widths differ
  width-repeat :
      (p : ℕ) → p < length s.tasks → (t : ℕ) → S s.tasks p ≤ t
      → width_of (task s p) (newest (task s p) t) ≡ width_of (task s p) (newest (task s p) (t + P))
  width-repeat p l t h =
      let mm = hyperperiod-divides s.tasks p periods l in
      let aa = S-release s.tasks p in
      let later : t + P - (task s p).offset ≡ t - (task s p).offset + mm.0 * (task s p).period = omega (arith, aa.1, mm.1) in
      sym (ap (width_of (task s p)) (ap (λ (x : ℕ). x / (task s p).period) later ∙ add-mul-div_right (t - (task s p).offset) mm.0 (periods p l))
      ∙ width-shift s.tasks p periods l mm.0 mm.1 (newest (task s p) t))

  widths-repeat : (p : ℕ) → p < length s.tasks → (t : ℕ) → S s.tasks p ≤ t → take (suc p) (widths s t) ≡ take (suc p) (widths s (t + P))
  widths-repeat p l t h =
      map_first (λ τ. width_of τ (newest τ t)) (λ τ. width_of τ (newest τ (t + P))) absent_task (suc p) s.tasks
      (λ q g i. width-repeat q i t (le_trans (S-monotonic s.tasks q p periods (le_of_suc-le-suc g) l) h))

  module _ (p : ℕ) (l : p < length s.tasks) (above : (q : ℕ) → q < p → Repeats q) (m : ℕ) (e : P ≡ m * (task s p).period) where
    -- a job is in the row exactly if the job P later is
    served-repeat :
        (k t : ℕ) → S s.tasks p ≤ t → (full s t).job p k ≡ (full s (t + P)).job p (k + m)
        → served s (full s t) p k ≡ served s (full s (t + P)) p (k + m)
    unfolding served
    served-repeat k t h same =
        same-and (job_claims s (full s t) p k) (job_claims s (full s (t + P)) p (k + m))
        (in_row s (full s t) p) (in_row s (full s (t + P)) p) own
        (λ c. ap some (row-local s.rule (widths s (full s t).tick) (widths s (full s (t + P)).tick) (unfenced_cores s) (task_claims s (full s t)) (task_claims s (full s (t + P))) p
        (rw (full-tick s t, full-tick s (t + P)) (widths-repeat p l t h)) (all c)))
      where
        own : job_claims s (full s t) p k ≡ job_claims s (full s (t + P)) p (k + m)
        own = rw (full-tick s t, full-tick s (t + P), ← same) (claims-shift s.rule (task s p) k m t P ((full s t).job p k) e)

        new : (n i : ℕ) → job_claims s (full s n) p i ≡ true → newest (task s p) (full s n).tick ≡ i
        new n i c =
            newest-is (task s p) i (full s n).tick (ok p l).constrained
            (after-release s.rule (task s p) i (full s n).tick ((full s n).job p i) c)
            (before-due s.rule (task s p) i (full s n).tick ((full s n).job p i) c)

        all : job_claims s (full s t) p k ≡ true → (q : ℕ) → q ≤ p → task_claims s (full s t) q ≡ task_claims s (full s (t + P)) q
        all c q g =
            ⊎_elim
            (λ (i : q ≡ p).
            subst (λ (x : ℕ). task_claims s (full s t) x ≡ task_claims s (full s (t + P)) x) (sym i)
            (ap (λ (x : ℕ). job_claims s (full s t) p x) (new t k c)
            ∙ (own ∙ ap (λ (x : ℕ). job_claims s (full s (t + P)) p x) (sym (new (t + P) (k + m) (sym own ∙ c))))))
            (λ (i : q < p).
            claims-repeat q (le_trans i (le_trans (omega arith) l)) (above q i) t
            (le_trans (S-monotonic s.tasks q p periods g l) h))
            (eq-or-lt_of_le g)

    job-repeat :
        (k t : ℕ) → S s.tasks p ≤ t → (full s t).job p k ≡ (full s (t + P)).job p (k + m)
        → (full s (suc t)).job p k ≡ (full s (suc (t + P))).job p (k + m)
    job-repeat k t h same = rw (full-next s t p k, full-next s (t + P) p (k + m), served-repeat k t h same, same)

    repeats :
        (k : ℕ) → S s.tasks p ≤ release (task s p) k
        → (z : ℕ) → (full s (release (task s p) k + z)).job p k ≡ (full s (release (task s p) k + z + P)).job p (k + m)
    repeats k h zero =
        full-fresh s (release (task s p) k + 0) p k (omega arith)
        ∙ sym (full-fresh s (release (task s p) k + 0 + P) p (k + m) (omega arith))
    repeats k h (suc z) =
        let a : suc (release (task s p) k + z) ≡ release (task s p) k + suc z = omega arith in
        let b : suc (release (task s p) k + z + P) ≡ release (task s p) k + suc z + P = omega arith in
        subst (λ (x : ℕ). (full s x).job p k ≡ (full s (release (task s p) k + suc z + P)).job p (k + m)) a
        (subst (λ (x : ℕ). (full s (suc (release (task s p) k + z))).job p k ≡ (full s x).job p (k + m)) b
        (job-repeat k (release (task s p) k + z) (omega arith) (repeats k h z)))

  -- by induction on the place
  repeat-below : (n : ℕ) → n ≤ length s.tasks → (q : ℕ) → q < n → Repeats q
  repeat-below zero l q h = absurd (not-suc-le-zero h)
  repeat-below (suc n) l q h =
      ⊎_elim
      (λ (i : q ≡ n). subst Repeats (sym i) (λ m e. repeats n l (repeat-below n (omega arith)) m e))
      (λ (i : q < n). repeat-below n (omega arith) q i)
      (eq-or-lt_of_le (le_of_suc-le-suc h))

  pub repeat-all : (p : ℕ) → p < length s.tasks → Repeats p
  repeat-all p l = repeat-below (length s.tasks) (le_refl _) p l

  -- a job that met its deadline passes that on to the job P later
  carry :
      (p : ℕ) → p < length s.tasks → (m : ℕ) → P ≡ m * (task s p).period → (i k : ℕ) → S s.tasks p ≤ release (task s p) i
      → i + m ≡ k → due (task s p) i + P ≡ due (task s p) k
      → ((full s (due (task s p) i)).job p i).ended ≡ true → ((full s (due (task s p) k)).job p k).ended ≡ true
  carry p l m e i k h ik when met =
      subst (λ (x : ℕ). ((full s (due (task s p) k)).job p x).ended ≡ true) ik
      (subst (λ (x : ℕ). ((full s x).job p (i + m)).ended ≡ true) when
      (rw (repeat-all p l m e i h (task s p).deadline) at met))

  -- met deadlines, by strong induction on the job
  met :
      ((p t : ℕ) → t ≤ horizon s → ¬ Missed s p t)
      → (p : ℕ) → p < length s.tasks → (n k : ℕ) → k < n → ((full s (due (task s p) k)).job p k).ended ≡ true
  met hyp p l zero k h = absurd (not-suc-le-zero h)
  met hyp p l (suc n) k h = go (leb (due (task s p) k) (horizon s)) refl (met hyp p l n)
    where
      τ : Task
      τ = task s p

      mm : (m : ℕ) × (P ≡ m * τ.period)
      mm = hyperperiod-divides s.tasks p periods l

      m : ℕ
      m = mm.0

      aa : (a : ℕ) × (S s.tasks p ≡ release τ a)
      aa = S-release s.tasks p

      go : (t : Bool) → leb (due τ k) (horizon s) ≡ t
          → ((i : ℕ) → i < n → ((full s (due τ i)).job p i).ended ≡ true) → ((full s (due τ k)).job p k).ended ≡ true
      go true q ih = true_from_ne_false ((full s (due τ k)).job p k).ended (λ o. hyp p (due τ k) (leb-true (due τ k) (horizon s) q) (missed-at s p (due τ k) k l refl o))
      go false q ih =
          let past : horizon s < due τ k = leb-false (due τ k) (horizon s) q in
          let cover : S s.tasks p + P ≤ horizon s = covers s periods p l in
          let far : (aa.0 + m) * τ.period < suc k * τ.period = omega (arith, aa.1, mm.1, (ok p l).constrained) in
          let d = le_dest (le_of_suc-le-suc (lt_of_mul-lt-mul_right τ.period far)) in
          let i : ℕ = aa.0 + d.0 in
          let some-m : 0 < m = factor m τ.period (omega (arith, mm.1, hyperperiod-pos s.tasks)) in
          let ik : i + m ≡ k = omega (arith, d.1) in
          let when : due τ i + P ≡ due τ k = omega (arith, ap (λ (x : ℕ). x * τ.period) ik, mm.1) in
          carry p l m mm.1 i k (omega (arith, aa.1)) ik when (ih i (omega arith))

-- THE THEOREM. For all four rules: if no deadline up to and including the horizon is missed at full length, none ever is
pub horizon-enough :
    (s : Table) → AllValid s
    → ((p t : ℕ) → t ≤ horizon s → ¬ Missed s p t)
    → NeverMissed s
horizon-enough s ok hyp p t (l, (k, e, o)) =
    true≢false
    (sym (met s ok hyp p l (suc k) k (le_refl (suc k)))
    ∙ subst (λ (x : ℕ). ((full s x).job p k).ended ≡ false) (sym (e ∙ full-tick s t)) o)
