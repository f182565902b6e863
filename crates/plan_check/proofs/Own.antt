-- THE TOOL'S OWN PLANS ARE ACCEPTED: the rows of the full-length run of a table that never misses.
use mathlib.Core.Bool.{◌&&◌, Bool, cond, false, false≢true, true, true≢false}
use mathlib.Core.List.{List, [], map}
use mathlib.Core.Logic.{◌⊎◌, inl, inr}
use mathlib.Core.Path.{ap, ap₂, refl, subst, sym, ◌∙◌, ◌≡◌}
use Prim.Native.Nat.{◌*◌, ◌+◌, ◌<◌, suc, zero, ℕ, ◌≤◌}
use native.Mathlib.Nat.{le_antisymm, le_dest, le-div_iff_mul-le, le_refl, le_trans, mul-le-mul_right, zero-add}
use native.Mathlib.Omega.{arith}
use lib.Dec.{leb, ltb}
use lib.ListN.{get_or, length, length-map}
use borrow.Author.Tests.{leb-false, leb-true}
use Rattle.model.proofs.Bools.{and_both, and_left, and_right}
use Rattle.std.proofs.lemmas.Bool.{false_from_ne_true, true_from_ne_false}
use Rattle.model.proofs.Grants.{grants-length, grants-none}
use Rattle.model.proofs.Horizon.{repeat-all}
use Rattle.model.proofs.Jobs.{after-release, before-due, done-off, next}
use Rattle.model.proofs.Lists.{map_at, up_at, up-length}
use Rattle.model.proofs.Rows.{row-length}
use Rattle.model.proofs.Runs.{full-claimed, full-next, full-row, full-tick, full-whole, bounds-full, missed-at}
use Rattle.model.proofs.Starts.{Periods, S-last, S-release, hyperperiod-divides}
use Rattle.model.specs.Jobs.{Job}
use Rattle.model.specs.Claims.{grants_of, in_row, job_claims, book_row, served, task_claims, widths}
use Rattle.model.specs.Advance.{work}
use Rattle.model.specs.Lists.{NeverMissed, full}
use Rattle.model.specs.Fence.{unfenced_cores}
use Rattle.model.specs.Grants.{Claimant, claimants, some}
use Rattle.model.specs.Horizon.{S, horizon, hyperperiod, last_s}
use Rattle.model.specs.Search.{up_from}
use Rattle.model.specs.Sizes.{fenced_byte}
use Rattle.model.specs.Task.{AllValid, Table, Task, due, newest, absent_task, release, task, width_of}
use Rattle.rule.proofs.Borrowed as borrowed
use Rattle.rule.proofs.Granting.{idle, width-or-none}
use Rattle.plan_check.specs.Answers.{accepts}
use Rattle.plan_check.proofs.PlanBook.{check}
use Rattle.plan_check.specs.Plan.{Acceptable, ValidRow, InTime, Owed, UnknownByte, cell_count, had_in_rows, phase_after, phase_by, row_at, runs, ticks}
use Rattle.plan_check.proofs.Cells.{row-cells, row-known, some-cells}
use Rattle.plan_check.proofs.Exact.{check-exact}
use Rattle.plan_check.proofs.Newest.{newest-begun, newest-later, newest-next, newest-only, offset-last, since-later}
use Rattle.plan_check.proofs.PhaseBy.{phase-from}
use Rattle.plan_check.proofs.Ticks.{done-same, valid_same, ticks-none, ticks-on, ticks-same}

-- the rows of the full-length run up to the horizon
abbrev pub own_row : Table → ℕ → List ℕ
own_row s t = book_row s (full s t)

abbrev pub own_rows : Table → List (List ℕ)
own_rows s = map (own_row s) (up_from 0 (horizon s))

-- the width of a place in a tick is that of its newest job
width-newest : (s : Table) (p t : ℕ) → p < length s.tasks → get_or (widths s t) p 0 ≡ width_of (task s p) (newest (task s p) t)
width-newest s p t l = map_at (λ τ. width_of τ (newest τ t)) s.tasks p 0 absent_task l

module _ (s : Table) (ok : AllValid s) (few : length s.tasks < fenced_byte) where
  abbrev bs : ℕ → List Claimant
  bs t = claimants (widths s (full s t).tick) (task_claims s (full s t))

  -- as many cores show a position as its place is given
  own-cells : (p t : ℕ) → p < length s.tasks → cell_count (suc p) (own_row s t) ≡ length (get_or (grants_of s (full s t)) p [])
  own-cells p t l = ap (cell_count (suc p)) (full-row s t) ∙ row-cells s.rule (bs t) s.fence s.cores p (omega arith)

  own_runs : (p t : ℕ) → p < length s.tasks → runs (own_row s) p t ≡ in_row s (full s t) p
  own_runs p t l = ap (ltb 0) (own-cells p t l) ∙ some-cells (get_or (grants_of s (full s t)) p [])

  own-wide : (p t : ℕ) → p < length s.tasks → runs (own_row s) p t ≡ true → cell_count (suc p) (own_row s t) ≡ width_of (task s p) (newest (task s p) t)
  own-wide p t l e = own-cells p t l ∙ go (width-or-none s.rule (bs t) (unfenced_cores s) p)
    where
      g : List ℕ
      g = get_or (grants_of s (full s t)) p []

      go : (length g ≡ (get_or (bs t) p idle).width) ⊎ (g ≡ []) → length g ≡ width_of (task s p) (newest (task s p) t)
      go (inl q) =
          q
          ∙ (borrowed.width_of (widths s (full s t).tick) (task_claims s (full s t)) p
          ∙ (width-newest s p (full s t).tick l ∙ ap (λ (n : ℕ). width_of (task s p) (newest (task s p) n)) (full-tick s t)))
      go (inr q) = absurd (false≢true (sym (ap some q) ∙ (sym (own_runs p t l) ∙ e)))

  -- a place that is in the row claims for its newest job, which has not ended
  record Serves (p t : ℕ) : Type 0 where
    claiming : job_claims s (full s t) p (newest (task s p) t) ≡ true
    unended : ((full s t).job p (newest (task s p) t)).ended ≡ false

  serves : (p t : ℕ) → in_row s (full s t) p ≡ true → Serves p t
  serves p t e =
      let k : ℕ = newest (task s p) t in
      let c : task_claims s (full s t) p ≡ true =
      true_from_ne_false (task_claims s (full s t) p) (λ o.
      false≢true (sym (ap some (grants-none s.rule (widths s (full s t).tick) (task_claims s (full s t)) (unfenced_cores s) p o)) ∙ e)) in
      let c' : job_claims s (full s t) p k ≡ true = subst (λ (n : ℕ). job_claims s (full s t) p (newest (task s p) n) ≡ true) (full-tick s t) c in
      record {
        claiming = c';
        unended = false_from_ne_true ((full s t).job p k).ended (λ d.
            true≢false (sym c' ∙ done-off s.rule (task s p) k (full s t).tick ((full s t).job p k) d (full-claimed s t p k d)));
      }

  module _ (p : ℕ) (l : p < length s.tasks) where
    abbrev τ : Task
    τ = task s p

    pos : 0 < τ.period
    pos = le_trans (ok p l).deadline-pos (ok p l).constrained

    -- a job's line when the tick has passed it by, and when it has served it
    unserved : (t k : ℕ) → served s (full s t) p k ≡ false → ((full s (suc t)).job p k).had ≡ ((full s t).job p k).had
    unserved t k e = ap (λ (j : Job). j.had) (full-next s t p k ∙ ap (λ (b : Bool). next τ.length false b ((full s t).job p k)) e)

    served-on : (t k : ℕ) → served s (full s t) p k ≡ true → ((full s t).job p k).ended ≡ false → ((full s (suc t)).job p k).had ≡ suc ((full s t).job p k).had
    served-on t k e o =
        ap (λ (j : Job). j.had) (full-next s t p k ∙ ap (λ (b : Bool). next τ.length false b ((full s t).job p k)) e)
        ∙ works τ.length ((full s t).job p k) o
      where
        works : (C : ℕ) (j : Job) → j.ended ≡ false → (work C false j).had ≡ suc j.had
        works C j o = unfold work in rw o

    served-if : (t k : ℕ) → job_claims s (full s t) p k ≡ true → in_row s (full s t) p ≡ true → served s (full s t) p k ≡ true
    unfolding served
    served-if t k c f = and_both (job_claims s (full s t) p k) (in_row s (full s t) p) c f

    -- up to the release of the next job, the ticks counted in the rows are those of the book
    had-full : (k t : ℕ) → t ≤ release τ (suc k) → had_in_rows s (own_row s) p k t ≡ ((full s t).job p k).had
    had-full k zero h = unfold ticks full in refl
    had-full k (suc t) h = go (leb (release τ k) t) refl (in_row s (full s t) p) refl (had-full k t (omega arith))
      where
        a : ℕ
        a = release τ k

        go : (b : Bool) → leb (release τ k) t ≡ b → (c : Bool) → in_row s (full s t) p ≡ c
            → had_in_rows s (own_row s) p k t ≡ ((full s t).job p k).had → had_in_rows s (own_row s) p k (suc t) ≡ ((full s (suc t)).job p k).had
        go false e c f ih =
            let early : t < a = leb-false a t e in
            let off : served s (full s t) p k ≡ false = unfold served in
            false_from_ne_true (job_claims s (full s t) p k && in_row s (full s t) p) (λ q.
            let x = after-release s.rule τ k (full s t).tick ((full s t).job p k) (and_left (job_claims s (full s t) p k) (in_row s (full s t) p) q) in
            omega (arith, full-tick s t)) in
            ticks-none (own_row s) p a (suc t) early
            ∙ (sym (ticks-none (own_row s) p a t (omega arith)) ∙ (ih ∙ sym (unserved t k off)))
        go true e false f ih =
            let off : served s (full s t) p k ≡ false = unfold served in
            false_from_ne_true (job_claims s (full s t) p k && in_row s (full s t) p) (λ q.
            true≢false (sym (and_right (job_claims s (full s t) p k) (in_row s (full s t) p) q) ∙ f)) in
            ticks-on (own_row s) p a t (leb-true a t e)
            ∙ (ap (λ (b : Bool). cond b (suc (had_in_rows s (own_row s) p k t)) (had_in_rows s (own_row s) p k t)) (own_runs p t l ∙ f) ∙ (ih ∙ sym (unserved t k off)))
        go true e true f ih =
            let begun : a ≤ t = leb-true a t e in
            let new : newest τ t ≡ k = newest-only τ pos k t begun h in
            let x = serves p t f in
            let c : job_claims s (full s t) p k ≡ true = subst (λ (j : ℕ). job_claims s (full s t) p j ≡ true) new x.claiming in
            let o : ((full s t).job p k).ended ≡ false = subst (λ (j : ℕ). ((full s t).job p j).ended ≡ false) new x.unended in
            let on : served s (full s t) p k ≡ true = served-if t k c f in
            ticks-on (own_row s) p a t begun
            ∙ (ap (λ (b : Bool). cond b (suc (had_in_rows s (own_row s) p k t)) (had_in_rows s (own_row s) p k t)) (own_runs p t l ∙ f) ∙ (ap suc ih ∙ sym (served-on t k on o)))

    -- a place that is in the row has work still owed
    own-owed : (t : ℕ) → runs (own_row s) p t ≡ true → Owed s (own_row s) p (newest τ t) t
    own-owed t e =
        let k : ℕ = newest τ t in
        let x = serves p t (sym (own_runs p t l) ∙ e) in
        let begun : release τ k ≤ t =
        subst (λ (n : ℕ). release τ k ≤ n) (full-tick s t) (after-release s.rule τ k (full s t).tick ((full s t).job p k) x.claiming) in
        let early : t < due τ k =
        subst (λ (n : ℕ). n < due τ k) (full-tick s t) (before-due s.rule τ k (full s t).tick ((full s t).job p k) x.claiming) in
        record {
          released = begun;
          early = early;
          short = subst (λ (n : ℕ). n < τ.length) (sym (had-full k t (omega (arith, (ok p l).constrained)))) ((bounds-full s ok t p k l).short x.unended);
        }

    -- where no deadline is missed every job is done in time
    own-done : NeverMissed s → (k : ℕ) → InTime s (own_row s) p k
    own-done nm k =
        let e : ((full s (due τ k)).job p k).ended ≡ true =
        true_from_ne_false ((full s (due τ k)).job p k).ended (λ o. nm p (due τ k) (missed-at s p (due τ k) k l refl o)) in
        had-full k (due τ k) (omega (arith, (ok p l).constrained))
        ∙ le_antisymm (bounds-full s ok (due τ k) p k l).within (full-whole s (due τ k) p k e)

    -- and the phases at the last S and P later agree
    own-agree : phase_by s (own_row s) p (last_s s.tasks) ≡ phase_by s (own_row s) p (horizon s)
    own-agree =
        phase-from s (own_row s) p L on
        ∙ (ap₂ (phase_after τ.length) (since-later s ok p l) had ∙ sym (phase-from s (own_row s) p (horizon s) (omega (arith, far, on))))
      where
        L : ℕ
        L = last_s s.tasks

        P : ℕ
        P = hyperperiod s.tasks

        far : horizon s ≡ L + P
        far = unfold horizon in refl

        all : Periods s.tasks
        all q h = le_trans (ok q h).deadline-pos (ok q h).constrained

        mm : (m : ℕ) × (P ≡ m * τ.period)
        mm = hyperperiod-divides s.tasks p all l

        m : ℕ
        m = mm.0

        k : ℕ
        k = newest τ L

        on : τ.offset ≤ L
        on = offset-last s ok p l

        later : newest τ (horizon s) ≡ k + m
        later = ap (newest τ) far ∙ newest-later τ pos L m P mm.1 on

        begun : release τ k ≤ L
        begun = newest-begun τ pos L on

        aa : (a : ℕ) × (S s.tasks p ≡ release τ a)
        aa = S-release s.tasks p

        from-S : S s.tasks p ≤ release τ k
        from-S =
            let up : aa.0 ≤ k = (le-div_iff_mul-le pos).1 (omega (arith, aa.1, S-last s.tasks p all l)) in
            omega (arith, aa.1, mul-le-mul_right τ.period up)

        line : (full s L).job p k ≡ (full s (L + P)).job p (k + m)
        line = let d = le_dest begun in
            subst (λ (x : ℕ). (full s x).job p k ≡ (full s (x + P)).job p (k + m)) d.1 (repeat-all s ok p l m mm.1 k from-S d.0)

        had : had_in_rows s (own_row s) p k L ≡ had_in_rows s (own_row s) p (newest τ (horizon s)) (horizon s)
        had =
            had-full k L (le_trans (omega arith) (newest-next τ pos L on))
            ∙ (ap (λ (j : Job). j.had) line
            ∙ (ap (λ (x : ℕ). ((full s x).job p (k + m)).had) (sym far)
            ∙ (ap (λ (j : ℕ). ((full s (horizon s)).job p j).had) (sym later)
            ∙ sym (had-full (newest τ (horizon s)) (horizon s) (le_trans (omega arith) (newest-next τ pos (horizon s) (omega (arith, far, on))))))))

  own-valid : (t : ℕ) → ValidRow s (own_row s) t
  own-valid t = record {
    size = ap length (full-row s t) ∙ row-length s.fence s.cores (grants_of s (full s t));
    known = λ c h. subst (λ (bytes : List ℕ). ¬ UnknownByte s c (get_or bytes c 0)) (sym (full-row s t)) (row-known s (grants_of s (full s t)) count c h);
    works = λ p l e. (newest (task s p) t, own-owed p l t e, own-wide p t l e);
  }
    where
      count : length (grants_of s (full s t)) ≤ length s.tasks
      count =
          omega (
            arith,
            grants-length s.rule (widths s (full s t).tick) (task_claims s (full s t)) (unfenced_cores s),
            length-map s.tasks (λ τ. width_of τ (newest τ (full s t).tick)),
          )

  -- the list has these rows
  own_at : (t : ℕ) → t < horizon s → own_row s t ≡ row_at (own_rows s) t
  own_at t h =
      sym (map_at (own_row s) (up_from 0 (horizon s)) t [] 0 (omega (arith, up-length 0 (horizon s)))
      ∙ ap (own_row s) (up_at 0 (horizon s) t 0 h ∙ zero-add t))

  own-count : length (own_rows s) ≡ horizon s
  own-count = length-map (up_from 0 (horizon s)) (own_row s) ∙ up-length 0 (horizon s)

  pub own-acceptable : NeverMissed s → Acceptable s (own_rows s)
  own-acceptable nm = record {
    count = own-count;
    rows-valid = λ t h. valid_same s (own_row s) (row_at (own_rows s)) t (λ u g. own_at u (omega arith)) (own-valid t);
    done = λ p k l h. done-same s (own_row s) (row_at (own_rows s)) p k (λ u g. own_at u (omega arith)) (own-done p l nm k);
    agree = λ p l. sym (same p (last_s s.tasks) below) ∙ (own-agree p l ∙ same p (horizon s) (le_refl (horizon s)));
  }
    where
      below : last_s s.tasks ≤ horizon s
      below = unfold horizon in omega arith

      same : (p t : ℕ) → t ≤ horizon s → phase_by s (own_row s) p t ≡ phase_by s (row_at (own_rows s)) p t
      same p t h =
          unfold phase_by in rw (ticks-same (own_row s) (row_at (own_rows s)) p (release (task s p) (newest (task s p) t)) t (λ u g. own_at u (omega arith)))

  -- so the plan book accepts them
  pub own-check : NeverMissed s → check s (own_rows s) ≡ accepts
  own-check nm = (check-exact s ok (own_rows s)).1 (own-acceptable nm)
