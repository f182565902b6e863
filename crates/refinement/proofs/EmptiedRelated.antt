-- A run as it is seen in a tick, and a book with its empty jobs ended: task by task related, they give the same cores and lend the same, show the same
-- row, let the same be reported; and a tick on they are related again.
use mathlib.Core.Path.{◌≡◌, refl, sym, ap, ap₂, ◌∙◌, subst}
use mathlib.Core.Bool.{Bool, true, false, not, ◌&&◌, ◌||◌, and_comm, cond, false≢true, true≢false}
use mathlib.Core.List.{List, []}
use Prim.Native.Nat.{ℕ, suc, ◌<◌}
use native.Mathlib.Omega.{arith}
use lib.ListN.{length, get_or, take, length-map, length-take, get_or-map, get_or-eq_default}
use lib.Seq.{ext_get_or, get_or-take}
use lib.Dec.{ltb}
use borrow.Author.Tests.{lt-ltb, ltb-false, ltb-true, not-false, not-true}
use Rattle.model.proofs.Lists.{map_at}
use Rattle.model.specs.Fence.{unfenced_cores, unfenced}
use Rattle.model.specs.Search.{bit}
use Rattle.model.specs.Task.{AllValid, Table, task, absent_task, Rule, due, newest, width_of}
use Rattle.model.specs.Task as model
use Rattle.model.specs.Grants.{Claimant, claimants, grants, some}
use Rattle.model.specs.Lending.{lends, lent, shown_cores}
use Rattle.model.specs.Row.{row}
use Rattle.model.specs.Jobs.{Book, Job}
use Rattle.model.specs.Claims.{claims, widths, task_claims, grants_of, book_row, in_row, served, newest_ended, offer, seeks, lent_of, borrowed, borrows}
use Rattle.model.specs.Advance.{step}
use Rattle.model.specs.Claims.{borrowing, shown_of}
use Rattle.model.specs.Refusals.{reportable, wrong_reports}
use Rattle.std.proofs.lemmas.Bool.{false_from_ne_true}
use Rattle.model.proofs.Search.{any_same}
use Rattle.model.proofs.Grants.{claimants-same, grants-none}
use Rattle.model.proofs.Jobs.{before-due}
use Rattle.model.proofs.Lending.{borrower}
use Rattle.phase.specs.declared.Phase.{Phase}
use Rattle.phase.specs.declared.Phase.TheVariants.{Coming, Working, Holding, Resting}
use Rattle.phase.specs.declared.TaskState.{TaskState}
use Rattle.phase.specs.declared.Task.{Task}
use Rattle.run.specs.declared.Run.{Run}
use Rattle.phase.specs.Phase.{claiming, holder, working, late_in, task_state, next_state}
use Rattle.phase.specs.Task.{task_of, past_end, width_now}
use Rattle.run.specs.Run.{rule_in, place_at, run_task_at, even_at, phase_at, tasks_in, emptied_at, widths_now, grants_in, has_cores, offer_in, seeks_in, lent_in, has_lent}
use Rattle.run.specs.Run.{shown_in, next_at, moved}
use Rattle.run.specs.Numbers.{reportable_at, wrong_reports_in}
use Rattle.run.proofs.Places.{map_first-at, take-kept}
use Rattle.refinement.proofs.PhaseRelated.{PhaseRelated, StateRelatedAt}
use Rattle.refinement.proofs.Ticks.{related-next}
use Rattle.refinement.proofs.RelatedTask.{Does, newest-does}

-- the run is of the table
pub record SameTable (s : Table) (r : Run) : Type 0 where
  pub same-rule : rule_in r ≡ s.rule
  pub same-cores : r.cores ≡ s.cores
  pub same-fence : r.fence ≡ s.fence
  pub same_count : r.count ≡ length s.tasks
  pub same-tasks : tasks_in r ≡ s.tasks

-- and each task's phase, as it is seen in a tick with the empties e, and its parity are related to its line of the book c; no task is late
pub record EmptiedRelated (s : Table) (c : Book) (r : Run) (e : ℕ) : Type 0 where
  pub same : SameTable s r
  pub related : (p : ℕ) → p < length s.tasks → PhaseRelated s.rule (task s p) c.tick (c.job p) (even_at r p) (emptied_at r e p)
  pub in-time : (p : ℕ) → p < length s.tasks → late_in (task s p).deadline (emptied_at r e p) ≡ false

-- a place past the last never claims
claims-none : (r : Rule) (τ : model.Task) (k t : ℕ) (j : Job) → τ ≡ absent_task → claims r τ k t j ≡ false
claims-none r τ k t j e =
    false_from_ne_true (claims r τ k t j) (λ q. let l : t < due absent_task k = subst (λ (x : model.Task). t < due x k) e (before-due r τ k t j q) in omega arith)

-- OF ONE TABLE

module _ (s : Table) (r : Run) (h : SameTable s r) where
  pub below-count : (p : ℕ) → p < length s.tasks → p < r.count
  below-count p l = subst (λ (n : ℕ). p < n) (sym h.same_count) l

  pub same-task : (p : ℕ) → p < length s.tasks → run_task_at r p ≡ task s p
  same-task p l =
      ap task_of (sym (get_or-take r.count r.tasks p past_end (below-count p l)))
      ∙ (sym (get_or-map task_of (take r.count r.tasks) p past_end) ∙ ap (λ (x : List model.Task). get_or x p absent_task) h.same-tasks)

  same_length : length (take r.count r.tasks) ≡ length s.tasks
  same_length = sym (length-map (take r.count r.tasks) task_of) ∙ ap (λ (x : List model.Task). length x) h.same-tasks

  -- a place of the table is a place of the array
  in_array : (p : ℕ) → p < length s.tasks → p < length r.tasks
  in_array p l = omega (arith, same_length, length-take r.count r.tasks)

-- IN ONE TICK

module _ (s : Table) (ok : AllValid s) (c : Book) (r : Run) (e : ℕ) (h : EmptiedRelated s c r e) where
  does :
      (p : ℕ) → (l : p < length s.tasks)
      → Does s.rule (task s p) (ok p l) c.tick (c.job p) (even_at r p) (newest (task s p) c.tick) (emptied_at r e p)
  does p l = newest-does s.rule (task s p) (ok p l) c.tick (c.job p) (even_at r p) (emptied_at r e p) (h.related p l) (h.in-time p l)

  same-claims : (p : ℕ) → p < length s.tasks → task_claims s c p ≡ claiming (emptied_at r e p)
  same-claims p l = (does p l).claimed

  -- a place that claims is a place of the table
  pub claims-below : (p : ℕ) → task_claims s c p ≡ true → p < length s.tasks
  claims-below p q = go (ltb p (length s.tasks)) refl
    where
      new : ℕ
      new = newest (task s p) c.tick

      go : (x : Bool) → ltb p (length s.tasks) ≡ x → p < length s.tasks
      go true i = ltb-true p (length s.tasks) i
      go false i =
          absurd (true≢false (sym q ∙ claims-none s.rule (task s p) new c.tick (c.job p new)
          (get_or-eq_default s.tasks absent_task (ltb-false p (length s.tasks) i))))

  -- the width of each job, by its parity
  same_width : (p : ℕ) → p < length s.tasks → width_now (place_at r p) ≡ width_of (task s p) (newest (task s p) c.tick)
  same_width p l =
      ap (λ (τ : model.Task). cond (even_at r p) τ.even_width τ.odd_width) (same-task s r h.same p l)
      ∙ (turned (even_at r p) (task s p).even_width (task s p).odd_width
      ∙ ap (λ (x : Bool). cond x (task s p).odd_width (task s p).even_width) (sym (does p l).parity))
    where
      turned : (x : Bool) (a b : ℕ) → cond x a b ≡ cond (not x) b a
      turned true a b = refl
      turned false a b = refl

  pub same-widths : widths_now r ≡ widths s c.tick
  same-widths =
      ext_get_or 0 (widths_now r) (widths s c.tick) (lengths ∙ sym (length-map s.tasks wide))
      (λ p q.
      let l : p < length s.tasks = subst (λ (n : ℕ). p < n) lengths q in
      map_at width_now (take r.count r.tasks) p 0 past_end (subst (λ (n : ℕ). p < n) (sym (same_length s r h.same)) l)
      ∙ (ap width_now (get_or-take r.count r.tasks p past_end (below-count s r h.same p l))
      ∙ (same_width p l ∙ sym (map_at wide s.tasks p 0 absent_task l))))
    where
      wide : model.Task → ℕ
      wide τ = width_of τ (newest τ c.tick)

      lengths : length (widths_now r) ≡ length s.tasks
      lengths = length-map (take r.count r.tasks) width_now ∙ same_length s r h.same

  -- the cores that each place is given
  same-grants : grants_in r e ≡ grants_of s c
  unfolding grants_in
  same-grants =
      ap (λ (u : Rule). grants u (claimants (widths_now r) (λ p. claiming (emptied_at r e p))) (unfenced r.fence r.cores)) h.same.same-rule
      ∙ (ap₂ (λ (ws F : List ℕ). grants s.rule (claimants ws (λ p. claiming (emptied_at r e p))) F) same-widths
      (ap₂ unfenced h.same.same-fence h.same.same-cores)
      ∙ ap (λ (bs : List Claimant). grants s.rule bs (unfenced_cores s))
      (sym (claimants-same (widths s c.tick) (task_claims s c) (λ p. claiming (emptied_at r e p))
      (λ p l. same-claims p (subst (λ (n : ℕ). p < n) (length-map s.tasks (λ τ. width_of τ (newest τ c.tick))) l)))))

  pub same-cores-at : (p : ℕ) → has_cores r e p ≡ in_row s c p
  same-cores-at p = ap (λ (x : List (List ℕ)). some (get_or x p [])) same-grants

  -- WHAT IS LENT

  -- a place that claims works exactly if its job is open, and holds exactly if that has ended
  pub open-works : (p : ℕ) → p < length s.tasks → task_claims s c p && not (newest_ended s c p) ≡ working (emptied_at r e p)
  open-works p l = ap (λ (x : Bool). x && not (newest_ended s c p)) (same-claims p l) ∙ (does p l).open-job

  holds-ended : (ph : Phase) (x : Bool) → claiming ph ≡ true → claiming ph && not x ≡ working ph → holder ph ≡ x
  holds-ended (Coming left) x a b = absurd (false≢true a)
  holds-ended (Working z had u) x a b = sym (not-true x b)
  holds-ended (Holding z u) x a b = sym (not-false x b)
  holds-ended (Resting z) x a b = absurd (false≢true a)

  same-seeks : (p : ℕ) → seeks_in r e p ≡ seeks s c p
  unfolding seeks_in seeks
  same-seeks p = go (ltb p (length s.tasks)) refl
    where
      go : (x : Bool) → ltb p (length s.tasks) ≡ x
          → ltb p r.count && (working (emptied_at r e p) && not (has_cores r e p)) ≡ task_claims s c p && not (newest_ended s c p) && not (in_row s c p)
      go true i =
          let l = ltb-true p (length s.tasks) i in
          ap (λ (x : Bool). x && (working (emptied_at r e p) && not (has_cores r e p))) (lt-ltb p r.count (below-count s r h.same p l))
          ∙ ap₂ (λ (x y : Bool). x && not y) (sym (open-works p l)) (same-cores-at p)
      go false i =
          ap (λ (x : Bool). x && (working (emptied_at r e p) && not (has_cores r e p))) (ap (ltb p) h.same.same_count ∙ i)
          ∙ sym (ap (λ (x : Bool). x && not (newest_ended s c p) && not (in_row s c p))
          (false_from_ne_true (task_claims s c p) (λ q. true≢false (sym (lt-ltb p (length s.tasks) (claims-below p q)) ∙ i))))

  pub same-offer : (p : ℕ) → offer_in r e p ≡ offer s c p
  unfolding offer_in offer
  same-offer p =
      ap (λ (u : Rule). cond (lends u && holder (emptied_at r e p)) (get_or (grants_in r e) p []) []) h.same.same-rule
      ∙ (ap (λ (x : List (List ℕ)). cond (lends s.rule && holder (emptied_at r e p)) (get_or x p []) []) same-grants
      ∙ go (task_claims s c p) refl)
    where
      go : (x : Bool) → task_claims s c p ≡ x
          → cond (lends s.rule && holder (emptied_at r e p)) (get_or (grants_of s c) p []) []
          ≡ cond (lends s.rule && newest_ended s c p) (get_or (grants_of s c) p []) []
      go true q =
          let l = claims-below p q in
          ap (λ (x : Bool). cond (lends s.rule && x) (get_or (grants_of s c) p []) [])
          (holds-ended (emptied_at r e p) (newest_ended s c p) (sym (same-claims p l) ∙ q) (does p l).open-job)
      go false q =
          let n : get_or (grants_of s c) p [] ≡ [] = grants-none s.rule (widths s c.tick) (task_claims s c) (unfenced_cores s) p q in
          ap (λ (x : List ℕ). cond (lends s.rule && holder (emptied_at r e p)) x []) n
          ∙ (none (lends s.rule && holder (emptied_at r e p))
          ∙ sym (ap (λ (x : List ℕ). cond (lends s.rule && newest_ended s c p) x []) n ∙ none (lends s.rule && newest_ended s c p)))
        where
          none : (x : Bool) → cond {A = List ℕ} x [] [] ≡ []
          none true = refl
          none false = refl

  -- so the same is borrowed
  pub same-lent : lent_in r e ≡ lent_of s c
  unfolding lent_in
  same-lent = λ i. lent (same-widths i) (λ q. same-seeks q i) (λ q. same-offer q i) (h.same.same_count i)

  pub same-lent-at : (p : ℕ) → has_lent r e p ≡ borrows s c p
  unfolding borrowed
  same-lent-at p = ap (λ (x : List (List ℕ)). some (get_or x p [])) same-lent

  -- THE ROW, AND REPORTS

  pub same-shown : shown_in r e ≡ shown_of s c
  same-shown = ap₂ shown_cores same-grants same-lent

  pub same_row : row r.fence r.cores (shown_in r e) ≡ book_row s c
  same_row = λ i. row (h.same.same-fence i) (h.same.same-cores i) (same-shown i)

  -- a place that does not claim is given nothing, and borrows nothing
  no-cores : (p : ℕ) → task_claims s c p ≡ false → in_row s c p ≡ false
  no-cores p q = ap some (grants-none s.rule (widths s c.tick) (task_claims s c) (unfenced_cores s) p q)

  no-lent : (p : ℕ) → task_claims s c p ≡ false → borrows s c p ≡ false
  no-lent p q = false_from_ne_true (borrows s c p) (λ w. true≢false (sym (borrower s c p w).claiming ∙ q))

  -- which jobs may be reported is the same of both
  pub same-reportable : (p : ℕ) → reportable_at r e p ≡ reportable s c p
  unfolding reportable
  same-reportable p =
      ap₂ (λ (x y : Bool). ltb p r.count && (working (emptied_at r e p) && (x || y))) (same-cores-at p) (same-lent-at p)
      ∙ go (task_claims s c p) refl
    where
      off : (x y : Bool) → x && (y && false) ≡ false
      off true true = refl
      off true false = refl
      off false y = refl

      go : (x : Bool) → task_claims s c p ≡ x
          → ltb p r.count && (working (emptied_at r e p) && (in_row s c p || borrows s c p)) ≡ (in_row s c p || borrows s c p) && not (newest_ended s c p)
      go true q =
          let l = claims-below p q in
          let w : working (emptied_at r e p) ≡ not (newest_ended s c p) = sym (open-works p l) ∙ ap (λ (x : Bool). x && not (newest_ended s c p)) q in
          ap₂ (λ (x y : Bool). x && (y && (in_row s c p || borrows s c p))) (lt-ltb p r.count (below-count s r h.same p l)) w
          ∙ and_comm (not (newest_ended s c p)) (in_row s c p || borrows s c p)
      go false q =
          ap₂ (λ (x y : Bool). ltb p r.count && (working (emptied_at r e p) && (x || y))) (no-cores p q) (no-lent p q)
          ∙ (off (ltb p r.count) (working (emptied_at r e p))
          ∙ sym (ap₂ (λ (x y : Bool). (x || y) && not (newest_ended s c p)) (no-cores p q) (no-lent p q)))

  -- so 16 is
  pub same-wrong-reports : (x : ℕ) → wrong_reports_in r e x ≡ wrong_reports s c x
  unfolding wrong_reports_in wrong_reports
  same-wrong-reports x =
      any_same x (λ p. bit x p && not (reportable_at r e p)) (λ p. bit x p && not (reportable s c p))
      (λ p l. ap (λ (m : Bool). bit x p && not m) (same-reportable p))

  -- A TICK ON

  moved_at :
      (f : ℕ → Bool) (p : ℕ) → p < length s.tasks
      → task_state (even_at (moved f e r) p) (phase_at (moved f e r) p)
      ≡ next_state s.rule (task s p) (in_row s c p) (borrows s c p) (f p) (even_at r p) (emptied_at r e p)
  unfolding moved
  moved_at f p l =
      ap (λ (t : Task). task_state t.even t.phase)
      (map_first-at (next_at r f e) r.count r.tasks p past_end (below-count s r h.same p l) (in_array s r h.same p l))
      ∙ (λ i. next_state (h.same.same-rule i) (same-task s r h.same p l i) (same-cores-at p i) (same-lent-at p i) (f p) (even_at r p) (emptied_at r e p))

  pub related-moved :
      (f : ℕ → Bool) (p : ℕ) → p < length s.tasks
      → PhaseRelated s.rule (task s p) (suc c.tick) ((step s f c).job p) (even_at (moved f e r) p) (phase_at (moved f e r) p)
  unfolding step served borrowing
  related-moved f p l =
      subst (λ (w : TaskState). StateRelatedAt s.rule (task s p) (suc c.tick) ((step s f c).job p) w) (sym (moved_at f p l))
      (related-next s.rule (task s p) (ok p l) c.tick (c.job p) (even_at r p) (in_row s c p) (borrows s c p) (f p) (emptied_at r e p)
      (h.related p l) (h.in-time p l))

  pub same-moved : (f : ℕ → Bool) → SameTable s (moved f e r)
  same-moved f = record {
    same-rule = unfold moved in h.same.same-rule;
    same-cores = unfold moved in h.same.same-cores;
    same-fence = unfold moved in h.same.same-fence;
    same_count = unfold moved in h.same.same_count;
    same-tasks = unfold moved in take-kept (next_at r f e) r.count r.tasks (λ p t. refl) ∙ h.same.same-tasks;
  }
