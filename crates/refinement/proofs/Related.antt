-- A run and a book that are related, task by task: the same is late and may be empty; as it is seen in a tick the run is related to the book with its
-- empty jobs ended; and a taken advance or withdrawal keeps them related.
use mathlib.Core.Path.{◌≡◌, refl, sym, ap, ap₂, ◌∙◌, subst, subst₂}
use mathlib.Core.Bool.{Bool, true, false, not, ◌&&◌, ◌||◌}
use mathlib.Core.List.{List, [], ◌∷◌, map}
use Prim.Native.Nat.{ℕ, ◌-◌, ◌<◌}
use lib.Bits.{bit_or}
use native.Mathlib.Nat.{le_trans}
use lib.ListN.{length, replicate, length-map}
use lib.Seq.{take_at}
use lib.Dec.{ltb}
use borrow.Author.Tests.{ltb-false, ltb-true}
use Rattle.model.specs.Search.{least, bit}
use Rattle.model.specs.Task.{AllValid, Table, task, Rule, rule_of, newest}
use Rattle.model.specs.Task as model
use Rattle.model.specs.Jobs.{Book, fresh, empty_book, emptied, empty_in, released_now}
use Rattle.model.specs.Advance.{advanced, step, with_withdrawn}
use Rattle.model.specs.Refusals.{late, first_late, emptiable, wrong_empties}
use Rattle.std.specs.Cmp.{both_ways}
use Rattle.model.proofs.Search.{least-lowest, any_same, least-same}
use Rattle.model.proofs.Faithful.{late-exact}
use Rattle.model.specs.Sizes.{most_tasks}
use Rattle.phase.specs.declared.Task.{Task}
use Rattle.run.specs.declared.Run.{Run}
use Rattle.phase.specs.Phase.{late_in, released, phase_emptied}
use Rattle.phase.specs.Task.{task_of, unused, start_task}
use Rattle.phase.proofs.Phases.{emptied-late}
use Rattle.phase.proofs.Started.{started-tasks}
use Rattle.run.specs.Run.{rule_in, even_at, phase_at, empty_at, moved, withdrawn_in}
use Rattle.run.specs.Numbers.{late_at, first_late_in, emptiable_at, wrong_empties_in}
use Rattle.run.specs.Start.{started_run}
use Rattle.run.proofs.StartPasses.{started-at}
use Rattle.refinement.proofs.PhaseRelated.{PhaseRelated}
use Rattle.refinement.proofs.Emptied.{related-emptied}
use Rattle.refinement.proofs.Ticks.{phase-related-start}
use Rattle.refinement.proofs.RelatedTask.{late_is, late-has, newest-does}
use Rattle.refinement.proofs.EmptiedRelated.{SameTable, EmptiedRelated, same-task, same-moved, related-moved}

-- the run is of the table, the same positions are withdrawn, and each task's phase and parity are related to its line of the book
pub record Related (s : Table) (b : Book) (r : Run) : Type 0 where
  pub table : SameTable s r
  pub same-withdrawn : r.withdrawn ≡ b.withdrawn
  pub related : (p : ℕ) → p < length s.tasks → PhaseRelated s.rule (task s p) b.tick (b.job p) (even_at r p) (phase_at r p)

-- THE START

-- a started run is related to the empty book
pub related-start : (n : ℕ) (s : Table) → rule_of n ≡ s.rule → AllValid s → Related s empty_book (started_run n s)
unfolding started_run
related-start n s e ok = record {
  table = record {
    same-rule = e;
    same-cores = refl;
    same-fence = refl;
    same_count = refl;
    same-tasks =
        ap (λ (l : List Task). map task_of l) (take_at (map start_task s.tasks) rest (length s.tasks) (length-map s.tasks start_task))
        ∙ started-tasks s.tasks;
  };
  same-withdrawn = refl;
  related = λ p l.
      subst (λ (t : Task). PhaseRelated s.rule (task s p) 0 (λ k. fresh) t.even t.phase) (sym (started-at s.tasks rest p l))
      (phase-related-start s.rule (task s p) (ok p l));
}
  where
    rest : List Task
    rest = replicate (most_tasks - length s.tasks) unused

-- RELATED STATES ANSWER ALIKE

module _ (s : Table) (ok : AllValid s) (b : Book) (r : Run) (h : Related s b r) where
  -- the deadline of a place is the table's
  same-deadline : (p : ℕ) → p < length s.tasks → late_at r p ≡ late_in (task s p).deadline (phase_at r p)
  same-deadline p l = ap (λ (τ : model.Task). late_in τ.deadline (phase_at r p)) (same-task s r h.table p l)

  -- 15 is the same of both
  same-late : (p : ℕ) → p < length s.tasks → late_at r p ≡ late s b p
  same-late p l =
      both_ways (late_at r p) (late s b p)
      (λ e. (late-exact s ok b p l).1
      (late-has s.rule (task s p) (ok p l) b.tick (b.job p) (even_at r p) (phase_at r p) (h.related p l) (sym (same-deadline p l) ∙ e)))
      (λ e.
      let x = (late-exact s ok b p l).0 e in
      same-deadline p l
      ∙ late_is s.rule (task s p) (ok p l) b.tick (b.job p) (even_at r p) (phase_at r p) (h.related p l) x.0 x.1 x.2)

  pub same_first : first_late_in r ≡ first_late s b
  unfolding first_late_in
  same_first = ap (λ (n : ℕ). least n (late_at r)) h.table.same_count ∙ least-same (length s.tasks) (late_at r) (late s b) same-late

  pub same-any : ltb (first_late_in r) r.count ≡ ltb (first_late s b) (length s.tasks)
  same-any = ap₂ ltb same_first h.table.same_count

  -- no task is late
  abbrev pub InTime : Type 0
  InTime = (p : ℕ) → p < length s.tasks → late_at r p ≡ false

  pub in-time : ltb (first_late s b) (length s.tasks) ≡ false → InTime
  in-time e p l =
      same-late p l ∙ least-lowest (length s.tasks) (late s b) p (le_trans l (ltb-false (first_late s b) (length s.tasks) e))

  module _ (it : InTime) where
    punctual : (p : ℕ) → p < length s.tasks → late_in (task s p).deadline (phase_at r p) ≡ false
    punctual p l = sym (same-deadline p l) ∙ it p l

    -- which jobs may be empty is the same of both
    same-emptiable : (p : ℕ) → emptiable_at r p ≡ emptiable s b p
    unfolding emptiable
    same-emptiable p = ap (λ (n : ℕ). ltb p n && released (phase_at r p)) h.table.same_count ∙ go (ltb p (length s.tasks)) refl
      where
        new : ℕ
        new = newest (task s p) b.tick

        go : (x : Bool) → ltb p (length s.tasks) ≡ x → x && released (phase_at r p) ≡ x && released_now s b p new && not (b.job p new).ended
        go true i =
            let l = ltb-true p (length s.tasks) i in
            sym (newest-does s.rule (task s p) (ok p l) b.tick (b.job p) (even_at r p) (phase_at r p) (h.related p l) (punctual p l)).fresh-job
        go false i = refl

    -- so 20 is
    pub same-wrong-empties : (e : ℕ) → wrong_empties_in r e ≡ wrong_empties s b e
    unfolding wrong_empties_in wrong_empties
    same-wrong-empties e =
        any_same e (λ p. bit e p && not (emptiable_at r p)) (λ p. bit e p && not (emptiable s b p))
        (λ p l. ap (λ (m : Bool). bit e p && not m) (same-emptiable p))

    -- whose job is empty is the same of both: those of the empties, and the withdrawn
    same-empty : (e p : ℕ) → empty_at r e p ≡ empty_in b e p
    same-empty e p = ap (λ (w : ℕ). bit e p || bit w p) h.same-withdrawn

    -- as it is seen in a tick with the empties e, the run is related to the book with its empty jobs ended
    pub emptied-related : (e : ℕ) → EmptiedRelated s (emptied s (empty_in b e) b) r e
    emptied-related e = record {
      same = h.table;
      related = λ p l. unfold emptied in
          subst₂ (λ (u : Rule) (t : Bool). PhaseRelated s.rule (task s p) b.tick ((emptied s (empty_in b e) b).job p) (even_at r p) (phase_emptied u t (phase_at r p)))
          (sym h.table.same-rule) (sym (same-empty e p))
          (related-emptied s.rule (task s p) (ok p l) b.tick (b.job p) (empty_in b e p) (even_at r p) (phase_at r p) (h.related p l) (punctual p l));
      in-time = λ p l. emptied-late (rule_in r) (task s p).deadline (empty_at r e p) (phase_at r p) (punctual p l);
    }

    -- a taken advance keeps them related
    pub related-on : (f : ℕ → Bool) (e : ℕ) → Related s (advanced s f (empty_in b e) b) (moved f e r)
    related-on f e = record {
      table = same-moved s ok (emptied s (empty_in b e) b) r e (emptied-related e) f;
      same-withdrawn = unfold step emptied moved in h.same-withdrawn;
      related = λ p l. unfold step in related-moved s ok (emptied s (empty_in b e) b) r e (emptied-related e) f p l;
    }

-- a withdrawal keeps them related: only the set moves
pub related-out : (s : Table) (b : Book) (r : Run) → Related s b r → (x : ℕ) → Related s (with_withdrawn x b) (withdrawn_in x r)
unfolding withdrawn_in
related-out s b r h x = record {
  table = record {
    same-rule = h.table.same-rule;
    same-cores = h.table.same-cores;
    same-fence = h.table.same-fence;
    same_count = h.table.same_count;
    same-tasks = h.table.same-tasks;
  };
  same-withdrawn = ap (λ (w : ℕ). bit_or w x) h.same-withdrawn;
  related = h.related;
}
