-- A STATE OF `check_row` AND THE ROWS BEFORE IT: their relation, from the beginning on, and that the tests of such a state are the plan book's up to the first
-- fault.
use mathlib.Core.Bool.{◌&&◌, Bool, cond, false, false≢true, not, true, true≢false, ◌||◌}
use mathlib.Core.List.{List, map}
use mathlib.Core.Path.{ap, ap₂, refl, subst, sym, ◌∙◌, ◌≡◌}
use Prim.Native.Nat.{◌%◌, ◌-◌, ◌<◌, suc, zero, ℕ, ◌≤◌}
use native.Mathlib.Nat.{le_refl, not-suc-le-zero}
use native.Mathlib.Omega.{arith}
use lib.Dec.{eqb, ltb}
use lib.ListN.{get_or-append, drop, get_or, length, length-map, replicate, take}
use lib.Seq.{get_or-take}
use borrow.Author.Tests.{eqb-false, eqb-true, le-ltb, ltb-false, ltb-true, ne_eqb, not-false}
use Rattle.std.proofs.lemmas.Bool.{true_from_ne_false}
use Rattle.std.specs.Cmp.{both_ways}
use Rattle.model.proofs.Lists.{map_at}
use Rattle.model.proofs.Search.{any_same, none_any, none-at}
use Rattle.model.specs.Horizon.{horizon, last_s}
use Rattle.model.specs.Search.{any}
use Rattle.model.specs.Sizes.{most_tasks}
use Rattle.model.specs.Task.{AllValid, Rule, Table, Task, newest, task}
use Rattle.phase.specs.Phase.{late_in, working}
use Rattle.phase.specs.Task.{next_task, past_end, with_state, task_of, unused, width_now}
use Rattle.phase.specs.declared.Phase.TheVariants.{Coming, Working}
use Rattle.phase.specs.declared.TaskState.{TaskState}
use Rattle.phase.specs.declared.Task as declared
use Rattle.run.proofs.StartPasses.{started-at}
use Rattle.run.specs.Numbers.{late_at}
use Rattle.run.specs.Run.{phase_at, place_at, rule_in, run_table, tasks_in}
use Rattle.run.specs.Start.{started_run}
use Rattle.run.specs.declared.Run.{Run}
use Rattle.table.proofs.Passed.{passed-valid}
use Rattle.table.specs.Numbers.{NoneApplies}
use Rattle.table.specs.Words.{rule, table_of}
use Rattle.plan_check.specs.Begin.{first_state}
use Rattle.plan_check.specs.Numbers.{after_row, differs, missed, same_phase}
use Rattle.plan_check.specs.Plan.{Agree, cell_count, phase_by}
use Rattle.plan_check.specs.Row.{faulty, shown_in_row, any_unknown_byte, worked_row, wrong_at}
use Rattle.plan_check.specs.State.{state_at, blank, note_of, noted_at, noting, past_note}
use Rattle.plan_check.specs.declared.Note.{Note}
use Rattle.plan_check.specs.declared.SuppliedPlan.{SuppliedPlan}
use Rattle.plan_check.proofs.PlanBook.{due_at, late_now}
use Rattle.plan_check.proofs.PlanBook as plan_book
use Rattle.plan_check.proofs.Meets.{agree-differs, differs-agree}
use Rattle.plan_check.proofs.Owed.{faulty-right, owed_at}
use Rattle.plan_check.proofs.Starting.{started-tasks}
use Rattle.plan_check.proofs.Passing.{StatePasses, started-state, worked-at, worked-passes, worked-tasks}
use Rattle.plan_check.proofs.SamePhase.{same-phase}
use Rattle.plan_check.proofs.StateByRows.{Steady, late-by-phase, states_answer, state-by-phase, state_by_rows, works-by-phase}
use Rattle.plan_check.proofs.Steps.{Ok, plan_book_at}

-- what is recorded of a place below the count is its phase
noting-at : (r : Run) (ns : List Note) (p : ℕ) → p < length (take r.count r.tasks) → p < r.count → (get_or (noting r ns) p past_note).phase ≡ phase_at r p
noting-at r ns p l h =
    ap (λ (n : Note). n.phase)
    (get_or-append (map note_of (take r.count r.tasks)) (drop r.count ns) past_note p (omega (arith, length-map (take r.count r.tasks) note_of))
    ∙ (map_at note_of (take r.count r.tasks) p past_note past_end l ∙ ap note_of (get_or-take r.count r.tasks p past_end h)))

module _ (s : Table) (ok : AllValid s) (r : ℕ → List ℕ) where
  abbrev L : ℕ
  L = last_s s.tasks

  -- the state w at tick t is what the rows before it leave
  pub record StateRelated (t : ℕ) (w : SuppliedPlan) : Type 0 where
    pub tick : w.tick ≡ t
    pub table : run_table w.run ≡ s
    pub count : w.run.count ≡ length s.tasks
    pub passes : StatePasses w.run
    pub places : (p : ℕ) → p < length s.tasks → place_at w.run p ≡ with_state (state_by_rows s r p t) (task s p)
    pub noted : L ≤ t → (p : ℕ) → p < length s.tasks → noted_at w p ≡ (state_by_rows s r p L).phase

  -- the rows before t are taken
  abbrev pub Good : ℕ → Type 0
  Good t = (u : ℕ) → u < t → Ok s r u

  -- THE RELATION FROM TICK TO TICK

  -- the phases recorded by a run that arrives at tick t
  state-noted :
      (w : Run) (t : ℕ) (ns : List Note) → tasks_in w ≡ s.tasks → w.count ≡ length s.tasks
      → ((p : ℕ) → p < length s.tasks → place_at w p ≡ with_state (state_by_rows s r p t) (task s p))
      → (L < t → (p : ℕ) → p < length s.tasks → (get_or ns p past_note).phase ≡ (state_by_rows s r p L).phase)
      → L ≤ t → (p : ℕ) → p < length s.tasks → noted_at (state_at w t ns) p ≡ (state_by_rows s r p L).phase
  state-noted w t ns same count at before h p l = go (eqb t (last_s (tasks_in w))) refl
    where
      size : length (take w.count w.tasks) ≡ length s.tasks
      size = sym (length-map (take w.count w.tasks) task_of) ∙ ap (λ (x : List Task). length x) same

      go : (b : Bool) → eqb t (last_s (tasks_in w)) ≡ b → (get_or (cond b (noting w ns) ns) p past_note).phase ≡ (state_by_rows s r p L).phase
      go true e =
          let here : t ≡ L = eqb-true t (last_s (tasks_in w)) e ∙ ap last_s same in
          noting-at w ns p (omega (arith, size)) (omega (arith, count))
          ∙ (ap (λ (x : declared.Task). x.phase) (at p l) ∙ ap (λ (u : ℕ). (state_by_rows s r p u).phase) here)
      go false e =
          let other : ¬ (t ≡ L) = λ q. eqb-false t (last_s (tasks_in w)) e (q ∙ sym (ap last_s same)) in
          before (omega arith) p l

  pub next-related : (t : ℕ) (w : SuppliedPlan) → StateRelated t w → missed w.run ≡ false → StateRelated (suc t) (after_row w (r t))
  next-related t w x m = record {
    tick = ap suc x.tick;
    table = unfold worked_row in ap (λ (τs : List Task). record { tasks = τs; cores = w.run.cores; fence = w.run.fence; rule = rule_in w.run }) same ∙ x.table;
    count = unfold worked_row in x.count;
    passes = worked-passes w.run (r t) x.passes m;
    places = at;
    noted = subst (λ (n : ℕ). L ≤ suc t → (p : ℕ) → p < length s.tasks → noted_at (state_at run n w.noted) p ≡ (state_by_rows s r p L).phase) (ap suc (sym x.tick))
        (state-noted run (suc t) w.noted (same ∙ ap (λ (y : Table). y.tasks) x.table) (unfold worked_row in x.count) at
        (λ h p l. x.noted (omega arith) p l));
  }
    where
      run : Run
      run = worked_row w.run (r t)

      same : tasks_in run ≡ tasks_in w.run
      same = worked-tasks w.run (r t)

      at : (p : ℕ) → p < length s.tasks → place_at run p ≡ with_state (state_by_rows s r p (suc t)) (task s p)
      at p l =
          worked-at w.run (r t) x.passes.run p (omega (arith, x.count))
          ∙ (ap₂ (λ (u : Rule) (y : declared.Task). next_task u false (shown_in_row (r t) p) false false y) (ap (λ (y : Table). y.rule) x.table) (x.places p l)
          ∙ (unfold state_by_rows in refl))

  -- THE TESTS

  -- up to t no deadline is missed, and before it every row is right
  valid_up_to :
      (t : ℕ) → ((u : ℕ) → u ≤ t → late_now s u (owed_at s r u) ≡ false) → ((u : ℕ) → u < t → plan_book.faulty s u (owed_at s r u) (r u) ≡ false)
      → (p : ℕ) (l : p < length s.tasks) → Steady s ok r p l t
  valid_up_to t timely right p l = record {
    timely = λ u h e. none u h e;
    owing = λ u h e. (faulty-right s u (owed_at s r u) (r u) (right u h)).owed p l e;
  }
    where
      second : (a b : Bool) → a ≡ true → a && b ≡ false → b ≡ false
      second true b e q = q
      second false b e q = absurd (false≢true e)

      none : (u : ℕ) → u ≤ t → due_at (task s p) u ≡ true → owed_at s r u p ≡ 0
      none u h e =
          let off : due_at (task s p) u && ltb 0 (owed_at s r u p) ≡ false =
          unfold late_now in none-at (length s.tasks) (λ q. due_at (task s q) u && ltb 0 (owed_at s r u q)) p (timely u h) l in
          let few : owed_at s r u p ≤ 0 = ltb-false 0 (owed_at s r u p) (second (due_at (task s p) u) (ltb 0 (owed_at s r u p)) e off) in
          omega arith

  module _ (t : ℕ) (w : SuppliedPlan) (x : StateRelated t w) (good : Good t) where
    -- 25
    late-place :
        (u : ℕ) → u ≡ t → (p : ℕ) → p < length s.tasks
        → late_in (task s p).deadline (state_by_rows s r p u).phase ≡ due_at (task s p) u && ltb 0 (owed_at s r u p)
    late-place zero e p l =
        unfold state_by_rows owed_at in start (eqb (task s p).offset 0) ∙ sym (none (due_at (task s p) 0))
      where
        none : (b : Bool) → b && ltb 0 0 ≡ false
        none true = le-ltb 0 0 (le_refl 0)
        none false = refl

        start : (b : Bool) → late_in (task s p).deadline (cond b (Working 0 0 0) (Coming (task s p).offset)) ≡ false
        start true = ne_eqb 0 (task s p).deadline (λ e. omega (arith, (ok p l).deadline-pos))
        start false = refl
    late-place (suc u) e p l =
        late-by-phase s ok r p l u (valid_up_to u (λ v h. (good v (omega arith)).on-time) (λ v h. (good v (omega arith)).right) p l)
        (λ q. (faulty-right s u (owed_at s r u) (r u) (good u (omega arith)).right).owed p l q)

    pub missed-same : missed w.run ≡ late_now s t (owed_at s r t)
    unfolding missed late_now
    missed-same =
        ap (λ (n : ℕ). any n (late_at w.run)) x.count
        ∙ any_same (length s.tasks) (late_at w.run) (λ p. due_at (task s p) t && ltb 0 (owed_at s r t p)) (λ p l.
        ap (λ (y : declared.Task). late_in y.parameters.deadline y.phase) (x.places p l) ∙ late-place t refl p l)

    module _ (on-time : late_now s t (owed_at s r t) ≡ false) where
      timely : (u : ℕ) → u ≤ t → late_now s u (owed_at s r u) ≡ false
      timely u h = go (ltb u t) refl
        where
          go : (b : Bool) → ltb u t ≡ b → late_now s u (owed_at s r u) ≡ false
          go true e = (good u (ltb-true u t e)).on-time
          go false e = let here : u ≡ t = omega (arith, ltb-false u t e) in subst (λ (v : ℕ). late_now s v (owed_at s r v) ≡ false) (sym here) on-time

      -- every place has its state by the rows, at t and before
      said : (u : ℕ) → u ≤ t → (p : ℕ) → p < length s.tasks → state_by_rows s r p u ≡ states_answer s r p u
      said u h p l = state-by-phase s ok r p l u (valid_up_to u (λ v g. timely v (omega arith)) (λ v g. (good v (omega arith)).right) p l)

      place-phase : (p : ℕ) → p < length s.tasks → place_at w.run p ≡ with_state (states_answer s r p t) (task s p)
      place-phase p l = x.places p l ∙ ap (λ (y : TaskState). with_state y (task s p)) (said t (le_refl t) p l)

      -- 24
      by-parity : (b : Bool) (v u : ℕ) → cond (not b) v u ≡ cond b u v
      by-parity true v u = refl
      by-parity false v u = refl

      wrong-same : (p : ℕ) → p < length s.tasks → wrong_at w.run (r t) p ≡ plan_book.wrong_at s t (owed_at s r t) (r t) p
      wrong-same p l = unfold plan_book.wrong_at in
          ap (λ (y : declared.Task). shown_in_row (r t) p && not (eqb (cell_count (suc p) (r t)) (width_now y) && working y.phase)) (place-phase p l)
          ∙ ap₂ (λ (v : ℕ) (b : Bool). shown_in_row (r t) p && not (eqb (cell_count (suc p) (r t)) v && b))
          (by-parity (eqb (newest (task s p) t % 2) 0) (task s p).even_width (task s p).odd_width) (works-by-phase s ok r p l t)

      pub faulty-same : faulty w.run (r t) ≡ plan_book.faulty s t (owed_at s r t) (r t)
      unfolding faulty plan_book.faulty any_unknown_byte plan_book.unknown_byte_in
      faulty-same =
          rw (ap (λ (y : Table). y.fence) x.table, x.count)
          (ap (λ (b : Bool). any (length (r t)) (plan_book.unknown_byte_in s (r t)) || b)
          (any_same (length s.tasks) (wrong_at w.run (r t)) (plan_book.wrong_at s t (owed_at s r t) (r t)) wrong-same))

      -- 26
      module _ (last : t ≡ horizon s) where
        upto : L ≤ t
        upto = unfold horizon in omega arith

        now-phase : (p : ℕ) → p < length s.tasks → phase_at w.run p ≡ phase_by s r p (horizon s)
        now-phase p l = ap (λ (y : declared.Task). y.phase) (place-phase p l) ∙ ap (phase_by s r p) last

        then-phase : (p : ℕ) → p < length s.tasks → noted_at w p ≡ phase_by s r p L
        then-phase p l = x.noted upto p l ∙ ap (λ (y : TaskState). y.phase) (said L upto p l)

        abbrev other : ℕ → Bool
        other p = not (same_phase (phase_at w.run p) (noted_at w p))

        agree-state : Agree s r → differs w ≡ false
        unfolding differs
        agree-state a =
            ap (λ (n : ℕ). any n other) x.count
            ∙ none_any (length s.tasks) other (λ p l.
            ap not ((same-phase (phase_at w.run p) (noted_at w p)).1 (now-phase p l ∙ (sym (a p l) ∙ sym (then-phase p l)))))

        state-agree : differs w ≡ false → Agree s r
        unfolding differs
        state-agree e p l =
            sym (then-phase p l)
            ∙ (sym ((same-phase (phase_at w.run p) (noted_at w p)).0
            (not-false (same_phase (phase_at w.run p) (noted_at w p))
            (none-at (length s.tasks) other p (sym (ap (λ (n : ℕ). any n other) x.count) ∙ e) l)))
            ∙ now-phase p l)

        pub differs-same : differs w ≡ plan_book.differs s (plan_book_at s r (horizon s))
        differs-same =
            both_ways (differs w) (plan_book.differs s (plan_book_at s r (horizon s)))
            (λ e. true_from_ne_false (plan_book.differs s (plan_book_at s r (horizon s))) (λ f. true≢false (sym e ∙ agree-state (differs-agree s ok r f))))
            (λ e. true_from_ne_false (differs w) (λ f. true≢false (sym e ∙ agree-differs s ok r (state-agree f))))

-- THE BEGINNING
module _ (ws : List ℕ) (none : NoneApplies ws) (r : ℕ → List ℕ) where
  abbrev s : Table
  s = table_of ws

  abbrev run : Run
  run = started_run (rule ws) s

  begun-rule : rule_in run ≡ s.rule
  unfolding started_run table_of
  begun-rule = refl

  begun-at : (p : ℕ) → p < length s.tasks → place_at run p ≡ with_state (state_by_rows s r p 0) (task s p)
  unfolding started_run state_by_rows
  begun-at p l = started-at s.tasks (replicate (most_tasks - length s.tasks) unused) p l

  pub begun-related : StateRelated s (passed-valid ws none) r 0 (first_state ws)
  begun-related = record {
    tick = refl;
    table = unfold started_run in ap₂ (λ (τs : List Task) (u : Rule). record { tasks = τs; cores = s.cores; fence = s.fence; rule = u }) (started-tasks (rule ws) s) begun-rule;
    count = unfold started_run in refl;
    passes = started-state ws none;
    places = begun-at;
    noted = state-noted s (passed-valid ws none) r run 0 blank (started-tasks (rule ws) s) (unfold started_run in refl) begun-at (λ h. absurd (not-suc-le-zero h));
  }
